-- Laws behind the functions of src/contains.rt; the folders beside them have the functions' proofs.
pub mod Fit
pub mod Lent
pub mod Search
