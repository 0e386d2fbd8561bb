-- Laws behind the functions of src/split.rt; the folders beside them have the functions' proofs.
pub mod Splits
