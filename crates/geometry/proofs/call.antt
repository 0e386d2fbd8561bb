-- Laws behind the functions of src/call.rt; the folders beside them have the functions' proofs.
pub mod Checks
pub mod Multiplicity
