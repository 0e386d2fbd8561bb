-- Laws behind the functions of src/vector.rt; the folders beside them have the functions' proofs.
pub mod Between
