-- Laws behind the functions of src/aabb.rt; the folders beside them have the functions' proofs.
pub mod Unions
pub mod Box
