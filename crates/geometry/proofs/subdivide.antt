-- Laws behind the functions of src/subdivide.rt; the folders beside them have the functions' proofs.
pub mod State
pub mod Depths
