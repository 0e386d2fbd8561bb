-- Laws behind the functions of src/fat_line.rt; the folders beside them have the functions' proofs.
pub mod Sizes
pub mod PathLength
pub mod Zeros
