-- Laws behind the functions of src/zeros.rt; the folders beside them have the functions' proofs.
pub mod Polygon
