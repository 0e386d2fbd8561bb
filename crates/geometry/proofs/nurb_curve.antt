-- Laws behind the functions of src/nurb_curve.rt; the folders beside them have the functions' proofs.
pub mod Points
pub mod Same
