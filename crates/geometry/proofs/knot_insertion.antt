-- Laws behind the functions of src/knot_insertion.rt; the folders beside them have the functions' proofs.
pub mod Blends
pub mod Insert
pub mod Once
pub mod Times
pub mod Levels
pub mod Triangle
pub mod Cuts
pub mod Separate
pub mod Spans
pub mod Wide
