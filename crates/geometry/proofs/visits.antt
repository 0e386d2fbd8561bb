-- Laws behind the functions of src/visits.rt; the folders beside them have the functions' proofs.
pub mod Clips
pub mod Plans
pub mod Handed
pub mod Slots
