-- Laws behind the functions of src/slots.rt; the folders beside them have the functions' proofs.
pub mod Counts
pub mod Piece
pub mod Apart
pub mod Depth
pub mod Views
pub mod Moves
pub mod Ring
