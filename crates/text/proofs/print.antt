-- Laws of what is written. The folders beside them have the proofs of the functions.
pub mod Writing
