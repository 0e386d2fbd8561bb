-- Laws of what others write by. The folders beside them have the proofs of the functions.
pub mod Room
