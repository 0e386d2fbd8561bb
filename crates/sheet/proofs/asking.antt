-- Laws of a sheet and its questions. The folders beside them have the proofs of the functions.
pub mod Exact
pub mod Keeping
pub mod Twelve
pub mod Whole
