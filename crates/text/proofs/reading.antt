-- Laws of the reading of a whole text. The folders beside them have the proofs of the functions.
pub mod Back
pub mod Cases
