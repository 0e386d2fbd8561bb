-- Laws of the answer to a text. The folders beside them have the proofs of the functions.
pub mod Lent
pub mod Cases
