-- Laws of whole numbers as bytes. The folders beside them have the proofs of the functions.
pub mod Numbers
