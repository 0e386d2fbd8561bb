-- Laws of the lines of a question. The folders beside them have the proofs of the functions.
pub mod Words
pub mod Doubles
pub mod Heads
pub mod Others
