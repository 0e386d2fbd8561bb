-- Laws of numbers in a text. The folders beside them have the proofs of the functions.
pub mod Base
pub mod Decimal
pub mod Hexadecimal
pub mod Back
