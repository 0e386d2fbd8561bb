-- Laws of the one form of a text. The folders beside them have the proofs of the functions.
pub mod Lines
pub mod Good
pub mod Back
pub mod Accepted
pub mod Cases
pub mod Laws
pub mod Table
