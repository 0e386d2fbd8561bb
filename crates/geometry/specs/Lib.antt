-- What the code needs beside the definitions of crates/model: how numbers lie in the memory that is lent, and what the faster forms compute.
pub mod Held
pub mod Polygon
pub mod Abscissae
pub mod Sizes
pub mod Slots
pub mod Plan
pub mod State
pub mod Ring
pub mod Zeros
pub mod Multiplicity
pub mod Call
