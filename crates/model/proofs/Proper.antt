-- Every interval of a search is in order, in every arithmetic that encloses.
pub mod Blend
pub mod Weights
pub mod Insert
pub mod Cut
pub mod Split
pub mod Clip
pub mod Visit
pub mod Lent
