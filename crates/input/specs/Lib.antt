-- What is said of a slice that was read into. Definitions only.
pub mod Counts
pub mod Filled
