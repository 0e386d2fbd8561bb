-- The Rust's debug build says the same.
pub mod Ops
pub mod Lists
pub mod Insert
pub mod Cut
pub mod Mid
pub mod Split
pub mod Box
pub mod Clip
pub mod Sizes
pub mod Visit
pub mod Search
pub mod Call
