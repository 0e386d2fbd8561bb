pub mod Tab
pub mod Part
pub mod Put
pub mod Read
pub mod Loop
pub mod Fold
pub mod Each
pub mod Ring
