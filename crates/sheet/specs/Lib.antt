-- The sheet of an installation.
pub mod Sum
pub mod Sheet
