-- When a path is clear of a box.
pub mod Clear
