-- Laws of lists alone: numbers side by side, copies, walks.
pub mod Flat
pub mod Walks
pub mod Copies
pub mod Numbers
