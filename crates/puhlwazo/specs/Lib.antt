-- What the library for callers in C gives out.
pub mod Answers
