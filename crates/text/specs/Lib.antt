-- The text of a question, what is printed for it, and its one form.
pub mod Bytes
pub mod Numerals
pub mod Question
pub mod Respond
pub mod Cursor
pub mod Printable
pub mod Answer
pub mod Counts
pub mod Form
pub mod OneForm
