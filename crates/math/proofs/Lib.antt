-- Laws of plain values: of doubles, of intervals, of the tightest bounds, of the square root. Laws and Bools hand out those that crates above use, and Promised holds them to their
-- statements in specs/Laws.antt. The folders floats/, digits/, directed/, bounds/, scalars/ and root/ have the proofs of the functions.
pub mod Bools
pub mod Doubles
pub mod Intervals
pub mod Tight
pub mod Picks
pub mod Paper
pub mod Laws
pub mod Promised
