-- The arithmetic, in the order of need: neighbouring doubles, the lesser and the greater, the square root and what its steps keep, intervals and the Rust's operations on them; the numbers that an
-- interval holds, what the square root is worth; bounds rounded toward their own side, the tightest arithmetic, the arithmetic of each revision; bounds that are not widened yet, the paper's
-- values for a division, factors that keep an order; what an arithmetic owes to soundness, and IEEE 1788's word for the tightest; the digits of a bit pattern; and the laws that
-- are promised beyond the contracts.
pub mod Neighbours
pub mod Picks
pub mod Root
pub mod Scale
pub mod Divided
pub mod Scalars
pub mod Values
pub mod RootLaws
pub mod Directed
pub mod Tight
pub mod Revision
pub mod Bounds
pub mod Paper
pub mod Factors
pub mod Encloses
pub mod Tightest
pub mod Digits
pub mod Laws
