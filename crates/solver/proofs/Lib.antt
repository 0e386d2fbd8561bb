-- The integers' ring laws that lib.IntN lacks, and a solver for the identities of any commutative ring.
pub mod Integer
pub mod Ring
