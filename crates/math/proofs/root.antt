-- The square root: what each function of src/root.rt needs, on plain values, in the order of the source; then the two laws of the root that are published, in Law.
pub mod Estimate
pub mod Shift
pub mod Whole
pub mod Scaling
pub mod Result
pub mod Ends
pub mod Near
pub mod Beside
pub mod Law
pub mod Over
