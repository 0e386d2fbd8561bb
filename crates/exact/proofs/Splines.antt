-- The laws of splines over the rationals, in the order of need.
-- Boor: de Boor's rounds. On: spans and knots in order. Drawn: the curve on paper.
-- Boehm, Insert: knot insertion keeps the curve. Smooth: continuity. Group, Count, Accept: equal knots, and refusal 8. Raise, Cut: the cut.
-- Bezier: the triangle. Hull, Visit: what a search may conclude.
pub mod Boor
pub mod On
pub mod Drawn
pub mod Boehm
pub mod Insert
pub mod Smooth
pub mod Group
pub mod Count
pub mod Accept
pub mod Raise
pub mod Cut
pub mod Bezier
pub mod Hull
pub mod Visit
