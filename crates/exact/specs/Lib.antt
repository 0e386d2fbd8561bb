-- The fractions: as pairs, and as numbers, the rationals.
-- Then the splines over them: de Boor's curve, knot insertion, the cut, Bezier spans, and what the hull of the control values needs.
pub mod Fraction
pub mod Rational
pub mod Spline
pub mod Insertion
pub mod Cut
pub mod Bezier
pub mod Hull
