-- vector/mod.rs: a homogeneous point, and a point between two. Definitions only.
use Rattle.std.specs.Prelude.{ℕ, get_or}
use mathlib.Core.List.{List, zip_with}
use Rattle.math.specs.declared.scalars.Scalar.{Scalar}
use Rattle.math.specs.Scalars.{Arithmetic, absent, interpolate_s}

-- A point is its dim coordinates, each times the weight, and the weight itself as the last: D = dim + 1 intervals.
abbrev pub Vector : Type 0
Vector = List Scalar

-- Number k of a point; the weight is number dim.
abbrev pub coordinate : Vector → ℕ → Scalar
coordinate q k = get_or q k absent

-- interpolate: the point a fraction t of the way from a to b, coordinate by coordinate.
unfoldable pub interpolate_v : Arithmetic → Vector → Vector → Scalar → Vector
interpolate_v ar a b t = zip_with (λ x y. interpolate_s ar x y t) a b
