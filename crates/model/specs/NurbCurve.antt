-- nurb_curve/mod.rs: a piece of the curve, its domain, and the parameter at which it is halved. Definitions only.
use Rattle.std.specs.Prelude.{ℕ, Bool, ◌&&◌, List, [], length, get_or, Float}
use Rattle.std.specs.Float.{nan}
use Rattle.lists.specs.Lists.{all}
use Rattle.math.specs.declared.scalars.Scalar.{Scalar}
use Rattle.math.specs.Scalars.{Arithmetic, sharp, ZERO, TWO, ENTIRE, definitely_greater, definitely_less, union_s, middle, value_or}
use Rattle.model.specs.Vector.{Vector, coordinate}

-- A piece is its sharp knots and its control points: n points of degree p have n + p + 1 knots.
pub record Piece : Type 0 where
  pub knots : List Float
  pub points : List Vector

-- Knot i, counted from 0.
abbrev pub knot : List Float → ℕ → Float
knot knots i = get_or knots i nan

-- Point i, counted from 0.
abbrev pub point : List Vector → ℕ → Vector
point points i = get_or points i []

-- The scope: the domain's two ends. The start is the knot numbered degree.
abbrev pub start : ℕ → Piece → Float
start p c = knot c.knots p

-- The end is the knot numbered count.
abbrev pub end : Piece → Float
end c = knot c.knots (length c.points)

-- ---- a domain from a to b

-- domain_as_scalar: the interval from a to b.
unfoldable pub domain : Float → Float → Scalar
domain a b = union_s (sharp a) (sharp b)

-- The parameter t lies strictly inside the domain.
unfoldable pub in_domain : Float → Float → Float → Bool
in_domain a b t = definitely_greater (sharp t) (sharp a) && definitely_less (sharp t) (sharp b)

-- mid_parameter: the middle of the interval (a + b) / 2. The division by two never fails.
unfoldable pub mid_parameter : Arithmetic → Float → Float → Float
mid_parameter ar a b = middle (value_or (ar.div (ar.add (sharp a) (sharp b)) TWO) ENTIRE)

-- Every weight's lo is above 0. Where this fails for a piece that a cut hands on, the refusal is 11 (the scope).
unfoldable pub weights_positive : ℕ → List Vector → Bool
weights_positive dim points = all (λ q. definitely_greater (coordinate q dim) ZERO) points
