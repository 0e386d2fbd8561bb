-- The numbers that doubles are, and the numbers that lie in an interval. Definitions only.
use Rattle.std.specs.Prelude.{◌*◌, true, false, T, Float}
use Rattle.std.specs.Float.{nan, inf, fin}
use Rattle.std.specs.Float.Ieee.{up, down, lt, le}
use Rattle.exact.specs.Rational.{ℚ, ◌≤ℚ◌, 0ℚ, ◌÷◌, signed}
use Rattle.math.specs.declared.scalars.Scalar.{Scalar}

-- a finite double's number; an infinity and a NaN have none, and nothing is said of them through this
unfoldable pub value : Float → ℚ
value nan = 0ℚ
value (inf s) = 0ℚ
value (fin s m e) = signed s ((m * up e) ÷ down e)

-- the double is a lower bound of q: the negative infinity is one of every number; the positive infinity and a NaN of none
abbrev pub Below : Float → ℚ → Type 0
Below nan q = ⊥
Below (inf true) q = Unit {0}
Below (inf false) q = ⊥
Below (fin s m e) q = value (fin s m e) ≤ℚ q

-- the double is an upper bound of q
abbrev pub Above : Float → ℚ → Type 0
Above nan q = ⊥
Above (inf true) q = ⊥
Above (inf false) q = Unit {0}
Above (fin s m e) q = q ≤ℚ value (fin s m e)

-- the number q lies in the interval: bounds count as inside, and an infinite bound is none
pub record Holds (x : Scalar) (q : ℚ) : Type 0 where
  pub low : Below x.lo q
  pub high : Above x.hi q

-- an interval in order: lo is at most hi, so neither is a NaN, and they are not the same infinity. These are the intervals that hold some number.
pub record Proper (x : Scalar) : Type 0 where
  pub order : T (le x.lo x.hi)
  pub low : T (lt x.lo (inf false))
  pub high : T (lt (inf true) x.hi)
