-- IEEE 1788's word for an arithmetic that is tightest: each result is the least interval of doubles that holds every exact result, for operands with infinite bounds too. Definitions only.
use Rattle.std.specs.Prelude.{◌≡◌, ◌↔◌, T, Float}
use Rattle.std.specs.Float.{binary64}
use Rattle.std.specs.Float.Ieee.{fits, le}
use Rattle.exact.specs.Rational.{ℚ, ◌+ℚ◌, ◌-ℚ◌, ◌*ℚ◌, 0ℚ, invℚ, ◌÷◌}
use Rattle.math.specs.Scalars.{Arithmetic}
use Rattle.math.specs.Values.{Below, Above, Holds, Proper}
use Rattle.math.specs.declared.scalars.Scalar.{Scalar}
use Rattle.std.specs.Prelude.{Some, None}

-- r is the least interval of doubles that holds each number of the set P: its bounds are doubles, it holds P, and no double that bounds P is a better bound
pub record Hull (r : Scalar) (P : ℚ → Type 0) : Type 0 where
  pub doubles : T (fits binary64 r.lo) × T (fits binary64 r.hi)
  pub holds : (q : ℚ) → P q → Holds r q
  pub low : (w : Float) → T (fits binary64 w) → ((q : ℚ) → P q → Below w q) → T (le w r.lo)
  pub high : (w : Float) → T (fits binary64 w) → ((q : ℚ) → P q → Above w q) → T (le r.hi w)

-- the exact results of an operation on the numbers of two intervals
abbrev pub Results : (ℚ → ℚ → ℚ) → Scalar → Scalar → ℚ → Type 0
Results f a b q = (x : ℚ) × (y : ℚ) × Holds a x × Holds b y × (q ≡ f x y)

-- sum, difference, product and quotient of every two intervals in order, and 4 / 5, are the tightest. A zero times an unbounded interval is so the zero alone.
-- A division fails exactly where the divisor holds zero.
pub record Tightest (ar : Arithmetic) : Type 0 where
  pub sum : (a b : Scalar) → Proper a → Proper b → Hull (ar.add a b) (Results (λ x y. x +ℚ y) a b)
  pub difference : (a b : Scalar) → Proper a → Proper b → Hull (ar.sub a b) (Results (λ x y. x -ℚ y) a b)
  pub product : (a b : Scalar) → Proper a → Proper b → Hull (ar.mul a b) (Results (λ x y. x *ℚ y) a b)
  -- where the divisor does not hold zero
  pub quotient : (a b c : Scalar) → Proper a → Proper b → ar.div a b ≡ Some c → Hull c (Results (λ x y. x *ℚ invℚ y) a b)
  -- an error exactly where the divisor holds zero
  pub fails : (a b : Scalar) → ar.div a b ≡ None ↔ Holds b 0ℚ
  pub ratio : Hull ar.four_fifths (λ q. q ≡ 4 ÷ 5)
