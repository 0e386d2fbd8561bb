-- What the rounded root r of a double x above zero is worth, among the exact numbers: the two laws that proofs/root/Law.antt shows for r = sqrt_f x. Definitions only.
-- Neither names √x, which need not be rational: two numbers that are not negative compare as their squares do.
use Rattle.std.specs.Prelude.{Bool, true, false, T, Float}
use Rattle.std.specs.Float.{nan, inf, fin}
use Rattle.exact.specs.Rational.{ℚ, ◌+ℚ◌, ◌*ℚ◌, ◌≤ℚ◌, ◌<ℚ◌, 0ℚ, whole}
use Rattle.math.specs.Neighbours.{next_up, next_down}
use Rattle.math.specs.Values.{value}

abbrev pub is_finite : Float → Bool
is_finite nan = false
is_finite (inf s) = false
is_finite (fin s m e) = true

abbrev pub square : ℚ → ℚ
square q = q *ℚ q

-- √x lies between the doubles next to r
pub record SqrtEncloses (x r : Float) : Type 0 where
  pub finite : T (is_finite r)
  pub finite_down : T (is_finite (next_down r))
  pub finite_up : T (is_finite (next_up r))
  pub nonneg : 0ℚ ≤ℚ value (next_down r)
  pub below : square (value (next_down r)) ≤ℚ value x
  pub above : value x ≤ℚ square (value (next_up r))

-- r is the double nearest to √x: 2 √x lies between r plus the one below and r plus the one above, and is neither, so that there is no tie
pub record SqrtNearest (x r : Float) : Type 0 where
  pub below : square (value (next_down r) +ℚ value r) <ℚ whole 4 *ℚ value x
  pub above : whole 4 *ℚ value x <ℚ square (value r +ℚ value (next_up r))
