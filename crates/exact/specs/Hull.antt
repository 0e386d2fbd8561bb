-- What the laws on the hull of the control values speak of: intervals, sums of knots, the Greville abscissae, and the share of the second point of a segment.
use Rattle.std.specs.Prelude.{ℕ, zero, suc}
use Rattle.exact.specs.Rational.{ℚ, ◌+ℚ◌, ◌*ℚ◌, 0ℚ, invℚ, ◌≤ℚ◌, whole, lerp, ratio}

-- x lies between lo and hi; both count as inside.
pub record In (lo hi x : ℚ) : Type 0 where
  pub from : lo ≤ℚ x
  pub upto : x ≤ℚ hi

-- The sum of the n knots from number i on.
unfoldable pub sum : (ℕ → ℚ) → ℕ → ℕ → ℚ
sum u zero i = 0ℚ
sum u (suc n) i = u i +ℚ sum u n (suc i)

-- The sum of the parameters of rounds 1 to r.
unfoldable pub total : (ℕ → ℚ) → ℕ → ℚ
total τ zero = 0ℚ
total τ (suc r) = total τ r +ℚ τ (suc r)

-- The Greville abscissa of control value j: the mean of the p knots from number j + 1 on.
unfoldable pub ξ : ℕ → (ℕ → ℚ) → ℕ → ℚ
ξ p u j = invℚ (whole p) *ℚ sum u p (suc j)

-- Of a curve of degree 1 with two points, whose weights are c w: the share that the second point has in the point at t, once divided by the weight.
abbrev pub β : (ℕ → ℚ) → (ℕ → ℕ → ℚ) → ℚ → ℕ → ℚ
β u c t w = ratio t (u 1) (u 2) *ℚ c w 1 *ℚ invℚ (lerp (ratio t (u 1) (u 2)) (c w 0) (c w 1))
