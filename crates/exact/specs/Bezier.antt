-- A curve of one span whose knots are only its two ends, a Bezier span, and de Casteljau's triangle, which cuts it.
use Rattle.std.specs.Prelude.{◌≡◌, ℕ, zero, suc, ◌+◌, ◌-◌, ◌≤◌, ◌<◌}
use Rattle.exact.specs.Rational.{ℚ, lerp}

-- The knots are a, p + 1 times, and then b, p + 1 times.
pub record Bezier (p : ℕ) (u : ℕ → ℚ) (a b : ℚ) : Type 0 where
  pub start : (i : ℕ) → i ≤ p → u i ≡ a
  pub stop : (i : ℕ) → p < i → i ≤ suc p + p → u i ≡ b

-- Row r of the triangle over the values f, at j; each value lies at the place ρ between two of the row before.
unfoldable pub tri : ℚ → ℕ → (ℕ → ℚ) → ℕ → ℚ
tri ρ zero f j = f j
tri ρ (suc r) f j = lerp ρ (tri ρ r f j) (tri ρ r f (suc j))

-- The triangle's near side, the first value of each row: the control values of the left part.
abbrev pub near_side : ℚ → (ℕ → ℚ) → ℕ → ℚ
near_side ρ c i = tri ρ i c zero

-- The triangle's far side, the last value of each row, from the last row to the first: the control values of the right part.
abbrev pub far_side : ℚ → ℕ → (ℕ → ℚ) → ℕ → ℚ
far_side ρ p c i = tri ρ (p - i) c i
