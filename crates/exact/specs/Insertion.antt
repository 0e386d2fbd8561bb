-- Boehm's knot insertion: what new knots and new control values it asks for, the functions that give them, and what it means that a curve is kept.
use Rattle.std.specs.Prelude.{◌≡◌, ℕ, suc, pred, ◌+◌, ◌≤◌, ◌<◌}
use Rattle.std.proofs.Math.Decide.{dec_le}
use Rattle.exact.specs.Rational.{ℚ}
use Rattle.exact.specs.Spline.{round, Side, OnSide}

-- ---- the insertion as a relation

-- u' and c' are u and c with x inserted after knot k. The control values that move are those of de Boor's first round at x.
pub record Inserted (p : ℕ) (u c : ℕ → ℚ) (x : ℚ) (k : ℕ) (u' c' : ℕ → ℚ) : Type 0 where
  pub low_knot : (i : ℕ) → i ≤ k → u' i ≡ u i
  pub new_knot : u' (suc k) ≡ x
  pub high_knot : (i : ℕ) → k < i → u' (suc i) ≡ u i
  pub low_ctrl : (j : ℕ) → j + p ≤ k → c' j ≡ c j
  pub mid_ctrl : (j : ℕ) → k ≤ j + p → j < k → c' (suc j) ≡ round u p 1 x c j
  pub high_ctrl : (j : ℕ) → k ≤ j → c' (suc j) ≡ c j

-- ---- the insertion as a function

-- x where the decision is yes, y where it is no.
abbrev pub pick : {P A : Type 0} → Dec P → A → A → A
pick (yes h) x y = x
pick (no n) x y = y

-- The knots with x inserted after knot k.
unfoldable pub knots : (ℕ → ℚ) → ℚ → ℕ → ℕ → ℚ
knots u x k i = pick (dec_le i k) (u i) (pick (dec_le i (suc k)) x (u (pred i)))

-- The control values with x inserted after knot k.
unfoldable pub ctrls : ℕ → (ℕ → ℚ) → (ℕ → ℚ) → ℚ → ℕ → ℕ → ℚ
ctrls p u c x k j = pick (dec_le (j + p) k) (c j) (pick (dec_le j k) (round u p 1 x c (pred j)) (c (pred j)))

-- ---- what an insertion must keep

-- Each point that the first curve passes, the second passes at the same parameter and from the same side.
pub record Kept (p n : ℕ) (u : ℕ → ℚ) (c : ℕ → ℕ → ℚ) (n' : ℕ) (u' : ℕ → ℚ) (c' : ℕ → ℕ → ℚ) : Type 0 where
  pub keeps : (s : Side) (t : ℚ) (y : ℕ → ℚ) → OnSide s p n u c t y → OnSide s p n' u' c' t y
