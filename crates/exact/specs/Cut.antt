-- Which knots are accepted, by the scope's refusal 8 and in the form that the proofs use, and the cut: a value x strictly inside the domain is inserted until
-- it occurs degree + 1 times, and the curve is parted at the first of these knots.
use Rattle.std.specs.Prelude.{◌≡◌, Bool, true, false, ◌&&◌, ℕ, zero, suc, ◌+◌, ◌≤◌, ◌<◌}
use Rattle.exact.specs.Rational.{ℚ, ◌-ℚ◌, nonneg, ◌<ℚ◌}
use Rattle.exact.specs.Spline.{Sorted}
use Rattle.exact.specs.Insertion.{Kept}

-- ---- counting knots

-- x and y are the same number, as a test.
unfoldable pub eqℚ : ℚ → ℚ → Bool
eqℚ x y = nonneg (x -ℚ y) && nonneg (y -ℚ x)

-- x where the test is true, y where it is false.
abbrev pub choose : {A : Type 0} → Bool → A → A → A
choose true x y = x
choose false x y = y

-- How many of the knots below number k are x.
unfoldable pub tally : (ℕ → ℚ) → ℚ → ℕ → ℕ
tally u x zero = zero
tally u x (suc k) = let rest = tally u x k in choose (eqℚ (u k) x) (suc rest) rest

-- ---- which knots are accepted

-- What refusal 8 leaves, for a degree p of at least 1: the knots do not fall, the domain's start is below its end, a value strictly inside the domain occurs at
-- most p times, and each end's value at most p + 1 times. (Refusal 3 leaves p < n.)
pub record Counted (p n : ℕ) (u : ℕ → ℚ) : Type 0 where
  pub sorted : Sorted u (n + p)
  pub room : p < n
  pub span : u p <ℚ u n
  pub inner : (v : ℚ) → u p <ℚ v → v <ℚ u n → tally u v (suc (n + p)) ≤ p
  pub start : tally u (u p) (suc (n + p)) ≤ suc p
  pub stop : tally u (u n) (suc (n + p)) ≤ suc p

-- A knot strictly inside the domain is below the knot p places on. (At degree 0 there is then no such knot.)
pub record Thin (p n : ℕ) (u : ℕ → ℚ) : Type 0 where
  pub apart : (i : ℕ) → i ≤ n → u p <ℚ u i → u i <ℚ u n → u i <ℚ u (i + p)

-- The same knots by their order alone: nothing is counted.
pub record Good (p n : ℕ) (u : ℕ → ℚ) : Type 0 where
  pub sorted : Sorted u (n + p)
  pub room : p < n
  pub span : u p <ℚ u n
  pub thin : Thin p n u
  pub loose : (i : ℕ) → i < n → u i <ℚ u (suc (i + p))

-- ---- where a value stands among the knots

-- Of the knots 0 to N, those before number m are below x, the s knots from m on are x, and the rest are above x.
pub record Group (N : ℕ) (u : ℕ → ℚ) (x : ℚ) (m s : ℕ) : Type 0 where
  pub below : (i : ℕ) → i < m → u i <ℚ x
  pub equal : (i : ℕ) → m ≤ i → i < m + s → u i ≡ x
  pub above : (i : ℕ) → m + s ≤ i → i ≤ N → x <ℚ u i

-- A place and a number of times for x.
pub record Grouped (N : ℕ) (u : ℕ → ℚ) (x : ℚ) : Type 0 where
  pub m : ℕ
  pub s : ℕ
  pub fits : m + s ≤ suc N
  pub group : Group N u x m s

-- ---- the cut

-- u' and c' come from u and c by e insertions of x, which stood s times from knot m on: the curve is kept, and so is every other knot.
pub record Raised (p n : ℕ) (u : ℕ → ℚ) (c : ℕ → ℕ → ℚ) (x : ℚ) (m s e n' : ℕ) (u' : ℕ → ℚ) (c' : ℕ → ℕ → ℚ) : Type 0 where
  pub count : n' ≡ n + e
  pub first : Group (n + p) u x m s
  pub sorted : Sorted u' (n' + p)
  pub group : Group (n' + p) u' x m (s + e)
  pub low : (i : ℕ) → i < m → u' i ≡ u i
  pub high : (i : ℕ) → m + s ≤ i → u' (i + e) ≡ u i
  pub kept : Kept p n u c n' u' c'

-- What stands from number m on. Once x occurs p + 1 times from knot m on, the left part of the curve is its first m control values with its first m + p + 1
-- knots, and the right part is what stands from m on, knots and control values alike.
unfoldable pub shift : ℕ → (ℕ → ℚ) → ℕ → ℚ
shift m f i = f (m + i)
