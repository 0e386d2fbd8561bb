-- Splines over the rationals, one coordinate at a time: de Boor's rounds, first as the scope draws them and then with the index shifted, and what it means
-- that a curve passes a point. p is the degree, n the number of control values c 0, c 1, ..; the knots u 0, u 1, .. count up to number n + p.
use Rattle.std.specs.Prelude.{◌≡◌, ℕ, zero, suc, pred, ◌+◌, ◌-◌, ◌≤◌, ◌<◌}
use Rattle.exact.specs.Rational.{ℚ, ◌≤ℚ◌, ◌<ℚ◌, lerp, ratio}

-- ---- the curve on paper, in the scope's words and indices

-- Point number i after rounds 1 to r at the parameter t. Round r makes of point i the value (1 - a) times point i - 1 plus a times point i, which is `lerp a`,
-- with a = (t - knot i) / (knot (i + p + 1 - r) - knot i), which is `ratio`.
unfoldable pub drawn : (ℕ → ℚ) → ℕ → ℚ → (ℕ → ℚ) → ℕ → ℕ → ℚ
drawn u p t c zero i = c i
drawn u p t c (suc r) i = lerp (ratio t (u i) (u (i + p + 1 - suc r))) (drawn u p t c r (pred i)) (drawn u p t c r i)

-- The domain: from knot p to knot n, both included.
pub record Domain (p n : ℕ) (u : ℕ → ℚ) (t : ℚ) : Type 0 where
  pub from : u p ≤ℚ t
  pub upto : t ≤ℚ u n

-- Before the domain's end the span of t is number k: k is from p to n - 1, knot k is at most t, and t is below knot k + 1.
pub record HalfOpen (p n : ℕ) (u : ℕ → ℚ) (t : ℚ) (k : ℕ) : Type 0 where
  pub first : p ≤ k
  pub last : k < n
  pub from : u k ≤ℚ t
  pub upto : t <ℚ u (suc k)

-- At the domain's end it is the last span that isn't empty, closed: k is from p to n - 1, knot k is below knot k + 1, and knot k + 1 and t are both knot n.
pub record Closing (p n : ℕ) (u : ℕ → ℚ) (t : ℚ) (k : ℕ) : Type 0 where
  pub first : p ≤ k
  pub last : k < n
  pub wide : u k <ℚ u (suc k)
  pub stop : u (suc k) ≡ u n
  pub here : t ≡ u n

-- The span of t is number k. "The end of the domain now belongs to it" (the curve on paper), "with the last span that isn't empty closed as in The NURBS Book,
-- for degree 0 too." (request E3)
pub data Span (p n : ℕ) (u : ℕ → ℚ) (t : ℚ) (k : ℕ) : Type 0 where
  before : HalfOpen p n u t k → Span p n u t k
  closing : Closing p n u t k → Span p n u t k

-- The curve on paper has the value y a at t on each axis a, where c a are the axis's control values: it is point k after p rounds, with k the span of t.
pub record Traced (p n : ℕ) (u : ℕ → ℚ) (c : ℕ → ℕ → ℚ) (t : ℚ) (y : ℕ → ℚ) : Type 0 where
  pub k : ℕ
  pub span : Span p n u t k
  pub there : (a : ℕ) → drawn u p t (c a) p k ≡ y a

-- ---- the same with the index shifted: what stood at i after r rounds stands at j = i - r, and nothing is subtracted

-- Round r at the parameter t: its value at j lies between f j and f (j + 1), at the place of t between the knots j + r and j + p + 1.
unfoldable pub round : (ℕ → ℚ) → ℕ → ℕ → ℚ → (ℕ → ℚ) → ℕ → ℚ
round u p r t f j = lerp (ratio t (u (j + r)) (u (j + suc p))) (f j) (f (suc j))

-- The values after rounds 1 to r, with a parameter τ s of its own for each round s. Where τ is constant they are the curve's, otherwise its blossom's.
unfoldable pub boor : (ℕ → ℚ) → ℕ → (ℕ → ℚ) → (ℕ → ℚ) → ℕ → ℕ → ℚ
boor u p c τ zero = c
boor u p c τ (suc r) = round u p (suc r) (τ (suc r)) (boor u p c τ r)

-- The curve of place m at t: place m is the span from knot m + p to knot m + p + 1.
abbrev pub curve : ℕ → (ℕ → ℚ) → (ℕ → ℚ) → ℕ → ℚ → ℚ
curve p u c m t = boor u p c (λ _. t) p m

-- ---- the order of the knots

-- The knots 0 to N do not fall.
pub record Sorted (u : ℕ → ℚ) (N : ℕ) : Type 0 where
  pub up : (i j : ℕ) → i ≤ j → j ≤ N → u i ≤ℚ u j

-- The span from knot l to knot l + 1 is not empty, and the knots up to l + p do not fall: every divisor that the rounds meet on it is above 0.
pub record Segment (p : ℕ) (u : ℕ → ℚ) (l : ℕ) : Type 0 where
  pub sorted : (i j : ℕ) → i ≤ j → j ≤ l + p → u i ≤ℚ u j
  pub wide : u l <ℚ u (suc l)

-- ---- where a curve passes

-- A span is closed at both ends, or it excludes its start (t comes from the left), or its end (t goes on to the right).
pub data Side : Type 0 where
  shut left right : Side

-- t lies between a and b, the ends included, and a is below b.
pub record Shut (a b t : ℚ) : Type 0 where
  pub from : a ≤ℚ t
  pub upto : t ≤ℚ b
  pub wide : a <ℚ b

-- t lies between a and b, the start excluded.
pub record Left (a b t : ℚ) : Type 0 where
  pub from : a <ℚ t
  pub upto : t ≤ℚ b

-- t lies between a and b, the end excluded.
pub record Right (a b t : ℚ) : Type 0 where
  pub from : a ≤ℚ t
  pub upto : t <ℚ b

-- t lies between a and b in the sense of the side.
unfoldable pub Fit : Side → ℚ → ℚ → ℚ → Type 0
Fit shut = Shut
Fit left = Left
Fit right = Right

-- The curve with the control values c a has the value y a at t on each axis a, on some span that holds t in the sense of the side. On the side `right` this is
-- `Traced` before the domain's end.
pub record OnSide (s : Side) (p n : ℕ) (u : ℕ → ℚ) (c : ℕ → ℕ → ℚ) (t : ℚ) (y : ℕ → ℚ) : Type 0 where
  pub place : ℕ
  pub inside : place + p < n
  pub fits : Fit s (u (place + p)) (u (suc (place + p))) t
  pub there : (a : ℕ) → curve p u (c a) place t ≡ y a

-- The curve passes y at t, its spans closed at both ends. Every point of the curve on paper is one of these.
abbrev pub On : ℕ → ℕ → (ℕ → ℚ) → (ℕ → ℕ → ℚ) → ℚ → (ℕ → ℚ) → Type 0
On = OnSide shut
