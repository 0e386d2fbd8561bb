-- What a piece of a search is, and what it means that a piece holds a parameter: the invariant of the search. Assumes nothing.
use mathlib.Core.Path.{◌≡◌, refl, subst}
use mathlib.Core.List.{List, [], ◌∷◌}
use Prim.Native.Nat.{ℕ, zero, suc, ◌+◌, ◌≤◌, ◌<◌}
use native.Mathlib.Nat.{lt_of_not-le}
use native.Mathlib.Decide.{dec_le}
use native.Mathlib.Omega.{arith}
use lib.ListN.{length, get_or}
use lib.Dec.{T}
use lib.Ieee.{Float, binary64, fits}
use Rattle.exact.specs.Rational.{ℚ}
use Rattle.exact.specs.Spline.{On, Sorted}
use Rattle.exact.specs.Cut.{Good}
use Rattle.math.specs.Scalars.{absent}
use Rattle.math.specs.Values.{value, Holds}
use Rattle.math.specs.Encloses.{is_moderate}
use Rattle.model.specs.Vector.{Vector, coordinate}
use Rattle.model.specs.NurbCurve.{Piece, knot, point}

-- the numbers of the knots
abbrev pub values : List Float → ℕ → ℚ
values ks i = value (knot ks i)

-- a double of moderate size
pub record Known (x : Float) : Type 0 where
  pub double : T (fits binary64 x)
  pub moderate : T (is_moderate x)

-- knots of a piece of n points: as many as there should be, known, and accepted
pub record Knots (p n : ℕ) (ks : List Float) : Type 0 where
  pub long : length ks ≡ suc (n + p)
  pub known : (i : ℕ) → i < length ks → Known (knot ks i)
  pub good : Good p n (values ks)

-- of these the box and the domain need only that they are in order
pub record Lined (p n : ℕ) (ks : List Float) : Type 0 where
  pub long : length ks ≡ suc (n + p)
  pub known : (i : ℕ) → i < length ks → Known (knot ks i)
  pub sorted : Sorted (values ks) (n + p)
  pub room : p < n

pub lined : (p n : ℕ) (ks : List Float) → Knots p n ks → Lined p n ks
lined p n ks k = record { long = k.long; known = k.known; sorted = k.good.sorted; room = k.good.room }

-- exact control values in the intervals of the first D coordinates of each point
pub record Inside (D : ℕ) (points : List Vector) (C : ℕ → ℕ → ℚ) : Type 0 where
  pub at : (a i : ℕ) → a < D → i < length points → Holds (coordinate (point points i) a) (C a i)

-- the piece holds t: its intervals hold exact control values whose curve passes v at t
pub record Carries (D p : ℕ) (t : ℚ) (v : ℕ → ℚ) (c : Piece) : Type 0 where
  pub exact : ℕ → ℕ → ℚ
  pub inside : Inside D c.points exact
  pub on : On p (length c.points) (values c.knots) exact t v

-- nothing is read behind the end of a list
pub beyond : {A : Type 0} (l : List A) (i : ℕ) (d : A) → length l ≤ i → get_or l i d ≡ d
beyond [] i d h = refl
beyond (x ∷ l) zero d h = absurd (omega arith)
beyond (x ∷ l) (suc i) d h = beyond l i d (omega arith)

-- a coordinate that holds a number is there
pub present : (q : Vector) (a : ℕ) (x : ℚ) → Holds (coordinate q a) x → a < length q
present q a x h = elim (dec_le (length q) a) [
  | yes l ↦ absurd (subst (λ s. Holds s x) (beyond q a absent l) h).low
  | no l ↦ lt_of_not-le l
]
