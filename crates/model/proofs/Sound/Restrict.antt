-- A piece that is cut down to a hat holds what the piece held in that hat, and of two halves one does. Both are accepted again. Assumes nothing.
use mathlib.Core.Path.{sym, subst}
use mathlib.Core.Logic.{◌⊎◌, inl, inr}
use mathlib.Core.List.{List}
use mathlib.Core.Bool.{Bool, true, false}
use Prim.Native.Nat.{ℕ, ◌≤◌}
use native.Mathlib.Omega.{arith}
use lib.Dec.{T}
use lib.ListN.{length}
use lib.Ieee.{Float, binary64, lt, fits}
use lib.Ieee.Fits.{div-fits}
use Rattle.exact.specs.Rational.{ℚ, 0ℚ, ◌≤ℚ◌, ◌<ℚ◌}
use Rattle.exact.proofs.Order.{le_refl, le_trans, lt→le, le_or_lt}
use Rattle.math.specs.declared.scalars.Scalar.{Scalar}
use Rattle.math.specs.Scalars.{Arithmetic, two_f, middle}
use Rattle.math.specs.Values.{value, Holds}
use Rattle.math.specs.Encloses.{Encloses}
use Rattle.math.proofs.Bools.{and_l, and_r}
use Rattle.math.proofs.Intervals.Sizes.{between_moderate}
use Rattle.model.specs.NurbCurve.{Piece, knot, start, end, in_domain, mid_parameter}
use Rattle.model.specs.KnotInsertion.{full_cut, left_of, right_of}
use Rattle.model.specs.Split.{Halves, uncut, both, split_by, split, from_by, up_to_by, restrict}
use Rattle.model.proofs.Sound.Base.{values, Known, Knots, Carries}
use Rattle.model.proofs.Sound.Known.{lt_value, low_value, high_value}
use Rattle.model.proofs.Sound.Parts.{Parts, Keeps}
use Rattle.model.proofs.Sound.Cut.{cut_parts, cut_keeps}

-- ---- an accepted piece of another: no more points, and no parameter that the other has not
pub record Sub (p : ℕ) (c s : Piece) : Type 0 where
  pub knots : Knots p (length s.points) s.knots
  pub small : length s.points ≤ length c.points
  pub from : values c.knots p ≤ℚ values s.knots p
  pub upto : values s.knots (length s.points) ≤ℚ values c.knots (length c.points)

pub sub_self : (p : ℕ) (c : Piece) → Knots p (length c.points) c.knots → Sub p c c
sub_self p c k = record { knots = k; small = omega arith; from = le_refl (values c.knots p); upto = le_refl (values c.knots (length c.points)) }

pub sub_trans : (p : ℕ) (c s r : Piece) → Sub p c s → Sub p s r → Sub p c r
sub_trans p c s r h k = record { knots = k.knots; small = omega (arith, h.small, k.small); from = le_trans h.from k.from; upto = le_trans k.upto h.upto }

-- what is asked of two halves, where there are any
abbrev pub Both : (Piece → Piece → Type 0) → Halves → Type 0
Both P uncut = Unit {0}
Both P (both l r) = P l r

-- ---- a double strictly inside the domain
pub record Strict (p : ℕ) (c : Piece) (x : Float) : Type 0 where
  pub known : Known x
  pub from : values c.knots p <ℚ value x
  pub upto : value x <ℚ values c.knots (length c.points)

first : (p n : ℕ) (ks : List Float) → Knots p n ks → Known (knot ks p)
first p n ks k = k.known p (omega (arith, k.long))

final : (p n : ℕ) (ks : List Float) → Knots p n ks → Known (knot ks n)
final p n ks k = k.known n (omega (arith, k.long))

pub strict : (p : ℕ) (c : Piece) (x : Float) → Knots p (length c.points) c.knots → T (fits binary64 x) → T (in_domain (start p c) (end c) x) → Strict p c x
unfolding in_domain
strict p c x k f t = record { known = kx; from = lt_value a x ka kx at; upto = lt_value x b kx kb tb }
  where
    a : Float
    a = start p c

    b : Float
    b = end c

    at : T (lt (start p c) x)
    at = and_l (lt (start p c) x) (lt x (end c)) t

    tb : T (lt x (end c))
    tb = and_r (lt (start p c) x) (lt x (end c)) t

    ka : Known (start p c)
    ka = first p (length c.points) c.knots k

    kb : Known (end c)
    kb = final p (length c.points) c.knots k

    kx : Known x
    kx = record { double = f; moderate = between_moderate a x b (record { double_a = ka.double; double_t = f; double_b = kb.double; moderate_a = ka.moderate; moderate_b = kb.moderate; from = at; upto = tb }) }

-- mid_parameter is a double
pub mid-fits : (ar : Arithmetic) (a b : Float) → T (fits binary64 (mid_parameter ar a b))
unfolding mid_parameter middle
mid-fits ar a b = div-fits binary64 _ two_f

module _ (ar : Arithmetic) (E : Encloses ar) (p : ℕ) where
  -- ---- one cut
  parts : (c : Piece) (x : Float) → Knots p (length c.points) c.knots → Strict p c x
      → Parts p (length c.points) (values c.knots p) (value x) (values c.knots (length c.points)) (left_of p (full_cut ar p x c)) (right_of (full_cut ar p x c))
  parts c x k s = cut_parts ar E 0 p x c (λ _ _. 0ℚ) k (record { at = λ a i h. absurd (omega arith) }) s.known s.from s.upto

  pub left_sub : (c : Piece) (x : Float) → Knots p (length c.points) c.knots → Strict p c x → Sub p c (left_of p (full_cut ar p x c))
  left_sub c x k s = let h = (parts c x k s).one in record {
    knots = h.knots;
    small = h.small;
    from = subst (λ (z : ℚ). values c.knots p ≤ℚ z) (sym h.from) (le_refl (values c.knots p));
    upto = subst (λ (z : ℚ). z ≤ℚ values c.knots (length c.points)) (sym h.upto) (lt→le s.upto);
  }

  pub right_sub : (c : Piece) (x : Float) → Knots p (length c.points) c.knots → Strict p c x → Sub p c (right_of (full_cut ar p x c))
  right_sub c x k s = let h = (parts c x k s).two in record {
    knots = h.knots;
    small = h.small;
    from = subst (λ (z : ℚ). values c.knots p ≤ℚ z) (sym h.from) (lt→le s.from);
    upto = subst (λ (z : ℚ). z ≤ℚ values c.knots (length c.points)) (sym h.upto) (le_refl (values c.knots (length c.points)));
  }

  keeps : (D : ℕ) (t : ℚ) (v : ℕ → ℚ) (c : Piece) (x : Float) → Knots p (length c.points) c.knots → Strict p c x → Carries D p t v c
      → Keeps D p t v (value x) (left_of p (full_cut ar p x c)) (right_of (full_cut ar p x c))
  keeps D t v c x k s h = cut_keeps ar E D p x c h.exact k h.inside s.known s.from s.upto t v h.on

  -- ---- an end that is cut only where it lies strictly inside
  pub from-sub : (c : Piece) (x : Float) → Knots p (length c.points) c.knots → (b : Bool) → (T b → Strict p c x) → Sub p c (from_by ar p x c b).piece
  unfolding from_by
  from-sub c x k true s = right_sub c x k (s tt)
  from-sub c x k false s = sub_self p c k

  upto-sub : (c : Piece) (x : Float) → Knots p (length c.points) c.knots → (b : Bool) → (T b → Strict p c x) → Sub p c (up_to_by ar p x c b).piece
  unfolding up_to_by
  upto-sub c x k true s = left_sub c x k (s tt)
  upto-sub c x k false s = sub_self p c k

  -- THE PIECE CUT DOWN
  pub restrict-sub : (c : Piece) (lo hi : Float) → Knots p (length c.points) c.knots → T (fits binary64 lo) → T (fits binary64 hi) → Sub p c (restrict ar p lo hi c).piece
  unfolding restrict
  restrict-sub c lo hi k f g = sub_trans p c a _ h (upto-sub a hi h.knots (in_domain (start p a) (end a) hi) (strict p a hi h.knots g))
    where
      a : Piece
      a = (from_by ar p lo c (in_domain (start p c) (end c) lo)).piece

      h : Sub p c (from_by ar p lo c (in_domain (start p c) (end c) lo)).piece
      h = from-sub c lo k (in_domain (start p c) (end c) lo) (strict p c lo k f)

  -- THE HALVES
  pub split-sub : (c : Piece) (x : Float) → Knots p (length c.points) c.knots → T (fits binary64 x) → Both (λ l r. Sub p c l × Sub p c r) (split ar p x c)
  unfolding split split_by
  split-sub c x k f = go (in_domain (start p c) (end c) x) (strict p c x k f)
    where
      go : (b : Bool) → (T b → Strict p c x) → Both (λ l r. Sub p c l × Sub p c r) (split_by ar p x c b)
      go true s = (left_sub c x k (s tt), right_sub c x k (s tt))
      go false s = tt

  -- ---- what they hold
  module _ (D : ℕ) (t : ℚ) (v : ℕ → ℚ) where
    from-keeps : (c : Piece) (x : Float) → Knots p (length c.points) c.knots → (b : Bool) → (T b → Strict p c x) → (T b → value x ≤ℚ t) → Carries D p t v c
        → Carries D p t v (from_by ar p x c b).piece
    unfolding from_by
    from-keeps c x k true s l h = (keeps D t v c x k (s tt) h).right (l tt)
    from-keeps c x k false s l h = h

    upto-keeps : (c : Piece) (x : Float) → Knots p (length c.points) c.knots → (b : Bool) → (T b → Strict p c x) → (T b → t ≤ℚ value x) → Carries D p t v c
        → Carries D p t v (up_to_by ar p x c b).piece
    unfolding up_to_by
    upto-keeps c x k true s l h = (keeps D t v c x k (s tt) h).left (l tt)
    upto-keeps c x k false s l h = h

    pub restrict-keeps : (c : Piece) (h : Scalar) → Knots p (length c.points) c.knots → T (fits binary64 h.lo) → T (fits binary64 h.hi) → Holds h t → Carries D p t v c
        → Carries D p t v (restrict ar p h.lo h.hi c).piece
    unfolding restrict
    restrict-keeps c h k f g at w = upto-keeps a h.hi z.knots (in_domain (start p a) (end a) h.hi) s (λ b. high_value h.hi t (s b).known at.high)
        (from-keeps c h.lo k (in_domain (start p c) (end c) h.lo) r (λ b. low_value h.lo t (r b).known at.low) w)
      where
        a : Piece
        a = (from_by ar p h.lo c (in_domain (start p c) (end c) h.lo)).piece

        r : T (in_domain (start p c) (end c) h.lo) → Strict p c h.lo
        r = strict p c h.lo k f

        z : Sub p c (from_by ar p h.lo c (in_domain (start p c) (end c) h.lo)).piece
        z = from-sub c h.lo k (in_domain (start p c) (end c) h.lo) r

        s : T (in_domain (start p a) (end a) h.hi) → Strict p a h.hi
        s = strict p a h.hi z.knots g

    pub split-keeps : (c : Piece) (x : Float) → Knots p (length c.points) c.knots → T (fits binary64 x) → Carries D p t v c
        → Both (λ l r. Carries D p t v l ⊎ Carries D p t v r) (split ar p x c)
    unfolding split split_by
    split-keeps c x k f w = go (in_domain (start p c) (end c) x) (strict p c x k f)
      where
        go : (b : Bool) → (T b → Strict p c x) → Both (λ l r. Carries D p t v l ⊎ Carries D p t v r) (split_by ar p x c b)
        go true s = let z = keeps D t v c x k (s tt) w in elim (le_or_lt t (value x)) [ inl h ↦ inl (z.left h) | inr h ↦ inr (z.right (lt→le h)) ]
        go false s = tt
