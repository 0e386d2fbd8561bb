-- The bounds of a hat that the clip leaves are doubles from the domain's start to its end, whatever the points and the box are. Assumes nothing.
use mathlib.Core.Path.{◌≡◌, sym, subst}
use mathlib.Core.Logic.{inl, inr}
use mathlib.Core.List.{List, [], ◌∷◌}
use mathlib.Core.Bool.{Bool, true, false, not, cond}
use Prim.Native.Nat.{ℕ}
use native.Mathlib.Omega.{arith}
use lib.Dec.{T}
use lib.IntN.{pos}
use lib.ListN.{length}
use lib.Ieee.{Float, nan, inf, fin, binary64, neg, add, sub, lt, le, fits}
use Rattle.solver.proofs.Ring.{by_rep, read}
use Rattle.exact.specs.Rational.{ℚ, -ℚ◌, ◌-ℚ◌, 0ℚ, ◌≤ℚ◌, ◌<ℚ◌, nn_of}
use Rattle.exact.proofs.Field.{ℚring}
use Rattle.exact.proofs.Order.{le_by, lt→le}
use Rattle.math.specs.declared.scalars.Scalar.{Scalar}
use Rattle.math.specs.Picks.{min_f, max_f}
use Rattle.math.specs.Scalars.{Arithmetic, zero_f, could_be_equal, union_s, intersect_s}
use Rattle.math.specs.Values.{value}
use Rattle.math.specs.Encloses.{Encloses}
use Rattle.math.proofs.Bools.{and_l, and_r, decide, pick}
use Rattle.math.proofs.Doubles.Values.{value_zero, lt→value}
use Rattle.math.proofs.Doubles.Order.{le_trans, le_self, le_number_l, le_number_r, total-order, lt→le_f}
use Rattle.math.proofs.Doubles.Rounding.{rounds_ge, rounds_le}
use Rattle.math.proofs.Doubles.Least.{min-either, max_either, min_left, max_left}
use Rattle.math.proofs.Intervals.Sizes.{sub-rounds}
use Rattle.model.specs.NurbCurve.{Piece, start, end, domain}
use Rattle.model.specs.Contains.{axis, narrowed, clip}
use Rattle.model.specs.Hat.{Hat}
use Rattle.std.specs.Prelude.{Some, None}
use Rattle.model.proofs.Sound.Base.{Known, Knots}
use Rattle.model.proofs.Sound.Known.{le_known}
use Rattle.model.proofs.Sound.Visit.Keeps.{OfHat, of_hat_if, clip-keeps, DoubleBounds, zeros-doubles}

-- a test that failed did not pass
pub clash : (x : Bool) → T (not x) → T x → ⊥
clash true n y = n
clash false n y = y

-- ---- the sign of a rounded difference
minus : (x y : ℚ) → x <ℚ y → 0ℚ ≤ℚ y -ℚ x
minus x y h = le_by (nn_of (lt→le h)) (by_rep ℚring (x ∷ y ∷ []) (search read) (search read) tt)

minus' : (x y : ℚ) → x <ℚ y → x -ℚ y ≤ℚ 0ℚ
minus' x y h = le_by (nn_of (lt→le h)) (by_rep ℚring (x ∷ y ∷ []) (search read) (search read) tt)

-- a double below another: the other less it is not below zero, and it less the other not above
sub-sides : (x y : Float) → T (lt x y) → T (le zero_f (sub binary64 y x)) × T (le (sub binary64 x y) zero_f)
sub-sides nan y h = unfold lt in absurd h
sub-sides (inf s) nan h = unfold lt in absurd h
sub-sides (inf true) (inf true) h = unfold lt in absurd h
sub-sides (inf true) (inf false) h = unfold sub add neg le in (tt, tt)
sub-sides (inf false) (inf t) h = unfold lt in absurd h
sub-sides (inf true) (fin t n d) h = unfold sub add neg le in (tt, tt)
sub-sides (inf false) (fin t n d) h = unfold lt in absurd h
sub-sides (fin s m e) nan h = unfold lt in absurd h
sub-sides (fin s m e) (inf true) h = unfold lt in absurd h
sub-sides (fin s m e) (inf false) h = unfold sub add neg le in (tt, tt)
sub-sides (fin s m e) (fin t n d) h = (
  rounds_ge _ _ (sub-rounds t n d s m e) false 0 (pos 0) (unfold fits in tt) (subst (λ (z : ℚ). z ≤ℚ value (fin t n d) -ℚ value (fin s m e)) zero_is (minus _ _ below)),
  rounds_le _ _ (sub-rounds s m e t n d) false 0 (pos 0) (unfold fits in tt) (subst (λ (z : ℚ). value (fin s m e) -ℚ value (fin t n d) ≤ℚ z) zero_is (minus' _ _ below)),
)
  where
    below : value (fin s m e) <ℚ value (fin t n d)
    below = lt→value s m e t n d h

    zero_is : 0ℚ ≡ value (fin false 0 (pos 0))
    zero_is = sym (value_zero false (pos 0))

-- ---- both bounds of the hat lie from a to b, and are doubles
pub record Within (a b : Float) (hat : Scalar) : Type 0 where
  pub from-lo : T (le a hat.lo)
  pub upto-lo : T (le hat.lo b)
  pub from-hi : T (le a hat.hi)
  pub upto-hi : T (le hat.hi b)
  pub double-lo : T (fits binary64 hat.lo)
  pub double-hi : T (fits binary64 hat.hi)

module _ (a b : Float) (hat z : Scalar) (h : Within a b hat) (dz : DoubleBounds z) (t : T (could_be_equal z hat)) where
  z_hat : T (le z.lo hat.hi)
  z_hat = and_l (le z.lo hat.hi) (le hat.lo z.hi) t

  hat_z : T (le hat.lo z.hi)
  hat_z = and_r (le z.lo hat.hi) (le hat.lo z.hi) t

  -- the bounds of what lies in both are in order, if those of the two are
  pub in_order : T (le hat.lo hat.hi) → T (le z.lo z.hi) → T (le (max_f hat.lo z.lo) (min_f hat.hi z.hi))
  in_order o p = max_either (λ (x : Float). T (le x (min_f hat.hi z.hi))) hat.lo z.lo
      (min-either (λ (x : Float). T (le hat.lo x)) hat.hi z.hi o hat_z)
      (min-either (λ (x : Float). T (le z.lo x)) hat.hi z.hi z_hat p)

  abbrev lo' : Float
  lo' = max_f hat.lo z.lo

  abbrev hi' : Float
  hi' = min_f hat.hi z.hi

  from' : T (le a lo')
  from' = le_trans a hat.lo lo' h.from-lo (max_left hat.lo z.lo (le_number_r a hat.lo h.from-lo))

  upto' : T (le hi' b)
  upto' = le_trans hi' hat.hi b (min_left hat.hi z.hi (le_number_r a hat.hi h.from-hi)) h.upto-hi

  meet : T (le lo' hi') → Within a b (record { lo = lo'; hi = hi' })
  meet o = record {
    from-lo = from';
    upto-lo = le_trans lo' hi' b o upto';
    from-hi = le_trans a lo' hi' from' o;
    upto-hi = upto';
    double-lo = max_either (λ (x : Float). T (fits binary64 x)) hat.lo z.lo h.double-lo dz.lo_double;
    double-hi = min-either (λ (x : Float). T (fits binary64 x)) hat.hi z.hi h.double-hi dz.hi_double;
  }

  -- where nothing lies in both, and the narrower is z: its bounds are out of order, and so both lie in the domain
  chosen : T (not (le lo' hi')) → T (not (le (sub binary64 hat.hi hat.lo) (sub binary64 z.hi z.lo))) → Within a b z
  chosen n m = record {
    from-lo = le_trans a z.hi z.lo low turned;
    upto-lo = high;
    from-hi = low;
    upto-hi = le_trans z.hi z.lo b turned high;
    double-lo = dz.lo_double;
    double-hi = dz.hi_double;
  }
    where
      low : T (le a z.hi)
      low = le_trans a hat.lo z.hi h.from-lo hat_z

      high : T (le z.lo b)
      high = le_trans z.lo hat.hi b z_hat h.upto-hi

      never : T (lt z.lo z.hi) → ⊥
      never o = elim (decide (lt hat.hi hat.lo)) [
        | inl k ↦ clash (le (sub binary64 hat.hi hat.lo) (sub binary64 z.hi z.lo)) m (le_trans (sub binary64 hat.hi hat.lo) zero_f (sub binary64 z.hi z.lo) (sub-sides hat.hi hat.lo k).1 (sub-sides z.lo z.hi o).0)
        | inr k ↦ clash (le lo' hi') n (in_order (total-order hat.lo hat.hi (le_number_r a hat.lo h.from-lo) (le_number_r a hat.hi h.from-hi) k) (lt→le_f z.lo z.hi o))
      ]

      turned : T (le z.hi z.lo)
      turned = elim (decide (lt z.lo z.hi)) [
        | inl o ↦ absurd (never o)
        | inr o ↦ total-order z.hi z.lo (le_number_r hat.lo z.hi hat_z) (le_number_l z.lo hat.hi z_hat) o
      ]

  pub intersect-within : Within a b (intersect_s hat z)
  unfolding intersect_s
  intersect-within = pick (Within a b) (le lo' hi') (record { lo = lo'; hi = hi' }) (cond (le (sub binary64 hat.hi hat.lo) (sub binary64 z.hi z.lo)) hat z) meet
      (λ n. pick (Within a b) (le (sub binary64 hat.hi hat.lo) (sub binary64 z.hi z.lo)) hat z (λ _. h) (λ m. chosen n m))

-- ---- the domain, and what the axes leave of it
narrowed-within : (a b : Float) (hat : Scalar) (z : Hat) → Within a b hat → OfHat DoubleBounds z → OfHat (Within a b) (narrowed hat z)
unfolding narrowed
narrowed-within a b hat None h d = tt
narrowed-within a b hat (Some z) h d = of_hat_if (Within a b) (could_be_equal z hat) (intersect_s hat z) (λ t. intersect-within a b hat z h d t)

-- the first hat
pub domain-within : (a b : Float) → Known a → Known b → T (le a b) → Within a b (domain a b)
unfolding domain union_s
domain-within a b ka kb o = record {
  from-lo = min-either (λ (x : Float). T (le a x)) a b aa o;
  upto-lo = min-either (λ (x : Float). T (le x b)) a b o bb;
  from-hi = max_either (λ (x : Float). T (le a x)) a b aa o;
  upto-hi = max_either (λ (x : Float). T (le x b)) a b o bb;
  double-lo = min-either (λ (x : Float). T (fits binary64 x)) a b ka.double kb.double;
  double-hi = max_either (λ (x : Float). T (fits binary64 x)) a b ka.double kb.double;
}
  where
    aa : T (le a a)
    aa = le_self a (le_number_l a b o)

    bb : T (le b b)
    bb = le_self b (le_number_r a b o)

module _ (p : ℕ) (c : Piece) (K : Knots p (length c.points) c.knots) where
  pub start_known : Known (start p c)
  start_known = K.known p (omega (arith, K.long))

  pub end_known : Known (end c)
  end_known = K.known (length c.points) (omega (arith, K.long))

  pub start_end : T (le (start p c) (end c))
  start_end = le_known (start p c) (end c) start_known end_known (lt→le K.good.span)

  -- THE CLIP, for any points, abscissae and box
  pub clip-within : (ar : Arithmetic) → Encloses ar → (dim : ℕ) (ξs box : List Scalar) (hat : Scalar) → clip ar dim c.points ξs (domain (start p c) (end c)) 0 box ≡ Some hat
      → Within (start p c) (end c) hat
  clip-within ar E dim ξs box hat e = subst (OfHat (Within (start p c) (end c))) e
      (clip-keeps ar dim c.points ξs (Within (start p c) (end c)) (λ _ _. Unit {0}) (λ k e g _ h. narrowed-within (start p c) (end c) g _ h (zeros-doubles ar E ξs (axis ar dim k e c.points)))
      box 0 (domain (start p c) (end c)) (λ _ _. tt) (domain-within (start p c) (end c) start_known end_known start_end))
