-- Bounds of revision 1 that are not widened yet: what they are once they are widened, and that bounds which are joined are widened once, at the end. Assumes nothing.
use mathlib.Core.Path.{◌≡◌, refl, sym, ap, ◌∙◌, subst}
use mathlib.Core.Bool.{Bool, true, false, cond}
use lib.Dec.{T}
use lib.Ieee.{Float, binary64, fits, is_nan, neg}
use lib.Ieee.Fits.{inf-fits, sub-fits}
use Rattle.math.specs.Neighbours.{next_up, next_down}
use Rattle.math.specs.Scalars.{ENTIRE, has_zero, union_s, value_or, sub_s, corners, mul_s, inverse_s, div_s}
use Rattle.math.specs.Bounds.{widen_b, whole_b, difference_b, join_b, pick_b, divisor_of, over_s, over_b}
use Rattle.math.specs.declared.scalars.Scalar.{Scalar}
use Rattle.std.specs.Prelude.{Some, None}
use Rattle.math.specs.declared.bounds.Bounds.{Bounds}
use Rattle.math.specs.declared.bounds.Divisor.{Divisor}
use Rattle.math.proofs.Bools.{pick}
use Rattle.math.proofs.Picks.{corners-doubles, corners-lower, corners-upper, lesser-min, greater-max, lesser_number, greater_number}
use Rattle.math.proofs.Doubles.Least.{min-either, max_either}
use Rattle.math.proofs.Intervals.Widen.{widened-union}

-- ---- widened

pub widen-product : (x y : Scalar) → widen_b (corners x y) ≡ mul_s x y
unfolding widen_b mul_s
widen-product x y = refl

pub widen_difference : (x y : Scalar) → widen_b (difference_b x y) ≡ sub_s x y
unfolding widen_b difference_b sub_s
widen_difference x y = refl

-- the whole line has nothing outside
pub widen-whole : widen_b whole_b ≡ ENTIRE
unfolding widen_b next_down next_up neg
widen-whole = refl

-- whatever the divisor's reciprocal is
pub widen-over : (x : Scalar) (d : Divisor) → widen_b (over_b x d) ≡ over_s x d
unfolding over_b over_s
widen-over x d = by (has_zero d.value)
  where
    by : (t : Bool) → widen_b (cond t whole_b (corners x d.inverse)) ≡ cond t ENTIRE (mul_s x d.inverse)
    by true = widen-whole
    by false = widen-product x d.inverse

-- over a divisor that was made of w it is the quotient, or the whole line where that failed
pub over_own : (x w : Scalar) → over_s x (divisor_of w) ≡ value_or (div_s x w) ENTIRE
unfolding over_s divisor_of div_s value_or
over_own x w = by (has_zero w)
  where
    by : (t : Bool) → cond t ENTIRE (mul_s x (inverse_s w)) ≡ value_or (cond t None (Some (mul_s x (inverse_s w)))) ENTIRE
    by true = refl
    by false = refl

pub widen_over_own : (x w : Scalar) → widen_b (over_b x (divisor_of w)) ≡ value_or (div_s x w) ENTIRE
widen_over_own x w = widen-over x (divisor_of w) ∙ over_own x w

-- a divisor that was made of some interval was made of its value
pub divisor_own : (d : Divisor) (w : Scalar) → d ≡ divisor_of w → d ≡ divisor_of d.value
unfolding divisor_of
divisor_own d w e = e ∙ ap (λ (c : Divisor). divisor_of c.value) (sym e)

-- ---- bounds that are doubles, NaN among them
pub record AreDoubles (b : Bounds) : Type 0 where
  pub low : T (fits binary64 b.lo)
  pub high : T (fits binary64 b.hi)

pub product-doubles : (x y : Scalar) → AreDoubles (corners x y)
product-doubles x y = let h = corners-doubles x y in record { low = h.0; high = h.1 }

pub difference_doubles : (x y : Scalar) → AreDoubles (difference_b x y)
unfolding difference_b
difference_doubles x y = record { low = sub-fits binary64 x.lo y.hi; high = sub-fits binary64 x.hi y.lo }

pub over-doubles : (x : Scalar) (d : Divisor) → AreDoubles (over_b x d)
unfolding over_b
over-doubles x d =
    pick AreDoubles (has_zero d.value) whole_b (corners x d.inverse)
    (λ _. record { low = inf-fits binary64 true; high = inf-fits binary64 false })
    (λ _. product-doubles x d.inverse)

-- ---- joined

-- A way to put bounds of some kind together before they are widened: what comes out is of that kind again, and widened it is the union of both widened.
pub record Gathers (gather : Bounds → Bounds → Bounds) (Kind : Bounds → Type 0) (widen : Bounds → Scalar) : Type 0 where
  pub keeps : (a b : Bounds) → Kind a → Kind b → Kind (gather a b)
  pub union : (a b : Bounds) → Kind a → Kind b → widen (gather a b) ≡ union_s (widen a) (widen b)

pub join-doubles : (a b : Bounds) → AreDoubles a → AreDoubles b → AreDoubles (join_b a b)
unfolding join_b
join-doubles a b A B = record {
  low = min-either (λ (z : Float). T (fits binary64 z)) a.lo b.lo A.low B.low;
  high = max_either (λ (z : Float). T (fits binary64 z)) a.hi b.hi A.high B.high;
}

pub widen-join : (a b : Bounds) → AreDoubles a → AreDoubles b → widen_b (join_b a b) ≡ union_s (widen_b a) (widen_b b)
unfolding widen_b join_b
widen-join a b A B = sym (widened-union a.lo a.hi b.lo b.hi A.low A.high B.low B.high)

-- the neighbours of doubles keep their order
pub doubles_join : Gathers join_b AreDoubles widen_b
doubles_join = record { keeps = join-doubles; union = widen-join }

-- ---- picked

-- Bounds that are doubles, and no NaN.
pub record AreNumbers (b : Bounds) : Type 0 where
  pub doubles : AreDoubles b
  pub low : is_nan b.lo ≡ false
  pub high : is_nan b.hi ≡ false

pub over_numbers : (x : Scalar) (d : Divisor) → AreNumbers (over_b x d)
unfolding over_b
over_numbers x d =
    pick AreNumbers (has_zero d.value) whole_b (corners x d.inverse)
    (λ _. record { doubles = record { low = inf-fits binary64 true; high = inf-fits binary64 false }; low = unfold is_nan in refl; high = unfold is_nan in refl })
    (λ _. record { doubles = product-doubles x d.inverse; low = corners-lower x d.inverse; high = corners-upper x d.inverse })

-- the first of two that are compared is kept where the other is a NaN: so to pick is to join
pub pick-join : (a b : Bounds) → AreNumbers a → pick_b a b ≡ join_b a b
unfolding pick_b join_b
pick-join a b A = λ i. record { lo = lesser-min a.lo b.lo A.low i; hi = greater-max a.hi b.hi A.high i }

picks-keep : (a b : Bounds) → AreNumbers a → AreNumbers b → AreNumbers (pick_b a b)
picks-keep a b A B = record {
  doubles = subst AreDoubles (sym (pick-join a b A)) (join-doubles a b A.doubles B.doubles);
  low = unfold pick_b in lesser_number a.lo b.lo A.low;
  high = unfold pick_b in greater_number a.hi b.hi A.high;
}

-- so bounds that are numbers can be picked first, too
pub numbers_pick : Gathers pick_b AreNumbers widen_b
numbers_pick = record {
  keeps = picks-keep;
  union = λ a b A B. ap widen_b (pick-join a b A) ∙ widen-join a b A.doubles B.doubles;
}
