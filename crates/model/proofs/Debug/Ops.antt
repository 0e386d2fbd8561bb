-- The test inside `Scalar::new` does not fire where the operands are in order. The one product that is left out is ENTIRE times [0, 0]. Assumes nothing.
use mathlib.Core.Path.{◌≡◌, refl, ap}
use mathlib.Core.Bool.{Bool, true, false, not, cond}
use lib.Dec.{T}
use lib.Ieee.{Float, nan, binary64, sub, lt, le, is_nan}
use lib.Ieee.Bits.{is_true}
use Rattle.math.specs.declared.scalars.Scalar.{Scalar}
use Rattle.std.specs.Prelude.{Some, None}
use Rattle.math.specs.Neighbours.{next_up, next_down}
use Rattle.math.specs.Picks.{min_f, max_f}
use Rattle.math.specs.Scalars.{geop, zero_f, one_f, sharp, ZERO, ONE, ENTIRE, has_zero, width_s, union_s, intersect_s, interpolate_s, same_operands, via_delta, via_weights, add_s, sub_s, corners, mul_s, inverse_s, div_s, four_fifths_s}
use Rattle.math.specs.Values.{Proper}
use Rattle.math.specs.Encloses.{InOrder, Tame}
use Rattle.math.proofs.Bools.{pick}
use Rattle.math.proofs.Doubles.Order.{number, le_self}
use Rattle.math.proofs.Intervals.Tests.{holds_proper, proper_holds}
use Rattle.math.proofs.Intervals.Strict.{strict_holds}
use Rattle.math.proofs.Intervals.Quotient.{inverse-strict}
use Rattle.math.proofs.Intervals.Instance.{geop_encloses}
use Rattle.math.proofs.Intervals.Proper.{geop_in_order, one_proper, union_proper}
use Rattle.model.specs.Tested as tested
use Rattle.model.specs.Tested.{fired, fine, ◌>>=◌}

-- ---- the test
pub formed_fine : (lo hi : Float) → T (le lo hi) → tested.formed lo hi ≡ fine (record { lo = lo; hi = hi })
unfolding tested.formed
formed_fine lo hi h = ap (λ (b : Bool). cond b (fine (record { lo = lo; hi = hi })) fired) (is_true (le lo hi) h)

-- an interval in order passes it
pub proper_fine : (x : Scalar) → Proper x → tested.formed x.lo x.hi ≡ fine x
proper_fine x P = formed_fine x.lo x.hi P.order

pub sharp_fine : (v : Float) → T (number v) → tested.sharp v ≡ fine (sharp v)
unfolding tested.sharp
sharp_fine v n = formed_fine v v (le_self v n)

-- ---- the operations
abbrev o : InOrder geop geop_encloses.exempt
o = geop_in_order

module _ (a b : Scalar) (A : Proper a) (B : Proper b) where
  pub add_fine : tested.add a b ≡ fine (add_s a b)
  unfolding tested.add add_s
  add_fine = proper_fine (add_s a b) (o.add_proper a b A B)

  pub sub_fine : tested.sub a b ≡ fine (sub_s a b)
  unfolding tested.sub sub_s
  sub_fine = proper_fine (sub_s a b) (o.sub_proper a b A B)

  pub mul_fine : T (not (geop_encloses.exempt a b)) → tested.mul a b ≡ fine (mul_s a b)
  unfolding tested.mul mul_s
  mul_fine n = proper_fine (mul_s a b) (o.mul_proper a b A B n)

  inverse_fine : has_zero b ≡ false → tested.inverse b ≡ fine (inverse_s b)
  unfolding tested.inverse inverse_s
  inverse_fine e = let y = proper_holds b B in proper_fine (inverse_s b) (holds_proper (inverse_s b) _ (strict_holds (inverse_s b) _ (inverse-strict b y.0 y.1 e)))

  over_fine : has_zero b ≡ false → tested.mul a (inverse_s b) ≡ fine (mul_s a (inverse_s b))
  unfolding tested.mul mul_s div_s
  over_fine e = proper_fine (mul_s a (inverse_s b)) (o.div_proper a b (mul_s a (inverse_s b)) A B (ap (λ (z : Bool). cond z None (Some (mul_s a (inverse_s b)))) e))

  pub div_fine : tested.div a b ≡ fine (div_s a b)
  unfolding tested.div div_s
  div_fine = go (has_zero b) refl
    where
      go : (z : Bool) → has_zero b ≡ z → cond z (fine None) (tested.inverse b >>= λ i. tested.mul a i >>= λ c. fine (Some c)) ≡ fine (cond z None (Some (mul_s a (inverse_s b))))
      go true e = refl
      go false e = rw (inverse_fine e, over_fine e) refl

  pub union_fine : tested.union a b ≡ fine (union_s a b)
  unfolding tested.union union_s
  union_fine = proper_fine (union_s a b) (union_proper a b A B)

-- whatever is met: `intersect` itself asks for the order before it forms the interval
pub intersect_fine : (a b : Scalar) → tested.intersect a b ≡ fine (intersect_s a b)
unfolding tested.intersect intersect_s
intersect_fine a b = go (le lo hi) (formed_fine lo hi)
  where
    lo : Float
    lo = max_f a.lo b.lo

    hi : Float
    hi = min_f a.hi b.hi

    other : Scalar
    other = cond (le (sub binary64 a.hi a.lo) (sub binary64 b.hi b.lo)) a b

    go : (z : Bool) → (T z → tested.formed lo hi ≡ fine (record { lo = lo; hi = hi })) → cond z (tested.formed lo hi) (fine other) ≡ fine (cond z (record { lo = lo; hi = hi }) other)
    go true h = h tt
    go false h = refl

-- a width is never a NaN
width_number : (x : Scalar) → T (number (width_s x))
unfolding width_s max_f is_nan
width_number x = go (sub binary64 x.hi x.lo)
  where
    go : (w : Float) → T (number (max_f w zero_f))
    go w = pick (λ (f : Float). T (number f)) (is_nan w) zero_f (cond (lt w zero_f) zero_f w) (λ _. tt) (λ n. pick (λ (f : Float). T (number f)) (lt w zero_f) zero_f w (λ _. tt) (λ _. n))

pub width_fine : (x : Scalar) → tested.width x ≡ fine (sharp (width_s x))
unfolding tested.width
width_fine x = formed_fine (width_s x) (width_s x) (le_self (width_s x) (width_number x))

pub ratio_fine : tested.four_fifths ≡ fine four_fifths_s
unfolding tested.four_fifths four_fifths_s
ratio_fine = proper_fine four_fifths_s o.ratio_proper

-- ---- interpolate
pub interpolate_fine : (a b t : Scalar) → Proper a → Proper b → Proper t → Tame geop geop_encloses a b t → tested.interpolate a b t ≡ fine (interpolate_s geop a b t)
unfolding tested.interpolate interpolate_s
interpolate_fine a b t A B P w = go (same_operands a b t)
  where
    diff : Proper (sub_s b a)
    diff = o.sub_proper b a B A

    rest : Proper (sub_s ONE t)
    rest = o.sub_proper ONE t one_proper P

    go : (z : Bool)
        → cond z (fine a) (tested.sub b a >>= λ d. tested.mul t d >>= λ m. tested.add a m >>= λ x. tested.sub ONE t >>= λ r. tested.mul r a >>= λ u. tested.mul t b >>= λ v. tested.add u v >>= λ y. tested.intersect x y)
        ≡ fine (cond z a (intersect_s (via_delta geop a b t) (via_weights geop a b t)))
    go true = refl
    go false = rw (
      sub_fine b a B A,
      mul_fine t (sub_s b a) P diff w.delta,
      add_fine a (mul_s t (sub_s b a)) A (o.mul_proper t (sub_s b a) P diff w.delta),
      sub_fine ONE t one_proper P,
      mul_fine (sub_s ONE t) a rest A w.first,
      mul_fine t b P B w.second,
      add_fine (mul_s (sub_s ONE t) a) (mul_s t b) (o.mul_proper (sub_s ONE t) a rest A w.first) (o.mul_proper t b P B w.second),
    ) (intersect_fine (via_delta geop a b t) (via_weights geop a b t))

-- ---- the test can fire: at a NaN, at a lo above its hi, and at the one product that is left out
pub nan_fires : tested.sharp nan ≡ fired
unfolding tested.sharp tested.formed le
nan_fires = refl

pub turned_fires : tested.formed one_f zero_f ≡ fired
unfolding tested.formed le
turned_fires = refl

pub clash_fires : tested.mul ENTIRE ZERO ≡ fired
unfolding tested.mul tested.formed le corners next_down lib.Ieee.neg next_up min_f is_nan lib.Ieee.mul lib.Ieee.of_bits lib.Ieee.to_bits max_f
clash_fires = refl
