-- Intervals in order: what an arithmetic that encloses makes of such intervals is in order, and so are their unions and meetings and the points between them. Assumes nothing.
use mathlib.Core.Path.{◌≡◌, refl}
use mathlib.Core.Bool.{true, false, cond}
use lib.Dec.{T}
use lib.Ieee.{Float, nan, inf, fin, binary64, sub, lt, le}
use Rattle.exact.specs.Rational.{0ℚ}
use Rattle.math.specs.Picks.{min_f, max_f}
use Rattle.math.specs.declared.scalars.Scalar.{Scalar}
use Rattle.math.specs.Divided.{Divided}
use Rattle.std.specs.Prelude.{Some, None}
use Rattle.math.specs.Scalars.{Arithmetic, geop, ZERO, ONE, ENTIRE, union_s, intersect_s, value_or, same_operands, via_delta, via_weights, interpolate_s}
use Rattle.math.specs.Values.{Proper}
use Rattle.math.specs.Encloses.{Encloses, InOrder, Tame, is_moderate}
use Rattle.math.proofs.Bools.{pick}
use Rattle.math.proofs.Doubles.Least.{min-either, max_either}
use Rattle.math.proofs.Intervals.Tests.{zero_holds, one_holds, entire_holds, union_left, holds_proper, proper_holds}
use Rattle.math.proofs.Intervals.Instance.{geop_encloses}

-- ---- what every arithmetic that encloses has, and the Rust's with it
pub in_order_lem : (ar : Arithmetic) (E : Encloses ar) → InOrder ar E.exempt
in_order_lem ar E = record {
  add_proper = λ a b A B. let x = proper_holds a A in let y = proper_holds b B in holds_proper _ _ (E.add_holds a b x.0 y.0 x.1 y.1);
  sub_proper = λ a b A B. let x = proper_holds a A in let y = proper_holds b B in holds_proper _ _ (E.sub_holds a b x.0 y.0 x.1 y.1);
  mul_proper = λ a b A B n. let x = proper_holds a A in let y = proper_holds b B in holds_proper _ _ (E.mul_holds a b x.0 y.0 n x.1 y.1);
  div_proper = λ a b c A B e. let x = proper_holds a A in let y = proper_holds b B in holds_proper _ _ (E.div_holds a b c x.0 y.0 e x.1 y.1);
  ratio_proper = holds_proper _ _ E.ratio_holds;
}

pub geop_in_order : InOrder geop geop_encloses.exempt
geop_in_order = in_order_lem geop geop_encloses

-- ---- intervals that no operation made
pub zero_proper : Proper ZERO
zero_proper = holds_proper ZERO _ zero_holds

pub one_proper : Proper ONE
one_proper = holds_proper ONE _ one_holds

pub entire_proper : Proper ENTIRE
entire_proper = holds_proper ENTIRE 0ℚ (entire_holds 0ℚ)

-- a lo of moderate size, and a hi that is not below it
pub moderate_proper : (x : Scalar) → T (is_moderate x.lo) → T (le x.lo x.hi) → Proper x
moderate_proper x m o = go x.lo x.hi m o
  where
    go : (l h : Float) → T (is_moderate l) → T (le l h) → Proper (record { lo = l; hi = h })
    go nan h m o = unfold le in absurd o
    go (inf true) h m o = unfold le in absurd m
    go (inf false) h m o = unfold le in absurd m
    go (fin s n e) nan m o = unfold le in absurd o
    go (fin s n e) (inf true) m o = unfold le in absurd o
    go (fin s n e) (inf false) m o = record { order = o; low = unfold lt in tt; high = unfold lt in tt }
    go (fin s n e) (fin s' n' e') m o = record { order = o; low = unfold lt in tt; high = unfold lt in tt }

-- ---- union, and the meeting: of two that do not meet it is one of them
pub union_proper : (a b : Scalar) → Proper a → Proper b → Proper (union_s a b)
union_proper a b A B = let x = proper_holds a A in holds_proper (union_s a b) x.0 (union_left a b x.0 x.1)

pub intersect_proper : (a b : Scalar) → Proper a → Proper b → Proper (intersect_s a b)
unfolding intersect_s
intersect_proper a b A B =
    let lo = max_f a.lo b.lo in
    let hi = min_f a.hi b.hi in
    pick Proper (le lo hi) (record { lo = lo; hi = hi }) (cond (le (sub binary64 a.hi a.lo) (sub binary64 b.hi b.lo)) a b)
    (λ o. record { order = o; low = max_either (λ (f : Float). T (lt f (inf false))) a.lo b.lo A.low B.low; high = min-either (λ (f : Float). T (lt (inf true) f)) a.hi b.hi A.high B.high })
    (λ _. pick Proper (le (sub binary64 a.hi a.lo) (sub binary64 b.hi b.lo)) a b (λ _. A) (λ _. B))

module _ (ar : Arithmetic) (E : Encloses ar) where
  -- a quotient, or something else in order
  pub quotient_proper : (a b d : Scalar) → Proper a → Proper b → Proper d → Proper (value_or (ar.div a b) d)
  unfolding value_or
  quotient_proper a b d A B D = go (ar.div a b) refl
    where
      go : (r : Divided) → ar.div a b ≡ r → Proper (value_or r d)
      go (Some c) e = (in_order_lem ar E).div_proper a b c A B e
      go None e = D

  -- a point between two
  module _ (a b t : Scalar) (A : Proper a) (B : Proper b) (P : Proper t) (w : Tame ar E a b t) where
    delta_proper : Proper (via_delta ar a b t)
    delta_proper = let o = in_order_lem ar E in o.add_proper a (ar.mul t (ar.sub b a)) A (o.mul_proper t (ar.sub b a) P (o.sub_proper b a B A) w.delta)

    weights_proper : Proper (via_weights ar a b t)
    weights_proper =
        let o = in_order_lem ar E in
        o.add_proper (ar.mul (ar.sub ONE t) a) (ar.mul t b) (o.mul_proper (ar.sub ONE t) a (o.sub_proper ONE t one_proper P) A w.first) (o.mul_proper t b P B w.second)

    pub interpolate_proper : Proper (interpolate_s ar a b t)
    unfolding interpolate_s
    interpolate_proper =
        pick Proper (same_operands a b t) a (intersect_s (via_delta ar a b t) (via_weights ar a b t)) (λ _. A)
        (λ _. intersect_proper (via_delta ar a b t) (via_weights ar a b t) delta_proper weights_proper)
