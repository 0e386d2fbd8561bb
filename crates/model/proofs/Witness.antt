-- Exact hits there are, at 1/2 and at the domain's end: the calls of the scope's cases P1, a curve of degree 0, and P6, one of degree 1, are hit wherever they have a span. Assumes nothing.
use Prim.Native.Nat.{ℕ, zero, suc, ◌+◌, ◌*◌, ◌<◌}
use mathlib.Core.Path.{◌≡◌, refl, sym, ap, ◌∙◌, subst}
use native.Mathlib.Omega.{arith}
use lib.Ieee.{of_bits, lt}
use mathlib.Core.List.{[], ◌∷◌}
use Rattle.solver.proofs.Ring.{by_rep, read}
use Rattle.exact.specs.Rational.{ℚ, ◌*ℚ◌, 0ℚ, 1ℚ, invℚ, ◌÷◌, ◌≤ℚ◌, ◌<ℚ◌, lerp}
use Rattle.exact.specs.Spline.{before, closing, drawn}
use Rattle.exact.proofs.Field.{ℚring, *ℚ_1}
use Rattle.exact.proofs.Order.{le_refl, inv_unique}
use Rattle.exact.proofs.Embed.{÷_eq, ÷_nn, ÷_lt, ÷_one}
use Rattle.math.specs.Values.{value, Holds}
use Rattle.math.proofs.Doubles.Values.{value_zero, lt→value}
use Rattle.model.specs.Layout.{scalar_at}
use Rattle.model.specs.Call.{Call}
use Rattle.model.specs.Enclosure.{knot_values, SpanOf, HitAt}
use Rattle.model.proofs.Rows.{call_of}
use Rattle.model.proofs.Texts.{single, twice}

-- What is divided by a weight that is 1 stays.
over_one : (x w : ℚ) → w ≡ 1ℚ → x *ℚ invℚ w ≡ x
over_one x w e = ap (λ (v : ℚ). x *ℚ invℚ v) e ∙ ap (λ (v : ℚ). x *ℚ v) (inv_unique 1ℚ 1ℚ (*ℚ_1 1ℚ)) ∙ *ℚ_1 x

-- ---- degree 0

-- P1: the point (3, 5) of weight 1 on the domain from 0 to 1, and the box that is that point.
abbrev pub point-call : Call
point-call = call_of 1 (single 1 0x4008000000000000)

-- the lower bound of interval k of point i
abbrev low : ℕ → ℕ → ℚ
low k i = value (scalar_at point-call.curve.points (3 * i + k)).lo

points-hold : (k i : ℕ) → k < 3 → i < 1 → Holds (scalar_at point-call.curve.points (3 * i + k)) (low k i)
unfolding of_bits
points-hold zero zero _ _ = record { low = le_refl _; high = le_refl _ }
points-hold (suc zero) zero _ _ = record { low = le_refl _; high = le_refl _ }
points-hold (suc (suc zero)) zero _ _ = record { low = le_refl _; high = le_refl _ }
points-hold (suc (suc (suc k))) zero h _ = absurd (omega arith)
points-hold k (suc i) _ h = absurd (omega arith)

box_holds : (k : ℕ) → k < 2 → Holds (scalar_at point-call.box k) (low k 0)
unfolding of_bits
box_holds zero _ = record { low = le_refl _; high = le_refl _ }
box_holds (suc zero) _ = record { low = le_refl _; high = le_refl _ }
box_holds (suc (suc k)) h = absurd (omega arith)

weight_one : low 2 0 ≡ 1ℚ
unfolding of_bits value
weight_one = ÷_eq _ 1 _ 1 (omega arith) (omega arith) (omega arith) ∙ ÷_one

-- It is hit at each t that has a span,
pub point-hit : (t : ℚ) → SpanOf point-call t 0 → HitAt point-call t
unfolding drawn
point-hit t s = record {
  controls = low;
  place = λ k. low k 0;
  chosen = record { inside = points-hold };
  in_box = record { inside = box_holds };
  passes = record { last = λ k. low k 0; rounds = record { k = 0; span = s; there = λ a. refl }; quotients = λ k _. over_one (low k 0) (low 2 0) weight_one };
}

knots_rise : knot_values point-call.curve.knots 0 <ℚ knot_values point-call.curve.knots 1
unfolding of_bits lt
knots_rise = lt→value _ _ _ _ _ _ tt

-- at the domain's end,
pub end_hit : HitAt point-call (knot_values point-call.curve.knots 1)
end_hit = point-hit _ (closing (record { first = omega arith; last = omega arith; wide = knots_rise; stop = refl; here = refl }))

knot_zero : knot_values point-call.curve.knots 0 ≡ 0ℚ
unfolding of_bits
knot_zero = value_zero _ _

knot_one : knot_values point-call.curve.knots 1 ≡ 1ℚ
unfolding of_bits value
knot_one = ÷_eq _ 1 _ 1 (omega arith) (omega arith) (omega arith) ∙ ÷_one

-- and at 1/2, in its middle.
pub half-hit : HitAt point-call (1 ÷ 2)
half-hit = point-hit (1 ÷ 2) (before (record {
  first = omega arith;
  last = omega arith;
  from = subst (λ (z : ℚ). z ≤ℚ 1 ÷ 2) (sym knot_zero) (÷_nn 1 2);
  upto = subst (λ (z : ℚ). 1 ÷ 2 <ℚ z) (÷_one ∙ sym knot_one) (÷_lt 1 1 2 1 (omega arith) (omega arith) (omega arith));
}))

-- ---- degree 1

-- P6: both points (2, 0), of weight 1, on the domain from 0 to 1, and the box that is that point.
abbrev pub line-call : Call
line-call = call_of 1 twice

-- the lower bound of interval k of point i
abbrev low_line : ℕ → ℕ → ℚ
low_line k i = value (scalar_at line-call.curve.points (3 * i + k)).lo

line_holds : (k i : ℕ) → k < 3 → i < 2 → Holds (scalar_at line-call.curve.points (3 * i + k)) (low_line k i)
unfolding of_bits
line_holds zero zero _ _ = record { low = le_refl _; high = le_refl _ }
line_holds (suc zero) zero _ _ = record { low = le_refl _; high = le_refl _ }
line_holds (suc (suc zero)) zero _ _ = record { low = le_refl _; high = le_refl _ }
line_holds (suc (suc (suc k))) zero h _ = absurd (omega arith)
line_holds zero (suc zero) _ _ = record { low = le_refl _; high = le_refl _ }
line_holds (suc zero) (suc zero) _ _ = record { low = le_refl _; high = le_refl _ }
line_holds (suc (suc zero)) (suc zero) _ _ = record { low = le_refl _; high = le_refl _ }
line_holds (suc (suc (suc k))) (suc zero) h _ = absurd (omega arith)
line_holds k (suc (suc i)) _ h = absurd (omega arith)

line-box : (k : ℕ) → k < 2 → Holds (scalar_at line-call.box k) (low_line k 0)
unfolding of_bits
line-box zero _ = record { low = le_refl _; high = le_refl _ }
line-box (suc zero) _ = record { low = le_refl _; high = le_refl _ }
line-box (suc (suc k)) h = absurd (omega arith)

-- The two points are one.
same_points : (k : ℕ) → k < 3 → low_line k 1 ≡ low_line k 0
unfolding of_bits
same_points zero _ = refl
same_points (suc zero) _ = refl
same_points (suc (suc zero)) _ = refl
same_points (suc (suc (suc k))) h = absurd (omega arith)

line-weight : low_line 2 0 ≡ 1ℚ
unfolding of_bits value
line-weight = ÷_eq _ 1 _ 1 (omega arith) (omega arith) (omega arith) ∙ ÷_one

between_same : (a x y : ℚ) → y ≡ x → lerp a x y ≡ x
unfolding lerp
between_same a x y e = ap (lerp a x) e ∙ by_rep ℚring (a ∷ x ∷ []) (search read depth 9) (search read depth 9) tt

-- What the round makes of axis k at t.
abbrev rounded : ℚ → ℕ → ℚ
rounded t k = drawn (knot_values line-call.curve.knots) 1 t (low_line k) 1 1

-- It is the points' own value.
rounded_is : (t : ℚ) (k : ℕ) → k < 3 → rounded t k ≡ low_line k 0
unfolding drawn
rounded_is t k h = between_same _ _ _ (same_points k h)

-- It is hit at each t that has a span, which is number 1,
pub line-hit : (t : ℚ) → SpanOf line-call t 1 → HitAt line-call t
line-hit t s = record {
  controls = low_line;
  place = λ k. low_line k 0;
  chosen = record { inside = line_holds };
  in_box = record { inside = line-box };
  passes = record {
    last = rounded t;
    rounds = record { k = 1; span = s; there = λ a. refl };
    quotients = λ k h. over_one (rounded t k) (rounded t 2) (rounded_is t 2 (omega arith) ∙ line-weight) ∙ rounded_is t k (omega arith);
  };
}

line_zero : knot_values line-call.curve.knots 1 ≡ 0ℚ
unfolding of_bits
line_zero = value_zero _ _

line_one : knot_values line-call.curve.knots 2 ≡ 1ℚ
unfolding of_bits value
line_one = ÷_eq _ 1 _ 1 (omega arith) (omega arith) (omega arith) ∙ ÷_one

-- and so at 1/2, in its middle.
pub line-half-hit : HitAt line-call (1 ÷ 2)
line-half-hit = line-hit (1 ÷ 2) (before (record {
  first = omega arith;
  last = omega arith;
  from = subst (λ (z : ℚ). z ≤ℚ 1 ÷ 2) (sym line_zero) (÷_nn 1 2);
  upto = subst (λ (z : ℚ). 1 ÷ 2 <ℚ z) (÷_one ∙ sym line_one) (÷_lt 1 1 2 1 (omega arith) (omega arith) (omega arith));
}))
