-- What `corners` gives widens to the product: the short pick, from numbers, with the operands changed over, or what `product` ensures.
use mathlib.Core.Path.{refl, sym, ap, ◌∙◌}
use lib.Ieee.{is_nan}
use Rattle.math.specs.Scalars.{mul_s}
use Rattle.math.specs.Bounds.{widen_b}
use Rattle.math.specs.Factors.{is_factor, in_order}
use Rattle.math.specs.declared.bounds.Bounds.{Bounds}
use mathlib.Core.Path.{◌≡◌}
use mathlib.Core.Bool.{true}
use Rattle.math.proofs.Picks.{lesser_number, greater_number, lesser-min, greater-max, corners-lower, corners-upper}
use Rattle.math.proofs.Intervals.Factors.{scale_low, scale_high, scale_is, swapped}
use Rattle.math.proofs.scalars.Scalar.corners.Goals as goal

pub returns-then-in_order : goal.returns-then-in_order
unfolding widen_b
returns-then-in_order c =
    let passed : let k = c.args in (is_factor k.other ≡ true) × (in_order k.self ≡ true) =
    (sym c.is_factor.ensures ∙ c.if-is_factor.true, sym c.in_order.ensures ∙ c.if-in_order.true) in
    let k = c.args in
    let t = k.other in
    let x = k.self in
    let f = passed.0 in
    let o = passed.1 in
    record {
      low = ap is_nan c.lesser.ensures ∙ lesser_number _ _ (scale_low t x f o);
      high = ap is_nan c.greater.ensures ∙ greater_number _ _ (scale_high t x f o);
      widened =
          scale_is t x f o c.lesser.result c.greater.result _ _ (c.lesser.ensures ∙ lesser-min _ _ (scale_low t x f o))
          (c.greater.ensures ∙ greater-max _ _ (scale_high t x f o)) refl refl ∙ swapped t x;
    }

pub returns : goal.returns
unfolding widen_b mul_s
returns c =
    record {
      low = ap (λ (s : Bounds). is_nan s.lo) c.product.ensures ∙ corners-lower _ _;
      high = ap (λ (s : Bounds). is_nan s.hi) c.product.ensures ∙ corners-upper _ _;
      widened = ap widen_b c.product.ensures;
    }
