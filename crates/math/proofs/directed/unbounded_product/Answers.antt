-- `unbounded_product` equals its definition: a product that is a number stays, and so does one of a NaN; what is left is zero times an infinity.
use mathlib.Core.Path.{sym, ◌∙◌}
use lib.Ieee.{of_bits}
use Rattle.math.proofs.Tight.Sides.{at_number, at_nan_left, at_nan_right, at_zero}
use Rattle.math.proofs.directed.unbounded_product.Goals as goal
use Rattle.math.proofs.directed.unbounded_product.Goals.{then-not-is_nan-via-then-not-is_nan, then-not-is_nan-via-else-not-is_nan+then-is_nan, then-not-is_nan-via-else-not-is_nan+else-is_nan+then-is_nan-2}

pub returns-then-not-is_nan : goal.returns-then-not-is_nan
returns-then-not-is_nan c =
    let a = c.args in
    elim c.then-not-is_nan.branch [
      | then-not-is_nan-via-then-not-is_nan w ↦ at_number a.a a.b c.requires (sym c.is_nan.ensures.value ∙ w.if-not-is_nan.true)
      | then-not-is_nan-via-else-not-is_nan+then-is_nan w ↦ at_nan_left a.a a.b (sym w.is_nan-else-not-is_nan.ensures.value ∙ w.if-is_nan.true)
      | then-not-is_nan-via-else-not-is_nan+else-is_nan+then-is_nan-2 w ↦ at_nan_right a.a a.b (sym w.is_nan-else-is_nan.ensures.value ∙ w.if-is_nan-2.true)
    ]

pub returns : goal.returns
unfolding of_bits
returns c =
    at_zero c.args.a c.args.b c.requires (sym c.is_nan.ensures.value ∙ c.if-not-is_nan.false)
    (sym c.is_nan-else-not-is_nan.ensures.value ∙ c.if-is_nan.false) (sym c.is_nan-else-is_nan.ensures.value ∙ c.if-is_nan-2.false)
