-- `product_down` equals its definition.
use mathlib.Core.Path.{sym, ◌∙◌}
use mathlib.Core.Bool.{◌||◌}
use lib.Ieee.{binary64, eq, mul}
use Rattle.math.specs.Scalars.{zero_f}
use Rattle.math.proofs.Bools.{and_both}
use Rattle.math.proofs.Tight.Flat.{flat-product}
use Rattle.math.proofs.Tight.Sides.{product-chosen, moved-or-stayed}
use Rattle.math.proofs.directed.product_down.Goals as goal

pub returns-then-is_flat : goal.returns-then-is_flat
returns-then-is_flat c =
    let a = c.args in
    let both = and_both _ _ (sym c.both_finite.ensures ∙ c.if-not-both_finite.false) in
    flat-product a.a a.b both.0 both.1 (and_both (eq (mul binary64 a.a a.b) zero_f) (eq a.a zero_f || eq a.b zero_f) (sym c.is_flat.ensures ∙ c.if-is_flat.true)).1

pub returns : goal.returns
returns c =
    let a = c.args in
    let both = and_both _ _ (sym c.both_finite.ensures ∙ c.if-not-both_finite.false) in
    c.stepped.ensures ∙ moved-or-stayed _ _ _ c.above_product.ensures ∙ product-chosen a.a a.b both.0 both.1
