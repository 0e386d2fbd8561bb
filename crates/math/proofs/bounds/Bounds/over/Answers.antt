-- `over` equals its definition, arm by arm.
use mathlib.Core.Path.{sym, ◌∙◌}
use Rattle.math.specs.Bounds.{over_b}
use Rattle.math.proofs.Bools.{pick_yes, pick_no}
use Rattle.math.proofs.bounds.Bounds.over.Goals as goal

pub returns-then-has_zero : goal.returns-then-has_zero
unfolding over_b
returns-then-has_zero c = c.whole.ensures ∙ pick_yes _ _ _ (sym c.has_zero.ensures ∙ c.if-has_zero.true)

pub returns : goal.returns
unfolding over_b
returns c = c.product.ensures ∙ pick_no _ _ _ (sym c.has_zero.ensures ∙ c.if-has_zero.false)
