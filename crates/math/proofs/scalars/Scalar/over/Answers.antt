-- `over` equals its definition, arm by arm.
use mathlib.Core.Path.{sym, ◌∙◌}
use Rattle.math.specs.Bounds.{over_s}
use Rattle.math.proofs.Bools.{pick_yes, pick_no}
use Rattle.math.proofs.scalars.Scalar.over.Goals as goal

pub returns-then-has_zero : goal.returns-then-has_zero
unfolding over_s
returns-then-has_zero c = c.entire.ensures ∙ pick_yes _ _ _ (sym c.has_zero.ensures ∙ c.if-has_zero.true)

pub returns : goal.returns
unfolding over_s
returns c = c.times.ensures ∙ pick_no _ _ _ (sym c.has_zero.ensures ∙ c.if-has_zero.false)
