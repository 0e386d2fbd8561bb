-- `same_operands` equals its definition, from what its two calls ensure: the second test where the first passed, and else the first.
use mathlib.Core.Path.{sym, ◌∙◌}
use Rattle.math.proofs.Bools.{and_yes, and_no}
use Rattle.math.proofs.scalars.Scalar.same_operands.Goals as goal

pub returns-then-is_exactly : goal.returns-then-is_exactly
returns-then-is_exactly c = c.in_unit.ensures ∙ and_yes _ _ (sym c.is_exactly.ensures ∙ c.if-is_exactly.true)

pub returns-else-is_exactly : goal.returns-else-is_exactly
returns-else-is_exactly c = c.is_exactly.ensures ∙ and_no _ _ (sym c.is_exactly.ensures ∙ c.if-is_exactly.false)
