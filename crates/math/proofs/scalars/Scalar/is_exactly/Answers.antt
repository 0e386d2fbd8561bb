-- `is_exactly` equals its definition, from what its two calls ensure: the second test where the first passed, and else the first.
use mathlib.Core.Path.{sym, ◌∙◌}
use Rattle.math.proofs.Bools.{and_yes, and_no}
use Rattle.math.proofs.scalars.Scalar.is_exactly.Goals as goal

pub returns-then-is_subset_of : goal.returns-then-is_subset_of
returns-then-is_subset_of c = c.is_subset_of-then-is_subset_of.ensures ∙ and_yes _ _ (sym c.is_subset_of.ensures ∙ c.if-is_subset_of.true)

pub returns-else-is_subset_of : goal.returns-else-is_subset_of
returns-else-is_subset_of c = c.is_subset_of.ensures ∙ and_no _ _ (sym c.is_subset_of.ensures ∙ c.if-is_subset_of.false)
