-- `is_subset_of` equals its definition: the second test where the first passed, and else the first.
use Rattle.math.proofs.Bools.{and_yes, and_no}
use Rattle.math.proofs.scalars.Scalar.is_subset_of.Goals as goal

pub returns-then-other-self : goal.returns-then-other-self
returns-then-other-self c = and_yes _ _ c.if-other-self.true

pub returns-else-other-self : goal.returns-else-other-self
returns-else-other-self c = and_no _ _ c.if-other-self.false
