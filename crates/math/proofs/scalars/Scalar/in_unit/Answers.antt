-- `in_unit` equals its definition: the second test where the first passed, and else the first.
use lib.Ieee.{of_bits}
use Rattle.math.proofs.Bools.{and_yes, and_no}
use Rattle.math.proofs.scalars.Scalar.in_unit.Goals as goal

pub returns-then-self : goal.returns-then-self
unfolding of_bits
returns-then-self c = and_yes _ _ c.if-self.true

pub returns-else-self : goal.returns-else-self
unfolding of_bits
returns-else-self c = and_no _ _ c.if-self.false
