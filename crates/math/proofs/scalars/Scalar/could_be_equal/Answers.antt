-- `could_be_equal` equals its definition: the second test where the first passed, and else the first.
use Rattle.math.proofs.Bools.{and_yes, and_no}
use Rattle.math.proofs.scalars.Scalar.could_be_equal.Goals as goal

pub returns-then-self-other : goal.returns-then-self-other
returns-then-self-other c = and_yes _ _ c.if-self-other.true

pub returns-else-self-other : goal.returns-else-self-other
returns-else-self-other c = and_no _ _ c.if-self-other.false
