-- `union` equals its definition: the lesser lo and the greater hi.
use Rattle.math.specs.Scalars.{union_s}
use Rattle.math.proofs.scalars.Scalar.union.Goals as goal

pub returns : goal.returns
unfolding union_s
returns c = λ i. record { lo = c.min.ensures i; hi = c.max.ensures i }
