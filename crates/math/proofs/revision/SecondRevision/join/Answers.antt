-- `join` in revision 2: what `join` of the bounds gives is the union.
use Rattle.math.specs.Bounds.{join_b}
use Rattle.math.specs.Scalars.{union_s}
use Rattle.math.proofs.revision.SecondRevision.join.Goals as goal

pub returns : goal.returns
unfolding union_s join_b
returns c p q = (tt, λ i. record { lo = (c.join.ensures i).lo; hi = (c.join.ensures i).hi })
