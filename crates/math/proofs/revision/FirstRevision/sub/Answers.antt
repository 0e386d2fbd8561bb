-- `sub` in revision 1: the outer neighbours of the differences.
use Rattle.math.specs.Scalars.{sub_s}
use Rattle.math.proofs.revision.FirstRevision.sub.Goals as goal

pub returns : goal.returns
unfolding sub_s
returns c = λ i. record { lo = c.next_down.ensures i; hi = c.next_up.ensures i }
