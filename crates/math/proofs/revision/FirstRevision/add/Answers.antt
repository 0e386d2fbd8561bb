-- `add` in revision 1: the outer neighbours of the sums.
use Rattle.math.specs.Scalars.{add_s}
use Rattle.math.proofs.revision.FirstRevision.add.Goals as goal

pub returns : goal.returns
unfolding add_s
returns c = λ i. record { lo = c.next_down.ensures i; hi = c.next_up.ensures i }
