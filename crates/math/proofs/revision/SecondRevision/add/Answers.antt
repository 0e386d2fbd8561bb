-- `add` equals its definition: the sums rounded outward.
use Rattle.math.specs.Tight.{add_t}
use Rattle.math.proofs.revision.SecondRevision.add.Goals as goal

pub returns : goal.returns
unfolding add_t
returns c = λ i. record { lo = c.sum_down.ensures i; hi = c.sum_up.ensures i }
