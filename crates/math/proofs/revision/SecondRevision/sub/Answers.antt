-- `sub` equals its definition: the differences rounded outward.
use Rattle.math.specs.Tight.{sub_t}
use Rattle.math.proofs.revision.SecondRevision.sub.Goals as goal

pub returns : goal.returns
unfolding sub_t
returns c = λ i. record { lo = c.sum_down.ensures i; hi = c.sum_up.ensures i }
