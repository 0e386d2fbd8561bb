-- `widen` equals its definition: the two outer neighbours.
use Rattle.math.specs.Bounds.{widen_b}
use Rattle.math.proofs.bounds.Bounds.widen.Goals as goal

pub returns : goal.returns
unfolding widen_b
returns c = λ i. record { lo = c.next_down.ensures i; hi = c.next_up.ensures i }
