-- `join` equals its definition: the lesser lo and the greater hi.
use Rattle.math.specs.Bounds.{join_b}
use Rattle.math.proofs.bounds.Bounds.join.Goals as goal

pub returns : goal.returns
unfolding join_b
returns c = λ i. record { lo = c.min.ensures i; hi = c.max.ensures i }
