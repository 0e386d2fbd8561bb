-- `pick` equals its definition: the lesser lo and the greater hi.
use Rattle.math.specs.Bounds.{pick_b}
use Rattle.math.proofs.bounds.Bounds.pick.Goals as goal

pub returns : goal.returns
unfolding pick_b
returns c = λ i. record { lo = c.lesser.ensures i; hi = c.greater.ensures i }
