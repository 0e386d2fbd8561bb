-- `inverse` equals its definition: the two outer neighbours of the two reciprocals.
use lib.Ieee.{of_bits}
use Rattle.math.specs.Scalars.{inverse_s}
use Rattle.math.proofs.scalars.Scalar.inverse.Goals as goal

pub returns : goal.returns
unfolding inverse_s of_bits
returns c = λ i. record { lo = c.next_down.ensures i; hi = c.next_up.ensures i }
