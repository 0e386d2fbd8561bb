-- `width` equals its definition: the greater of the difference and 0.0, where the code's 0.0 is the definition's.
use lib.Ieee.{of_bits}
use Rattle.math.specs.Scalars.{width_s}
use Rattle.math.proofs.scalars.Scalar.width.Goals as goal

pub returns : goal.returns
unfolding width_s of_bits
returns c = λ i. record { lo = c.max-w.ensures i; hi = c.max-w.ensures i }
