-- `mul` equals its definition: its two bounds are what `low_of` ensures.
use mathlib.Core.Path.{ap}
use lib.Ieee.{neg}
use Rattle.math.specs.Tight.{mul_t}
use Rattle.math.proofs.revision.SecondRevision.mul.Goals as goal

pub returns : goal.returns
unfolding mul_t
returns c = λ i. record { lo = c.low_of-lo.ensures i; hi = ap neg c.low_of-hi.ensures i }
