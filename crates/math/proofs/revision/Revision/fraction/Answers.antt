-- `fraction` equals its definition: 1 - alpha is what `sub` ensures.
use lib.Ieee.{of_bits}
use Rattle.math.specs.Factors.{fraction_of}
use Rattle.math.proofs.revision.Revision.fraction.Goals as goal

pub returns : goal.returns
unfolding fraction_of of_bits
returns g c = λ i. record { alpha = c.args.alpha; beta = c.sub-beta.ensures i }
