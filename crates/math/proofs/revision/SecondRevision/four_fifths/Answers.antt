-- `four_fifths` equals its definition: the quotient of 4 and 5 rounded outward.
use lib.Ieee.{of_bits}
use Rattle.math.specs.Tight.{four_fifths_t}
use Rattle.math.proofs.revision.SecondRevision.four_fifths.Goals as goal

pub returns : goal.returns
unfolding four_fifths_t of_bits
returns c = λ i. record { lo = c.quotient_down.ensures i; hi = c.quotient_up.ensures i }
