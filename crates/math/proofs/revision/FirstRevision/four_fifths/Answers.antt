-- `four_fifths` in revision 1: the outer neighbours of the quotient.
use lib.Ieee.{of_bits, of_int}
use Rattle.math.specs.Scalars.{four_fifths_s}
use Rattle.math.proofs.revision.FirstRevision.four_fifths.Goals as goal

pub returns : goal.returns
unfolding four_fifths_s of_bits of_int
returns c = λ i. record { lo = c.next_down.ensures i; hi = c.next_up.ensures i }
