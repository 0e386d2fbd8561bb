-- `usable` equals its definition.
use lib.Ieee.{of_bits, neg, nan_bits}
use Rattle.math.proofs.Bools.{and_yes, and_no}
use Rattle.geometry.proofs.call.usable.Goals as goal

pub float_from_bits-most : goal.float_from_bits-most
float_from_bits-most c = unfold nan_bits in tt

pub returns-then-most-x : goal.returns-then-most-x
unfolding of_bits neg
returns-then-most-x c = and_yes _ _ c.if-most-x.true

pub returns-else-most-x : goal.returns-else-most-x
unfolding of_bits neg
returns-else-most-x c = and_no _ _ c.if-most-x.false
