-- `positive_zero` equals its definition: one test.
use lib.Ieee.{of_bits}
use Rattle.math.proofs.Bools.{pick_yes, pick_no}
use Rattle.model.specs.Subdivide.{positive_zero}
use Rattle.geometry.proofs.contains.positive_zero.Goals as goal

pub returns-then-x : goal.returns-then-x
unfolding positive_zero of_bits
returns-then-x c = pick_yes _ _ _ c.if-x.true

pub returns-else-x : goal.returns-else-x
unfolding positive_zero of_bits
returns-else-x c = pick_no _ _ _ c.if-x.false
