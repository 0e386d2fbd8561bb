-- `whole` equals its definition: the patterns of the two constants are the infinities'.
use mathlib.Core.Path.{refl}
use lib.Ieee.{of_bits}
use Rattle.math.proofs.bounds.Bounds.whole.Goals as goal

pub returns : goal.returns
unfolding of_bits
returns c = refl
