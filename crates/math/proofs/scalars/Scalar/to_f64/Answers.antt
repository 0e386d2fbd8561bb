-- `to_f64` equals its definition: half the sum of the bounds, where the code's 2.0 is the definition's.
use mathlib.Core.Path.{refl}
use lib.Ieee.{of_bits}
use Rattle.math.specs.Scalars.{middle}
use Rattle.math.proofs.scalars.Scalar.to_f64.Goals as goal

pub returns : goal.returns
unfolding middle of_bits
returns c = refl
