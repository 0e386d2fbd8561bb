-- `difference` equals its definition: the two differences.
use mathlib.Core.Path.{refl}
use Rattle.math.specs.Bounds.{difference_b}
use Rattle.math.proofs.bounds.Bounds.difference.Goals as goal

pub returns : goal.returns
unfolding difference_b
returns c = refl
