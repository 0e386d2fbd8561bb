-- `distance` equals its definition: the root of the square.
use mathlib.Core.Path.{ap, ◌∙◌}
use Rattle.math.specs.Root.{sqrt_f}
use Rattle.geometry.proofs.fat_line.Sizes.{distance_is}
use Rattle.geometry.proofs.fat_line.distance.Goals as goal

pub returns : goal.returns
returns c = c.sqrt.ensures ∙ ap sqrt_f c.squared.ensures ∙ distance_is _ _
