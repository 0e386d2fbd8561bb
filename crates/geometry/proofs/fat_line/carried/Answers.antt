-- `carried` equals its definition: the greater of its two widths.
use mathlib.Core.Path.{◌∙◌}
use Rattle.math.specs.Picks.{max_f}
use Rattle.model.specs.Contains.{carried}
use Rattle.geometry.proofs.fat_line.carried.Goals as goal

pub returns : goal.returns
unfolding carried
returns c = c.max.ensures ∙ (λ i. max_f (c.carried_width.ensures i) (c.box_width.ensures i))
