-- `times` in revision 1: the outer neighbours of what `corners` gives.
use mathlib.Core.Path.{◌∙◌}
use Rattle.math.specs.Bounds.{widen_b}
use Rattle.math.proofs.revision.FirstRevision.times.Goals as goal

pub down-requires : goal.down-requires
down-requires c = c.corners-c.ensures.low

pub up-requires : goal.up-requires
up-requires c = c.corners-c.ensures.high

pub returns : goal.returns
unfolding widen_b
returns c = (λ i. record { lo = c.down.ensures i; hi = c.up.ensures i }) ∙ c.corners-c.ensures.widened
