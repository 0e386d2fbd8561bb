-- `mul` in revision 1: the outer neighbours of what `product` ensures, which are numbers.
use mathlib.Core.Path.{ap, ◌∙◌}
use lib.Ieee.{is_nan}
use Rattle.math.specs.Neighbours.{next_up, next_down}
use Rattle.math.specs.Scalars.{mul_s}
use Rattle.math.specs.declared.bounds.Bounds.{Bounds}
use Rattle.math.proofs.Picks.{corners-lower, corners-upper}
use Rattle.math.proofs.revision.FirstRevision.mul.Goals as goal

pub down-requires : goal.down-requires
down-requires c = ap (λ (s : Bounds). is_nan s.lo) c.product-c.ensures ∙ corners-lower _ _

pub up-requires : goal.up-requires
up-requires c = ap (λ (s : Bounds). is_nan s.hi) c.product-c.ensures ∙ corners-upper _ _

pub returns : goal.returns
unfolding mul_s
returns c =
    let lo = c.down.ensures ∙ ap (λ (s : Bounds). next_down s.lo) c.product-c.ensures in
    let hi = c.up.ensures ∙ ap (λ (s : Bounds). next_up s.hi) c.product-c.ensures in
    λ i. record { lo = lo i; hi = hi i }
