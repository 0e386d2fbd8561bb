-- `take` equals its definition: the union of the band and of what the point lies off.
use mathlib.Core.Path.{ap, ◌∙◌}
use Rattle.math.specs.Scalars.{union_s}
use Rattle.geometry.specs.Zeros.{taken}
use Rattle.geometry.proofs.zeros.take.Goals as goal

pub returns : goal.returns
unfolding taken
returns ty c =
    let l = c.args.l in
    let e = c.union-band.ensures ∙ ap (union_s l.band) c.off.ensures in
    λ i. record { x0 = l.x0; y0 = l.y0; last = l.last; slope = l.slope; band = e i }
