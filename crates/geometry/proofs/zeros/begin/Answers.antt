-- `begin` equals its definition: the slope is what its calls ensure, and the band what `off` ensures.
use mathlib.Core.Path.{ap, ◌∙◌}
use Rattle.math.specs.Revision.{arithmetic}
use Rattle.math.specs.Divided.{Divided}
use Rattle.geometry.specs.Zeros.{off_by, begun}
use Rattle.geometry.proofs.zeros.begin.Goals as goal

pub returns : goal.returns
unfolding begun
returns ty c =
    let a = c.args in
    let ar = arithmetic ty.R.Revision.second in
    let q = c.div-slope.ensures.result ∙ (λ i. ar.div (c.sub.ensures i) (c.sub-2.ensures i)) in
    let e = c.off-band.ensures ∙ ap (λ (s : Divided). off_by ar s a.x0 a.y0 a.x0 a.y0) q in
    λ i. record { x0 = a.x0; y0 = a.y0; last = a.y; slope = q i; band = e i }
