-- `off` equals its definition, by the two cases of the slope.
use mathlib.Core.Path.{sym, ap, ◌∙◌}
use Rattle.math.specs.Revision.{arithmetic}
use Rattle.math.specs.declared.scalars.Scalar.{Scalar}
use Rattle.math.specs.Divided.{Divided}
use Rattle.geometry.specs.Zeros.{chord_at, off_by}
use Rattle.geometry.proofs.zeros.off.Goals as goal

pub returns-in_default : goal.returns-in_default
unfolding off_by
returns-in_default ty c =
    let a = c.args in
    sym (ap (λ (q : Divided). off_by (arithmetic ty.R.Revision.second) q a.x0 a.y0 a.x a.y) c.in_default.is)

pub returns : goal.returns
unfolding off_by
returns ty c =
    let a = c.args in
    c.sub-2.ensures
    ∙ ap (λ (v : Scalar). (arithmetic ty.R.Revision.second).sub a.y v) (c.chord.ensures ∙ ap (chord_at (arithmetic ty.R.Revision.second) c.in-Some.s a.y0) c.sub.ensures)
    ∙ sym (ap (λ (q : Divided). off_by (arithmetic ty.R.Revision.second) q a.x0 a.y0 a.x a.y) c.in-Some.is)
