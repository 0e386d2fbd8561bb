-- `crossing` equals its definition, by the two cases of the quotient.
use mathlib.Core.Path.{sym, ap, ◌∙◌}
use Rattle.math.specs.Revision.{arithmetic}
use Rattle.math.specs.declared.scalars.Scalar.{Scalar}
use Rattle.math.specs.Divided.{Divided}
use Rattle.model.specs.FatLine.{crossing}
use Rattle.std.specs.Prelude.{Some}
use Rattle.geometry.proofs.fat_line.crossing.Goals as goal

pub returns-in_default : goal.returns-in_default
unfolding crossing
returns-in_default ty c =
    let a = c.args in
    ap (λ (v : Scalar). Some v) c.entire.ensures ∙ sym (ap (λ (q : Divided). crossing (arithmetic ty.R.Revision.second) a.x0 q) c.in_default.is)

pub returns : goal.returns
unfolding crossing
returns ty c =
    let a = c.args in
    ap (λ (v : Scalar). Some v) c.sub.ensures ∙ sym (ap (λ (q : Divided). crossing (arithmetic ty.R.Revision.second) a.x0 q) c.in-Some.is)
