-- `along` equals its definition: none where a quotient is none, and else the union of both.
use mathlib.Core.Path.{ap, ◌∙◌}
use Rattle.math.specs.Revision.{arithmetic}
use Rattle.math.specs.declared.scalars.Scalar.{Scalar}
use Rattle.geometry.proofs.aabb.Box.{along_first, along-both}
use Rattle.geometry.proofs.aabb.along.Goals as goal

pub returns-in_err-s : goal.returns-in_err-s
returns-in_err-s ty c =
    let a = c.args in
    let ar = arithmetic ty.R.Revision.second in
    c.from_residual.ensures
    ∙ along_first ar a.e a.a a.b _ _ _ c.sub-d.ensures (c.sub.ensures ∙ ap (λ (v : Scalar). ar.sub v a.a) c.lower.ensures) c.div.ensures.result c.in_err-s.was

pub returns : goal.returns
returns ty c =
    let a = c.args in
    let ar = arithmetic ty.R.Revision.second in
    along-both ar a.e a.a a.b _ _ _ c.sub-d.ensures (c.sub.ensures ∙ ap (λ (v : Scalar). ar.sub v a.a) c.lower.ensures) c.div.ensures.result
    _ c.in_ok-s.was _ _ (c.sub-2.ensures ∙ ap (λ (v : Scalar). ar.sub v a.a) c.upper.ensures) c.div-2.ensures.result _ _ c.in_ok-t.was c.union.ensures
