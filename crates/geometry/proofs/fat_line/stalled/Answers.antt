-- `stalled` equals its definition: three tests, each made where those before it passed.
use mathlib.Core.Path.{sym, ap, ◌∙◌}
use lib.Ieee.{Float, lt}
use Rattle.math.specs.Scalars.{sharp, width_s}
use Rattle.math.specs.declared.scalars.Scalar.{Scalar}
use Rattle.model.specs.FatLine.{halves}
use Rattle.geometry.proofs.fat_line.Sizes.{first_failed_lem, second_failed, both-passed}
use Rattle.geometry.proofs.fat_line.stalled.Goals as goal

pub returns-then-not-max-size : goal.returns-then-not-max-size
unfolding halves
returns-then-not-max-size c = let a = c.args in first_failed_lem _ _ _ (ap (λ (v : Float). lt v a.size) (sym c.max.ensures) ∙ c.if-not-max-size.true)

pub returns-then-not-carried-size : goal.returns-then-not-carried-size
unfolding halves
returns-then-not-carried-size c =
    let a = c.args in
    second_failed _ _ _ (ap (λ (v : Float). lt v a.size) (sym c.max.ensures) ∙ c.if-not-max-size.false) c.if-not-carried-size.true

pub returns : goal.returns
unfolding halves
returns c =
    let a = c.args in
    ap (λ (v : Scalar). lt a.resolution v.lo) (c.width.ensures ∙ ap (λ (v : Scalar). sharp (width_s v)) c.domain.ensures)
    ∙ both-passed _ _ _ (ap (λ (v : Float). lt v a.size) (sym c.max.ensures) ∙ c.if-not-max-size.false) c.if-not-carried-size.false
