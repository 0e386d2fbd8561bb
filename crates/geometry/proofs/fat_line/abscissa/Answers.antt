-- `abscissa` is the mean of a window. Invariant: what was summed and what is left of the window make the sum.
use mathlib.Core.Path.{ap, ◌∙◌}
use native.Mathlib.Omega.{arith}
use Rattle.math.specs.Revision.{arithmetic}
use Rattle.math.specs.Scalars.{ENTIRE, value_or}
use Rattle.math.specs.declared.scalars.Scalar.{Scalar}
use Rattle.geometry.specs.Abscissae.{mean_over}
use Rattle.geometry.proofs.fat_line.Zeros.{sum_turn, sum_done}
use Rattle.geometry.proofs.fat_line.abscissa.Goals as goal

pub loop-u-preserved : goal.loop-u-preserved
loop-u-preserved ty c =
    let a = c.args in
    sum_turn (arithmetic ty.R.Revision.second) a.w.now c.loop-u.sum _ _ c.loop-u.u-index c.loop-u-test.true c.from_f64.ensures c.add-sum.ensures c.loop-u.invariant

pub returns : goal.returns
unfolding mean_over
returns ty c =
    let a = c.args in
    let ar = arithmetic ty.R.Revision.second in
    c.over.ensures c.requires
    ∙ ap (λ (s : Scalar). value_or (ar.div s a.number.value) ENTIRE) (sum_done ar a.w.now c.loop-u.sum c.loop-u.u-index (omega arith) c.loop-u.invariant)
