-- `greville_abscissae` equals its definition: each turn writes the mean of one more window behind the others.
use mathlib.Core.Path.{refl, sym, ap, ◌∙◌}
use Prim.Native.Nat.{ℕ}
use native.Mathlib.Omega.{arith}
use lib.ListN.{set, length-set, replicate}
use lib.Ieee.{of_bits}
use Rattle.lists.proofs.Put.{put-nil}
use Rattle.lists.proofs.Loop.{put-tab}
use Rattle.math.specs.Revision.{arithmetic}
use Rattle.math.specs.Scalars.{ZERO}
use Rattle.math.specs.declared.scalars.Scalar.{Scalar}
use Rattle.model.specs.FatLine.{window, abscissa}
use Rattle.geometry.proofs.fat_line.Zeros.{mean_is, held_none, held_some}
use Rattle.geometry.proofs.fat_line.greville_abscissae.Goals as goal

pub returns-then-degree-eq0 : goal.returns-then-degree-eq0
returns-then-degree-eq0 ty c = held_none (arithmetic ty.R.Revision.second) c.args.degree _ _ c.if-degree-eq0.true

pub loop-i-init : goal.loop-i-init
loop-i-init ty c = (refl, sym (put-nil _ 0))

pub loop-i-preserved : goal.loop-i-preserved
unfolding of_bits
loop-i-preserved ty c =
    let a = c.args in
    let i = c.loop-i.i in
    let ar = arithmetic ty.R.Revision.second in
    let f : ℕ → Scalar = λ j. abscissa ar a.degree (window a.degree a.knots.now j) in
    let one = mean_is ar a.degree _ _ _ c.divisor-number.result c.from_f64.ensures c.divisor-number.ensures.0 c.abscissa.ensures ∙ ap (λ w. abscissa ar a.degree w) c.window.ensures in
    (simp length-set c.loop-i.invariant.0, (λ k. set (c.loop-i.invariant.1 k) i (one k)) ∙ put-tab (replicate 32 ZERO) 0 i i f (omega arith) (omega arith))

pub returns : goal.returns
unfolding of_bits
returns ty c =
    let a = c.args in
    held_some (arithmetic ty.R.Revision.second) a.degree a.count c.loop-i.i a.knots.now c.loop-i.xi c.if-degree-eq0.false (omega arith) c.loop-i.invariant.1
