-- `clip` equals its definition: what is left to clip from axis k on is what was to clip from the start.
use mathlib.Core.Path.{◌≡◌, ◌∙◌}
use Prim.Native.Nat.{suc}
use native.Mathlib.Omega.{arith}
use lib.ListN.{length, take, length-append, length-take, length-drop}
use Rattle.math.specs.Revision.{arithmetic}
use Rattle.model.specs.Layout.{points_of}
use Rattle.geometry.proofs.visits.Clips.{left_none, left_next, left_done}
use Rattle.geometry.proofs.visits.clip.Goals as goal

pub returns-in_err-hat : goal.returns-in_err-hat
returns-in_err-hat ty c =
    let a = c.args in
    c.from_residual.ensures
    ∙ left_none (arithmetic ty.R.Revision.second) a.p.dim (points_of (suc a.p.dim) a.p.count a.p.words.now) a.xi.now a.point_box.now c.loop-k.hat c.scalar_at-e.result _ c.loop-k.k c.loop-k-test.true c.scalar_at-e.ensures c.clip_axis.ensures.value _ c.in_err-hat.was c.loop-k.invariant.3

pub loop-k-preserved : goal.loop-k-preserved
loop-k-preserved ty c =
    let a = c.args in
    let front : length (take a.p.count c.loop-k.d) ≡ a.p.count = simp length-take (omega (arith, c.loop-k.invariant.0)) in (
      simp (length-append, length-drop) (omega (arith, c.clip_axis.auto.d, front, c.loop-k.invariant.0)),
      c.loop-k.invariant.1,
      c.loop-k.invariant.2,
      left_next (arithmetic ty.R.Revision.second) a.p.dim (points_of (suc a.p.dim) a.p.count a.p.words.now) a.xi.now a.point_box.now c.loop-k.hat c.scalar_at-e.result _ c.loop-k.k c.loop-k-test.true c.scalar_at-e.ensures c.clip_axis.ensures.value _ _ c.in_ok-hat.was c.loop-k.invariant.3,
    )

pub returns : goal.returns
returns ty c =
    let a = c.args in
    left_done (arithmetic ty.R.Revision.second) a.p.dim (points_of (suc a.p.dim) a.p.count a.p.words.now) a.xi.now a.point_box.now c.loop-k.hat c.loop-k.k _ (omega arith) c.loop-k.invariant.3
