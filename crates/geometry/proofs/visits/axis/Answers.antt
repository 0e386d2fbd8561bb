-- `axis` writes what its definition has: each turn the value of one more point behind the others, and keeps the last weight with its product.
use mathlib.Core.Path.{refl, sym, ap, ◌∙◌}
use Prim.Native.Nat.{ℕ}
use native.Mathlib.Omega.{arith}
use lib.ListN.{set, length-set}
use Rattle.lists.proofs.Put.{put-nil}
use Rattle.lists.proofs.Loop.{put-tab}
use Rattle.math.specs.Revision.{arithmetic}
use Rattle.math.specs.declared.scalars.Scalar.{Scalar}
use Rattle.geometry.proofs.nurb_curve.Points.{coordinate_is}
use Rattle.geometry.proofs.visits.Clips.{axis_at_lem, axis_at, axis_done}
use Rattle.geometry.proofs.visits.axis.Goals as goal

pub loop-i-init : goal.loop-i-init
loop-i-init ty c = (refl, sym (put-nil c.args.d.now 0), c.times.ensures)

pub loop-i-preserved : goal.loop-i-preserved
loop-i-preserved ty c =
    let a = c.args in
    let ar = arithmetic ty.R.Revision.second in
    let i = c.loop-i.i in
    let f : ℕ → Scalar = axis_at_lem ar a.p.words.now a.p.dim a.k a.e in
    let w = c.times_weight-last.ensures in
    let one = axis_at ar a.p.words.now a.p.dim a.k i a.e _ _ _ _ (c.coordinate.ensures ∙ coordinate_is a.p.dim i a.k a.p.words.now (omega arith)) (c.weight.ensures ∙ coordinate_is a.p.dim i a.p.dim a.p.words.now (omega arith)) w.1 c.sub.ensures in (
      simp length-set c.loop-i.invariant.0,
      (λ k. set (c.loop-i.invariant.1 k) i (one k)) ∙ put-tab a.d.now 0 i i f (omega arith) (omega (arith, c.loop-i-test.true)),
      w.1 ∙ ap (λ (v : Scalar). ar.mul a.e v) (sym w.0),
    )

pub returns : goal.returns
returns ty c =
    let a = c.args in
    axis_done (arithmetic ty.R.Revision.second) a.p.words.now a.d.now c.loop-i.d a.p.dim a.p.count c.loop-i.i a.k a.e c.requires.1 c.requires.2 (omega arith) c.loop-i.invariant.1
