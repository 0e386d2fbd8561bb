-- `aabb_could_overlap` equals its definition. The invariant: what is left to test answers for the whole.
use native.Mathlib.Omega.{arith}
use Rattle.math.specs.Revision.{arithmetic}
use Rattle.model.specs.Layout.{scalar_at}
use Rattle.model.specs.Aabb.{aabb}
use Rattle.geometry.proofs.aabb.Box.{axis_at_lem, overlap-start, overlap-keep, overlap-stop, overlap_end}
use Rattle.geometry.proofs.aabb.aabb_could_overlap.Goals as goal

pub loop-k-init : goal.loop-k-init
loop-k-init ty c =
    let a = c.args in
    overlap-start a.p.dim (axis_at_lem (arithmetic ty.R.Revision.second) a.p.dim a.p.count a.p.words.now) (scalar_at a.point_box.now)

pub returns-then-not-could_be_equal : goal.returns-then-not-could_be_equal
unfolding aabb
returns-then-not-could_be_equal ty c =
    let a = c.args in
    overlap-stop a.p.dim (axis_at_lem (arithmetic ty.R.Revision.second) a.p.dim a.p.count a.p.words.now) (scalar_at a.point_box.now) c.loop-k.k c.loop-k.invariant (omega arith)
    _ _ _ c.axis_box-extent.ensures c.scalar_at-other.ensures c.could_be_equal.ensures c.if-not-could_be_equal.true

pub loop-k-preserved : goal.loop-k-preserved
loop-k-preserved ty c =
    let a = c.args in
    overlap-keep a.p.dim (axis_at_lem (arithmetic ty.R.Revision.second) a.p.dim a.p.count a.p.words.now) (scalar_at a.point_box.now) c.loop-k.k c.loop-k.invariant (omega arith)
    _ _ _ c.axis_box-extent.ensures c.scalar_at-other.ensures c.could_be_equal.ensures c.if-not-could_be_equal.false

pub returns : goal.returns
unfolding aabb
returns ty c =
    let a = c.args in
    overlap_end a.p.dim (axis_at_lem (arithmetic ty.R.Revision.second) a.p.dim a.p.count a.p.words.now) (scalar_at a.point_box.now) c.loop-k.k c.loop-k.invariant (omega arith)
