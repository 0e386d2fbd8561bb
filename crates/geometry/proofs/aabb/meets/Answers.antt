-- `meets` equals its definition. The invariant: what is left of the walk, from the range that is left, gives what the whole walk gives.
use Prim.Native.Nat.{suc}
use native.Mathlib.Omega.{arith}
use Rattle.math.specs.Revision.{arithmetic}
use Rattle.model.specs.Layout.{point_at}
use Rattle.geometry.proofs.aabb.Box.{segment_skip, segment_narrow, segment_stop, segment_end}
use Rattle.geometry.proofs.aabb.meets.Goals as goal
use Rattle.geometry.proofs.aabb.meets.Goals.{in-Some+else-not-could_be_equal, in_default}

pub returns-then-not-could_be_equal : goal.returns-then-not-could_be_equal
returns-then-not-could_be_equal ty c =
    let a = c.args in
    segment_stop (arithmetic ty.R.Revision.second) a.p.dim (point_at (suc a.p.dim) a.p.words.now 0) (point_at (suc a.p.dim) a.p.words.now 1) a.point_box.now c.loop-k.range c.loop-k.k _ c.loop-k.invariant (omega arith)
    _ _ _ c.scalar_at.ensures c.place-a.ensures c.place-b.ensures _ c.along.ensures _ c.in-Some.is _ c.could_be_equal.ensures c.if-not-could_be_equal.true

pub loop-k-preserved : goal.loop-k-preserved
loop-k-preserved ty c =
    let a = c.args in
    elim c.match-along.branch [
      | in-Some+else-not-could_be_equal w ↦
          segment_narrow (arithmetic ty.R.Revision.second) a.p.dim (point_at (suc a.p.dim) a.p.words.now 0) (point_at (suc a.p.dim) a.p.words.now 1) a.point_box.now c.loop-k.range c.loop-k.k _ c.loop-k.invariant (omega arith)
          _ _ _ c.scalar_at.ensures c.place-a.ensures c.place-b.ensures _ c.along.ensures _ w.in-Some.is _ w.could_be_equal.ensures _ _ w.if-not-could_be_equal.false w.intersect-range.ensures w.range-is
      | in_default w ↦
          segment_skip (arithmetic ty.R.Revision.second) a.p.dim (point_at (suc a.p.dim) a.p.words.now 0) (point_at (suc a.p.dim) a.p.words.now 1) a.point_box.now c.loop-k.range c.loop-k.k _ c.loop-k.invariant (omega arith)
          _ _ _ c.scalar_at.ensures c.place-a.ensures c.place-b.ensures _ c.along.ensures _ w.in_default.is w.range-is
    ]

pub returns : goal.returns
returns ty c =
    let a = c.args in
    segment_end (arithmetic ty.R.Revision.second) a.p.dim (point_at (suc a.p.dim) a.p.words.now 0) (point_at (suc a.p.dim) a.p.words.now 1) a.point_box.now c.loop-k.range c.loop-k.k _ c.loop-k.invariant (omega arith)
