-- `axis_box` equals its definition. The invariant: closed, the bounds so far are the union of the first i places; the last divisor was made here.
use Prim.Native.Nat.{suc}
use native.Mathlib.Omega.{arith}
use Rattle.math.specs.Revision.{arithmetic}
use Rattle.model.specs.Layout.{point_at}
use Rattle.geometry.proofs.aabb.Unions.{joined_first, joined_turn}
use Rattle.geometry.proofs.aabb.Box.{place_at_lem, place_by, axis_done}
use Rattle.geometry.proofs.aabb.axis_box.Goals as goal

pub loop-i-init : goal.loop-i-init
loop-i-init ty c =
    let R = ty.R.Revision in
    let ar = arithmetic R.second in
    let a = c.args in
    let d = c.divisor-last.ensures in
    let p = place_by R.Picked R.closed ar a.p.dim a.k (point_at (suc a.p.dim) a.p.words.now 0) _ _ c.divisor-last.result _ c.coordinate.ensures c.weight.ensures d.0 (c.bounds_over-all.ensures d.1) in
    (omega arith, joined_first R.Picked R.closed (place_at_lem ar a.p.dim a.k a.p.words.now) _ p, d.1)

pub loop-i-preserved : goal.loop-i-preserved
loop-i-preserved ty c =
    let R = ty.R.Revision in
    let ar = arithmetic R.second in
    let a = c.args in
    let i = c.loop-i.i in
    let d = c.divisor_of-last.ensures in
    let p = place_by R.Picked R.closed ar a.p.dim a.k (point_at (suc a.p.dim) a.p.words.now i) _ _ c.divisor_of-last.result _ c.coordinate-in-loop-i.ensures c.weight-in-loop-i.ensures d.0 (c.bounds_over.ensures d.1) in
    (omega arith, joined_turn R.Picked R.closed (place_at_lem ar a.p.dim a.k a.p.words.now) i _ _ _ c.loop-i.invariant.0 c.loop-i.invariant.1 p c.pick-all.ensures, d.1)

pub returns : goal.returns
returns ty c =
    let a = c.args in
    axis_done (arithmetic ty.R.Revision.second) a.p.dim a.k a.p.count c.loop-i.i a.p.words.now _ _ (omega arith) c.loop-i.invariant.1.is c.close.ensures
