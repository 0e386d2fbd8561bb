-- `band` equals its definition. The invariant: closed, the bounds so far are the union of the first i offsets.
use native.Mathlib.Omega.{arith}
use Rattle.math.specs.Revision.{arithmetic}
use Rattle.geometry.proofs.aabb.Unions.{joined_first, joined_turn}
use Rattle.geometry.proofs.fat_line.Zeros.{off, off_by_bounds, band_done}
use Rattle.geometry.proofs.fat_line.band.Goals as goal

pub loop-i-init : goal.loop-i-init
loop-i-init ty c =
    let R = ty.R.Revision in
    let ar = arithmetic R.second in
    let a = c.args in
    let p = off_by_bounds R.Joined R.closed ar a.slope a.y0 a.dx.now a.d.now 0 _ _ c.chord.ensures c.bounds_sub-all.ensures in
    (omega arith, joined_first R.Joined R.closed (off ar a.slope a.y0 a.dx.now a.d.now) _ p)

pub loop-i-preserved : goal.loop-i-preserved
loop-i-preserved ty c =
    let R = ty.R.Revision in
    let ar = arithmetic R.second in
    let a = c.args in
    let i = c.loop-i.i in
    let p = off_by_bounds R.Joined R.closed ar a.slope a.y0 a.dx.now a.d.now i _ _ c.chord-in-loop-i.ensures c.bounds_sub.ensures in
    (omega arith, joined_turn R.Joined R.closed (off ar a.slope a.y0 a.dx.now a.d.now) i _ _ _ c.loop-i.invariant.0 c.loop-i.invariant.1 p c.join-all.ensures)

pub returns : goal.returns
returns ty c =
    let a = c.args in
    band_done (arithmetic ty.R.Revision.second) a.slope a.y0 a.dx.now a.d.now c.loop-i.i _ _ c.requires.1 (omega arith) c.loop-i.invariant.1.is c.close.ensures
