-- `points_in` hands out the words of the points.
use mathlib.Core.Path.{refl}
use Rattle.geometry.proofs.slots.Counts.{count_readable}
use Rattle.geometry.proofs.slots.Views.{points-order, points-view}
use Rattle.geometry.proofs.visits.Slots.{points-room, points_back}
use native.Mathlib.Omega.{arith}
use Rattle.geometry.proofs.slots.points_in.Goals as goal

pub count_at-count-requires-clause-i_in_bounds : goal.count_at-count-requires-clause-i_in_bounds
count_at-count-requires-clause-i_in_bounds c = (count_readable c.args.s c.args.work.now c.args.base c.requires).0

pub count_at-count-requires-clause-t : goal.count_at-count-requires-clause-t
count_at-count-requires-clause-t c = (count_readable c.args.s c.args.work.now c.args.base c.requires).1

pub offset_bounds-work-from : goal.offset_bounds-work-from
offset_bounds-work-from c = omega (arith, points-order c.args.s c.args.work.now c.args.base _ c.requires c.count_at-count.ensures _ _ c.place_of-from.ensures c.place_of-end.ensures)

pub slice_bounds-result-count : goal.slice_bounds-result-count
slice_bounds-result-count c = omega (arith, points-order c.args.s c.args.work.now c.args.base _ c.requires c.count_at-count.ensures _ _ c.place_of-from.ensures c.place_of-end.ensures)

pub slice_bounds-result-start : goal.slice_bounds-result-start
slice_bounds-result-start c = omega (arith, points-order c.args.s c.args.work.now c.args.base _ c.requires c.count_at-count.ensures _ _ c.place_of-from.ensures c.place_of-end.ensures)

pub slice_bounds-result-end : goal.slice_bounds-result-end
slice_bounds-result-end c = omega (arith, points-order c.args.s c.args.work.now c.args.base _ c.requires c.count_at-count.ensures _ _ c.place_of-from.ensures c.place_of-end.ensures)

pub invariant_of-result : goal.invariant_of-result
invariant_of-result c =
    let v = points-view c.args.s c.args.work.now c.args.base _ c.requires c.count_at-count.ensures _ _ c.place_of-from.ensures c.place_of-end.ensures in
    let z = c.requires.inside.sized in
    record { sized = (z.dim, omega (arith, c.count_at-count.ensures, c.requires.room, z.degree, z.count), points-room c.args.s c.args.work.now c.args.base c.requires c.count_at-count.result c.count_at-count.ensures _ v) }

pub returns : goal.returns
returns c =
    let v = points-view c.args.s c.args.work.now c.args.base _ c.requires c.count_at-count.ensures _ _ c.place_of-from.ensures c.place_of-end.ensures in
    (refl, c.count_at-count.ensures, points_back c.args.s c.args.work.now c.args.base c.requires c.count_at-count.result c.count_at-count.ensures _ v)
