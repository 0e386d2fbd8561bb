-- `copy_right` copies the knots and the points from number `at` on, and sets the count.
use Rattle.geometry.proofs.slots.Counts.{count_readable, from-room, few-points}
use Rattle.geometry.proofs.slots.Moves.{knots-asked, points_rise, points-asked, moved_right}
use native.Mathlib.Omega.{arith}
use Rattle.geometry.proofs.slots.copy_right.Goals as goal

pub count_at-n-requires : goal.count_at-n-requires
count_at-n-requires c =
    let r = count_readable c.args.s c.args.work.now c.args.from c.requires.held.0 in
    record { i_in_bounds = r.0; t = r.1 }

pub copy-requires : goal.copy-requires
copy-requires c =
    let g = c.args in
    knots-asked g.s g.work.now g.from g.at c.requires.held.0 c.requires.held.2 g.to c.requires.held.1 c.requires.apart _ c.count_at-n.ensures _ _ c.knots_from.ensures c.knots_from-2.ensures

pub overflow_sub-end : goal.overflow_sub-end
overflow_sub-end c =
    let g = c.args in
    points_rise g.s g.work.now g.from g.at c.requires.held.0 c.requires.held.2 g.to c.requires.held.1 c.requires.apart _ c.count_at-n.ensures _ _ _ c.place_of-first.ensures c.place_of.ensures c.place_of-end.ensures

pub copy-requires-2 : goal.copy-requires-2
copy-requires-2 c =
    let g = c.args in
    let q = points-asked g.s g.work.now g.from g.at c.requires.held.0 c.requires.held.2 g.to c.requires.held.1 c.requires.apart _ c.count_at-n.ensures _ _ _ c.place_of-first.ensures c.place_of.ensures c.place_of-end.ensures in
    (omega (arith, q.0, c.copy.auto.work), omega (arith, q.1, c.copy.auto.work))

pub set_count-requires : goal.set_count-requires
set_count-requires c = (
  omega (arith, c.copy-2.auto.work, c.copy.auto.work, from-room c.args.s c.args.to, c.requires.held.1.within),
  omega (arith, c.count_at-n.ensures, few-points c.args.s _ c.requires.held.0.inside.sized c.requires.held.0.room),
)

pub returns : goal.returns
returns c =
    let g = c.args in
    moved_right g.s g.work.now g.from g.at c.requires.held.0 c.requires.held.2 g.to c.requires.held.1 c.requires.apart _ _ _ _ _ _ _ _ _ c.count_at-n.ensures c.knots_from.ensures c.knots_from-2.ensures c.place_of-first.ensures c.place_of.ensures c.place_of-end.ensures c.copy.ensures c.copy-2.ensures c.set_count.ensures
