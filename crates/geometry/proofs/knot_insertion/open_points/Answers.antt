-- `open_points` moves the words of the points from number k on up by those of one point.
use Rattle.geometry.proofs.knot_insertion.Insert.{open_order, open_fits}
use native.Mathlib.Omega.{arith}
use Rattle.geometry.proofs.knot_insertion.open_points.Goals as goal

pub overflow_sub-end : goal.overflow_sub-end
overflow_sub-end c =
    (open_order c.args.s c.args.work.now c.args.base c.args.n c.args.k c.requires.0 c.requires.1 c.requires.2 _ _ _ c.place_of-from.ensures c.place_of-to.ensures c.place_of-end.ensures).1

pub copy-requires : goal.copy-requires
copy-requires c =
    let g = c.args in
    let o = open_order g.s g.work.now g.base g.n g.k c.requires.0 c.requires.1 c.requires.2 _ _ _ c.place_of-from.ensures c.place_of-to.ensures c.place_of-end.ensures in
    let f = open_fits g.s g.work.now g.base g.n g.k c.requires.0 c.requires.1 c.requires.2 _ _ _ c.place_of-from.ensures c.place_of-to.ensures c.place_of-end.ensures in
    (f, omega (arith, o.0, f))
