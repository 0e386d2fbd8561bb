-- `split_bezier_span` equals its definition: the sides of the triangle, then the knots, then the count.
use Rattle.math.specs.Revision.{arithmetic}
use Rattle.geometry.proofs.slots.Counts.{from-room, count_readable}
use Rattle.geometry.proofs.knot_insertion.Cuts.{bezier_done}
use native.Mathlib.Omega.{arith}
use Rattle.geometry.proofs.knot_insertion.split_bezier_span.Goals as goal

pub bounds-work-first : goal.bounds-work-first
bounds-work-first ty c = omega (arith, c.knots_from-first.ensures, from-room c.args.s c.args.base, c.requires.0.inside.within)

pub bounds-work-first-2 : goal.bounds-work-first-2
bounds-work-first-2 ty c = omega (arith, c.knots_from-first.ensures, from-room c.args.s c.args.base, c.requires.0.inside.within)

pub bezier_knots-requires : goal.bezier_knots-requires
bezier_knots-requires ty c =
    (c.requires.0.inside.sized.degree, omega (arith, c.triangle_in.auto.work, from-room c.args.s c.args.base, c.requires.0.inside.within, c.requires.2))

pub set_count-requires : goal.set_count-requires
set_count-requires ty c =
    (omega (arith, c.bezier_knots.auto.work, c.triangle_in.auto.work, (count_readable c.args.s c.args.work.now c.args.base c.requires.0).0), omega (arith, c.requires.0.inside.sized.degree))

pub returns : goal.returns
returns ty c =
    let g = c.args in
    bezier_done (arithmetic ty.R.Revision.second) g.s g.work.now _ _ _ g.base _ g.t g.alpha c.requires.0 c.requires.1 c.requires.2 c.knots_from-first.ensures c.triangle_in.ensures c.bezier_knots.ensures c.set_count.ensures
