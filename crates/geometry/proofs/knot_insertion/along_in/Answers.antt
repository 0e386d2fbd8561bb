-- `along_in` equals its definition: the quotient of two differences of knots.
use Rattle.math.specs.Revision.{arithmetic}
use Rattle.geometry.proofs.slots.Counts.{from-room}
use Rattle.geometry.proofs.knot_insertion.Cuts.{along_done}
use native.Mathlib.Omega.{arith}
use Rattle.geometry.proofs.knot_insertion.along_in.Goals as goal

pub bounds-work-at : goal.bounds-work-at
bounds-work-at ty c = omega (arith, c.knots_from.ensures, from-room c.args.s c.args.base, c.requires.0.inside.within)

pub bounds-work-at-2 : goal.bounds-work-at-2
bounds-work-at-2 ty c = omega (arith, c.knots_from.ensures, from-room c.args.s c.args.base, c.requires.0.inside.within)

pub returns : goal.returns
returns ty c =
    let g = c.args in
    along_done (arithmetic ty.R.Revision.second) g.s g.work.now g.base _ g.t _ _ _ _ _ _ c.requires.1 c.knots_from.ensures c.from_f64-a.ensures c.from_f64-b.ensures c.from_f64.ensures c.sub.ensures c.sub-2.ensures c.div.ensures.result
