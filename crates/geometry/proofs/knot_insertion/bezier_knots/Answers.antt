-- `bezier_knots` equals its definition: three stretches, one behind the other.
use Rattle.geometry.proofs.knot_insertion.Cuts.{bezier_filled}
use Rattle.geometry.proofs.knot_insertion.bezier_knots.Goals as goal

pub returns : goal.returns
returns c =
    let g = c.args in
    bezier_filled g.work.now _ _ _ g.base _ g.degree g.a g.t g.b c.knots_from-first.ensures c.requires.1 c.fill.ensures c.fill-2.ensures c.fill-3.ensures
