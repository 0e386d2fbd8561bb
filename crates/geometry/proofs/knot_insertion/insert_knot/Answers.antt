-- `insert_knot` equals its definition: the knots behind the place move up, and t is stored there.
use Rattle.geometry.proofs.knot_insertion.Insert.{knot_in}
use Rattle.geometry.proofs.knot_insertion.insert_knot.Goals as goal

pub returns : goal.returns
returns c =
    knot_in c.args.work.now _ c.args.base _ c.args.m c.args.k c.args.t c.knots_from.ensures c.copy.ensures c.requires.0 c.requires.1
