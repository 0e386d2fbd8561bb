-- `is_bezier_in` equals its definition: the second test where the first passed.
use mathlib.Core.Path.{ap}
use lib.ListN.{length}
use Rattle.geometry.proofs.slots.Counts.{count_readable}
use Rattle.geometry.proofs.slots.Piece.{knots_long}
use Rattle.geometry.proofs.knot_insertion.Cuts.{single-yes}
use native.Mathlib.Omega.{arith}
use Rattle.geometry.proofs.knot_insertion.is_bezier_in.Goals as goal

pub count_at-n-requires : goal.count_at-n-requires
count_at-n-requires c =
    let r = count_readable c.args.s c.args.work.now c.args.base c.requires.0 in
    record { i_in_bounds = r.0; t = r.1 }

pub is_bezier_span-requires : goal.is_bezier_span-requires
is_bezier_span-requires c =
    (omega (arith, c.count_at-n.ensures, c.requires.1), omega (arith, c.count_at-n.ensures, ap length c.knots_in-knots.ensures, knots_long c.args.s c.args.work.now c.args.base c.requires.0))

pub returns-then-multiplicity_of-eq0 : goal.returns-then-multiplicity_of-eq0
returns-then-multiplicity_of-eq0 c =
    let g = c.args in
    single-yes g.s g.work.now _ g.base _ _ g.t c.requires.0 c.knots_in-knots.ensures c.multiplicity_of.ensures _ c.count_at-n.ensures c.if-multiplicity_of-eq0.true c.is_bezier_span.ensures
