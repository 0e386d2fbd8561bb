-- `insert_once` equals its definition: the points move up and are blended, then the knot is put in, then the count is raised.
use Rattle.math.specs.Revision.{arithmetic}
use Rattle.geometry.proofs.slots.Counts.{count_readable, few-points, knot-room}
use Rattle.geometry.proofs.knot_insertion.Once.{once-code}
use native.Mathlib.Omega.{arith}
use Rattle.geometry.proofs.knot_insertion.insert_once.Goals as goal

pub count_at-n-requires : goal.count_at-n-requires
count_at-n-requires ty c =
    let r = count_readable c.args.s c.args.work.now c.args.base c.requires.0 in
    record { i_in_bounds = r.0; t = r.1 }

pub insert_knot-requires : goal.insert_knot-requires
insert_knot-requires ty c = (
  omega (arith, c.count_at-n.ensures, c.requires.2),
  omega (arith, c.blend_points.auto.work, c.open_points.auto.work, knot-room c.args.s c.args.work.now c.args.base c.count_at-n.result c.requires.0.inside (omega (arith, c.count_at-n.ensures, c.requires.3))),
)

pub set_count-requires : goal.set_count-requires
set_count-requires ty c = (
  omega (arith, c.insert_knot.auto.work, c.blend_points.auto.work, c.open_points.auto.work, (count_readable c.args.s c.args.work.now c.args.base c.requires.0).0),
  omega (arith, c.count_at-n.ensures, few-points c.args.s _ c.requires.0.inside.sized c.requires.0.room),
)

pub returns : goal.returns
returns ty c =
    once-code (arithmetic ty.R.Revision.second) c.args.s c.args.work.now c.args.base c.args.k c.args.t c.requires.0 c.requires.1 c.requires.2 c.requires.3 _ _ _ _ _ c.count_at-n.ensures c.open_points.ensures c.blend_points.ensures c.insert_knot.ensures c.set_count.ensures
