-- `knots_in` hands out the words of the knots.
use Rattle.geometry.proofs.slots.Counts.{count_readable}
use Rattle.geometry.proofs.slots.Views.{knots-fit, knots-view}
use native.Mathlib.Omega.{arith}
use Rattle.geometry.proofs.slots.knots_in.Goals as goal

pub count_at-n-requires : goal.count_at-n-requires
count_at-n-requires c =
    let r = count_readable c.args.s c.args.work.now c.args.base c.requires in
    record { i_in_bounds = r.0; t = r.1 }

pub slice_bounds-result-end : goal.slice_bounds-result-end
slice_bounds-result-end c =
    omega (arith, c.knots_from-from.ensures, knots-fit c.args.s c.args.work.now c.args.base _ c.requires c.count_at-n.ensures)

pub returns : goal.returns
returns c =
    knots-view c.args.s c.args.work.now c.args.base _ c.requires c.count_at-n.ensures _ c.knots_from-from.ensures
