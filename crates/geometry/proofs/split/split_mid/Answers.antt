-- `split_mid` equals its definition: the split at the middle of the domain.
use mathlib.Core.Path.{◌∙◌}
use Rattle.math.specs.Revision.{arithmetic}
use Rattle.geometry.specs.Slots.{piece_at}
use Rattle.geometry.proofs.slots.Counts.{count_readable, from-room}
use Rattle.geometry.proofs.split.Splits.{mid-words, split_same}
use native.Mathlib.Omega.{arith}
use Rattle.geometry.proofs.split.split_mid.Goals as goal

pub count_at-n-requires : goal.count_at-n-requires
count_at-n-requires ty c =
    let r = count_readable c.args.s c.args.work.now c.args.src c.requires.held.0 in
    record { i_in_bounds = r.0; t = r.1 }

pub bounds-work-first : goal.bounds-work-first
bounds-work-first ty c =
    omega (arith, c.knots_from-first.ensures, from-room c.args.s c.args.src, c.requires.held.0.inside.within)

pub bounds-work-first-2 : goal.bounds-work-first-2
bounds-work-first-2 ty c =
    omega (arith, c.count_at-n.ensures, c.knots_from-first.ensures, from-room c.args.s c.args.src, c.requires.held.0.inside.within, c.requires.held.0.room)

pub returns : goal.returns
returns ty c =
    let g = c.args in
    let mid = c.mid_parameter-t.ensures ∙ mid-words g.s g.work.now g.src _ _ c.requires.held.0 c.count_at-n.ensures c.knots_from-first.ensures (arithmetic ty.R.Revision.second) in
    split_same (arithmetic ty.R.Revision.second) g.s g.work.now _ g.left g.right _ _ (piece_at g.s g.work.now g.src) _ mid c.split.ensures
