-- `is_inside` equals its definition: t against the two knots that end the domain.
use mathlib.Core.Path.{◌∙◌}
use Rattle.geometry.proofs.slots.Counts.{count_readable, from-room}
use Rattle.geometry.proofs.split.Splits.{within-words}
use native.Mathlib.Omega.{arith}
use Rattle.geometry.proofs.split.is_inside.Goals as goal

pub count_at-n-requires : goal.count_at-n-requires
count_at-n-requires c =
    let r = count_readable c.args.s c.args.work.now c.args.base c.requires in
    record { i_in_bounds = r.0; t = r.1 }

pub bounds-work-first : goal.bounds-work-first
bounds-work-first c =
    omega (arith, c.knots_from-first.ensures, from-room c.args.s c.args.base, c.requires.inside.within)

pub bounds-work-first-2 : goal.bounds-work-first-2
bounds-work-first-2 c =
    omega (arith, c.count_at-n.ensures, c.knots_from-first.ensures, from-room c.args.s c.args.base, c.requires.inside.within, c.requires.room)

pub returns : goal.returns
returns c =
    c.in_domain.ensures ∙ within-words c.args.s c.args.work.now c.args.base _ _ c.requires c.count_at-n.ensures c.knots_from-first.ensures c.args.t
