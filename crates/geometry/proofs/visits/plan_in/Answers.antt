-- `plan_in` is the plan of the slot's knots and points.
use mathlib.Core.Path.{◌∙◌}
use native.Mathlib.Omega.{arith}
use Rattle.math.specs.Revision.{arithmetic}
use Rattle.model.specs.Layout.{scalars_of}
use Rattle.geometry.specs.Plan.{planned}
use Rattle.geometry.proofs.visits.Slots.{visit-asks, knots-room}
use Rattle.geometry.proofs.visits.plan_in.Goals as goal

pub planned-requires-clause-dim_bound : goal.planned-requires-clause-dim_bound
planned-requires-clause-dim_bound ty c =
    let a = c.args in
    let p = c.points_in-points.ensures in
    ((visit-asks a.s a.work.now a.base c.requires.0 _ p.1 c.requires.1.whole).0, omega (arith, p.0, c.requires.2))

pub planned-requires-clause-degree_bound : goal.planned-requires-clause-degree_bound
planned-requires-clause-degree_bound ty c =
    let a = c.args in
    let p = c.points_in-points.ensures in
    (c.requires.0.inside.sized.degree, (visit-asks a.s a.work.now a.base c.requires.0 _ p.1 c.requires.1.whole).1, knots-room a.s a.work.now a.base c.requires.0 _ p.1 _ c.knots_in-knots.ensures)

pub returns : goal.returns
returns ty c =
    let a = c.args in
    let p = c.points_in-points.ensures in
    c.planned.ensures
    ∙ (λ i. planned (arithmetic ty.R.Revision.second) (p.0 i) a.s.degree (scalars_of (p.0 i) a.point_box.now) a.resolution (record { knots = c.knots_in-knots.ensures i; points = p.2 i }))
