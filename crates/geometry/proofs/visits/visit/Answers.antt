-- `visit` does what its plan says.
use Rattle.math.specs.Revision.{arithmetic}
use Rattle.model.specs.Layout.{scalars_of}
use Rattle.geometry.proofs.visits.Handed.{see-skip, see_report, see-restrict, see-halve, steep}
use Rattle.geometry.proofs.visits.visit.Goals as goal

pub hand_on-requires : goal.hand_on-requires
hand_on-requires ty c =
    let g = c.args in
    (c.requires.held.0, c.requires.held.1, c.requires.inside.0, c.requires.inside.2, steep (arithmetic ty.R.Revision.second) g.s.dim g.s.degree (scalars_of g.s.dim g.point_box.now) g.resolution _ _ _ c.plan_in.ensures c.in-Restrict.is)

pub returns-in-Skip : goal.returns-in-Skip
returns-in-Skip ty c =
    let g = c.args in
    see-skip (arithmetic ty.R.Revision.second) (record { dim = g.s.dim; degree = g.s.degree; box = scalars_of g.s.dim g.point_box.now; resolution = g.resolution; nodes = 0 }) _ _ c.plan_in.ensures g.s g.a g.b g.work.now c.in-Skip.is

pub returns-in-Report : goal.returns-in-Report
returns-in-Report ty c =
    let g = c.args in
    see_report (arithmetic ty.R.Revision.second) (record { dim = g.s.dim; degree = g.s.degree; box = scalars_of g.s.dim g.point_box.now; resolution = g.resolution; nodes = 0 }) _ _ c.plan_in.ensures g.s g.a g.b g.work.now _ c.in-Report.is

pub returns-in-Restrict : goal.returns-in-Restrict
returns-in-Restrict ty c =
    let g = c.args in
    see-restrict (arithmetic ty.R.Revision.second) (record { dim = g.s.dim; degree = g.s.degree; box = scalars_of g.s.dim g.point_box.now; resolution = g.resolution; nodes = 0 }) _ _ c.plan_in.ensures g.s g.a g.b g.work.now _ _ _ c.in-Restrict.is (c.hand_on.ensures g.b)

pub returns-in-Halve : goal.returns-in-Halve
returns-in-Halve ty c =
    let g = c.args in
    see-halve (arithmetic ty.R.Revision.second) (record { dim = g.s.dim; degree = g.s.degree; box = scalars_of g.s.dim g.point_box.now; resolution = g.resolution; nodes = 0 }) _ _ c.plan_in.ensures g.s g.a g.b g.work.now _ _ _ c.in-Halve.is c.hand_both.ensures
