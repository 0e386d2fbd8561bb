-- `planned` equals its definition: a box that misses skips the piece.
use Rattle.math.specs.Revision.{arithmetic}
use Rattle.model.specs.Layout.{scalars_of}
use Rattle.geometry.proofs.visits.Plans.{plan_skip, plan_go}
use Rattle.geometry.proofs.visits.planned.Goals as goal

pub returns-then-not-aabb_could_overlap : goal.returns-then-not-aabb_could_overlap
returns-then-not-aabb_could_overlap ty c =
    let a = c.args in
    plan_skip (arithmetic ty.R.Revision.second) a.p.dim a.degree a.p.count (scalars_of a.p.dim a.point_box.now) a.resolution a.knots.now a.p.words.now _ c.aabb_could_overlap.ensures c.if-not-aabb_could_overlap.true

pub returns : goal.returns
returns ty c =
    let a = c.args in
    plan_go (arithmetic ty.R.Revision.second) a.p.dim a.degree a.p.count (scalars_of a.p.dim a.point_box.now) a.resolution a.knots.now a.p.words.now _ _ c.aabb_could_overlap.ensures c.if-not-aabb_could_overlap.false c.plan_clip.ensures
