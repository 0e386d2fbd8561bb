-- `plan_clip` equals its definition: degree 0 has no abscissae and reports its domain, and else the hat that the clip leaves decides.
use native.Mathlib.Omega.{arith}
use lib.ListN.{take}
use Rattle.math.specs.Revision.{arithmetic}
use Rattle.model.specs.Layout.{scalars_of}
use Rattle.geometry.proofs.visits.Plans.{clip_report, clip-skip, clip-go}
use Rattle.geometry.proofs.fat_line.Zeros.{none_degree, some_greville}
use Rattle.geometry.proofs.visits.plan_clip.Goals as goal

pub returns-in_default : goal.returns-in_default
returns-in_default ty c =
    let a = c.args in
    let ar = arithmetic ty.R.Revision.second in
    clip_report ar a.p.dim a.degree a.p.count (scalars_of a.p.dim a.point_box.now) a.resolution a.knots.now a.p.words.now _ (none_degree ar a.degree a.p.count a.knots.now c.greville_abscissae.result c.greville_abscissae.ensures c.in_default.is) c.domain.ensures

pub returns-in_default-clip : goal.returns-in_default-clip
returns-in_default-clip ty c =
    let a = c.args in
    let ar = arithmetic ty.R.Revision.second in
    let x = some_greville ar a.degree a.p.count a.knots.now c.greville_abscissae.result c.in-Some.xi (omega arith) c.greville_abscissae.ensures c.in-Some.is in
    clip-skip ar a.p.dim a.degree a.p.count (scalars_of a.p.dim a.point_box.now) a.resolution a.knots.now a.p.words.now (take a.p.count c.in-Some.xi) c.clip.result x.0 c.clip.ensures c.in_default-clip.is

pub returns : goal.returns
returns ty c =
    let a = c.args in
    let ar = arithmetic ty.R.Revision.second in
    let x = some_greville ar a.degree a.p.count a.knots.now c.greville_abscissae.result c.in-Some.xi (omega arith) c.greville_abscissae.ensures c.in-Some.is in
    clip-go ar a.p.dim a.degree a.p.count (scalars_of a.p.dim a.point_box.now) a.resolution a.knots.now a.p.words.now (take a.p.count c.in-Some.xi) c.clip.result x.0 c.clip.ensures _ _ c.in-Some-clip.is c.plan_hat.ensures
