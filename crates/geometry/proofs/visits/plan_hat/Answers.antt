-- `plan_hat` equals its definition: the two tests are those of the definition.
use Prim.Native.Nat.{suc}
use Rattle.math.specs.Revision.{arithmetic}
use Rattle.model.specs.Layout.{scalars_of, points_of}
use Rattle.geometry.proofs.visits.Plans.{hat_restrict, hat_halve, hat_report}
use Rattle.geometry.proofs.visits.plan_hat.Goals as goal

pub returns-then-restricts : goal.returns-then-restricts
returns-then-restricts ty c =
    let a = c.args in
    hat_restrict (arithmetic ty.R.Revision.second) a.p.dim (scalars_of a.p.dim a.point_box.now) a.resolution a.a a.b c.carried-w.result (points_of (suc a.p.dim) a.p.count a.p.words.now) a.hat c.restricts.result c.carried-w.ensures c.restricts.ensures c.if-restricts.true

pub returns-then-halves : goal.returns-then-halves
returns-then-halves ty c =
    let a = c.args in
    hat_halve (arithmetic ty.R.Revision.second) a.p.dim (scalars_of a.p.dim a.point_box.now) a.resolution a.a a.b c.carried-w.result (points_of (suc a.p.dim) a.p.count a.p.words.now) a.hat c.restricts.result c.carried-w.ensures c.restricts.ensures c.halves.result c.if-restricts.false c.halves.ensures c.if-halves.true

pub returns : goal.returns
returns ty c =
    let a = c.args in
    hat_report (arithmetic ty.R.Revision.second) a.p.dim (scalars_of a.p.dim a.point_box.now) a.resolution a.a a.b c.carried-w.result (points_of (suc a.p.dim) a.p.count a.p.words.now) a.hat c.restricts.result c.carried-w.ensures c.restricts.ensures c.halves.result c.if-restricts.false c.halves.ensures c.if-halves.false
