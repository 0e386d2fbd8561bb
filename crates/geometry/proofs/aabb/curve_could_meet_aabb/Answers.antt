-- `curve_could_meet_aabb` equals its definition: the overlap of the boxes, and where the curve is a straight segment what `meets` says.
use borrow.Author.Tests.{ne_eqb}
use native.Mathlib.Omega.{arith}
use borrow.Author.Tests.{eqb-true}
use Rattle.math.specs.Revision.{arithmetic}
use Rattle.geometry.proofs.aabb.Box.{door_miss, door_degree, door_count, door_segment}
use Rattle.geometry.proofs.aabb.curve_could_meet_aabb.Goals as goal
use Rattle.geometry.proofs.aabb.curve_could_meet_aabb.Goals.{else-degree-eq1-via-then-degree-eq1+else-p-eq2, else-degree-eq1-via-else-degree-eq1}

pub returns-then-not-aabb_could_overlap : goal.returns-then-not-aabb_could_overlap
returns-then-not-aabb_could_overlap ty c =
    let a = c.args in
    door_miss (arithmetic ty.R.Revision.second) a.p.dim a.degree a.p.count a.p.words.now _ _ c.aabb_could_overlap.ensures c.if-not-aabb_could_overlap.true

pub returns-then-p-eq2 : goal.returns-then-p-eq2
returns-then-p-eq2 ty c =
    let a = c.args in
    door_segment (arithmetic ty.R.Revision.second) a.p.dim a.degree a.p.count a.p.words.now _ _ c.aabb_could_overlap.ensures c.if-not-aabb_could_overlap.false
    _ (omega arith) (omega (arith, eqb-true)) c.meets.ensures

pub returns : goal.returns
returns ty c =
    let a = c.args in
    elim c.else-degree-eq1.branch [
      | else-degree-eq1-via-then-degree-eq1+else-p-eq2 w ↦
          door_count (arithmetic ty.R.Revision.second) a.p.dim a.degree a.p.count a.p.words.now _ _ c.aabb_could_overlap.ensures c.if-not-aabb_could_overlap.false w.if-degree-eq1.true (ne_eqb _ _ w.if-p-eq2.false)
      | else-degree-eq1-via-else-degree-eq1 w ↦
          door_degree (arithmetic ty.R.Revision.second) a.p.dim a.degree a.p.count a.p.words.now _ _ c.aabb_could_overlap.ensures c.if-not-aabb_could_overlap.false w.if-degree-eq1.false
    ]
