-- `triangle_in` equals its definition. Invariant: row r is there, behind the first points of the rows before it, and the last points of those stand behind.
use mathlib.Core.Path.{◌≡◌, refl, ap, ◌∙◌}
use mathlib.Core.List.{List}
use Prim.Native.Nat.{ℕ, suc, ◌+◌, ◌-◌, ◌*◌}
use lib.Ieee.{Float}
use Rattle.lists.specs.Lists.{put}
use Rattle.model.specs.Layout.{flat}
use Rattle.geometry.specs.declared.slots.Shape.{Shape}
use Rattle.geometry.specs.Slots.{place_of, vector_at}
use Rattle.math.specs.Revision.{arithmetic}
use Rattle.geometry.proofs.knot_insertion.Triangle.{triangle-start, triangle-copy, triangle-row, triangle_done}
use native.Mathlib.Omega.{arith}
use Rattle.geometry.proofs.knot_insertion.triangle_in.Goals as goal

pub loop-r-init : goal.loop-r-init
loop-r-init ty c = (refl, triangle-start (arithmetic ty.R.Revision.second) c.args.s c.args.work.now c.args.base c.args.alpha c.requires.0 c.requires.1)

pub loop-r-preserved : goal.loop-r-preserved
loop-r-preserved ty c =
    let g = c.args in
    let l = c.loop-r in (
      c.next_row.auto.work ∙ c.copy_point.auto.work ∙ l.invariant.0,
      triangle-row (arithmetic ty.R.Revision.second) g.s g.work.now g.base g.alpha c.requires.0 c.requires.1 l.r _ _ (omega arith) (triangle-copy (arithmetic ty.R.Revision.second) g.s g.work.now g.base g.alpha c.requires.0 c.requires.1 l.r _ _ (omega arith) l.invariant.1 c.copy_point.ensures) c.next_row.ensures,
    )

pub returns : goal.returns
returns ty c =
    let g = c.args in
    let l = c.loop-r in
    let ar = arithmetic ty.R.Revision.second in
    let at : g.s.degree + 1 ≡ 2 * g.s.degree + 1 - l.r = omega arith in
    triangle-copy ar g.s g.work.now g.base g.alpha c.requires.0 c.requires.1 l.r _ _ (omega arith) l.invariant.1 (c.copy_point-2.ensures ∙ ap (copied g.s g.base l.work) at)
    ∙ triangle_done ar g.s g.work.now g.base g.alpha c.requires.0 c.requires.1 l.r (omega arith)
  where
    -- the words with a copy of the last point in the place of point j
    copied : Shape → ℕ → List Float → ℕ → List Float
    copied s base l j = put l (place_of s base j) (flat (vector_at (suc s.dim) l (place_of s base s.degree)))
