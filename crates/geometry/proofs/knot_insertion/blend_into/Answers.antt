-- `blend_into` equals its definition: a copy where alpha is 0, nothing where it is 1, and else the point between, in either revision.
use mathlib.Core.Path.{sym, ◌∙◌}
use lib.Ieee.{of_bits}
use Rattle.math.specs.Revision.{arithmetic}
use Rattle.geometry.proofs.knot_insertion.Insert.{blend_zero, blend_one, blend-mid}
use native.Mathlib.Omega.{arith}
use Rattle.geometry.proofs.knot_insertion.blend_into.Goals as goal

pub returns-then-eq : goal.returns-then-eq
unfolding of_bits
returns-then-eq ty c =
    let g = c.args in
    c.copy.ensures ∙ blend_zero (arithmetic ty.R.Revision.second) g.work.now g.a g.b g.d g.alpha (sym c.eq.ensures ∙ c.if-eq.true) (omega arith)

pub returns-then-eq-2 : goal.returns-then-eq-2
unfolding of_bits
returns-then-eq-2 ty c =
    let g = c.args in
    blend_one (arithmetic ty.R.Revision.second) g.work.now g.a g.b g.d g.alpha (sym c.eq.ensures ∙ c.if-eq.false) (sym c.eq-2.ensures ∙ c.if-eq-2.true) (omega arith)

pub returns : goal.returns
unfolding of_bits
returns ty c =
    let g = c.args in
    c.interpolate.ensures
    ∙ blend-mid (arithmetic ty.R.Revision.second) g.work.now g.a g.b g.d g.alpha (sym c.eq.ensures ∙ c.if-eq.false) (sym c.eq-2.ensures ∙ c.if-eq-2.false)
