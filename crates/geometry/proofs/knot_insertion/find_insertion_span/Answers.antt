-- `find_insertion_span` equals its definition. Invariant: no span from i on holds t.
use mathlib.Core.Path.{refl, sym, ◌∙◌}
use Rattle.model.specs.KnotInsertion.{insertion_span}
use Rattle.geometry.proofs.knot_insertion.Spans.{span_here, span-down, span_none}
use native.Mathlib.Omega.{arith}
use Rattle.geometry.proofs.knot_insertion.find_insertion_span.Goals as goal

pub loop-i-init : goal.loop-i-init
unfolding insertion_span
loop-i-init c = (omega arith, refl)

pub loop-i-preserved : goal.loop-i-preserved
loop-i-preserved c =
    let l = c.loop-i in
    let g = c.args in
    (omega arith, span-down g.knots.now g.t g.degree l.i (omega arith) (sym c.holds_at.ensures ∙ c.if-holds_at.false) ∙ l.invariant.1)

pub returns-then-holds_at : goal.returns-then-holds_at
returns-then-holds_at c =
    let l = c.loop-i in
    let g = c.args in
    span_here g.knots.now g.t g.degree l.i (omega arith) (sym c.holds_at.ensures ∙ c.if-holds_at.true) ∙ l.invariant.1

pub returns : goal.returns
returns c =
    let l = c.loop-i in
    let g = c.args in
    span_none g.knots.now g.t g.degree l.i (omega arith) ∙ l.invariant.1
