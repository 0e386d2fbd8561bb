-- `is_bezier_span` equals its definition: one test after the other.
use mathlib.Core.Path.{ap}
use mathlib.Core.Bool.{not}
use Rattle.geometry.proofs.knot_insertion.Spans.{bezier_few, bezier_not, bezier_last}
use native.Mathlib.Omega.{arith}
use Rattle.geometry.proofs.knot_insertion.is_bezier_span.Goals as goal

pub returns-then-count-m : goal.returns-then-count-m
returns-then-count-m c = let g = c.args in bezier_few g.degree g.count g.knots.now c.if-count-m.true

pub returns-then-not-all_are : goal.returns-then-not-all_are
returns-then-not-all_are c = let g = c.args in bezier_not g.degree g.count g.knots.now (omega arith) _ c.all_are.ensures (ap not c.if-not-all_are.true)

pub returns : goal.returns
returns c = let g = c.args in bezier_last g.degree g.count g.knots.now (omega arith) _ _ c.all_are.ensures (ap not c.if-not-all_are.false) c.all_are-2.ensures
