-- `alpha_at` equals its definition: 0 or 1 where t is one of the two knots, and else what the division gives.
use mathlib.Core.Path.{◌∙◌}
use lib.Ieee.{of_bits}
use Rattle.math.specs.Scalars.{ONE}
use Rattle.math.proofs.Laws.{value_or_is}
use Rattle.math.specs.Revision.{arithmetic}
use Rattle.geometry.proofs.knot_insertion.Spans.{alpha-start, alpha_end, alpha-between}
use Rattle.geometry.proofs.knot_insertion.alpha_at.Goals as goal

pub returns-then-a-t : goal.returns-then-a-t
unfolding of_bits
returns-then-a-t ty c = let g = c.args in alpha-start (arithmetic ty.R.Revision.second) g.degree g.knots.now g.t g.i c.if-a-t.true

pub returns-then-b-t : goal.returns-then-b-t
unfolding of_bits
returns-then-b-t ty c =
    let g = c.args in alpha_end (arithmetic ty.R.Revision.second) g.degree g.knots.now g.t g.i c.if-a-t.false c.if-b-t.true

pub returns : goal.returns
unfolding of_bits
returns ty c =
    let g = c.args in
    let ar = arithmetic ty.R.Revision.second in
    c.unwrap_or.ensures ∙ value_or_is c.div.result ONE
    ∙ alpha-between ar g.degree g.knots.now g.t g.i _ _ _ _ _ _ c.if-a-t.false c.if-b-t.false c.from_f64-start.ensures c.from_f64-2.ensures c.sub.ensures c.from_f64.ensures c.sub-run.ensures c.div.ensures.result
