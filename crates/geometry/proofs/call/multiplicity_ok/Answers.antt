-- `multiplicity_ok` equals its definition, by the answers of its tests.
use Rattle.model.specs.NurbCurve.{in_domain}
use Rattle.geometry.proofs.call.Multiplicity.{ok_at_end, ok_at_inner, ok_at_outer}
use Rattle.geometry.proofs.call.multiplicity_ok.Goals as goal

pub returns-then-is_end : goal.returns-then-is_end
returns-then-is_end c =
    let g = c.args in
    ok_at_end g.degree g.a g.b g.knots.now g.i c.is_end.result c.is_end.ensures c.repeats_at.result c.if-is_end.true c.repeats_at.ensures

pub returns-then-in_domain : goal.returns-then-in_domain
unfolding in_domain
returns-then-in_domain c =
    let g = c.args in
    ok_at_inner g.degree g.a g.b g.knots.now g.i c.is_end.result c.is_end.ensures c.in_domain.result c.in_domain.ensures c.repeats_at-then-in_domain.result c.max.result c.if-is_end.false c.if-in_domain.true c.max.ensures c.repeats_at-then-in_domain.ensures

pub returns : goal.returns
unfolding in_domain
returns c =
    let g = c.args in
    ok_at_outer g.degree g.a g.b g.knots.now g.i c.is_end.result c.is_end.ensures c.in_domain.result c.in_domain.ensures c.if-is_end.false c.if-in_domain.false
