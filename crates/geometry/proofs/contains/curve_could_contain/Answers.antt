-- `curve_could_contain` keeps its promises: a refused call gives its number and writes nothing; any other is searched in its revision.
use mathlib.Core.Path.{sym, subst}
use mathlib.Core.Bool.{Bool}
use borrow.Author.Tests.{eq-eqb, ne_eqb}
use lib.ListN.{length}
use Rattle.math.specs.Revision.{arithmetic}
use Rattle.model.specs.Call.{lent}
use Rattle.geometry.specs.Call.{Searches}
use Rattle.geometry.proofs.contains.Lent.{refused, answered_by_lem}
use Rattle.geometry.proofs.contains.curve_could_contain.Goals as goal

pub returns-in-Err : goal.returns-in-Err
returns-in-Err c =
    let g = c.args in
    let call = lent g.rev g.dim g.degree g.count g.knots.now g.points.now g.point_box.now g.resolution g.nodes (length g.work.now) in
    refused call c.args.work.now _ c.in-Err.ensures

pub returns-then-rev-eq2 : goal.returns-then-rev-eq2
returns-then-rev-eq2 c =
    let g = c.args in
    let call = lent g.rev g.dim g.degree g.count g.knots.now g.points.now g.point_box.now g.resolution g.nodes (length g.work.now) in
    answered_by_lem call _ _ _ (record { knots = λ i _. c.type_inv.knots i; box = λ i _. c.type_inv.point_box i })
    (subst (λ (b : Bool). Searches (arithmetic b) call g.work.now c.search_lent.new.work c.search_lent.result) (sym (eq-eqb g.rev 2 c.if-rev-eq2.true)) c.search_lent.ensures)

pub returns : goal.returns
returns c =
    let g = c.args in
    let call = lent g.rev g.dim g.degree g.count g.knots.now g.points.now g.point_box.now g.resolution g.nodes (length g.work.now) in
    answered_by_lem call _ _ _ (record { knots = λ i _. c.type_inv.knots i; box = λ i _. c.type_inv.point_box i })
    (subst (λ (b : Bool). Searches (arithmetic b) call g.work.now c.search_lent-2.new.work c.search_lent-2.result) (sym (ne_eqb g.rev 2 c.if-rev-eq2.false)) c.search_lent-2.ensures)
