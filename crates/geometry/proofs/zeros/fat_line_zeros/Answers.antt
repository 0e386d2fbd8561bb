-- `fat_line_zeros` equals its definition: where the lists are no polygon nothing is known, and else it is what its revision finds.
use Rattle.std.proofs.Common.{sym, ap, ◌∙◌, true, false}
use mathlib.Core.Bool.{Bool}
use borrow.Author.Tests.{eq-eqb, ne_eqb}
use Rattle.std.specs.Prelude.{Some}
use Rattle.math.specs.Revision.{arithmetic}
use Rattle.math.specs.declared.scalars.Scalar.{Scalar}
use Rattle.model.specs.FatLine.{fat_line_zeros}
use Rattle.model.specs.Hat.{Hat}
use Rattle.geometry.proofs.zeros.Polygon.{zeros-found, no_polygon, a_polygon}
use Rattle.geometry.proofs.zeros.fat_line_zeros.Goals as goal

pub returns-then-not-answerable : goal.returns-then-not-answerable
returns-then-not-answerable c =
    let xs = c.args.xi.now in
    let ys = c.args.d.now in
    let whole : Scalar → Hat = λ s. Some s in
    zeros-found c.args.rev xs ys _ (ap whole c.entire.ensures ∙ no_polygon c.args.rev xs ys false (sym c.if-not-answerable.true ∙ c.answerable.ensures) tt)

pub returns-then-rev-eq2 : goal.returns-then-rev-eq2
returns-then-rev-eq2 c =
    let xs = c.args.xi.now in
    let ys = c.args.d.now in
    zeros-found c.args.rev xs ys _
    (c.polygon_zeros.ensures ∙ ap (λ (b : Bool). fat_line_zeros (arithmetic b) xs ys) (sym (eq-eqb c.args.rev 2 c.if-rev-eq2.true)) ∙ a_polygon c.args.rev xs ys true (sym c.if-not-answerable.false ∙ c.answerable.ensures) tt)

pub returns : goal.returns
returns c =
    let xs = c.args.xi.now in
    let ys = c.args.d.now in
    zeros-found c.args.rev xs ys _
    (c.polygon_zeros-2.ensures ∙ ap (λ (b : Bool). fat_line_zeros (arithmetic b) xs ys) (sym (ne_eqb c.args.rev 2 c.if-rev-eq2.false)) ∙ a_polygon c.args.rev xs ys true (sym c.if-not-answerable.false ∙ c.answerable.ensures) tt)
