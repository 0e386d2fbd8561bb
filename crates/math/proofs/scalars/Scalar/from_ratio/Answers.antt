-- `from_ratio` equals its definition: it fails at a denominator of 0, and else gives the two neighbours of the quotient.
use mathlib.Core.Path.{◌≡◌, ap, ◌∙◌}
use borrow.Author.Tests.{eq-eqb, ne_eqb}
use Rattle.math.proofs.Bools.{pick_yes, pick_no}
use Rattle.math.proofs.Paper.{is_ratio}
use lib.Ieee.{binary64, div}
use Rattle.math.specs.Neighbours.{next_down, next_up}
use Rattle.math.specs.Scalars.{widened, ratio_of, from_ratio}
use Rattle.std.specs.Prelude.{Some}
use Rattle.math.proofs.scalars.Scalar.from_ratio.Goals as goal

pub returns-then-den-eq0 : goal.returns-then-den-eq0
unfolding from_ratio
returns-then-den-eq0 c = let g = c.args in is_ratio g.num g.den _ (pick_yes _ _ _ (eq-eqb g.den 0 c.if-den-eq0.true))

pub returns : goal.returns
unfolding from_ratio
returns c =
    let g = c.args in
    let q : div binary64 c.from.result c.from-2.result ≡ ratio_of g.num g.den = λ i. div binary64 (c.from.ensures i) (c.from-2.ensures i) in
    let w : Some (record { lo = c.next_down.result; hi = c.next_up.result }) ≡ Some (widened (ratio_of g.num g.den) (ratio_of g.num g.den)) =
    λ i. Some (record { lo = (c.next_down.ensures ∙ ap next_down q) i; hi = (c.next_up.ensures ∙ ap next_up q) i }) in
    is_ratio g.num g.den _ (w ∙ pick_no _ _ _ (ne_eqb g.den 0 c.if-den-eq0.false))
