-- `div` equals its definition: it fails where `has_zero` says so, and else gives what `quotient` ensures.
use mathlib.Core.Path.{sym, ap, ◌∙◌}
use Rattle.math.specs.declared.scalars.Scalar.{Scalar}
use Rattle.std.specs.Prelude.{Some}
use Rattle.math.proofs.Bools.{pick_yes, pick_no}
use Rattle.math.proofs.Paper.{divides}
use Rattle.math.proofs.revision.Revision.div.Goals as goal

pub returns-then-has_zero : goal.returns-then-has_zero
returns-then-has_zero g c = let k = c.args in divides g.Self.Revision.second k.x k.y _ (pick_yes _ _ _ (sym c.has_zero.ensures ∙ c.if-has_zero.true))

pub returns : goal.returns
returns g c =
    let k = c.args in
    divides g.Self.Revision.second k.x k.y _
    (ap (λ (v : Scalar). Some v) c.quotient.ensures ∙ pick_no _ _ _ (sym c.has_zero.ensures ∙ c.if-has_zero.false))
