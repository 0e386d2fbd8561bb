-- `quotient_down` equals its definition.
use mathlib.Core.Path.{◌≡◌, sym, ◌∙◌}
use mathlib.Core.Bool.{true, not, ◌&&◌}
use lib.Ieee.{of_bits}
use Rattle.math.specs.Directed.{is_zero}
use Rattle.math.specs.RootLaws.{is_finite}
use Rattle.math.proofs.Tight.Flat.{flat-quotient}
use Rattle.math.proofs.Tight.Ratios.{quotient-chosen, quotient-passed}
use Rattle.math.proofs.Tight.Sides.{moved-or-stayed}
use Rattle.math.proofs.directed.quotient_down.Goals as goal
use Rattle.math.proofs.directed.quotient_down.Goals.{then-not-divides-via-then-not-divides, then-not-divides-via-else-not-divides+then-a}

pub returns-then-not-divides : goal.returns-then-not-divides
unfolding of_bits
returns-then-not-divides c =
    let a = c.args in
    elim c.then-not-divides.branch [
      | then-not-divides-via-then-not-divides w ↦ quotient-passed a.a a.b (sym c.divides.ensures ∙ w.if-not-divides.true)
      | then-not-divides-via-else-not-divides+then-a w ↦ flat-quotient a.a a.b (sym c.divides.ensures ∙ w.if-not-divides.false) w.if-a.true
    ]

pub returns : goal.returns
returns c =
    let divided : (is_finite c.args.a && is_finite c.args.b && not (is_zero c.args.b)) ≡ true = sym c.divides.ensures ∙ c.if-not-divides.false in
    let a = c.args in
    c.stepped.ensures ∙ moved-or-stayed _ _ _ c.above_quotient.ensures ∙ quotient-chosen a.a a.b divided
