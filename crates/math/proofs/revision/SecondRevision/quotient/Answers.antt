-- `quotient` equals its definition, by the sign of the divisor: its bounds are what `over` ensures.
use mathlib.Core.Path.{ap, ◌∙◌}
use lib.Ieee.{neg, of_bits}
use Rattle.math.specs.Paper.{quotient_in}
use Rattle.math.specs.Tight.{quotient}
use Rattle.math.proofs.Bools.{pick_yes, pick_no}
use Rattle.math.proofs.revision.SecondRevision.quotient.Goals as goal

pub returns-then-y : goal.returns-then-y
unfolding quotient quotient_in of_bits
returns-then-y c =
    (λ i. record { lo = c.over-lo.ensures i; hi = ap neg c.over-hi.ensures i }) ∙ pick_yes _ _ _ c.if-y.true

pub returns : goal.returns
unfolding quotient quotient_in of_bits
returns c =
    (λ i. record { lo = c.over-lo-2.ensures i; hi = ap neg c.over-hi-2.ensures i }) ∙ pick_no _ _ _ c.if-y.false
