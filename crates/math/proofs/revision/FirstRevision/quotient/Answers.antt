-- `quotient` in revision 1: the product with what `inverse` ensures.
use mathlib.Core.Path.{ap, ◌∙◌}
use Rattle.math.specs.Paper.{quotient_in}
use Rattle.math.specs.Scalars.{mul_s}
use Rattle.math.specs.declared.scalars.Scalar.{Scalar}
use Rattle.math.proofs.revision.FirstRevision.quotient.Goals as goal

pub returns : goal.returns
unfolding quotient_in
returns c = c.mul.ensures ∙ ap (λ (v : Scalar). mul_s c.args.x v) c.inverse.ensures
