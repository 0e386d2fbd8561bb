-- `sharpen` equals its definition: the interval of what `to_f64` ensures.
use mathlib.Core.Path.{◌∙◌}
use Rattle.math.proofs.scalars.Scalar.sharpen.Goals as goal

pub returns : goal.returns
returns c = c.from_f64.ensures ∙ (λ i. record { lo = c.to_f64.ensures i; hi = c.to_f64.ensures i })
