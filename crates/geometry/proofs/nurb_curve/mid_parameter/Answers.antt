-- `mid_parameter` equals its definition: its six calls, one after the other.
use mathlib.Core.Path.{ap, ◌∙◌}
use lib.Ieee.{of_bits}
use Rattle.math.specs.Revision.{arithmetic}
use Rattle.math.specs.Scalars.{TWO, ENTIRE, middle, value_or}
use Rattle.math.specs.declared.scalars.Scalar.{Scalar}
use Rattle.math.specs.Divided.{Divided}
use Rattle.math.proofs.Laws.{value_or_is}
use Rattle.model.specs.NurbCurve.{mid_parameter}
use Rattle.geometry.proofs.nurb_curve.mid_parameter.Goals as goal

pub returns : goal.returns
unfolding mid_parameter of_bits
returns ty c =
    let ar = arithmetic ty.R.Revision.second in
    c.to_f64.ensures
    ∙ ap middle (c.unwrap_or.ensures ∙ value_or_is c.div.result c.entire.result ∙ ap (value_or c.div.result) c.entire.ensures ∙ ap (λ (d : Divided). value_or d ENTIRE) (c.div.ensures.result ∙ ap (λ (x : Scalar). ar.div x TWO) (c.add-sum.ensures ∙ (λ i. ar.add (c.from_f64.ensures i) (c.from_f64-2.ensures i)))))
