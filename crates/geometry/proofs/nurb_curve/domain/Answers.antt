-- `domain` equals its definition: the union of its two ends.
use mathlib.Core.Path.{◌∙◌}
use Rattle.math.specs.Scalars.{union_s}
use Rattle.model.specs.NurbCurve.{domain}
use Rattle.geometry.proofs.nurb_curve.domain.Goals as goal

pub returns : goal.returns
unfolding domain
returns c = c.union.ensures ∙ (λ i. union_s (c.from_f64.ensures i) (c.from_f64-2.ensures i))
