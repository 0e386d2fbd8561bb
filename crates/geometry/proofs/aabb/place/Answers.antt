-- `place` equals its definition: its four calls, one after the other.
use mathlib.Core.Path.{ap, ◌∙◌}
use Rattle.math.specs.Revision.{arithmetic}
use Rattle.math.specs.Scalars.{ENTIRE, value_or}
use Rattle.math.specs.Divided.{Divided}
use Rattle.math.proofs.Laws.{value_or_is}
use Rattle.model.specs.Aabb.{place}
use Rattle.geometry.proofs.aabb.place.Goals as goal

pub returns : goal.returns
unfolding place
returns ty c =
    c.unwrap_or.ensures ∙ value_or_is c.div.result c.entire.result ∙ ap (value_or c.div.result) c.entire.ensures
    ∙ ap (λ (d : Divided). value_or d ENTIRE) (c.div.ensures.result ∙ (λ i. (arithmetic ty.R.Revision.second).div (c.coordinate-x.ensures i) (c.weight-w.ensures i)))
