-- `interpolate` equals its definition: `between` goes the fraction of alpha.
use mathlib.Core.Path.{ap, ◌∙◌}
use Rattle.math.specs.Revision.{arithmetic}
use Rattle.math.specs.Factors.{between_s}
use Rattle.math.proofs.Intervals.Factors.{between_is}
use Rattle.math.proofs.revision.Revision.interpolate.Goals as goal

pub returns : goal.returns
returns g c =
    let k = c.args in
    c.between.ensures ∙ ap (between_s (arithmetic g.Self.Revision.second) k.a k.b) c.fraction.ensures ∙ between_is (arithmetic g.Self.Revision.second) k.a k.b k.alpha
