-- `divisor` in revision 1: what `of` made of w has w as its value, and was made of it.
use mathlib.Core.Path.{ap}
use Rattle.math.specs.Bounds.{divisor_of}
use Rattle.math.specs.declared.bounds.Divisor.{Divisor}
use Rattle.math.proofs.Intervals.Bounds.{divisor_own}
use Rattle.math.proofs.revision.FirstRevision.divisor.Goals as goal

pub returns : goal.returns
unfolding divisor_of
returns c = (ap (λ (d : Divisor). d.value) c.of.ensures, divisor_own _ _ c.of.ensures)
