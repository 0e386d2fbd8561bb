-- `over` in revision 1: over a divisor that was made of its value it is the quotient by that value.
use mathlib.Core.Path.{ap, ◌∙◌}
use Rattle.math.specs.Bounds.{over_s}
use Rattle.math.specs.declared.bounds.Divisor.{Divisor}
use Rattle.math.proofs.Intervals.Bounds.{over_own}
use Rattle.math.proofs.revision.FirstRevision.over.Goals as goal

pub returns : goal.returns
returns c h = c.over.ensures ∙ ap (λ (d : Divisor). over_s c.args.x d) h ∙ over_own c.args.x c.args.d.value
