-- `bounds_over` in revision 1: what `over` of the bounds gives, which are numbers, and widened are the quotient.
use mathlib.Core.Path.{sym, ap, subst, ◌∙◌}
use Rattle.math.specs.Bounds.{widen_b, over_b}
use Rattle.math.specs.Laws.{AreNumbers}
use Rattle.math.specs.declared.bounds.Divisor.{Divisor}
use Rattle.math.proofs.Promised.{intervals}
use Rattle.math.proofs.revision.FirstRevision.bounds_over.Goals as goal

pub returns : goal.returns
returns c h =
    let k = c.args in (
      subst AreNumbers (sym c.over.ensures) (intervals.over_numbers k.x k.d),
      ap widen_b c.over.ensures ∙ ap (λ (d : Divisor). widen_b (over_b k.x d)) h ∙ intervals.widen_over_own k.x k.d.value,
    )
