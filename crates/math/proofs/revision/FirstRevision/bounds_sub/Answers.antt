-- `bounds_sub` in revision 1: what `difference` gives, which are doubles, and widened are the difference.
use mathlib.Core.Path.{sym, ap, subst, ◌∙◌}
use Rattle.math.specs.Bounds.{widen_b}
use Rattle.math.specs.Laws.{AreDoubles}
use Rattle.math.proofs.Promised.{intervals}
use Rattle.math.proofs.revision.FirstRevision.bounds_sub.Goals as goal

pub returns : goal.returns
returns c =
    let k = c.args in (
      subst AreDoubles (sym c.difference.ensures) (intervals.difference_doubles k.x k.y),
      ap widen_b c.difference.ensures ∙ intervals.widen_difference k.x k.y,
    )
