-- `pick` in revision 1: what `pick` of the bounds gives, which widened is the union of both widened.
use mathlib.Core.Path.{sym, ap, subst, ◌∙◌}
use Rattle.math.specs.Bounds.{widen_b}
use Rattle.math.specs.Laws.{AreNumbers}
use Rattle.math.proofs.Promised.{intervals}
use Rattle.math.proofs.revision.FirstRevision.pick.Goals as goal

pub returns : goal.returns
returns c p q =
    let g = intervals.numbers_pick c.args.a c.args.b p q in
    (subst AreNumbers (sym c.pick.ensures) g.0, ap widen_b c.pick.ensures ∙ g.1)
