-- `join` in revision 1: what `join` of the bounds gives, which widened is the union of both widened.
use mathlib.Core.Path.{sym, ap, subst, ◌∙◌}
use Rattle.math.specs.Bounds.{widen_b}
use Rattle.math.specs.Laws.{AreDoubles}
use Rattle.math.proofs.Promised.{intervals}
use Rattle.math.proofs.revision.FirstRevision.join.Goals as goal

pub returns : goal.returns
returns c p q =
    let g = intervals.doubles_join c.args.a c.args.b p q in
    (subst AreDoubles (sym c.join.ensures) g.0, ap widen_b c.join.ensures ∙ g.1)
