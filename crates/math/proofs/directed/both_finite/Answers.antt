-- `both_finite` equals its definition, by the library's test of each.
use mathlib.Core.Path.{sym, ◌∙◌}
use Rattle.math.proofs.Bools.{and_yes, and_no}
use Rattle.math.proofs.Tight.Kinds.{finite-same}
use Rattle.math.proofs.directed.both_finite.Goals as goal

pub returns-then-is_finite : goal.returns-then-is_finite
returns-then-is_finite c =
    let a = c.args in
    c.is_finite-then-is_finite.ensures.value ∙ finite-same a.b ∙ and_yes _ _ (sym (c.is_finite.ensures.value ∙ finite-same a.a) ∙ c.if-is_finite.true)

pub returns-else-is_finite : goal.returns-else-is_finite
returns-else-is_finite c =
    let h = c.is_finite.ensures.value ∙ finite-same c.args.a in
    h ∙ and_no _ _ (sym h ∙ c.if-is_finite.false)
