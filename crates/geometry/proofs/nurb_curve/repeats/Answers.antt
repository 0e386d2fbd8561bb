-- `repeats` equals its definition, and says of intervals of doubles that they are one.
use mathlib.Core.Path.{sym, ◌∙◌}
use Rattle.geometry.proofs.nurb_curve.Same.{repeats_one, repeats-yes}
use Rattle.geometry.proofs.nurb_curve.repeats.Goals as goal

pub returns-then-a-b-2 : goal.returns-then-a-b-2
returns-then-a-b-2 c =
    let a = c.args in
    let A = c.struct_known-1.given in
    let B = c.struct_known-2-1.given in (
      repeats-yes a.a a.b _ _ c.if-a-b.true c.if-a-b-2.true c.positive.ensures,
      λ e. repeats_one a.a a.b A.0 A.1.0 B.0 B.1.0 c.if-a-b.true c.if-a-b-2.true (sym c.positive.ensures ∙ e),
    )
