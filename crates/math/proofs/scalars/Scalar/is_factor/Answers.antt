-- `is_factor` equals its definition: of each two tests the second where the first passed, and else the first.
use mathlib.Core.Path.{◌≡◌, sym, ◌∙◌}
use mathlib.Core.Bool.{◌&&◌}
use lib.Ieee.{lt, le, of_bits}
use Rattle.math.specs.Scalars.{zero_f}
use Rattle.math.proofs.Bools.{and_yes, and_no}
use Rattle.math.proofs.scalars.Scalar.is_factor.Goals as goal
use Rattle.math.proofs.scalars.Scalar.is_factor.Goals.{then-self, else-self}

pub returns-then-self-2 : goal.returns-then-self-2
unfolding of_bits
returns-then-self-2 c =
    let both : c.if-self.value ≡ (lt zero_f c.args.self.lo && le c.args.self.lo c.args.self.hi) =
    elim c.if-self.branch [ then-self w ↦ w.value-is ∙ and_yes _ _ w.if-self.true | else-self w ↦ w.value-is ∙ and_no _ _ w.if-self.false ] in
    and_yes _ _ (sym both ∙ c.if-self-2.true)

pub returns-else-self-2 : goal.returns-else-self-2
unfolding of_bits
returns-else-self-2 c =
    let both : c.if-self.value ≡ (lt zero_f c.args.self.lo && le c.args.self.lo c.args.self.hi) =
    elim c.if-self.branch [ then-self w ↦ w.value-is ∙ and_yes _ _ w.if-self.true | else-self w ↦ w.value-is ∙ and_no _ _ w.if-self.false ] in
    both ∙ and_no _ _ (sym both ∙ c.if-self-2.false)
