-- `divides` equals its definition.
use mathlib.Core.Path.{sym, ◌∙◌}
use lib.Ieee.{of_bits}
use Rattle.math.specs.RootLaws.{is_finite}
use Rattle.math.proofs.Bools.{and_both, and_yes}
use Rattle.math.proofs.Tight.Ratios.{nonzero_test}
use Rattle.math.proofs.directed.divides.Goals as goal

pub returns-then-both_finite : goal.returns-then-both_finite
unfolding of_bits
returns-then-both_finite c =
    let a = c.args in
    let h = sym c.both_finite.ensures ∙ c.if-both_finite.true in
    nonzero_test a.b (and_both (is_finite a.a) (is_finite a.b) h).1 ∙ and_yes _ _ h
