-- `wider` equals its definition, arm by arm.
use mathlib.Core.Path.{ap, ◌∙◌}
use lib.Ieee.{Float, binary64, div}
use borrow.Author.Tests.{lt-ltb}
use native.Mathlib.Omega.{arith}
use Rattle.math.specs.Picks.{max_f}
use Rattle.math.specs.Scalars.{middle, sharp, width_s}
use Rattle.math.specs.declared.scalars.Scalar.{Scalar}
use Rattle.math.proofs.Bools.{pick_yes}
use Rattle.model.specs.FatLine.{to_f64}
use Rattle.geometry.proofs.fat_line.wider.Goals as goal

pub returns-then-k-p : goal.returns-then-k-p
unfolding to_f64
returns-then-k-p c =
    let a = c.args in
    c.max.ensures
    ∙ ap (λ (v : Float). max_f a.best (div binary64 v a.w))
    (c.to_f64.ensures ∙ ap middle (c.width.ensures ∙ ap (λ (v : Scalar). sharp (width_s v)) c.coordinate.ensures))
    ∙ pick_yes _ _ _ (lt-ltb a.k a.p.dim (omega arith))
