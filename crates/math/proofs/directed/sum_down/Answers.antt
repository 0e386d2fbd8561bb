-- `sum_down` equals its definition: the test says whether the rounded sum lies above the exact one.
use mathlib.Core.Path.{sym, ap, ◌∙◌, subst}
use mathlib.Core.Bool.{Bool, cond}
use lib.Dec.{T}
use lib.Ieee.{binary64, add}
use Rattle.math.specs.Neighbours.{next_down}
use Rattle.math.proofs.Tight.Sums.{sum-down}
use Rattle.math.proofs.directed.sum_down.Goals as goal

-- an f64 holds a double of its format
pub returns : goal.returns
returns c =
    let a = c.args.a in
    let b = c.args.b in
    c.stepped.ensures ∙ ap (λ (t : Bool). cond t (next_down (add binary64 a b)) (add binary64 a b)) c.above_sum.ensures
    ∙ sum-down a b (subst T (sym c.well_formed.0.1) tt) (subst T (sym c.well_formed.1.0.1) tt)
