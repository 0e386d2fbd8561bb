-- `weights_positive` equals its definition.
use Rattle.std.proofs.Common.{rules, arith, refl, true, false, ◌≡◌, ℕ, Bool}
use Rattle.std.proofs.lemmas.Iterator.{cases_from_all, YieldsList-from_range}
use Prim.Native.Nat.{suc}
use lib.Ieee.{of_bits}
use Rattle.model.specs.Layout.{point_at, points_of}
use Rattle.model.specs.Vector.{Vector}
use Rattle.model.specs.NurbCurve.{weights_positive}
use Rattle.geometry.proofs.Lists.Walks.{tab_by, each_below, some_below}
use Rattle.geometry.proofs.nurb_curve.Points.{heavy}
use Rattle.geometry.proofs.nurb_curve.Polygon.weights_positive.Goals as goal

pub returns : goal.returns
unfolding of_bits points_of weights_positive
returns c =
    let p = c.args.self in
    let of : ℕ → Vector = point_at (suc p.dim) p.words.now in
    let test : ℕ → Bool = λ i. heavy p.dim (of i) in
    let e = cases_from_all _ _ _ (λ i. test i ≡ true) (λ i. test i ≡ false) c.all.ensures.ran
    (YieldsList-from_range 0 p.count p.count refl (omega arith)) (λ x q k. search rules) (λ x q k. search rules) in
    tab_by (heavy p.dim) p.count of _ (each_below test _ _ e) (some_below test _ _ e)
