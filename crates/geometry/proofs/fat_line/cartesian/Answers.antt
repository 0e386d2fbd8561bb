-- `cartesian` equals its definition: the quotients of its at most three coordinates.
use mathlib.Core.Path.{◌≡◌, ap, ◌∙◌}
use Prim.Native.Nat.{ℕ, suc}
use mathlib.Core.Bool.{cond}
use native.Mathlib.Omega.{arith}
use lib.Dec.{ltb}
use lib.Ieee.{Float, binary64, div}
use Rattle.math.specs.Scalars.{zero_f, middle}
use Rattle.model.specs.Vector.{coordinate}
use Rattle.model.specs.Layout.{point_at}
use Rattle.model.specs.FatLine.{cartesian}
use Rattle.geometry.proofs.fat_line.Sizes.{three}
use Rattle.geometry.proofs.fat_line.cartesian.Goals as goal

pub returns : goal.returns
unfolding cartesian
returns c =
    let a = c.args in
    let q = point_at (suc a.p.dim) a.p.words.now a.i in
    let e : c.to_f64-w.result ≡ middle (coordinate q a.p.dim) = c.to_f64-w.ensures ∙ ap middle c.weight.ensures in
    let f : ℕ → Float → Float = λ k v. cond (ltb k a.p.dim) (div binary64 (middle (coordinate q k)) v) zero_f in
    three a.p.dim (λ k. div binary64 (middle (coordinate q k)) (middle (coordinate q a.p.dim))) _ _ _ (omega arith)
    (c.cartesian_at-x.ensures ∙ ap (f 0) e) (c.cartesian_at-y.ensures ∙ ap (f 1) e) (c.cartesian_at-z.ensures ∙ ap (f 2) e)
