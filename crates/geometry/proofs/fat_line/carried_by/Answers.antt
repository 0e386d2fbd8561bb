-- `carried_by` equals its definition: its at most three coordinates, one after the other.
use mathlib.Core.Path.{◌≡◌, ap, ◌∙◌}
use Prim.Native.Nat.{ℕ, suc}
use mathlib.Core.Bool.{cond}
use native.Mathlib.Omega.{arith}
use lib.Dec.{ltb}
use lib.Ieee.{Float, binary64, div}
use Rattle.math.specs.Picks.{max_f}
use Rattle.math.specs.Scalars.{middle, width_s}
use Rattle.model.specs.Vector.{coordinate}
use Rattle.model.specs.Layout.{point_at}
use Rattle.model.specs.FatLine.{to_f64, carried_by}
use Rattle.geometry.proofs.fat_line.Sizes.{fold-three}
use Rattle.geometry.proofs.fat_line.carried_by.Goals as goal

pub returns : goal.returns
unfolding carried_by
returns c =
    let a = c.args in
    let q = point_at (suc a.p.dim) a.p.words.now a.i in
    let e : c.to_f64-w.result ≡ middle (coordinate q a.p.dim) = c.to_f64-w.ensures ∙ ap middle c.weight.ensures in
    let f : ℕ → Float → Float → Float = λ k b v. cond (ltb k a.p.dim) (max_f b (div binary64 (to_f64 (width_s (coordinate q k))) v)) b in
    fold-three max_f a.p.dim (λ k. div binary64 (to_f64 (width_s (coordinate q k))) (middle (coordinate q a.p.dim))) a.best _ _ _ (omega arith)
    (c.wider-b.ensures ∙ ap (f 0 a.best) e) (c.wider-c.ensures ∙ ap (f 1 c.wider-b.result) e) (c.wider.ensures ∙ ap (f 2 c.wider-c.result) e)
