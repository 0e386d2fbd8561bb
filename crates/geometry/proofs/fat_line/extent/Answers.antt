-- `extent` equals its definition. The invariant: what the points from i on add to the sum is the whole length.
use mathlib.Core.Path.{refl, sym, ap, ◌∙◌}
use native.Mathlib.Omega.{arith}
use lib.Ieee.{binary64, add, of_bits}
use Rattle.math.specs.Scalars.{zero_f}
use Rattle.geometry.specs.Sizes.{position_of}
use Rattle.geometry.proofs.fat_line.Sizes.{places, with_root, steps-start, steps_turn, distance_is, extent_end}
use Rattle.geometry.proofs.fat_line.extent.Goals as goal

pub loop-i-init : goal.loop-i-init
unfolding of_bits
loop-i-init c =
    let a = c.args in
    (omega arith, steps-start with_root a.p.count (places a.p.dim a.p.words.now) (position_of a.p.dim c.cartesian-at.result) zero_f (omega arith) c.cartesian-at.ensures)

pub loop-i-preserved : goal.loop-i-preserved
loop-i-preserved c =
    let a = c.args in (
      omega arith,
      steps_turn with_root a.p.count (places a.p.dim a.p.words.now) c.loop-i.sum _ _ (position_of a.p.dim c.loop-i.at) (position_of a.p.dim c.cartesian-next.result) c.loop-i.i _
          (omega arith) c.cartesian-next.ensures refl (ap (add binary64 c.loop-i.sum) (c.distance-sum.ensures ∙ sym (distance_is _ _))) c.loop-i.invariant.1,
    )

pub returns : goal.returns
unfolding of_bits
returns c =
    let a = c.args in
    extent_end a.p.dim a.p.count a.p.words.now c.loop-i.sum _ (position_of a.p.dim c.loop-i.at) c.loop-i.i (omega arith) c.loop-i.invariant.1 c.max.ensures
