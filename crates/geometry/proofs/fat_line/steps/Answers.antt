-- `steps` equals its definition. The invariant: what the steps from point i on make of both numbers is what all steps make.
use mathlib.Core.Path.{refl}
use native.Mathlib.Omega.{arith}
use lib.Ieee.{binary64, add, of_bits}
use Rattle.math.specs.Picks.{max_f}
use Rattle.math.specs.Scalars.{zero_f}
use Rattle.geometry.specs.Sizes.{position_of}
use Rattle.geometry.proofs.fat_line.Sizes.{places, steps-start, steps_turn, steps_done}
use Rattle.geometry.proofs.fat_line.steps.Goals as goal

pub loop-i-init : goal.loop-i-init
unfolding of_bits
loop-i-init c =
    let a = c.args in (
      omega arith,
      steps-start (λ s x. add binary64 s x) a.p.count (places a.p.dim a.p.words.now) (position_of a.p.dim c.cartesian-at.result) zero_f (omega arith) c.cartesian-at.ensures,
      steps-start max_f a.p.count (places a.p.dim a.p.words.now) (position_of a.p.dim c.cartesian-at.result) zero_f (omega arith) c.cartesian-at.ensures,
    )

pub loop-i-preserved : goal.loop-i-preserved
loop-i-preserved c =
    let a = c.args in (
      omega arith,
      steps_turn (λ s x. add binary64 s x) a.p.count (places a.p.dim a.p.words.now) c.loop-i.total _ _ (position_of a.p.dim c.loop-i.at) (position_of a.p.dim c.cartesian-next.result) c.loop-i.i _
          (omega arith) c.cartesian-next.ensures c.squared-s.ensures refl c.loop-i.invariant.1,
      steps_turn max_f a.p.count (places a.p.dim a.p.words.now) c.loop-i.top _ _ (position_of a.p.dim c.loop-i.at) (position_of a.p.dim c.cartesian-next.result) c.loop-i.i _
          (omega arith) c.cartesian-next.ensures c.squared-s.ensures c.max-top.ensures c.loop-i.invariant.2,
    )

pub returns : goal.returns
unfolding of_bits
returns c =
    let a = c.args in
    steps_done a.p.dim a.p.count a.p.words.now c.loop-i.total c.loop-i.top (position_of a.p.dim c.loop-i.at) c.loop-i.i (omega arith) c.loop-i.invariant.1 c.loop-i.invariant.2
