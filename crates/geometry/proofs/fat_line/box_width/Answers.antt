-- `box_width` equals its definition. The invariant: the widest of the first k intervals.
use mathlib.Core.Path.{refl}
use native.Mathlib.Omega.{arith}
use lib.Ieee.{of_bits}
use Rattle.lists.specs.Lists.{foldl}
use Rattle.geometry.proofs.fat_line.Sizes.{widest_turn, widest_end}
use Rattle.geometry.proofs.fat_line.box_width.Goals as goal

pub loop-k-init : goal.loop-k-init
unfolding of_bits foldl
loop-k-init c = refl

pub loop-k-preserved : goal.loop-k-preserved
loop-k-preserved c =
    let a = c.args in
    widest_turn a.point_box.now c.loop-k.k _ _ _ _ _ c.loop-k.invariant c.scalar_at.ensures c.width.ensures c.to_f64.ensures c.max-best.ensures

pub returns : goal.returns
returns c =
    let a = c.args in
    widest_end a.point_box.now a.dim c.loop-k.k _ (omega arith) c.loop-k.invariant
