-- `carried_width` equals its definition. The invariant: the widest of the first i points.
use mathlib.Core.Path.{refl}
use native.Mathlib.Omega.{arith}
use lib.Ieee.{of_bits}
use Rattle.lists.specs.Lists.{foldl}
use Rattle.geometry.proofs.fat_line.Sizes.{carried_turn, carried_end}
use Rattle.geometry.proofs.fat_line.carried_width.Goals as goal

pub loop-i-init : goal.loop-i-init
unfolding of_bits foldl
loop-i-init c = refl

pub loop-i-preserved : goal.loop-i-preserved
loop-i-preserved c =
    let a = c.args in
    carried_turn a.p.dim a.p.words.now c.loop-i.i _ _ c.loop-i.invariant c.carried_by-best.ensures

pub returns : goal.returns
returns c =
    let a = c.args in
    carried_end a.p.dim a.p.count a.p.words.now c.loop-i.i _ (omega arith) c.loop-i.invariant
