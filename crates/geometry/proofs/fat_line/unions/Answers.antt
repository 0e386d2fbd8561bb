-- `unions` equals its definition: each turn takes in one more interval.
use mathlib.Core.Path.{◌≡◌, refl, ap, ◌∙◌}
use Prim.Native.Nat.{ℕ}
use native.Mathlib.Omega.{arith}
use lib.ListN.{length, get_or}
use Rattle.lists.specs.Lists.{tab}
use Rattle.lists.proofs.Tab.{tab-whole}
use Rattle.math.specs.Scalars.{absent}
use Rattle.model.specs.Aabb.{unions}
use Rattle.geometry.proofs.aabb.Unions.{unions_first, unions_turn}
use Rattle.geometry.proofs.fat_line.unions.Goals as goal

pub loop-i-init : goal.loop-i-init
loop-i-init c = (omega arith, unions_first (λ j. get_or c.args.l.now j absent))

pub loop-i-preserved : goal.loop-i-preserved
loop-i-preserved c =
    (omega arith, unions_turn (λ j. get_or c.args.l.now j absent) c.loop-i.i c.loop-i.all _ _ c.loop-i.invariant.0 c.loop-i.invariant.1 refl c.union-all.ensures)

pub returns : goal.returns
returns c =
    let l = c.args.l.now in
    let e : c.loop-i.i ≡ length l = omega arith in
    c.loop-i.invariant.1 ∙ ap (λ (n : ℕ). unions (tab n (λ j. get_or l j absent))) e ∙ ap unions (tab-whole l absent)
