-- `unions` equals its definition: each turn takes in one more interval.
use mathlib.Core.Path.{◌≡◌}
use Prim.Native.Nat.{◌≤◌}
use lib.ListN.{get_or}
use Rattle.lists.specs.Lists.{tab}
use Rattle.math.specs.Scalars.{absent}
use Rattle.model.specs.Aabb.{unions}
use Rattle.geometry.proofs.fat_line.unions.Given as goal

abbrev pub invariant-loop-i : goal.invariant-loop-i
invariant-loop-i l = (1 ≤ l.i) × (l.all ≡ unions (tab l.i (λ j. get_or l.l j absent)))
