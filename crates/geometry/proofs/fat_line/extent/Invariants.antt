-- `extent` equals its definition. The invariant: what the points from i on add to the sum is the whole length.
use mathlib.Core.Path.{◌≡◌}
use Prim.Native.Nat.{◌≤◌}
use Rattle.lists.specs.Lists.{tab, foldl}
use Rattle.math.specs.Scalars.{zero_f}
use Rattle.geometry.specs.Sizes.{position_of, squares}
use Rattle.geometry.proofs.fat_line.Sizes.{places, with_root, steps_from}
use Rattle.geometry.proofs.fat_line.extent.Given as goal

abbrev pub invariant-loop-i : goal.invariant-loop-i
invariant-loop-i l =
    (1 ≤ l.i) × (steps_from with_root (tab l.p.count (places l.p.dim l.p.words.now)) l.sum (position_of l.p.dim l.at) l.i ≡ foldl with_root zero_f (squares (tab l.p.count (places l.p.dim l.p.words.now))))
