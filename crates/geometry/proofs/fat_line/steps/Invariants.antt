-- `steps` equals its definition. The invariant: what the steps from point i on make of both numbers is what all steps make.
use mathlib.Core.Path.{◌≡◌}
use Prim.Native.Nat.{◌≤◌}
use lib.Ieee.{binary64, add}
use Rattle.lists.specs.Lists.{tab, foldl}
use Rattle.math.specs.Picks.{max_f}
use Rattle.math.specs.Scalars.{zero_f}
use Rattle.geometry.specs.Sizes.{position_of, squares}
use Rattle.geometry.proofs.fat_line.Sizes.{places, steps_from}
use Rattle.geometry.proofs.fat_line.steps.Given as goal

abbrev pub invariant-loop-i : goal.invariant-loop-i
invariant-loop-i l =
    (1 ≤ l.i)
    × (steps_from (λ s x. add binary64 s x) (tab l.p.count (places l.p.dim l.p.words.now)) l.total (position_of l.p.dim l.at) l.i ≡ foldl (λ s x. add binary64 s x) zero_f (squares (tab l.p.count (places l.p.dim l.p.words.now))))
    × (steps_from max_f (tab l.p.count (places l.p.dim l.p.words.now)) l.top (position_of l.p.dim l.at) l.i ≡ foldl max_f zero_f (squares (tab l.p.count (places l.p.dim l.p.words.now))))
