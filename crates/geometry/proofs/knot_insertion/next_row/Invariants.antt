-- `next_row` equals its definition. Invariant: the points behind number i are points between.
use mathlib.Core.Path.{◌≡◌}
use Prim.Native.Nat.{suc, ◌+◌, ◌-◌, ◌≤◌}
use lib.ListN.{length}
use Rattle.math.specs.Revision.{arithmetic}
use Rattle.lists.specs.Lists.{put, tab}
use Rattle.geometry.specs.Slots.{place_of, between_at, numbers}
use Rattle.geometry.proofs.knot_insertion.next_row.Given as goal

abbrev pub invariant-loop-i : goal.invariant-loop-i
invariant-loop-i ty l = (l.r ≤ l.i) × (length l.work ≡ length l.initial.work) × (l.work ≡ put l.initial.work (place_of l.s l.base (suc l.i)) (numbers (tab (l.s.degree - l.i) (λ j. between_at (arithmetic ty.R.Revision.second) l.s l.initial.work l.base l.alpha (l.i + j)))))
