-- `blend_points` equals its definition. Invariant: the points behind number i are blends.
use mathlib.Core.Path.{◌≡◌}
use Prim.Native.Nat.{suc, ◌+◌, ◌-◌, ◌≤◌}
use lib.ListN.{length}
use Rattle.math.specs.Revision.{arithmetic}
use Rattle.lists.specs.Lists.{put, tab}
use Rattle.geometry.specs.Slots.{place_of, blend_at, numbers}
use Rattle.geometry.proofs.knot_insertion.blend_points.Given as goal

abbrev pub invariant-loop-i : goal.invariant-loop-i
invariant-loop-i ty l = (l.k - l.s.degree ≤ l.i) × (length l.work ≡ length l.initial.work) × (l.work ≡ put l.initial.work (place_of l.s l.base (suc l.i)) (numbers (tab (l.k - l.i) (λ j. blend_at (arithmetic ty.R.Revision.second) l.s l.initial.work l.base l.n l.t (l.i + j)))))
