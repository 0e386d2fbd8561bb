-- `band` equals its definition. The invariant: closed, the bounds so far are the union of the first i offsets.
use Prim.Native.Nat.{◌≤◌}
use Rattle.lists.specs.Lists.{tab}
use Rattle.math.specs.Revision.{arithmetic}
use Rattle.model.specs.Aabb.{unions}
use Rattle.geometry.proofs.aabb.Unions.{Gives}
use Rattle.geometry.proofs.fat_line.Zeros.{off}
use Rattle.geometry.proofs.fat_line.band.Given as goal

abbrev pub invariant-loop-i : goal.invariant-loop-i
invariant-loop-i ty l =
    let R = ty.R.Revision in
    (1 ≤ l.i) × Gives R.Joined R.closed (unions (tab l.i (off (arithmetic R.second) l.slope l.y0 l.dx l.d))) l.all
