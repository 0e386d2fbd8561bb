-- `meets` equals its definition. The invariant: what is left of the walk, from the range that is left, gives what the whole walk gives.
use mathlib.Core.Path.{◌≡◌}
use Prim.Native.Nat.{suc}
use lib.ListN.{drop}
use Rattle.math.specs.Scalars.{ZERO, ONE, union_s}
use Rattle.math.specs.Revision.{arithmetic}
use Rattle.model.specs.Layout.{scalars_of, point_at}
use Rattle.model.specs.Aabb.{meets}
use Rattle.geometry.proofs.aabb.meets.Given as goal

abbrev pub invariant-loop-k : goal.invariant-loop-k
invariant-loop-k ty l =
    meets (arithmetic ty.R.Revision.second) l.p.dim (point_at (suc l.p.dim) l.p.words.now 0) (point_at (suc l.p.dim) l.p.words.now 1) l.range l.k (drop l.k (scalars_of l.p.dim l.point_box))
    ≡ meets (arithmetic ty.R.Revision.second) l.p.dim (point_at (suc l.p.dim) l.p.words.now 0) (point_at (suc l.p.dim) l.p.words.now 1) (union_s ZERO ONE) 0 (scalars_of l.p.dim l.point_box)
