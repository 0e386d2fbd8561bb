-- `aabb_could_overlap` equals its definition. The invariant: what is left to test answers for the whole.
use mathlib.Core.Path.{◌≡◌}
use Rattle.lists.specs.Lists.{tab}
use Rattle.math.specs.Revision.{arithmetic}
use Rattle.model.specs.Layout.{scalar_at}
use Rattle.model.specs.Aabb.{could_overlap}
use Rattle.geometry.proofs.aabb.Box.{axis_at_lem, overlap_from}
use Rattle.geometry.proofs.aabb.aabb_could_overlap.Given as goal

abbrev pub invariant-loop-k : goal.invariant-loop-k
invariant-loop-k ty l =
    overlap_from l.p.dim (axis_at_lem (arithmetic ty.R.Revision.second) l.p.dim l.p.count l.p.words.now) (scalar_at l.point_box) l.k ≡ could_overlap (tab l.p.dim (axis_at_lem (arithmetic ty.R.Revision.second) l.p.dim l.p.count l.p.words.now)) (tab l.p.dim (scalar_at l.point_box))
