-- `search_ring` equals its definition: what is left to search from where it stands is what was to search from the start.
use Prim.Native.Nat.{ℕ, ◌-◌}
use lib.Ieee.{Float}
use mathlib.Core.List.{List}
use mathlib.Core.Bool.{Bool}
use Rattle.math.specs.Revision.{arithmetic}
use Rattle.model.specs.NurbCurve.{Piece}
use Rattle.model.specs.Subdivide.{Visit}
use Rattle.model.specs.Contains.{visit}
use Rattle.geometry.specs.State.{asked_of, Going}
use Rattle.geometry.specs.declared.slots.Shape.{Shape}
use Rattle.geometry.proofs.contains.search_ring.Given as goal

-- What a visit makes of a piece.
abbrev pub seeing : Bool → Shape → List Float → Float → ℕ → Piece → Visit
seeing second s box resolution nodes = visit (arithmetic second) (asked_of s box resolution nodes)

abbrev pub invariant-loop-q : goal.invariant-loop-q
invariant-loop-q ty l = Going (seeing ty.R.Revision.second l.s l.point_box l.resolution l.nodes) l.nodes l.s l.initial.work l.work l.q

abbrev pub decreases-loop-q : goal.decreases-loop-q
decreases-loop-q ty l = l.nodes - l.q.counts.visited
