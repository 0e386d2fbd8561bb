-- `triangle_in` equals its definition. Invariant: row r is there, behind the first points of the rows before it, and the last points of those stand behind.
use mathlib.Core.Path.{◌≡◌}
use lib.ListN.{length}
use Rattle.math.specs.Revision.{arithmetic}
use Rattle.geometry.proofs.knot_insertion.Triangle.{with_row}
use Rattle.geometry.proofs.knot_insertion.triangle_in.Given as goal

abbrev pub invariant-loop-r : goal.invariant-loop-r
invariant-loop-r ty l = (length l.work ≡ length l.initial.work) × (l.work ≡ with_row (arithmetic ty.R.Revision.second) l.s l.initial.work l.base l.alpha l.r)
