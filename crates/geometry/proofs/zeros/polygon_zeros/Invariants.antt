-- The turns keep that the line has the first i points taken in.
use Rattle.std.proofs.Common.{◌≡◌, ◌<◌}
use Rattle.math.specs.Revision.{arithmetic}
use Rattle.geometry.proofs.zeros.Polygon.{line_of}
use Rattle.geometry.proofs.zeros.polygon_zeros.Given as goal

abbrev pub invariant-loop-i : goal.invariant-loop-i
invariant-loop-i ty l = (0 < l.i) × (l.l ≡ line_of (arithmetic ty.R.Revision.second) l.xi l.d l.i)
