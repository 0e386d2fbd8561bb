-- `interpolate` writes the point between two points. Invariant: its first k intervals are written.
use mathlib.Core.Path.{◌≡◌}
use lib.ListN.{length}
use Rattle.math.specs.Revision.{arithmetic}
use Rattle.geometry.proofs.vector.Between.{after}
use Rattle.geometry.proofs.vector.interpolate.Given as goal

abbrev pub invariant-loop-k : goal.invariant-loop-k
invariant-loop-k ty l = (length l.words ≡ length l.initial.words) × (l.words ≡ after (arithmetic ty.R.Revision.second) l.initial.words l.a l.b l.c l.d l.f.alpha l.k)
