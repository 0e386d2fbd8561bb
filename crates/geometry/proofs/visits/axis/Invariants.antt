-- `axis` writes what its definition has: each turn the value of one more point behind the others, and keeps the last weight with its product.
use mathlib.Core.Path.{◌≡◌}
use lib.ListN.{length}
use Rattle.lists.specs.Lists.{put, tab}
use Rattle.math.specs.Revision.{arithmetic}
use Rattle.geometry.proofs.visits.Clips.{axis_at_lem}
use Rattle.geometry.proofs.visits.axis.Given as goal

abbrev pub invariant-loop-i : goal.invariant-loop-i
invariant-loop-i ty l =
    let ar = arithmetic ty.R.Revision.second in
    (length l.d ≡ length l.initial.d) × (l.d ≡ put l.initial.d 0 (tab l.i (axis_at_lem ar l.p.words.now l.p.dim l.k l.e))) × (l.last.product ≡ ar.mul l.e l.last.weight)
