-- `clip` equals its definition: what is left to clip from axis k on is what was to clip from the start.
use mathlib.Core.Path.{◌≡◌}
use Prim.Native.Nat.{suc}
use lib.ListN.{length, take}
use Rattle.math.specs.Revision.{arithmetic}
use Rattle.model.specs.Layout.{scalars_of, points_of}
use Rattle.model.specs.NurbCurve.{domain}
use Rattle.model.specs.Contains.{clip}
use Rattle.geometry.specs.Zeros.{from_first}
use Rattle.geometry.proofs.visits.Clips.{left}
use Rattle.geometry.proofs.visits.clip.Given as goal

abbrev pub invariant-loop-k : goal.invariant-loop-k
invariant-loop-k ty l =
    let ar = arithmetic ty.R.Revision.second in
    let points = points_of (suc l.p.dim) l.p.count l.p.words.now in
    (length l.d ≡ 32)
    × (length l.dx ≡ 32)
    × (take l.p.count l.dx ≡ from_first ar l.xi)
    × (left ar l.p.dim points l.xi l.point_box l.hat l.k ≡ clip ar l.p.dim points l.xi (domain l.start l.end) 0 (scalars_of l.p.dim l.point_box))
