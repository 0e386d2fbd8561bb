-- `axis_box` equals its definition. The invariant: closed, the bounds so far are the union of the first i places; the last divisor was made here.
use Prim.Native.Nat.{◌≤◌}
use Rattle.lists.specs.Lists.{tab}
use Rattle.math.specs.Revision.{arithmetic}
use Rattle.model.specs.Aabb.{unions}
use Rattle.geometry.proofs.aabb.Unions.{Gives}
use Rattle.geometry.proofs.aabb.Box.{place_at_lem}
use Rattle.geometry.proofs.aabb.axis_box.Given as goal

abbrev pub invariant-loop-i : goal.invariant-loop-i
invariant-loop-i ty l =
    let R = ty.R.Revision in
    (1 ≤ l.i) × Gives R.Picked R.closed (unions (tab l.i (place_at_lem (arithmetic R.second) l.p.dim l.k l.p.words.now))) l.all × R.Own l.last
