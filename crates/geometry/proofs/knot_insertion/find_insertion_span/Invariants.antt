-- `find_insertion_span` equals its definition. Invariant: no span from i on holds t.
use mathlib.Core.Path.{◌≡◌}
use Prim.Native.Nat.{◌-◌, ◌≤◌}
use Rattle.model.specs.KnotInsertion.{highest, insertion_span}
use Rattle.geometry.proofs.knot_insertion.find_insertion_span.Given as goal

abbrev pub invariant-loop-i : goal.invariant-loop-i
invariant-loop-i l = (l.degree ≤ l.i) × (highest l.knots l.t l.degree (l.i - l.degree) ≡ insertion_span l.degree l.count l.knots l.t)
