-- `position_of` equals its definition. Invariant: none of the first i knots is t.
use mathlib.Core.Path.{◌≡◌}
use Prim.Native.Nat.{◌+◌}
use lib.Ieee.{eq}
use lib.ListN.{drop}
use Rattle.lists.specs.Lists.{position}
use Rattle.geometry.proofs.knot_insertion.position_of.Given as goal

abbrev pub invariant-loop-i : goal.invariant-loop-i
invariant-loop-i l = l.i + position (λ u. eq u l.t) (drop l.i l.knots) ≡ position (λ u. eq u l.t) l.knots
