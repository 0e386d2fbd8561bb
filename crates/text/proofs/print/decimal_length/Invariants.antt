-- `decimal_length` counts the digits. Invariant: l - 1 of them are counted, and those of the rest are still to count.
use mathlib.Core.Path.{◌≡◌}
use Prim.Native.Nat.{◌+◌, ◌-◌}
use Rattle.text.specs.Numerals.{decimal_length}
use Rattle.text.proofs.print.decimal_length.Given as goal

abbrev pub invariant-loop-l : goal.invariant-loop-l
invariant-loop-l l = l.l + decimal_length (20 - l.l) l.rest ≡ decimal_length 19 l.n + 1
