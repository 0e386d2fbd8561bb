-- `add_at` adds. The invariant: what the bytes are, and what is left to add from byte i on, make up the sum.
use Prim.Native.Nat.{◌+◌, ◌*◌, ◌^◌, ◌≤◌}
use mathlib.Core.Path.{◌≡◌}
use lib.ListN.{length}
use Rattle.sheet.specs.Sum.{number}
use Rattle.sheet.proofs.sum.add_at.Given as goal

abbrev pub invariant-loop-i : goal.invariant-loop-i
invariant-loop-i l = (length l.s ≡ 150) × (l.rest ≤ 0xffff_ffff_ffff_ffff) × (number l.s + l.rest * 256 ^ l.i ≡ number l.initial.s + l.x * 256 ^ l.at)
