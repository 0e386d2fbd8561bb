-- `take_at` takes away. The invariant: what the bytes were, and what is left to take away from byte i on, are what the bytes are and what is taken away.
use Prim.Native.Nat.{◌+◌, ◌*◌, ◌^◌, ◌≤◌}
use mathlib.Core.Path.{◌≡◌}
use lib.ListN.{length}
use Rattle.sheet.specs.Sum.{number}
use Rattle.sheet.proofs.sum.take_at.Given as goal

abbrev pub invariant-loop-i : goal.invariant-loop-i
invariant-loop-i l = (length l.s ≡ 150) × (l.rest ≤ 0xffff_ffff_ffff_ffff) × (number l.initial.s + l.rest * 256 ^ l.i ≡ number l.s + l.x * 256 ^ l.at)
