-- `doubled` meets its contract. Invariant: t is w, doubled once a turn.
use mathlib.Core.Path.{◌≡◌}
use Prim.Native.Nat.{◌*◌, ◌^◌}
use Rattle.math.proofs.digits.doubled.Given as goal

abbrev pub invariant-loop : goal.invariant-loop
invariant-loop l = l.t ≡ l.fn.w * 2 ^ l.counter
