-- `decimal_of` gives the number that the digits are. Invariant: v is the number that those passed are.
use Prim.Native.Nat.{◌-◌}
use Rattle.text.proofs.numerals.Base.{Known}
use Rattle.text.proofs.numerals.decimal_of.Given as goal

abbrev pub invariant-loop-b : goal.invariant-loop-b
invariant-loop-b l = Known 10 (λ b. b - 48) l.digits l.b-index l.v
