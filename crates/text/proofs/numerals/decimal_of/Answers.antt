-- `decimal_of` gives the number that the digits are. Invariant: v is the number that those passed are.
use Prim.Native.Nat.{◌<◌}
use native.Mathlib.Omega.{arith}
use Rattle.text.proofs.numerals.Base.{known_none, known_turn, known_most, known_all}
use Rattle.text.proofs.numerals.Decimal.{digit-between}
use Rattle.text.proofs.numerals.decimal_of.Goals as goal

pub loop-b-init : goal.loop-b-init
loop-b-init c = known_none

pub overflow_sub-b : goal.overflow_sub-b
overflow_sub-b c =
    let d = digit-between c.args.digits.now c.loop-b.b-index c.requires.1 (omega arith) in
    omega (arith, d.0)

pub loop-b-preserved : goal.loop-b-preserved
loop-b-preserved c =
    let d = digit-between c.args.digits.now c.loop-b.b-index c.requires.1 (omega arith) in
    known_turn c.loop-b.invariant _ (omega arith) c.from.ensures (omega (arith, d, c.from.ensures))

pub returns : goal.returns
returns c =
    let few : c.loop-b.v < 1000000000 = known_most c.loop-b.invariant 9 (omega arith) (omega (arith, c.requires)) in
    (known_all c.loop-b.invariant (omega arith), omega (arith, few))
