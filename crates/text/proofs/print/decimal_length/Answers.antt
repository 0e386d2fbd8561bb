-- `decimal_length` counts the digits. Invariant: l - 1 of them are counted, and those of the rest are still to count.
use Rattle.text.proofs.print.Writing.{length_turn, length_one, length-full}
use native.Mathlib.Omega.{arith}
use Rattle.text.proofs.print.decimal_length.Goals as goal

pub returns-then-rest-le9 : goal.returns-then-rest-le9
returns-then-rest-le9 c =
    let l = c.loop-l in
    (length_one l.l l.rest _ (omega arith) l.invariant, omega arith)

pub loop-l-preserved : goal.loop-l-preserved
loop-l-preserved c =
    let l = c.loop-l in
    length_turn l.l l.rest _ (omega arith) (omega arith) l.invariant

pub returns : goal.returns
returns c =
    let l = c.loop-l in
    let e = length-full l.l l.rest _ (omega arith) l.invariant in
    (omega (arith, e), omega arith)
