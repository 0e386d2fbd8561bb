-- `put_digits` writes the digits from the last on.
-- Invariant: those from place i on stand there, and the others are the last i of the rest.
use Rattle.text.proofs.print.Writing.{digits_none, digits_turn, digits_done}
use native.Mathlib.Omega.{arith}
use Rattle.text.proofs.print.put_digits.Goals as goal

pub loop-i-init : goal.loop-i-init
loop-i-init c = let g = c.args in digits_none g.out.now g.at g.base g.k g.n

pub loop-i-preserved : goal.loop-i-preserved
loop-i-preserved c =
    let l = c.loop-i in
    let g = c.args in
    digits_turn g.out.now g.at g.base g.k g.n l.out l.i l.rest _ (omega arith) (omega arith)
    c.digit_of.ensures l.invariant

pub returns : goal.returns
returns c =
    let l = c.loop-i in
    let g = c.args in
    digits_done g.out.now g.at g.base g.k g.n l.out l.i l.rest (omega arith) l.invariant
