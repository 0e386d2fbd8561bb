-- `lines` reads k lines of n doubles each.
-- Invariant: the first i lines were read and written, the others are read from `rest`.
use native.Mathlib.Omega.{arith}
use Rattle.text.proofs.question.Doubles.{lines_begin, lines-stop, lines_turn, lines_end, row_placed}
use Rattle.text.proofs.question.lines.Goals as goal

pub loop-i-init : goal.loop-i-init
loop-i-init c =
    let a = c.args in
    lines_begin a.key.now a.n a.k a.text.now a.out.now

pub returns-in_err-rest : goal.returns-in_err-rest
returns-in_err-rest c =
    let l = c.loop-i in
    let a = c.args in
    let read = row_placed a.key.now l.rest.now a.n l.i a.k l.out c.line.new.out c.line.result (omega arith)
    (omega (arith, c.requires, l.auto.out)) c.line.ensures in
    rw c.from_residual.ensures
    (lines-stop a.key.now a.n a.k a.text.now a.out.now l.i l.rest.now l.out
    _ _ (omega arith) read l.invariant c.in_err-rest.was)

pub loop-i-preserved : goal.loop-i-preserved
loop-i-preserved c =
    let l = c.loop-i in
    let a = c.args in
    let read = row_placed a.key.now l.rest.now a.n l.i a.k l.out c.line.new.out c.line.result (omega arith)
    (omega (arith, c.requires, l.auto.out)) c.line.ensures in
    lines_turn a.key.now a.n a.k a.text.now a.out.now l.i l.rest.now l.out
    _ _ (omega arith) read l.invariant _ c.in_ok-rest.was (omega (arith, c.requires))

pub returns : goal.returns
returns c =
    let l = c.loop-i in
    let a = c.args in
    lines_end a.key.now a.n a.k a.text.now a.out.now l.i l.rest.now l.out (omega arith)
    (omega arith) l.invariant
