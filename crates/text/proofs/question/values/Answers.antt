-- `values` reads n doubles. Invariant: the first i were read and written, the others are read from `rest`.
use lib.ListN.{length}
use native.Mathlib.Omega.{arith}
use Rattle.text.proofs.question.Doubles.{values_begin, values-stop, values_turn, values_end}
use Rattle.text.proofs.question.values.Goals as goal

pub loop-i-init : goal.loop-i-init
loop-i-init c =
    let a = c.args in
    values_begin (length a.out.now) a.text.now a.out.now

pub returns-in_err-x : goal.returns-in_err-x
returns-in_err-x c =
    let l = c.loop-i in
    let a = c.args in
    rw c.from_residual.ensures
    (values-stop (length a.out.now) a.text.now a.out.now l.i _ l.rest.now l.out _ (omega arith)
    c.behind.ensures c.value.ensures l.invariant c.in_err-x.was)

pub loop-i-preserved : goal.loop-i-preserved
loop-i-preserved c =
    let l = c.loop-i in
    let a = c.args in
    values_turn (length a.out.now) a.text.now a.out.now l.i _ l.rest.now l.out _ (omega arith)
    c.behind.ensures c.value.ensures l.invariant _ _ c.in_ok-x.was (omega arith)

pub returns : goal.returns
returns c =
    let l = c.loop-i in
    let a = c.args in
    values_end (length a.out.now) a.text.now a.out.now l.i l.rest.now l.out (omega arith) (omega arith) l.invariant
