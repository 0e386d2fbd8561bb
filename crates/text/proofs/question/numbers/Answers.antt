-- `numbers` reads the limits and the shape, and writes their doubles one behind the other.
use native.Mathlib.Omega.{arith}
use Rattle.text.proofs.question.Others.{numbers_none, numbers_one, numbers_two}
use Rattle.text.proofs.question.numbers.Goals as goal

pub returns-in_err-n : goal.returns-in_err-n
returns-in_err-n c =
    let a = c.args in
    rw c.from_residual.ensures
    (numbers_none a.rest.now a.s a.out.now c.limits.new.out _ c.limits.ensures c.in_err-n.was)

pub returns-in_err-left : goal.returns-in_err-left
returns-in_err-left c =
    let a = c.args in
    rw c.from_residual-in_err-left.ensures
    (numbers_one a.rest.now a.s a.out.now c.limits.new.out _ c.limits.ensures _ _
    c.in_ok-n.was c.shape.new.out _ c.shape.ensures c.in_err-left.was)

pub returns : goal.returns
returns c =
    let a = c.args in
    numbers_two a.rest.now a.s a.out.now c.limits.new.out _ c.limits.ensures _ _
    c.in_ok-n.was c.shape.new.out _ c.shape.ensures _ c.in_ok-left.was
    (omega (arith, c.requires.1))
