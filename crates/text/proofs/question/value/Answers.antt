-- `value` reads a double and the byte behind it.
use mathlib.Core.Path.{sym}
use Rattle.text.proofs.question.Doubles.{value_none, value-endless, value_is}
use Rattle.text.proofs.question.value.Goals as goal

pub returns-in_err-x : goal.returns-in_err-x
returns-in_err-x c =
    let a = c.args in
    rw c.from_residual.ensures (sym (value_none a.b a.rest.now _ c.double.ensures c.in_err-x.was))

pub returns-in_err-left : goal.returns-in_err-left
returns-in_err-left c =
    let a = c.args in
    rw c.from_residual-in_err-left.ensures
    (sym (value-endless a.b a.rest.now _ c.double.ensures _ _ c.in_ok-x.was _ c.byte.ensures c.in_err-left.was))

pub returns : goal.returns
returns c =
    let a = c.args in
    sym
    (value_is a.b a.rest.now _ c.double.ensures _ _ c.in_ok-x.was _ c.byte.ensures _ c.in_ok-left.was)
