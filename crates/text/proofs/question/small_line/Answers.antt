-- `small_line` reads a key, a small number and the end of the line.
use Rattle.text.proofs.question.Words.{small-line_keyless, small-line_none, small-line-endless, small-line-whole}
use Rattle.text.proofs.question.small_line.Goals as goal

pub returns-in_err-number : goal.returns-in_err-number
returns-in_err-number c =
    let a = c.args in
    rw c.from_residual.ensures (small-line_keyless a.key.now a.rest.now _ c.word.ensures c.in_err-number.was)

pub returns-in_err-n : goal.returns-in_err-n
returns-in_err-n c =
    let a = c.args in
    rw c.from_residual-in_err-n.ensures
    (small-line_none a.key.now a.rest.now _ c.word.ensures _ c.in_ok-number.was _ c.small.ensures c.in_err-n.was)

pub returns-in_err-left : goal.returns-in_err-left
returns-in_err-left c =
    let a = c.args in
    rw c.from_residual-in_err-left.ensures
    (small-line-endless a.key.now a.rest.now _ c.word.ensures _ c.in_ok-number.was _ c.small.ensures
    _ _ c.in_ok-n.was _ c.byte.ensures c.in_err-left.was)

pub returns : goal.returns
returns c =
    let a = c.args in
    small-line-whole a.key.now a.rest.now _ c.word.ensures _ c.in_ok-number.was _ c.small.ensures
    _ _ c.in_ok-n.was _ c.byte.ensures _ c.in_ok-left.was
