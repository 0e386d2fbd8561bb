-- `line` reads a key and the doubles behind it.
use Rattle.text.proofs.question.Doubles.{line_keyless, line-rest}
use lib.ListN.{length}
use Rattle.text.proofs.question.line.Goals as goal

pub returns-in_err-left : goal.returns-in_err-left
returns-in_err-left c =
    let a = c.args in
    rw c.from_residual.ensures (line_keyless a.key.now a.rest.now (length a.out.now) _ c.word.ensures c.in_err-left.was)

pub returns : goal.returns
returns c =
    let a = c.args in
    line-rest a.key.now a.rest.now (length a.out.now) _ c.word.ensures _ c.in_ok-left.was a.out.now
    c.values.new.out c.values.result c.values.ensures
