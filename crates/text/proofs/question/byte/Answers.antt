-- `byte` takes one byte off: it is there, or it is missing, or it is another.
use mathlib.Core.Path.{sym}
use Rattle.text.proofs.question.Words.{byte_none, byte-off, byte_there}
use Rattle.text.proofs.question.byte.Goals as goal

pub returns-in_err-first : goal.returns-in_err-first
returns-in_err-first c =
    rw c.from_residual.ensures (sym (byte_none c.args.rest.now c.args.b c.in_err-first.ensures.cases))

pub returns-then-first-b : goal.returns-then-first-b
returns-then-first-b c =
    let seen = c.in_ok-first.ensures.cases in
    sym (byte-off c.args.rest.now c.in_ok-first.left.now c.args.b c.in_ok-first.first.now seen.0 c.if-first-b.true)

pub returns : goal.returns
returns c =
    let seen = c.in_ok-first.ensures.cases in
    sym (byte_there c.args.rest.now c.in_ok-first.left.now c.args.b c.in_ok-first.first.now seen.0 c.if-first-b.false)
