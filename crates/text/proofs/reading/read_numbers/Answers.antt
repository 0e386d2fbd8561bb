-- `read_numbers` equals its definition: the other lines are bad, the text is too long, something is left behind the
-- last line, or a question is asked.
use mathlib.Core.Path.{sym, ◌∙◌}
use Rattle.text.specs.Bytes.{Read}
use Rattle.text.specs.Question.{Numbers, numbers}
use Rattle.text.proofs.reading.Cases.{numbers_bad, numbers_long, numbers_more, numbers_all}
use Rattle.text.proofs.reading.read_numbers.Goals as goal

pub returns-in_default : goal.returns-in_default
returns-in_default c =
    let others : Read Numbers = numbers c.args.s c.args.rest.now in
    numbers_bad c.args.rev _ _ others _ _ _ c.numbers.ensures c.in_default.is

pub returns-then-n-gt65536 : goal.returns-then-n-gt65536
returns-then-n-gt65536 c =
    let others : Read Numbers = numbers c.args.s c.args.rest.now in
    numbers_long c.args.rev _ _ others _ _ _ c.numbers.ensures _ _ c.in-Some.is c.if-n-gt65536.true

pub returns-then-not-is_empty : goal.returns-then-not-is_empty
returns-then-not-is_empty c =
    let others : Read Numbers = numbers c.args.s c.args.rest.now in
    numbers_more c.args.rev _ _ others _ _ _ c.numbers.ensures _ _ c.in-Some.is
    c.if-n-gt65536.false (sym c.is_empty.ensures ∙ c.if-not-is_empty.true)

pub returns : goal.returns
returns c =
    let others : Read Numbers = numbers c.args.s c.args.rest.now in
    numbers_all c.args.rev _ _ others _ _ _ c.numbers.ensures _ _ c.in-Some.is
    c.if-n-gt65536.false (sym c.is_empty.ensures ∙ c.if-not-is_empty.false) c.requires
