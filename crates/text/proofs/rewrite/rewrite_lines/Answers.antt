-- `rewrite_lines` equals its definition: the question is refused, or its form is given.
use mathlib.Core.Path.{sym, ap, ◌∙◌}
use native.Mathlib.Omega.{arith}
use lib.ListN.{length}
use Rattle.model.proofs.Numbers.{some_number}
use Rattle.text.specs.Question.{Numbers}
use Rattle.text.specs.Cursor.{numbers_in}
use Rattle.text.specs.Form.{count_for, output_for}
use Rattle.text.proofs.reading.Cases.{handed_on}
use Rattle.text.proofs.rewrite.Accepted.{all_numbers}
use Rattle.text.proofs.print.Writing.{written-front}
use Rattle.text.proofs.rewrite.Cases.{question-refused, question-given}
use Rattle.text.proofs.rewrite.rewrite_lines.Goals as goal

pub returns-in_err-lines_refusal : goal.returns-in_err-lines_refusal
returns-in_err-lines_refusal c =
    let a = c.args.asked in
    let q : Numbers = numbers_in a.sizes a.nodes c.args.lines.now in
    let some = some_number _ in
    rw (handed_on _ _ c.from_residual.ensures.1)
    (question-refused a.rev a.sizes q c.args.out.now _ c.in_err-lines_refusal.ensures some)

pub put_form-n-requires : goal.put_form-n-requires
put_form-n-requires c =
    let a = c.args.asked in
    let q : Numbers = numbers_in a.sizes a.nodes c.args.lines.now in
    let n = all_numbers a.rev a.sizes q (sym c.in_ok-lines_refusal.ensures) in record {
      in_bounds = omega arith;
      all_numbers = record { resolution = n.resolution; knots = n.knots; points = n.points; box = n.box };
    }

pub returns : goal.returns
returns c =
    let a = c.args.asked in
    let q : Numbers = numbers_in a.sizes a.nodes c.args.lines.now in
    let l = c.args.out.now in
    let e = written-front c.put_form-n.ensures.written in
    question-given a.rev a.sizes q l _ c.give.result c.in_ok-lines_refusal.ensures
    (c.give.ensures.count ∙ ap (count_for (length l)) e)
    (c.give.ensures.output ∙ ap (output_for l) e)
