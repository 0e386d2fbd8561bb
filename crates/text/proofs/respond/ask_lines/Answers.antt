-- `ask_lines` asks what its numbers say.
use Rattle.text.specs.Cursor.{numbers_in}
use Rattle.text.proofs.respond.Lent.{lines-answer}
use Rattle.text.proofs.respond.ask_lines.Goals as goal

pub returns : goal.returns
returns c =
    let q = c.args.asked in
    let d = c.doubles-d.ensures in
    lines-answer c.curve_could_contain.result q.rev q.sizes (numbers_in q.sizes q.nodes c.args.lines.now) _
    c.zeros-work.result _ _ _ _ d.knots d.points d.sides d.resolution c.zeros-work.ensures c.curve_could_contain.ensures
