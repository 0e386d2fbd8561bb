-- `print_found` writes the lines where there is room for them and they can be written.
use Rattle.text.proofs.respond.Cases.{short_none, prints_none}
use Rattle.text.proofs.respond.print_found.Goals as goal

pub returns-then-out-lt192 : goal.returns-then-out-lt192
returns-then-out-lt192 c = let g = c.args in
    let r = short_none g.f g.out.now c.if-out-lt192.true in
    record { written = r.0; within = r.1 }

pub returns : goal.returns
returns c =
    let g = c.args in
    let r = prints_none g.f g.out.now c.is_printable.ensures c.if-is_printable.false in
    record { written = r.0; within = r.1 }
