-- `print_numbered` writes the lines where there is room for them.
use native.Mathlib.Omega.{arith}
use Rattle.text.proofs.respond.Cases.{numbered-short, numbered-there}
use Rattle.text.proofs.respond.print_numbered.Goals as goal

pub returns-then-out-lt192 : goal.returns-then-out-lt192
returns-then-out-lt192 c =
    let g = c.args in
    let r = numbered-short g.refused.number g.refused.counts g.out.now c.if-out-lt192.true in
    record { written = r.0; within = r.1 }

pub returns : goal.returns
returns c =
    let g = c.args in
    let w = c.write_refused.ensures in
    let r = numbered-there g.refused.number g.refused.counts (omega arith) c.write_refused.auto.out w.1 w.0 in
    record { written = r.0; within = r.1 }
