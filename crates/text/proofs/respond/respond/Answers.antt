-- `respond` writes what the definition says, where there is room for it: the lines of an answer that keeps its promises.
use mathlib.Core.List.{List}
use Prim.Native.Nat.{ℕ}
use native.Mathlib.Omega.{arith}
use Rattle.text.specs.Question.{reading}
use Rattle.text.proofs.respond.Lent.{answer_printable}
use Rattle.text.proofs.respond.Cases.{responds, too_short}
use Rattle.text.proofs.respond.respond.Goals as goal

pub returns-then-out-lt192 : goal.returns-then-out-lt192
returns-then-out-lt192 c = let g = c.args in
    let r = too_short g.text.now g.out.now c.if-out-lt192.true in
    record { written = r.0; promises = r.1.0; within = r.1.1 }

pub write-requires : goal.write-requires
write-requires c =
    let asked : List ℕ = c.args.text.now in
    let f = c.answered in
    (omega arith, answer_printable (reading asked) f.result f.ensures)

pub returns : goal.returns
returns c =
    let asked : List ℕ = c.args.text.now in
    let w = c.write in
    let r = responds asked c.answered.result c.answered.ensures
    c.if-out-lt192.false w.auto.out w.ensures.1 w.ensures.0 in
    record { written = r.0; promises = r.1.0; within = r.1.1 }
