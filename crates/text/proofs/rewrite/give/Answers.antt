-- `give` writes all of the text where there is room, and else nothing.
use Rattle.text.proofs.rewrite.Cases.{give_none, give_all}
use Rattle.text.proofs.rewrite.give.Goals as goal

pub returns-then-k-n : goal.returns-then-k-n
returns-then-k-n c =
    let a = c.args in
    let r = give_none a.text.now a.out.now _ c.given-k.ensures _ c.put_word.ensures.memory c.if-k-n.true in
    record { count = r.0; output = r.1 }

pub returns : goal.returns
returns c =
    let a = c.args in
    let r = give_all a.text.now a.out.now _ c.given-k.ensures _ c.put_word.ensures.memory c.if-k-n.false in
    record { count = r.0; output = r.1 }
