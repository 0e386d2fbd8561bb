-- `put_count` writes the key, and behind it the number.
use Rattle.text.proofs.print.Writing.{joined}
use native.Mathlib.Omega.{arith}
use Rattle.text.proofs.print.put_count.Goals as goal

pub returns : goal.returns
returns c =
    let w = c.put_word-i in
    let d = c.put_decimal in
    (joined (omega arith) w.ensures d.ensures.0, omega (arith, w.ensures.end, d.ensures.1))
