-- `put_small` writes the key, the number, and the end of the line.
use Rattle.text.specs.Form.{small_text}
use Rattle.text.proofs.print.Writing.{joined}
use native.Mathlib.Omega.{arith}
use Rattle.text.proofs.rewrite.put_small.Goals as goal

pub returns : goal.returns
unfolding small_text
returns c =
    let end = c.put_word.ensures in
    let number = c.put_count-i.ensures in
    (joined (omega (arith, number.1)) number.0 end, omega (arith, number.1, end.end))
