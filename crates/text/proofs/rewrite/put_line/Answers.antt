-- `put_line` writes the key, and behind it the doubles.
use Rattle.text.specs.Form.{line_text}
use Rattle.text.proofs.print.Writing.{joined}
use native.Mathlib.Omega.{arith}
use Rattle.text.proofs.rewrite.put_line.Goals as goal

pub returns : goal.returns
unfolding line_text
returns c =
    let key = c.put_word-i.ensures in
    let v = c.put_values.ensures in
    (joined (omega (arith, key.end)) key v.0, omega (arith, key.end, v.1))
