-- `put_double` writes the sixteen digits of the bits.
use Rattle.text.proofs.print.Writing.{double-written}
use Rattle.text.proofs.print.put_double.Goals as goal

pub returns : goal.returns
returns c =
    let g = c.args in
    double-written g.out.now g.at g.x _ _ c.put_digits.ensures
