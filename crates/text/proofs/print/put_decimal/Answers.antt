-- `put_decimal` writes the digits that `decimal_length` counts.
use Rattle.text.proofs.print.Writing.{decimal-written}
use Rattle.text.proofs.print.put_decimal.Goals as goal

pub returns : goal.returns
returns c =
    let g = c.args in
    decimal-written g.out.now g.at _ g.n _ _ c.decimal_length-k.ensures.0
    c.decimal_length-k.ensures.1 c.put_digits.ensures
