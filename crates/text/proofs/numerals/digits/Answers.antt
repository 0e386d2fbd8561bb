-- `digits` counts the digits.
use Rattle.text.proofs.numerals.Decimal.{digits_counted}
use Rattle.text.proofs.numerals.digits.Goals as goal

pub returns : goal.returns
returns c = digits_counted c.args.rest.now _ c.leading.ensures
