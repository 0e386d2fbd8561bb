-- `take_size` takes the digits away where they stand.
use Rattle.sheet.proofs.sum.Numbers.{less-size}
use Rattle.sheet.proofs.sum.take_size.Goals as goal

pub returns : goal.returns
returns c =
    less-size _ _ _ c.shift-k.result c.raised.result c.shift-k.ensures.0 c.raised.ensures c.digits.ensures.0 c.take_at.ensures
