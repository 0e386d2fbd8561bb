-- `add_size` adds the digits where they stand.
use Rattle.sheet.proofs.sum.Numbers.{plus-size}
use Rattle.sheet.proofs.sum.add_size.Goals as goal

pub returns : goal.returns
returns c =
    plus-size _ _ _ c.shift-k.result c.raised.result c.shift-k.ensures.0 c.raised.ensures c.digits.ensures.0 c.add_at.ensures
