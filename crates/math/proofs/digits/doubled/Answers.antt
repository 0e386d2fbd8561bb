-- `doubled` meets its contract: what lies below t lies below what t grows to.
use Rattle.math.proofs.Tight.Wholes.{side-below, passes}
use Rattle.math.proofs.digits.doubled.Goals as goal

pub returns-then-n-t : goal.returns-then-n-t
returns-then-n-t c = side-below _ _ (passes _ _ _ _ _ c.loop.invariant c.loop.auto.counter-end c.if-n-t.true)
