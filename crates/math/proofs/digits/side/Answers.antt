-- `side` meets its contract: the product of the digits against the third's, moved by the places.
use mathlib.Core.Path.{ap, ◌∙◌}
use Rattle.std.specs.Ordering.{ordering_reverse}
use Rattle.math.proofs.Tight.Wholes.{by_up, by_down}
use Rattle.math.proofs.digits.side.Goals as goal

pub returns-then-up-off : goal.returns-then-up-off
returns-then-up-off c =
    let a = c.args in
    by_up a.x a.y a.z _ _ _ _ _ _ c.product-n.result c.doubled.result
    c.digits.ensures.0 c.digits-2.ensures.0 c.digits-3.ensures.0 c.shift.ensures.0 c.shift-2.ensures.0 c.shift-off.ensures.0 c.product-n.ensures.0
    c.product-w.result c.product-w.ensures.0 c.if-up-off.true c.doubled.ensures

pub returns : goal.returns
returns c =
    let a = c.args in
    by_down a.x a.y a.z _ _ _ _ _ _ c.product-n.result c.reverse.result
    c.digits.ensures.0 c.digits-2.ensures.0 c.digits-3.ensures.0 c.shift.ensures.0 c.shift-2.ensures.0 c.shift-off.ensures.0 c.product-n.ensures.0
    c.product-w.result c.product-w.ensures.0 c.if-up-off.false (c.reverse.ensures ∙ ap ordering_reverse c.doubled-2.ensures)
