-- `passes` equals its definition: by one comparison where at most one doubling is left, and else by `side`.
use native.Mathlib.Omega.{arith}
use mathlib.Core.Path.{sym, ◌∙◌}
use Prim.Native.Nat.{◌+◌}
use Rattle.math.proofs.Tight.Close.{near_is, once-fits, by_near}
use Rattle.math.proofs.digits.passes.Goals as goal

pub overflow_sub-off : goal.overflow_sub-off
overflow_sub-off c = (near_is _ _ (sym c.is_near.ensures ∙ c.if-is_near.true)).0

pub overflow_mul-w : goal.overflow_mul-w
overflow_mul-w c =
    omega (arith, once-fits c.digits-w.result (c.shift.result + c.shift-2.result) (c.shift-off.result + 1022) c.digits-w.ensures.1 (near_is _ _ (sym c.is_near.ensures ∙ c.if-is_near.true)))

pub returns-then-is_near : goal.returns-then-is_near
returns-then-is_near c =
    let a = c.args in
    by_near a.x a.y a.z _ _ _ _ _ _ c.product-n.result
    c.digits.ensures.0 c.digits-2.ensures.0 c.digits-w.ensures.0 c.shift.ensures.0 c.shift-2.ensures.0 c.shift-off.ensures.0 c.product-n.ensures.0
    c.product.result c.past.result a.more c.product.ensures.0 (near_is _ _ (sym c.is_near.ensures ∙ c.if-is_near.true)) c.past.ensures
