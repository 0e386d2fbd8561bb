-- `between` in revision 1: its first operand where `same_operands` says so, else what two ways have in common. Where `all_in_order` says so its products are
-- those by factors, and its difference is in order, since it was so before it was widened.
use mathlib.Core.Path.{sym, ◌∙◌}
use lib.Ieee.{binary64, sub}
use Rattle.math.specs.Scalars.{geop}
use Rattle.math.proofs.Picks.{kept, went, blended}
use Rattle.math.proofs.Intervals.Factors.{lower_number, upper_number, delta_is, delta-order, AllInOrder, all_in_order_lem}
use Rattle.math.proofs.revision.FirstRevision.between.Goals as goal

ordered : (c : goal.Then-all_in_order) → let k = c.args in
    AllInOrder k.f.alpha k.f.beta k.a k.b (record { lo = sub binary64 k.b.lo k.a.hi; hi = sub binary64 k.b.hi k.a.lo })
ordered c = let k = c.args in all_in_order_lem k.f.alpha k.f.beta k.a k.b _ (sym c.all_in_order.ensures ∙ c.if-all_in_order.true)

pub returns-then-same_operands : goal.returns-then-same_operands
returns-then-same_operands c = let k = c.args in kept geop k.a k.b k.f (sym c.same_operands.ensures ∙ c.if-same_operands.true)

pub down-requires : goal.down-requires
down-requires c = lower_number _ _ (ordered c).diff

pub up-requires : goal.up-requires
up-requires c = upper_number _ _ (ordered c.before).diff

pub scale-requires : goal.scale-requires
scale-requires c =
    let k = c.args in
    ((ordered c.before.before).alpha, delta-order k.a k.b c.down.result c.up.result c.down.ensures c.up.ensures (ordered c.before.before).diff)

pub scale-requires-then-all_in_order : goal.scale-requires-then-all_in_order
scale-requires-then-all_in_order c = ((ordered c.before.before.before).beta, (ordered c.before.before.before).first)

pub scale-requires-then-all_in_order-2 : goal.scale-requires-then-all_in_order-2
scale-requires-then-all_in_order-2 c = ((ordered c.before.before.before.before).alpha, (ordered c.before.before.before.before).second)

pub returns-then-all_in_order : goal.returns-then-all_in_order
returns-then-all_in_order c =
    let k = c.args in
    went geop k.a k.b k.f _
    (blended geop k.a k.b k.f _ c.scale.result c.scale-then-all_in_order.result c.scale-then-all_in_order-2.result c.meet_of_sums.result
    (delta_is k.a k.b c.down.result c.up.result c.down.ensures c.up.ensures)
    c.scale.ensures c.scale-then-all_in_order.ensures c.scale-then-all_in_order-2.ensures c.meet_of_sums.ensures)
    (sym c.same_operands.ensures ∙ c.if-same_operands.false)

pub returns : goal.returns
returns c = let k = c.args in went geop k.a k.b k.f _ c.both_ways.ensures (sym c.same_operands.ensures ∙ c.if-same_operands.false)
