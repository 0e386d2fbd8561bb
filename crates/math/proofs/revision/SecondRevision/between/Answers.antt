-- `between` equals its definition: its first operand where `same_operands` says so, else what two ways have in common.
use mathlib.Core.Path.{sym, ◌∙◌}
use Rattle.math.specs.Tight.{tight}
use Rattle.math.proofs.Picks.{kept, went}
use Rattle.math.proofs.revision.SecondRevision.between.Goals as goal

pub returns-then-same_operands : goal.returns-then-same_operands
returns-then-same_operands c = let k = c.args in kept tight k.a k.b k.f (sym c.same_operands.ensures ∙ c.if-same_operands.true)

pub returns : goal.returns
returns c = let k = c.args in went tight k.a k.b k.f _ c.both_ways.ensures (sym c.same_operands.ensures ∙ c.if-same_operands.false)
