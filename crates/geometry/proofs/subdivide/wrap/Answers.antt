-- `wrap` equals its definition: one test.
use mathlib.Core.Path.{sym}
use Rattle.lists.proofs.Ring.{wrapped_lt, wrapped_ge}
use Rattle.geometry.proofs.subdivide.wrap.Goals as goal

pub returns-then-i-slots : goal.returns-then-i-slots
returns-then-i-slots c = sym (wrapped_lt _ _ c.if-i-slots.true)

pub returns-else-i-slots : goal.returns-else-i-slots
returns-else-i-slots c = sym (wrapped_ge _ _ c.if-i-slots.false)
