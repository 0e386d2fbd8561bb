-- `low_of` equals its definition, by the seven ways that its tests leave.
use mathlib.Core.Path.{ap₂, ◌∙◌}
use lib.Ieee.{of_bits}
use Rattle.math.specs.Picks.{min_f}
use Rattle.math.proofs.Tight.Choices.{low_low, low_high, high_low, high_high, mixed-above, mixed-below, mixed-both}
use Rattle.math.proofs.directed.low_of.Goals as goal

pub returns-then-a : goal.returns-then-a
unfolding of_bits
returns-then-a c = let a = c.args in c.product_down.ensures ∙ low_low a.a a.b a.c a.d c.if-c.true c.if-a.true

pub returns-then-c : goal.returns-then-c
unfolding of_bits
returns-then-c c = let a = c.args in c.product_down-then-c.ensures ∙ low_high a.a a.b a.c a.d c.if-c.true c.if-a.false

pub returns-then-b : goal.returns-then-b
unfolding of_bits
returns-then-b c = let a = c.args in c.product_down-then-b.ensures ∙ high_low a.a a.b a.c a.d c.if-c.false c.if-d.true c.if-b.true

pub returns-then-d : goal.returns-then-d
unfolding of_bits
returns-then-d c = let a = c.args in c.product_down-then-d.ensures ∙ high_high a.a a.b a.c a.d c.if-c.false c.if-d.true c.if-b.false

pub returns-then-a-2 : goal.returns-then-a-2
unfolding of_bits
returns-then-a-2 c = let a = c.args in c.product_down-then-a-2.ensures ∙ mixed-above a.a a.b a.c a.d c.if-c.false c.if-d.false c.if-a-2.true

pub returns-then-b-2 : goal.returns-then-b-2
unfolding of_bits
returns-then-b-2 c = let a = c.args in c.product_down-then-b-2.ensures ∙ mixed-below a.a a.b a.c a.d c.if-c.false c.if-d.false c.if-a-2.false c.if-b-2.true

pub returns : goal.returns
unfolding of_bits
returns c = let a = c.args in c.min.ensures ∙ ap₂ min_f c.product_down-2.ensures c.product_down-3.ensures ∙ mixed-both a.a a.b a.c a.d c.if-c.false c.if-d.false c.if-a-2.false c.if-b-2.false
