-- `position_of` equals its definition. Invariant: none of the first i knots is t.
use lib.Ieee.{nan, eq}
use Rattle.lists.proofs.Fold.{position_turn, position-found, position_done}
use native.Mathlib.Omega.{arith}
use Rattle.geometry.proofs.knot_insertion.position_of.Goals as goal

pub returns-then-knots-i : goal.returns-then-knots-i
returns-then-knots-i c =
    let l = c.loop-i in
    let g = c.args in
    omega (arith, position-found (λ u. eq u g.t) g.knots.now l.i nan (omega arith) c.if-knots-i.true, l.invariant)

pub loop-i-preserved : goal.loop-i-preserved
loop-i-preserved c =
    let l = c.loop-i in
    let g = c.args in
    omega (arith, position_turn (λ u. eq u g.t) g.knots.now l.i nan (omega arith) c.if-knots-i.false, l.invariant)

pub returns : goal.returns
returns c =
    let l = c.loop-i in
    let g = c.args in
    omega (arith, position_done (λ u. eq u g.t) g.knots.now l.i (omega arith), l.invariant)
