-- `hand_on` equals its definition: what is cut down is handed on, if its weights are above zero.
use Rattle.math.specs.Revision.{arithmetic}
use Rattle.geometry.proofs.visits.Handed.{handed-on, handed-bad}
use Rattle.geometry.proofs.visits.hand_on.Goals as goal

pub returns-then-not-weights_positive_in : goal.returns-then-not-weights_positive_in
returns-then-not-weights_positive_in ty c = λ b.
    let g = c.args in
    let k = c.restrict-cuts in
    handed-bad (arithmetic ty.R.Revision.second) g.s g.work.now _ g.a g.hat _ _ k.ensures k.auto.work _ c.weights_positive_in.ensures b c.if-not-weights_positive_in.true

pub returns : goal.returns
returns ty c = λ b.
    let g = c.args in
    let k = c.restrict-cuts in
    handed-on (arithmetic ty.R.Revision.second) g.s g.work.now _ g.a g.hat _ _ k.ensures k.auto.work _ c.weights_positive_in.ensures b c.if-not-weights_positive_in.false
