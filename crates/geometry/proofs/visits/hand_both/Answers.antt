-- `hand_both` equals its definition: the halves are handed on, if there are any and their weights are above zero.
use Rattle.math.specs.Revision.{arithmetic}
use Rattle.geometry.proofs.visits.Handed.{both_none, both-held, both-bad_first, both-bad_second, both_done}
use Rattle.geometry.proofs.visits.hand_both.Goals as goal

pub returns-then-not-split_mid : goal.returns-then-not-split_mid
returns-then-not-split_mid ty c =
    let g = c.args in
    let halves = c.split_mid in
    both_none (arithmetic ty.R.Revision.second) g.s g.work.now _ g.a g.b g.hat _ _ halves.ensures halves.auto.work c.if-not-split_mid.true

pub weights_positive_in-requires : goal.weights_positive_in-requires
weights_positive_in-requires ty c =
    let g = c.args in
    let halves = c.split_mid in
    (both-held (arithmetic ty.R.Revision.second) g.s g.work.now _ g.a g.b g.hat _ _ halves.ensures halves.auto.work c.if-not-split_mid.false).0

pub returns-then-not-weights_positive_in : goal.returns-then-not-weights_positive_in
returns-then-not-weights_positive_in ty c =
    let g = c.args in
    let halves = c.split_mid in
    both-bad_first (arithmetic ty.R.Revision.second) g.s g.work.now _ g.a g.b g.hat _ _ halves.ensures halves.auto.work c.if-not-split_mid.false _ c.weights_positive_in.ensures c.if-not-weights_positive_in.true

pub weights_positive_in-requires-2 : goal.weights_positive_in-requires-2
weights_positive_in-requires-2 ty c =
    let g = c.args in
    let halves = c.split_mid in
    (both-held (arithmetic ty.R.Revision.second) g.s g.work.now _ g.a g.b g.hat _ _ halves.ensures halves.auto.work c.if-not-split_mid.false).1

pub returns-then-not-weights_positive_in-2 : goal.returns-then-not-weights_positive_in-2
returns-then-not-weights_positive_in-2 ty c =
    let g = c.args in
    let halves = c.split_mid in
    both-bad_second (arithmetic ty.R.Revision.second) g.s g.work.now _ g.a g.b g.hat _ _ halves.ensures halves.auto.work c.if-not-split_mid.false _ c.weights_positive_in.ensures c.if-not-weights_positive_in.false _ c.weights_positive_in-2.ensures c.if-not-weights_positive_in-2.true

pub returns : goal.returns
returns ty c =
    let g = c.args in
    let halves = c.split_mid in
    both_done (arithmetic ty.R.Revision.second) g.s g.work.now _ g.a g.b g.hat _ _ halves.ensures halves.auto.work c.if-not-split_mid.false _ c.weights_positive_in.ensures c.if-not-weights_positive_in.false _ c.weights_positive_in-2.ensures c.if-not-weights_positive_in-2.false
