-- `meet_of_sums` equals its definition: where the two sums meet each bound is picked and then widened, and else the sums are intersected as they are.
use Rattle.math.specs.Scalars.{geop}
use Rattle.math.proofs.Picks.{sums-meet}
use Rattle.math.proofs.Intervals.Factors.{lower_number, upper_number, meet_of_sums_is}
use Rattle.math.proofs.scalars.Scalar.meet_of_sums.Goals as goal

pub down-requires : goal.down-requires
down-requires c = lower_number _ _ c.if-lo-hi.true

pub up-requires : goal.up-requires
up-requires c = upper_number _ _ c.if-lo-hi.true

pub returns-then-lo-hi : goal.returns-then-lo-hi
returns-then-lo-hi c =
    let k = c.args in
    meet_of_sums_is k.a k.m k.p k.q c.greater-lo.result c.lesser-hi.result c.down.result c.up.result c.greater-lo.ensures c.lesser-hi.ensures c.if-lo-hi.true c.down.ensures c.up.ensures

pub returns : goal.returns
returns c =
    let k = c.args in
    sums-meet geop k.a k.m k.p k.q c.add.result c.add-2.result c.intersect.result c.add.ensures c.add-2.ensures c.intersect.ensures
