-- `both_ways` equals its definition: what the two ways have in common.
use Rattle.math.specs.Revision.{arithmetic}
use Rattle.math.proofs.Picks.{blended, sums-meet}
use Rattle.math.proofs.revision.Revision.both_ways.Goals as goal

pub returns : goal.returns
returns g c =
    let k = c.args in
    let ar = arithmetic g.Self.Revision.second in
    blended ar k.a k.b k.f c.sub.result c.mul.result c.mul-2.result c.mul-3.result c.intersect.result
    c.sub.ensures c.mul.ensures c.mul-2.ensures c.mul-3.ensures
    (sums-meet ar k.a c.mul.result c.mul-2.result c.mul-3.result c.add-via_delta.result c.add-via_weights.result c.intersect.result c.add-via_delta.ensures c.add-via_weights.ensures c.intersect.ensures)
