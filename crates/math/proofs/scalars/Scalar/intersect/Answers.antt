-- `intersect` equals its definition: each of its three answers is what the definition picks under the same tests.
use Rattle.math.proofs.Picks.{meets, first, second}
use Rattle.math.proofs.scalars.Scalar.intersect.Goals as goal

pub returns-then-lo-hi : goal.returns-then-lo-hi
returns-then-lo-hi c =
    meets c.args.self c.args.other c.max-lo.result c.min-hi.result c.max-lo.ensures c.min-hi.ensures c.if-lo-hi.true

pub returns-then-self-other : goal.returns-then-self-other
returns-then-self-other c =
    let a = c.args in
    first a.self a.other c.max-lo.result c.min-hi.result c.max-lo.ensures c.min-hi.ensures c.if-lo-hi.false c.if-self-other.true

pub returns : goal.returns
returns c =
    let a = c.args in
    second a.self a.other c.max-lo.result c.min-hi.result c.max-lo.ensures c.min-hi.ensures c.if-lo-hi.false c.if-self-other.false
