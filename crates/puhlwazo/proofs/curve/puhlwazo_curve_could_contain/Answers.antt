-- `puhlwazo_curve_could_contain` hands out what the contract of the search promises, and nothing else.
use Rattle.puhlwazo.proofs.Laws.{handed}
use Rattle.puhlwazo.proofs.curve.puhlwazo_curve_could_contain.Goals as goal

pub returns : goal.returns
returns c =
    let r = c.curve_could_contain-f.ensures in
    handed c.number_of.ensures c.counts_of.ensures c.bounds_of.ensures r.result r
