-- `fill` writes v so many times.
use Rattle.std.proofs.Common.{rules, replicate, ◌≡◌}
use lib.ListN.{length-replicate}
use Rattle.geometry.proofs.Lists.Copies.{part_became}
use Rattle.geometry.proofs.slots.fill.Goals as goal

pub returns : goal.returns
returns c =
    let g = c.args in
    let e : c.fill.new.self ≡ replicate g.n g.v = search rules in
    part_became g.work.now g.a g.n _ (replicate g.n g.v) e (length-replicate g.n g.v)
