-- `multiplicity_of` equals its definition: the library counts as the definition does.
use Rattle.std.proofs.Common.{rules, ◌≡◌}
use mathlib.Core.Path.{◌∙◌}
use Rattle.std.specs.List.{count_by}
use lib.Ieee.{eq}
use Rattle.geometry.proofs.Lists.Walks.{count_is}
use Rattle.geometry.proofs.knot_insertion.multiplicity_of.Goals as goal

pub returns : goal.returns
returns c =
    let e : c.count.result ≡ count_by (λ u. eq u c.args.t) c.args.knots.now = search rules in
    e ∙ count_is (λ u. eq u c.args.t) c.args.knots.now
