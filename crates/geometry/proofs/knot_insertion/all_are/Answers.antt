-- `all_are` equals its definition.
use Rattle.std.proofs.Common.{rules}
use lib.Ieee.{nan, eq}
use Rattle.geometry.proofs.Lists.Walks.{all_by}
use Rattle.geometry.proofs.knot_insertion.all_are.Goals as goal

pub returns : goal.returns
returns c = all_by (λ u. eq u c.args.v) c.args.knots.now nan _ (search rules) (search rules)
