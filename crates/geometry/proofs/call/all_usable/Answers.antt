-- `all_usable` equals its definition.
use Rattle.std.proofs.Common.{rules}
use lib.Ieee.{nan}
use Rattle.model.specs.Call.{usable}
use Rattle.geometry.proofs.Lists.Walks.{all_by}
use Rattle.geometry.proofs.call.all_usable.Goals as goal

pub returns : goal.returns
returns c = all_by usable c.args.l.now nan _ (search rules) (search rules)
