-- `bounds_ordered` equals its definition.
use Rattle.std.proofs.Common.{rules}
use Rattle.model.specs.Call.{bounds_ordered}
use Rattle.geometry.proofs.call.Lent.bounds_ordered.Goals as goal

pub returns-then-all_ordered : goal.returns-then-all_ordered
unfolding bounds_ordered
returns-then-all_ordered c = search rules

pub returns-else-all_ordered : goal.returns-else-all_ordered
unfolding bounds_ordered
returns-else-all_ordered c = search rules
