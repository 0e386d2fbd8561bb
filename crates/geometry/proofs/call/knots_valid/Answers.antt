-- `knots_valid` equals its definition.
use Rattle.std.proofs.Common.{rules}
use Rattle.model.specs.Call.{knots_valid}
use Rattle.geometry.proofs.call.knots_valid.Goals as goal

pub returns-then-a-b : goal.returns-then-a-b
unfolding knots_valid
returns-then-a-b c = search rules

pub returns-else-a-b : goal.returns-else-a-b
unfolding knots_valid
returns-else-a-b c = search rules
