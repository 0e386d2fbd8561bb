-- `rising` equals its definition.
use Rattle.std.proofs.Common.{rules}
use Rattle.geometry.proofs.call.Checks.{rising_by}
use Rattle.geometry.proofs.call.rising.Goals as goal

pub returns : goal.returns
returns c = rising_by c.args.knots.now _ (search rules) (search rules)
