-- `revision_fits` equals its definition.
use Rattle.std.proofs.Common.{rules}
use borrow.Author.Tests.{tests}
use Rattle.model.specs.Call.{revision_fits}
use Rattle.geometry.proofs.call.revision_fits.Goals as goal

pub returns-then-rev-eq1 : goal.returns-then-rev-eq1
unfolding revision_fits
returns-then-rev-eq1 c = search (rules, tests)

pub returns-else-rev-eq1 : goal.returns-else-rev-eq1
unfolding revision_fits
returns-else-rev-eq1 c = search (rules, tests)
