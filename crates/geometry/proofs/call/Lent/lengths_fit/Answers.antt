-- `lengths_fit` equals its definition.
use Rattle.std.proofs.Common.{rules}
use borrow.Author.Tests.{tests}
use Rattle.model.specs.Call.{lengths_fit}
use Rattle.geometry.proofs.call.Lent.lengths_fit.Goals as goal

pub returns-then-self-2 : goal.returns-then-self-2
unfolding lengths_fit
returns-then-self-2 c = search (rules, tests)

pub returns-else-self-2 : goal.returns-else-self-2
unfolding lengths_fit
returns-else-self-2 c = search (rules, tests)
