-- `repeats_at` equals its definition, whether there is a knot k places on or not.
use Rattle.std.proofs.Common.{rules}
use borrow.Author.Tests.{tests}
use Rattle.geometry.specs.Multiplicity.{repeats_at}
use Rattle.geometry.proofs.call.repeats_at.Goals as goal

pub returns-then-i-k : goal.returns-then-i-k
unfolding repeats_at
returns-then-i-k c = search (rules, tests)

pub returns-else-i-k : goal.returns-else-i-k
unfolding repeats_at
returns-else-i-k c = search (rules, tests)
