-- `numbers_usable` equals its definition.
use Rattle.std.proofs.Common.{rules}
use lib.Ieee.{of_bits}
use Rattle.model.specs.Call.{numbers_usable}
use Rattle.geometry.proofs.call.Lent.numbers_usable.Goals as goal

pub returns-then-usable : goal.returns-then-usable
unfolding numbers_usable of_bits
returns-then-usable c = search rules

pub returns-else-usable : goal.returns-else-usable
unfolding numbers_usable
returns-else-usable c = search rules
