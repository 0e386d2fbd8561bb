-- `insert_times` equals its definition. Invariant: what is left to insert makes of the piece that is there what all of it makes of the first.
use Rattle.math.specs.Revision.{arithmetic}
use Rattle.geometry.proofs.knot_insertion.Times.{After}
use Rattle.geometry.proofs.knot_insertion.insert_times.Given as goal

abbrev pub invariant-loop : goal.invariant-loop
invariant-loop ty l = After (arithmetic ty.R.Revision.second) l.s l.initial.work l.base l.t l.times l.counter l.work
