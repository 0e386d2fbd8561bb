-- What is filled never exceeds the slice, every turn fills more, and nothing behind is touched. What is filled is what was read.
use Rattle.std.proofs.Common.{length, take, ◌-◌}
use Rattle.std.specs.Io.KnownBytes.{Consumes}
use Rattle.input.specs.Filled.{Filled}
use Rattle.input.proofs.read_from.Given as goal

abbrev pub invariant-loop-done : goal.invariant-loop-done
invariant-loop-done g l = record {
  filled : Filled l.initial.buf l.buf 0 l.done;
  read : Consumes (g.R.Read.remaining l.initial.reader) (g.R.Read.remaining l.reader) (take l.done l.buf);
}

abbrev pub decreases-loop-done : goal.decreases-loop-done
decreases-loop-done g l = length l.buf - l.done
