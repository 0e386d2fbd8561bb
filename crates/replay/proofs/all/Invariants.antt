-- `all` goes through the texts from the front to the end.
use Rattle.std.proofs.Common.{length}
use Rattle.replay.proofs.all.Given as goal

abbrev pub decreases-loop-rest : goal.decreases-loop-rest
decreases-loop-rest g l = length l.rest
