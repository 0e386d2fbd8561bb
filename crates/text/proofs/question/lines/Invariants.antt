-- `lines` reads k lines of n doubles each.
-- Invariant: the first i lines were read and written, the others are read from `rest`.
use Rattle.text.proofs.question.Doubles.{Lines}
use Rattle.text.proofs.question.lines.Given as goal

abbrev pub invariant-loop-i : goal.invariant-loop-i
invariant-loop-i l = Lines l.key l.n l.k l.text l.initial.out l.i l.rest l.out
