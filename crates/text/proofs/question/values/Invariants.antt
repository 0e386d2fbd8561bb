-- `values` reads n doubles. Invariant: the first i were read and written, the others are read from `rest`.
use Rattle.text.proofs.question.Doubles.{Values}
use Rattle.text.proofs.question.values.Given as goal

abbrev pub invariant-loop-i : goal.invariant-loop-i
invariant-loop-i l = Values l.n l.text l.initial.out l.i l.rest l.out
