-- `put_values` writes the doubles. Invariant: the first i stand there, each with what follows it.
use Rattle.text.proofs.rewrite.Lines.{Values}
use Rattle.text.proofs.rewrite.put_values.Given as goal

abbrev pub invariant-loop-i : goal.invariant-loop-i
invariant-loop-i l = Values l.xs l.initial.out l.at l.i l.out
