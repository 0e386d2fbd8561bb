-- `put_digits` writes the digits from the last on.
-- Invariant: those from place i on stand there, and the others are the last i of the rest.
use Rattle.text.proofs.print.Writing.{Digits}
use Rattle.text.proofs.print.put_digits.Given as goal

abbrev pub invariant-loop-i : goal.invariant-loop-i
invariant-loop-i l = Digits l.initial.out l.at l.base l.k l.n l.out l.i l.rest
