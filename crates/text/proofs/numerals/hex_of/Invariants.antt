-- `hex_of` gives the number that the digits are. Invariant: v is the number that those passed are.
use Rattle.text.specs.Numerals.{nibble}
use Rattle.text.proofs.numerals.Base.{Known}
use Rattle.text.proofs.numerals.hex_of.Given as goal

abbrev pub invariant-loop-b : goal.invariant-loop-b
invariant-loop-b l = Known 16 nibble l.digits l.b-index l.v
