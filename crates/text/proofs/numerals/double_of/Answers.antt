-- `double_of` equals its definition: a remainder above the infinity's is a NaN's.
use mathlib.Core.Path.{sym, subst}
use mathlib.Core.Bool.{Bool, not}
use lib.Dec.{T}
use lib.Ieee.{of_bits, div}
use Rattle.text.proofs.numerals.Hexadecimal.{nan_bits_yes, no_nan_bits, double_nan, double_number}
use Rattle.text.proofs.numerals.double_of.Goals as goal

pub returns-then-bits-gt9218868437227405312 : goal.returns-then-bits-gt9218868437227405312
unfolding of_bits div
returns-then-bits-gt9218868437227405312 c = let b = c.args.bits in double_nan b (nan_bits_yes b c.if-bits-gt9218868437227405312.true)

pub float_from_bits-result : goal.float_from_bits-result
float_from_bits-result c = subst (λ (t : Bool). T (not t)) (sym (no_nan_bits c.args.bits c.if-bits-gt9218868437227405312.false)) tt

pub returns : goal.returns
returns c = let b = c.args.bits in double_number b (no_nan_bits b c.if-bits-gt9218868437227405312.false)
