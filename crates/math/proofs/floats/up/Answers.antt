-- `up` equals its definition: the pattern tells which step leads to the neighbour above.
use mathlib.Core.Path.{sym, subst}
use native.Mathlib.Omega.{arith}
use lib.Dec.{T}
use lib.Ieee.{nan_bits}
use Rattle.math.proofs.Doubles.Steps.{steps, up_ok}
use Rattle.math.proofs.floats.up.Goals as goal

pub float_from_bits-result : goal.float_from_bits-result
float_from_bits-result c = up_ok _ (omega arith)

pub returns-then-b-lt9218868437227405312 : goal.returns-then-b-lt9218868437227405312
returns-then-b-lt9218868437227405312 c = (steps c.args.x (subst T (sym c.well_formed.0.1) tt) c.requires).one_up (omega arith)

pub float_from_bits-result-then-b-gt9223372036854775808 : goal.float_from_bits-result-then-b-gt9223372036854775808
float_from_bits-result-then-b-gt9223372036854775808 c = ((steps c.args.x (subst T (sym c.well_formed.0.1) tt) c.requires).one_down (omega arith)).0

pub returns-then-b-gt9223372036854775808 : goal.returns-then-b-gt9223372036854775808
returns-then-b-gt9223372036854775808 c = ((steps c.args.x (subst T (sym c.well_formed.0.1) tt) c.requires).one_down (omega arith)).1

pub float_from_bits-result-then-b : goal.float_from_bits-result-then-b
unfolding nan_bits
float_from_bits-result-then-b c = tt

pub returns-then-b : goal.returns-then-b
returns-then-b c = (steps c.args.x (subst T (sym c.well_formed.0.1) tt) c.requires).from_zero (omega arith)

pub returns : goal.returns
returns c = (steps c.args.x (subst T (sym c.well_formed.0.1) tt) c.requires).stays (omega arith) (omega arith)
