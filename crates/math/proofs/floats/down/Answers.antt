-- `down` equals its definition: the pattern tells which step leads to the neighbour below.
use mathlib.Core.Path.{sym, subst}
use native.Mathlib.Omega.{arith}
use lib.Dec.{T}
use lib.Ieee.{nan_bits}
use Rattle.math.proofs.Doubles.Steps.{steps-down}
use Rattle.math.proofs.floats.down.Goals as goal

pub float_from_bits-result : goal.float_from_bits-result
unfolding nan_bits
float_from_bits-result c = tt

pub returns-then-b-eq0 : goal.returns-then-b-eq0
returns-then-b-eq0 c = (steps-down c.args.x (subst T (sym c.well_formed.0.1) tt) c.requires).from_zero (omega arith)

pub float_from_bits-result-then-b-lt9223372036854775808 : goal.float_from_bits-result-then-b-lt9223372036854775808
float_from_bits-result-then-b-lt9223372036854775808 c = ((steps-down c.args.x (subst T (sym c.well_formed.0.1) tt) c.requires).one_down (omega arith) (omega arith)).0

pub returns-then-b-lt9223372036854775808 : goal.returns-then-b-lt9223372036854775808
returns-then-b-lt9223372036854775808 c = ((steps-down c.args.x (subst T (sym c.well_formed.0.1) tt) c.requires).one_down (omega arith) (omega arith)).1

pub float_from_bits-result-then-b-lt18442240474082181120 : goal.float_from_bits-result-then-b-lt18442240474082181120
float_from_bits-result-then-b-lt18442240474082181120 c = ((steps-down c.args.x (subst T (sym c.well_formed.0.1) tt) c.requires).one_up (omega arith) (omega arith)).0

pub returns-then-b-lt18442240474082181120 : goal.returns-then-b-lt18442240474082181120
returns-then-b-lt18442240474082181120 c = ((steps-down c.args.x (subst T (sym c.well_formed.0.1) tt) c.requires).one_up (omega arith) (omega arith)).1

pub returns : goal.returns
returns c = (steps-down c.args.x (subst T (sym c.well_formed.0.1) tt) c.requires).stays (omega arith)
