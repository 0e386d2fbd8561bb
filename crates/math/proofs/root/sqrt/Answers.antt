-- `root::sqrt` meets its contract, by root/Ends.antt: four tests for the operands that are no positive numbers, then the two kinds of exponent's field.
use mathlib.Core.Path.{sym, subst, ◌∙◌}
use native.Mathlib.Omega.{arith}
use lib.Dec.{T}
use lib.Ieee.{binary64, fits, to_bits}
use Rattle.math.proofs.root.Ends.{at_nan, at_zero, at_negative, at_inf, positive, Read, read, low_field, high_field, fine}
use Rattle.math.proofs.root.sqrt.Goals as goal

-- past the four tests
past : (c : goal.Then-e-eq0) → Read c.args.x (to_bits binary64 c.args.x)
past c =
    let held : T (fits binary64 c.args.x) = subst T (sym c.well_formed.0.1) tt in
    read c.args.x held (positive c.args.x (sym c.is_nan.ensures.value ∙ c.if-is_nan.false) c.if-x.false c.if-x-2.false c.if-x-3.false)

normal : (c : goal.Else-e-eq0) → Read c.args.x (to_bits binary64 c.args.x)
normal c =
    let held : T (fits binary64 c.args.x) = subst T (sym c.well_formed.0.1) tt in
    read c.args.x held (positive c.args.x (sym c.is_nan.ensures.value ∙ c.if-is_nan.false) c.if-x.false c.if-x-2.false c.if-x-3.false)

pub returns-then-is_nan : goal.returns-then-is_nan
returns-then-is_nan c = at_nan c.args.x (sym c.is_nan.ensures.value ∙ c.if-is_nan.true)

pub returns-then-x : goal.returns-then-x
returns-then-x c = at_zero c.args.x c.if-x.true

pub returns-then-x-2 : goal.returns-then-x-2
returns-then-x-2 c = at_negative c.args.x c.if-x-2.true

pub returns-then-x-3 : goal.returns-then-x-3
returns-then-x-3 c = at_inf c.args.x c.if-x-3.true

pub root_bits-requires : goal.root_bits-requires
root_bits-requires c = omega (arith, (past c).low, c.if-e-eq0.true)

pub float_from_bits-result : goal.float_from_bits-result
float_from_bits-result c = fine c.root_bits.result c.root_bits.ensures.1

pub returns-then-e-eq0 : goal.returns-then-e-eq0
returns-then-e-eq0 c = c.root_bits.ensures.0 ∙ sym (low_field _ _ (past c.before) c.if-e-eq0.true)

pub overflow_add-e : goal.overflow_add-e
overflow_add-e c = omega (arith, (normal c).high)

pub root_bits-requires-2 : goal.root_bits-requires-2
root_bits-requires-2 c = omega (arith, (normal c).high, c.if-e-eq0.false)

pub float_from_bits-result-2 : goal.float_from_bits-result-2
float_from_bits-result-2 c = fine c.root_bits-2.result c.root_bits-2.ensures.1

pub returns : goal.returns
returns c = c.root_bits-2.ensures.0 ∙ sym (high_field _ _ (normal c.before) c.if-e-eq0.false)
