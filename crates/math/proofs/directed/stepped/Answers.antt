-- `stepped` equals its definition: an ordinary number's pattern goes by 1 or by nothing, down above zero and up below it.
use mathlib.Core.Path.{sym, ◌∙◌, subst}
use Prim.Native.Nat.{◌<◌}
use native.Mathlib.Omega.{arith}
use lib.Dec.{T}
use lib.Ieee.{binary64, fits, to_bits}
use lib.Ieee.Bits.{to_bits-lt}
use Rattle.math.proofs.Doubles.Steps.{nan_stays}
use Rattle.math.proofs.Tight.Moves.{ordinary_high, twice-fits, leads, step_is, step_most, same_either}
use Rattle.math.proofs.directed.stepped.Goals as goal

pub returns-then-is_nan : goal.returns-then-is_nan
returns-then-is_nan c = let x = c.args.x in same_either x _ c.args.outward (nan_stays x (sym c.is_nan.ensures.value ∙ c.if-is_nan.true)).1

pub overflow_mul-result : goal.overflow_mul-result
overflow_mul-result c = omega (arith, twice-fits _ _ (step_most _ _ c.from-d.ensures) (to_bits-lt binary64 c.args.x (subst T (sym c.well_formed.0.1) tt)))

pub overflow_mul-result-then-is_ordinary : goal.overflow_mul-result-then-is_ordinary
overflow_mul-result-then-is_ordinary c = omega (arith, twice-fits _ _ (step_most _ _ c.from-d.ensures) (to_bits-lt binary64 c.args.x (subst T (sym c.well_formed.0.1) tt)))

pub overflow_add-result : goal.overflow_add-result
overflow_add-result c =
    let held : T (fits binary64 c.args.x) = subst T (sym c.well_formed.0.1) tt in
    let wide : to_bits binary64 c.args.x < 0x1_0000_0000_0000_0000 = to_bits-lt binary64 c.args.x held in
    omega (arith, twice-fits _ _ (step_most _ _ c.from-d.ensures) wide, ordinary_high (to_bits binary64 c.args.x) (sym c.is_ordinary.ensures ∙ c.if-is_ordinary.true) wide)

pub float_from_bits-result : goal.float_from_bits-result
float_from_bits-result c =
    let held : T (fits binary64 c.args.x) = subst T (sym c.well_formed.0.1) tt in
    (leads c.args.x held (sym c.is_nan.ensures.value ∙ c.if-is_nan.false) c.args.outward c.from-d.result (step_is _ _ c.from-d.ensures) (sym c.is_ordinary.ensures ∙ c.if-is_ordinary.true)).0

pub returns-then-is_ordinary : goal.returns-then-is_ordinary
returns-then-is_ordinary c =
    let held : T (fits binary64 c.args.x) = subst T (sym c.well_formed.0.1) tt in
    (leads c.args.x held (sym c.is_nan.ensures.value ∙ c.if-is_nan.false) c.args.outward c.from-d.result (step_is _ _ c.from-d.ensures) (sym c.is_ordinary.ensures ∙ c.if-is_ordinary.true)).1
