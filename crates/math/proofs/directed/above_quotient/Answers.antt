-- `above_quotient` meets its contract, by the size and the sign of the rounded quotient.
use mathlib.Core.Path.{◌≡◌, sym, ap, ◌∙◌, subst}
use mathlib.Core.Bool.{Bool, false, not}
use lib.Dec.{T}
use lib.Ieee.{binary64, fits, is_nan}
use lib.Ieee.Bits.{to_bits-lt}
use Rattle.math.proofs.Tight.Kinds.{at_infinity}
use Rattle.math.proofs.Tight.Ratios.{Divides, over_sized, quotient_number}
use Rattle.math.proofs.directed.above_quotient.Goals as goal

-- the operands are doubles, as every f64 is
operands : (c : goal.Start) → Divides c.args.a c.args.b c.args.q
operands c = record { held_a = subst T (sym c.well_formed.0.1) tt; held_b = subst T (sym c.well_formed.1.0.1) tt; finite_a = c.requires.0; finite_b = c.requires.1; nonzero_b = c.requires.2; is = c.requires.3 }

held : (c : goal.Start) → T (fits binary64 c.args.q)
held c = subst T (sym c.well_formed.1.1.0.1) tt

no_nan : (c : goal.Start) → is_nan c.args.q ≡ false
no_nan c = ap is_nan c.requires.3 ∙ quotient_number c.args.a c.args.b c.requires.0 c.requires.1 c.requires.2

pub float_to_bits-k : goal.float_to_bits-k
float_to_bits-k c = subst (λ (b : Bool). T (not b)) (sym (no_nan c)) tt

pub returns-then-z-lt9218868437227405312 : goal.returns-then-z-lt9218868437227405312
returns-then-z-lt9218868437227405312 c =
    over_sized c.args.a c.args.b c.args.q _ _ _ (operands c.before.before.before.before) (no_nan c.before.before.before.before) (to_bits-lt binary64 c.args.q (held c.before.before.before.before)) c.if-z-lt9218868437227405312.true c.magnitude.ensures c.magnitude-then-z-lt9218868437227405312.ensures c.passes.ensures

pub returns : goal.returns
returns c = at_infinity c.args.q _ (held c.before) (no_nan c.before) (to_bits-lt binary64 c.args.q (held c.before)) c.if-z-lt9218868437227405312.false
