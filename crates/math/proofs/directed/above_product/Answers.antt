-- `above_product` meets its contract, by the size and the sign of the rounded product.
use mathlib.Core.Path.{◌≡◌, sym, ap, ◌∙◌, subst}
use mathlib.Core.Bool.{Bool, false, not}
use lib.Dec.{T}
use lib.Ieee.{binary64, fits, is_nan}
use lib.Ieee.Bits.{to_bits-lt}
use Rattle.math.proofs.Tight.Kinds.{at_infinity}
use Rattle.math.proofs.Tight.Sides.{Factors, above-sized, product_number}
use Rattle.math.proofs.directed.above_product.Goals as goal

-- the factors are doubles, as every f64 is
factors : (c : goal.Start) → Factors c.args.a c.args.b c.args.p
factors c = record { held_a = subst T (sym c.well_formed.0.1) tt; held_b = subst T (sym c.well_formed.1.0.1) tt; finite_a = c.requires.0; finite_b = c.requires.1; is = c.requires.2 }

held : (c : goal.Start) → T (fits binary64 c.args.p)
held c = subst T (sym c.well_formed.1.1.0.1) tt

no_nan : (c : goal.Start) → is_nan c.args.p ≡ false
no_nan c = ap is_nan c.requires.2 ∙ product_number c.args.a c.args.b c.requires.0 c.requires.1

pub float_to_bits-q : goal.float_to_bits-q
float_to_bits-q c = subst (λ (b : Bool). T (not b)) (sym (no_nan c)) tt

pub returns-then-z-lt9218868437227405312 : goal.returns-then-z-lt9218868437227405312
returns-then-z-lt9218868437227405312 c =
    above-sized c.args.a c.args.b c.args.p _ _ _ (factors c.before.before.before.before) (no_nan c.before.before.before.before) (to_bits-lt binary64 c.args.p (held c.before.before.before.before)) c.if-z-lt9218868437227405312.true c.magnitude.ensures c.magnitude-then-z-lt9218868437227405312.ensures c.passes.ensures

pub returns : goal.returns
returns c = at_infinity c.args.p _ (held c.before) (no_nan c.before) (to_bits-lt binary64 c.args.p (held c.before)) c.if-z-lt9218868437227405312.false
