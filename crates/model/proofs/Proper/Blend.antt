-- Points between points are in order where the points are, in every arithmetic that encloses. Assumes nothing.
use mathlib.Core.Path.{◌≡◌, refl, sym, ap, ◌∙◌, subst}
use mathlib.Core.Bool.{Bool, true, false, cond}
use mathlib.Core.List.{List}
use Prim.Native.Nat.{ℕ, suc, ◌+◌, ◌<◌}
use native.Mathlib.Omega.{arith}
use lib.Dec.{T}
use lib.ListN.{length}
use lib.Ieee.{Float, eq}
use Rattle.exact.specs.Rational.{ℚ, 0ℚ, 1ℚ, lerp, ratio, ◌≤ℚ◌, ◌<ℚ◌, lt→not_le, not_le→lt}
use Rattle.exact.proofs.Order.{le_refl, le_antisym, lt→le, lt_le_trans, ratio_ge, ratio_le}
use Rattle.exact.proofs.Splines.Hull.{lerp-pos}
use Rattle.lists.proofs.Each.{get_or_zip, length-zip}
use Rattle.math.specs.declared.scalars.Scalar.{Scalar}
use Rattle.math.specs.Divided.{Divided}
use Rattle.std.specs.Prelude.{Some}
use Rattle.math.specs.Scalars.{Arithmetic, sharp, absent, ZERO, ONE, is_same, value_or, interpolate_s}
use Rattle.math.specs.Values.{value, Holds, Proper}
use Rattle.math.specs.Encloses.{Encloses, Between, Tame}
use Rattle.math.proofs.Bools.{pick}
use Rattle.math.proofs.Doubles.Order.{number, below_number}
use Rattle.math.proofs.Intervals.Tests.{holds_proper}
use Rattle.math.proofs.Intervals.Laws.{interpolate_holds}
use Rattle.math.proofs.Intervals.Proper.{interpolate_proper}
use Rattle.model.specs.Vector.{Vector, coordinate, interpolate_v}
use Rattle.model.specs.NurbCurve.{knot}
use Rattle.model.specs.KnotInsertion.{alpha, blend}
use Rattle.model.specs.Enclosure.{Every}
use Rattle.model.specs.Weights.{Weighs}
use Rattle.model.proofs.Sound.Base.{Known}
use Rattle.model.proofs.Sound.Known.{sharp_known, eq_known, known_eq}
use Rattle.model.proofs.Sound.Blend.{row, succeeds, fraction_holds, value_of}
use Rattle.model.proofs.Every.{every_at, every-zip}

-- a point of dim coordinates and a weight, which are in order; the weight holds one above zero
pub record Solid (dim : ℕ) (q : Vector) : Type 0 where
  pub long : length q ≡ suc dim
  pub all : Every Proper q
  pub weight : Weighs (coordinate q dim)

pub coordinate_proper : (dim : ℕ) (q : Vector) (k : ℕ) → Solid dim q → k < suc dim → Proper (coordinate q k)
coordinate_proper dim q k s h = every_at Proper q k absent s.all (omega (arith, s.long))

-- a known double is a number, and its interval is in order
pub known_number : (x : Float) → Known x → T (number x)
known_number x k = below_number x (value x) (sharp_known x k).low

pub known_proper : (x : Float) → Known x → Proper (sharp x)
known_proper x k = holds_proper (sharp x) (value x) (sharp_known x k)

module _ (ar : Arithmetic) (E : Encloses ar) where
  -- a fraction from 0 to 1 by which anything can be multiplied
  pub record Gentle (α : Scalar) : Type 0 where
    pub number : ℚ
    pub from : 0ℚ ≤ℚ number
    pub upto : number ≤ℚ 1ℚ
    pub holds : Holds α number
    pub tame : (x y : Scalar) → Tame ar E x y α

  pub gentle_proper : (α : Scalar) → Gentle α → Proper α
  gentle_proper α g = holds_proper α g.number g.holds

  pub vector_solid : (α : Scalar) → Gentle α → (dim : ℕ) (a b : Vector) → Solid dim a → Solid dim b → Solid dim (interpolate_v ar a b α)
  unfolding interpolate_v
  vector_solid α g dim a b A B = record {
    long = length-zip (λ x y. interpolate_s ar x y α) a b (omega (arith, A.long, B.long)) ∙ B.long;
    all = every-zip Proper Proper Proper (λ x y. interpolate_s ar x y α) (λ x y X Y. interpolate_proper ar E x y α X Y (gentle_proper α g) (g.tame x y)) a b A.all B.all;
    weight = subst Weighs (sym (get_or_zip (λ x y. interpolate_s ar x y α) a b dim absent absent absent (omega (arith, A.long)) (omega (arith, B.long)))) (record {
      number = lerp g.number A.weight.number B.weight.number;
      above = lerp-pos g.number A.weight.number B.weight.number g.from g.upto A.weight.above B.weight.above;
      holds = interpolate_holds ar E (coordinate a dim) (coordinate b dim) α g.number A.weight.number B.weight.number (g.tame (coordinate a dim) (coordinate b dim)) g.holds A.weight.holds B.weight.holds;
    });
  }

  -- ---- how far t lies from a to b, where it lies strictly between
  module _ (a t b : Float) (ka : Known a) (kt : Known t) (kb : Known b) (at : value a <ℚ value t) (tb : value t <ℚ value b) where
    w : Between a t b
    w = row ar E a t b ka kt kb at tb

    pub fraction : (f : Scalar) × (ar.div (ar.sub (sharp t) (sharp a)) (ar.sub (sharp b) (sharp a)) ≡ Some f)
    fraction = succeeds ar E a t b w (ar.sub (sharp t) (sharp a))

    pub fraction_gentle : (f : Scalar) → ar.div (ar.sub (sharp t) (sharp a)) (ar.sub (sharp b) (sharp a)) ≡ Some f → Gentle f
    fraction_gentle f e = record {
      number = ratio (value t) (value a) (value b);
      from = ratio_ge (lt_le_trans at (lt→le tb)) (lt→le at);
      upto = ratio_le (lt_le_trans at (lt→le tb)) (lt→le tb);
      holds = fraction_holds ar E a t b ka kt kb at tb f e;
      tame = λ x y. record { delta = E.alpha_clear a t b f _ w e; first = E.rest_clear a t b f _ w e; second = E.alpha_clear a t b f _ w e };
    }

  -- the fraction of an insertion is 0, or one by which anything can be multiplied
  pub data Fraction (α : Scalar) : Type 0 where
    none_of : α ≡ ZERO → Fraction α
    some_of : Gentle α → Fraction α

  -- ---- t is at knot a or after it, and before knot b
  module _ (p : ℕ) (ks : List Float) (t : Float) (i : ℕ) (ka : Known (knot ks i)) (kt : Known t) (kb : Known (knot ks (i + p))) (at : value (knot ks i) ≤ℚ value t)
      (tb : value t <ℚ value (knot ks (i + p))) where
    abbrev a : Float
    a = knot ks i

    abbrev b : Float
    b = knot ks (i + p)

    pub not_last : eq (knot ks (i + p)) t ≡ true → ⊥
    not_last g = lt→not_le tb (subst (λ (z : ℚ). z ≤ℚ value t) (sym (eq_known b t kb kt (subst T (sym g) tt))) (le_refl (value t)))

    pub strictly : eq (knot ks i) t ≡ false → value (knot ks i) <ℚ value t
    strictly e = not_le→lt (λ m. subst T e (known_eq a t ka kt (le_antisym at m)))

    pub alpha_gentle : Fraction (alpha ar p ks t i)
    unfolding alpha
    alpha_gentle = go (eq a t) (eq b t) refl refl
      where
        go : (x y : Bool) → eq a t ≡ x → eq b t ≡ y → Fraction (cond x ZERO (cond y ONE (value_or (ar.div (ar.sub (sharp t) (sharp a)) (ar.sub (sharp b) (sharp a))) ONE)))
        go true y e g = none_of refl
        go false true e g = absurd (not_last g)
        go false false e g =
            let f = fraction a t b ka kt kb (strictly e) tb in
            subst Fraction (sym (ap (λ (z : Divided). value_or z ONE) f.1 ∙ value_of f.0 ONE)) (some_of (fraction_gentle a t b ka kt kb (strictly e) tb f.0 f.1))

    -- THE BLEND
    pub blend_solid : (dim : ℕ) (A B : Vector) → Solid dim A → Solid dim B → Solid dim (blend ar (alpha ar p ks t i) A B)
    unfolding blend
    blend_solid dim A B SA SB = go (alpha ar p ks t i) alpha_gentle
      where
        go : (α : Scalar) → Fraction α → Solid dim (cond (is_same α ZERO) A (cond (is_same α ONE) B (interpolate_v ar A B α)))
        go α (none_of e) = subst (λ (z : Scalar). Solid dim (cond (is_same z ZERO) A (cond (is_same z ONE) B (interpolate_v ar A B z)))) (sym e) (unfold eq in SA)
        go α (some_of g) =
            pick (Solid dim) (is_same α ZERO) A (cond (is_same α ONE) B (interpolate_v ar A B α)) (λ _. SA)
            (λ _. pick (Solid dim) (is_same α ONE) B (interpolate_v ar A B α) (λ _. SB) (λ _. vector_solid α g dim A B SA SB))
