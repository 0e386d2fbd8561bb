-- The blend of two points at the place of t between two knots holds every exact point at that place. Assumes nothing.
use mathlib.Core.Path.{◌≡◌, refl, sym, ap, ◌∙◌, subst}
use mathlib.Core.List.{List, [], ◌∷◌}
use mathlib.Core.Bool.{Bool, true, false, cond}
use Prim.Native.Nat.{ℕ, ◌+◌}
use lib.IntN.{pos}
use lib.Dec.{T}
use lib.Ieee.{Float, eq}
use Rattle.solver.proofs.Ring.{by_rep, by_eq, read}
use Rattle.exact.specs.Rational.{ℚ, -ℚ◌, ◌-ℚ◌, 0ℚ, 1ℚ, lerp, ratio, ◌≤ℚ◌, ◌<ℚ◌, lt→not_le, not_le→lt}
use Rattle.exact.proofs.Field.{ℚring}
use Rattle.exact.proofs.Order.{le_refl, le_antisym}
use Rattle.exact.proofs.Embed.{÷_one}
use Rattle.exact.proofs.Splines.Smooth.{ratio-start}
use Rattle.lists.proofs.Each.{get_or_zip}
use Rattle.math.specs.declared.scalars.Scalar.{Scalar}
use Rattle.math.specs.Divided.{Divided}
use Rattle.std.specs.Prelude.{Some, None}
use Rattle.math.specs.Scalars.{Arithmetic, sharp, absent, ZERO, ONE, one_f, is_same, value_or, interpolate_s}
use Rattle.math.specs.Values.{value, Holds}
use Rattle.math.specs.Encloses.{Encloses, Between, Tame}
use Rattle.math.proofs.Bools.{pick, taken}
use Rattle.math.proofs.Doubles.Values.{value_zero}
use Rattle.math.proofs.Intervals.Tests.{same_sharp}
use Rattle.math.proofs.Intervals.Laws.{interpolate_holds}
use Rattle.model.specs.Vector.{Vector, coordinate, interpolate_v}
use Rattle.model.specs.NurbCurve.{knot}
use Rattle.model.specs.KnotInsertion.{alpha, blend}
use Rattle.model.proofs.Sound.Base.{Known, present}
use Rattle.model.proofs.Sound.Known.{sharp_known, lt_known, eq_known, known_eq}

-- ---- the ends of lerp
lerp_0 : (ρ x y : ℚ) → ρ ≡ 0ℚ → lerp ρ x y ≡ x
unfolding lerp
lerp_0 ρ x y e = by_eq ℚring (y -ℚ x) e (by_rep ℚring (ρ ∷ x ∷ y ∷ []) (search read depth 9) (search read depth 9) tt)

lerp_1 : (ρ x y : ℚ) → ρ ≡ 1ℚ → lerp ρ x y ≡ y
unfolding lerp
lerp_1 ρ x y e = by_eq ℚring (y -ℚ x) e (by_rep ℚring (ρ ∷ x ∷ y ∷ []) (search read depth 9) (search read depth 9) tt)

pub value_of : (f d : Scalar) → value_or (Some f) d ≡ f
unfolding value_or
value_of f d = refl

one_is : value one_f ≡ 1ℚ
unfolding value
one_is = ÷_one

module _ (ar : Arithmetic) (E : Encloses ar) where
  -- three known doubles in a row
  pub row : (a t b : Float) → Known a → Known t → Known b → value a <ℚ value t → value t <ℚ value b → Between a t b
  row a t b ka kt kb h l = record {
    double_a = ka.double;
    double_t = kt.double;
    double_b = kb.double;
    moderate_a = ka.moderate;
    moderate_b = kb.moderate;
    from = lt_known a t ka kt h;
    upto = lt_known t b kt kb l;
  }

  -- ---- a point between two at the computed fraction
  module _ (a t b : Float) (ka : Known a) (kt : Known t) (kb : Known b) (at : value a <ℚ value t) (tb : value t <ℚ value b) (f : Scalar)
      (e : ar.div (ar.sub (sharp t) (sharp a)) (ar.sub (sharp b) (sharp a)) ≡ Some f) where
    abbrev ρ : ℚ
    ρ = ratio (value t) (value a) (value b)

    pub fraction_holds : Holds f (ratio (value t) (value a) (value b))
    unfolding ratio
    fraction_holds =
        E.div_holds (ar.sub (sharp t) (sharp a)) (ar.sub (sharp b) (sharp a)) f _ _ e (E.sub_holds _ _ _ _ (sharp_known t kt) (sharp_known a ka))
        (E.sub_holds _ _ _ _ (sharp_known b kb) (sharp_known a ka))

    pub between_holds : (A B : Vector) (k : ℕ) (X Y : ℚ) → Holds (coordinate A k) X → Holds (coordinate B k) Y
        → Holds (coordinate (interpolate_v ar A B f) k) (lerp (ratio (value t) (value a) (value b)) X Y)
    unfolding interpolate_v
    between_holds A B k X Y h l =
        subst (λ (s : Scalar). Holds s (lerp (ratio (value t) (value a) (value b)) X Y)) (sym (get_or_zip (λ x y. interpolate_s ar x y f) A B k absent absent absent (present A k X h) (present B k Y l)))
        (interpolate_holds ar E (coordinate A k) (coordinate B k) f ρ X Y tame fraction_holds h l)
      where
        w : Between a t b
        w = row a t b ka kt kb at tb

        tame : Tame ar E (coordinate A k) (coordinate B k) f
        tame = record { delta = E.alpha_clear a t b f _ w e; first = E.rest_clear a t b f _ w e; second = E.alpha_clear a t b f _ w e }

    at_fraction : (A B : Vector) (k : ℕ) (X Y : ℚ) → Holds (coordinate A k) X → Holds (coordinate B k) Y
        → Holds (coordinate (blend ar f A B) k) (lerp (ratio (value t) (value a) (value b)) X Y)
    unfolding blend
    at_fraction A B k X Y h l =
        pick (λ (v : Vector). Holds (coordinate v k) (lerp (ratio (value t) (value a) (value b)) X Y)) (is_same f ZERO) A (cond (is_same f ONE) B (interpolate_v ar A B f))
        (λ z. subst (λ (q : ℚ). Holds (coordinate A k) q) (sym (lerp_0 ρ X Y (same_sharp f false 0 (pos 0) ρ z fraction_holds ∙ value_zero false (pos 0)))) h)
        (λ _. pick (λ (v : Vector). Holds (coordinate v k) (lerp (ratio (value t) (value a) (value b)) X Y)) (is_same f ONE) B (interpolate_v ar A B f)
        (λ z. subst (λ (q : ℚ). Holds (coordinate B k) q) (sym (lerp_1 ρ X Y (same_sharp f false 1 (pos 0) ρ z fraction_holds ∙ one_is))) l)
        (λ _. between_holds A B k X Y h l))

  -- the divisor is never zero where a double lies between
  pub succeeds : (a t b : Float) → Between a t b → (c : Scalar) → (f : Scalar) × (ar.div c (ar.sub (sharp b) (sharp a)) ≡ Some f)
  succeeds a t b w c = go (ar.div c (ar.sub (sharp b) (sharp a))) refl
    where
      go : (r : Divided) → ar.div c (ar.sub (sharp b) (sharp a)) ≡ r → (f : Scalar) × (ar.div c (ar.sub (sharp b) (sharp a)) ≡ Some f)
      go (Some f) e = (f, e)
      go None e = absurd (E.gap a t b w ((E.div_fails c (ar.sub (sharp b) (sharp a))).0 e))

  zero_same : T (is_same ZERO ZERO)
  zero_same = unfold eq in tt

  -- THE BLEND: t is at knot a or after it, and before knot b
  pub blend_holds : (p : ℕ) (ks : List Float) (t : Float) (i : ℕ) → Known (knot ks i) → Known t → Known (knot ks (i + p)) → value (knot ks i) ≤ℚ value t → value t <ℚ value (knot ks (i + p))
      → (A B : Vector) (k : ℕ) (X Y : ℚ) → Holds (coordinate A k) X → Holds (coordinate B k) Y
      → Holds (coordinate (blend ar (alpha ar p ks t i) A B) k) (lerp (ratio (value t) (value (knot ks i)) (value (knot ks (i + p)))) X Y)
  unfolding alpha
  blend_holds p ks t i ka kt kb at tb A B k X Y h l = go (eq a t) (eq b t) refl refl
    where
      a : Float
      a = knot ks i

      b : Float
      b = knot ks (i + p)

      first : Holds (coordinate (blend ar ZERO A B) k) X
      first = unfold blend in (taken (λ (v : Vector). Holds (coordinate v k) X) (is_same ZERO ZERO) A (cond (is_same ZERO ONE) B (interpolate_v ar A B ZERO)) zero_same h)

      go : (x y : Bool) → eq a t ≡ x → eq b t ≡ y
          → Holds (coordinate (blend ar (cond x ZERO (cond y ONE (value_or (ar.div (ar.sub (sharp t) (sharp a)) (ar.sub (sharp b) (sharp a))) ONE))) A B) k) (lerp (ratio (value t) (value a) (value b)) X Y)
      go true y e g =
          subst (λ (q : ℚ). Holds (coordinate (blend ar ZERO A B) k) q)
          (sym (ap (λ (z : ℚ). lerp (ratio (value t) z (value b)) X Y) (eq_known a t ka kt (subst T (sym e) tt)) ∙ ratio-start (value t) (value b) X Y)) first
      go false true e g = absurd (lt→not_le tb (subst (λ (z : ℚ). z ≤ℚ value t) (sym (eq_known b t kb kt (subst T (sym g) tt))) (le_refl (value t))))
      go false false e g = inner (succeeds a t b (row a t b ka kt kb strict tb) (ar.sub (sharp t) (sharp a)))
        where
          strict : value a <ℚ value t
          strict = not_le→lt (λ m. subst T e (known_eq a t ka kt (le_antisym at m)))

          inner : (f : Scalar) × (ar.div (ar.sub (sharp t) (sharp a)) (ar.sub (sharp b) (sharp a)) ≡ Some f)
              → Holds (coordinate (blend ar (value_or (ar.div (ar.sub (sharp t) (sharp a)) (ar.sub (sharp b) (sharp a))) ONE) A B) k) (lerp (ratio (value t) (value a) (value b)) X Y)
          inner r =
              subst (λ (z : Scalar). Holds (coordinate (blend ar z A B) k) (lerp (ratio (value t) (value a) (value b)) X Y))
              (sym (ap (λ (z : Divided). value_or z ONE) r.1 ∙ value_of r.0 ONE)) (at_fraction a t b ka kt kb strict tb r.0 r.1 A B k X Y h l)
