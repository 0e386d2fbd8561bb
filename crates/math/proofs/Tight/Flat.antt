-- A product with a zero and a quotient of a zero are exact: `product_down` and `quotient_down` return them as they are. Assumes nothing.
use mathlib.Core.Path.{◌≡◌, refl, sym, ◌∙◌, subst}
use mathlib.Core.List.{[], ◌∷◌}
use mathlib.Core.Logic.{◌⊎◌, inl, inr}
use mathlib.Core.Bool.{Bool, true, false, not, ◌&&◌, ◌||◌, false≢true}
use Prim.Native.Nat.{ℕ, zero, suc}
use lib.IntN.{ℤ, pos}
use lib.Dec.{T, not_T}
use lib.Ieee.{Float, nan, inf, fin, binary64, mul, div, eq, fits}
use lib.Ieee.Bits.{is_false}
use Rattle.solver.proofs.Ring.{by_rep, by_eq, read}
use Rattle.exact.specs.Rational.{ℚ, ◌*ℚ◌, 0ℚ, ◌≤ℚ◌}
use Rattle.exact.proofs.Field.{ℚring}
use Rattle.exact.proofs.Order.{le_refl}
use Rattle.math.specs.RootLaws.{is_finite}
use Rattle.math.specs.Scalars.{zero_f}
use Rattle.math.specs.Values.{value, Below}
use Rattle.math.specs.Directed.{exceeds, lower, is_zero, product_down, quotient_down}
use Rattle.math.proofs.Bools.{yes, pick_no, or_split}
use Rattle.math.proofs.Doubles.Values.{value_zero, eq→value}
use Rattle.math.proofs.Doubles.Order.{le_below}
use Rattle.math.proofs.Doubles.Rounding.{Rounds, rounds_le}
use Rattle.math.proofs.Doubles.Operations.{mul-rounds, div-rounds}
use Rattle.math.proofs.Tight.Greatest.{exceeds-yes}
use Rattle.math.proofs.Tight.Sides.{product-chosen}

-- what is rounded from zero stays
zero_stays : (r : Float) (v : ℚ) → Rounds r v → v ≡ 0ℚ → r ≡ lower r v
unfolding lower
zero_stays r v R e = pick_no (exceeds r v) _ r (is_false (exceeds r v) (not_T (exceeds r v) (λ t. exceeds-yes r v t below)))
  where
    flat : value zero_f ≡ v
    flat = value_zero false (pos 0) ∙ sym e

    below : Below r v
    below = le_below r zero_f v (rounds_le r v R false 0 (pos 0) (unfold fits in tt) (subst (λ (z : ℚ). v ≤ℚ z) (sym flat) (le_refl v))) (subst (λ (z : ℚ). z ≤ℚ v) (sym flat) (le_refl v))

zero_value : (s : Bool) (m : ℕ) (e : ℤ) → T (eq (fin s m e) zero_f) → value (fin s m e) ≡ 0ℚ
zero_value s m e t = eq→value s m e false 0 (pos 0) t ∙ value_zero false (pos 0)

nil_left : (x y : ℚ) → x ≡ 0ℚ → x *ℚ y ≡ 0ℚ
nil_left x y e = by_eq ℚring y e (by_rep ℚring (x ∷ y ∷ []) (search read) (search read) tt)

nil_right : (x y : ℚ) → y ≡ 0ℚ → x *ℚ y ≡ 0ℚ
nil_right x y e = by_eq ℚring x e (by_rep ℚring (x ∷ y ∷ []) (search read) (search read) tt)

pub flat-product : (a b : Float) → is_finite a ≡ true → is_finite b ≡ true → (eq a zero_f || eq b zero_f) ≡ true → mul binary64 a b ≡ product_down a b
flat-product nan b x y z = absurd (false≢true x)
flat-product (inf s) b x y z = absurd (false≢true x)
flat-product (fin s m e) nan x y z = absurd (false≢true y)
flat-product (fin s m e) (inf t) x y z = absurd (false≢true y)
flat-product (fin s m e) (fin t n d) x y z = zero_stays _ _ (mul-rounds s m e t n d) (nil (or_split (eq (fin s m e) zero_f) (eq (fin t n d) zero_f) (yes _ z))) ∙ product-chosen (fin s m e) (fin t n d) x y
  where
    nil : T (eq (fin s m e) zero_f) ⊎ T (eq (fin t n d) zero_f) → value (fin s m e) *ℚ value (fin t n d) ≡ 0ℚ
    nil (inl h) = nil_left _ _ (zero_value s m e h)
    nil (inr h) = nil_right _ _ (zero_value t n d h)

pub flat-quotient : (a b : Float) → (is_finite a && is_finite b && not (is_zero b)) ≡ true → eq a zero_f ≡ true → div binary64 a b ≡ quotient_down a b
flat-quotient nan b h z = absurd (false≢true h)
flat-quotient (inf s) b h z = absurd (false≢true h)
flat-quotient (fin s m e) nan h z = absurd (false≢true h)
flat-quotient (fin s m e) (inf t) h z = absurd (false≢true h)
flat-quotient (fin s m e) (fin t zero d) h z = absurd (false≢true h)
flat-quotient (fin s m e) (fin t (suc n) d) h z = zero_stays _ _ (div-rounds s m e t n d) (nil_left _ _ (zero_value s m e (yes _ z))) ∙ (unfold quotient_down in refl)
