-- The lower bounds of sum, product and quotient, of bounds that may be infinite: each lies below the exact result whenever the signs say that it should. Assumes nothing.
use mathlib.Core.Path.{◌≡◌, refl, sym, ap, ap₂, ◌∙◌, subst}
use mathlib.Core.List.{[], ◌∷◌}
use mathlib.Core.Bool.{Bool, true, false, cond}
use Prim.Native.Nat.{ℕ, zero, suc, ◌*◌}
use native.Mathlib.Nat.{mul_comm}
use lib.IntN.{ℤ, pos}
use lib.Dec.{T, eqb, eqb-suc-zero}
use lib.Ieee.{Float, nan, inf, fin, binary64, up, down, unlike, round, add, mul, neg, fits}
use lib.Ieee.Fits.{add-fits, mul-fits, div-fits}
use Rattle.solver.proofs.Ring.{by_rep, by_eq, read}
use Rattle.exact.specs.Rational.{ℚ, ◌+ℚ◌, ◌*ℚ◌, -ℚ◌, ◌-ℚ◌, 0ℚ, invℚ, ◌≤ℚ◌, nn_of, lt→not_le}
use Rattle.exact.proofs.Field.{ℚring, nn_mul, *ℚ_comm}
use Rattle.exact.proofs.Order.{le_by, le_nn, nn_le, le_refl, le_trans, le_antisym, add-mono, neg_0, cone}
use Rattle.math.specs.Scalars.{zero_f}
use Rattle.math.specs.Values.{value, Below, Above}
use Rattle.math.proofs.Doubles.Values.{value_zero, value-neg, value-above, value-under}
use Rattle.math.proofs.Doubles.Order.{below-mono, below-neg, above-neg}
use Rattle.math.proofs.Doubles.Mirror.{neg-neg as neg-neg-f}
use Rattle.math.proofs.Intervals.Corners.{mul-neg, mul-neg_right}
use Rattle.math.proofs.Doubles.Operations.{add_rounds, mul-rounds, div-rounds}
use Rattle.math.specs.Directed.{lower, sum_down, product_down, quotient_down}
use Rattle.math.proofs.Tight.Greatest.{Greatest, lower-greatest}

-- ---- finite operands: the greatest double at most the exact result
module _ (s : Bool) (m : ℕ) (e : ℤ) (t : Bool) (n : ℕ) (d : ℤ) where
  pub sum-greatest : Greatest (sum_down (fin s m e) (fin t n d)) (value (fin s m e) +ℚ value (fin t n d))
  unfolding sum_down
  sum-greatest = lower-greatest _ _ (add_rounds s m e t n d)

  pub product-greatest : Greatest (product_down (fin s m e) (fin t n d)) (value (fin s m e) *ℚ value (fin t n d))
  unfolding product_down
  product-greatest = lower-greatest _ _ (mul-rounds s m e t n d)

  pub quotient-greatest : Greatest (quotient_down (fin s m e) (fin t (suc n) d)) (value (fin s m e) *ℚ invℚ (value (fin t (suc n) d)))
  unfolding quotient_down
  quotient-greatest = lower-greatest _ _ (div-rounds s m e t n d)

-- ---- the sum
module _ (p q : ℚ) where
  pub sum_below : (x y : Float) → Below x p → Below y q → Below (sum_down x y) (p +ℚ q)
  sum_below nan y h k = absurd h
  sum_below (inf false) y h k = absurd h
  sum_below (inf true) nan h k = absurd k
  sum_below (inf true) (inf true) h k = unfold sum_down add in tt
  sum_below (inf true) (inf false) h k = absurd k
  sum_below (inf true) (fin t n d) h k = unfold sum_down add in tt
  sum_below (fin s m e) nan h k = absurd k
  sum_below (fin s m e) (inf true) h k = unfold sum_down add in tt
  sum_below (fin s m e) (inf false) h k = absurd k
  sum_below (fin s m e) (fin t n d) h k = below-mono (sum_down (fin s m e) (fin t n d)) _ (p +ℚ q) (add-mono h k) (sum-greatest s m e t n d).below

pub sum_fits : (x y : Float) → T (fits binary64 (sum_down x y))
sum_fits nan y = unfold sum_down in add-fits binary64 nan y
sum_fits (inf s) y = unfold sum_down in add-fits binary64 (inf s) y
sum_fits (fin s m e) nan = unfold sum_down in add-fits binary64 (fin s m e) nan
sum_fits (fin s m e) (inf t) = unfold sum_down in add-fits binary64 (fin s m e) (inf t)
sum_fits (fin s m e) (fin t n d) = (sum-greatest s m e t n d).held

-- ---- the product: p below x and not above zero, q above y, and y not below zero
flat : (v : ℚ) → 0ℚ ≤ℚ v → Below zero_f v
flat v h = subst (λ (z : ℚ). z ≤ℚ v) (sym (value_zero false (pos 0))) h

pub inf-times : (u : Bool) (n : ℕ) → cond (eqb (suc n) 0) nan (inf u) ≡ inf u
inf-times u n = ap (λ (b : Bool). cond b nan (inf u)) (eqb-suc-zero n)

module _ (x y : ℚ) (Y : 0ℚ ≤ℚ y) where
  -- A ≤ x, A ≤ 0 and y ≤ D
  under_high : (A D : ℚ) → A ≤ℚ x → A ≤ℚ 0ℚ → y ≤ℚ D → A *ℚ D ≤ℚ x *ℚ y
  under_high A D h n k = le_by {z = (x -ℚ A) *ℚ (y -ℚ 0ℚ) +ℚ (0ℚ -ℚ A) *ℚ (D -ℚ y)} (search cone depth 9) (by_rep ℚring (A ∷ D ∷ x ∷ y ∷ []) (search read depth 9) (search read depth 9) tt)

  -- 0 ≤ A ≤ x and C ≤ y
  under_low : (A C : ℚ) → A ≤ℚ x → 0ℚ ≤ℚ A → C ≤ℚ y → A *ℚ C ≤ℚ x *ℚ y
  under_low A C h n k = le_by {z = (x -ℚ A) *ℚ (y -ℚ 0ℚ) +ℚ (A -ℚ 0ℚ) *ℚ (y -ℚ C)} (search cone depth 9) (by_rep ℚring (A ∷ C ∷ x ∷ y ∷ []) (search read depth 9) (search read depth 9) tt)

  none : y ≤ℚ 0ℚ → 0ℚ ≤ℚ x *ℚ y
  none h = subst (λ (z : ℚ). 0ℚ ≤ℚ z) (sym (by_eq ℚring x (le_antisym h Y) (by_rep ℚring (x ∷ y ∷ []) (search read) (search read) tt))) (le_refl 0ℚ)

  both : 0ℚ ≤ℚ x → 0ℚ ≤ℚ x *ℚ y
  both h = le_nn (nn_mul x y (nn_le h) (nn_le Y))

  -- THE LAW: by the upper bound of y
  pub by_high : (p q : Float) → Below p x → Below p 0ℚ → Above q y → Below (product_down p q) (x *ℚ y)
  by_high nan q h n k = absurd h
  by_high (inf false) q h n k = absurd h
  by_high (inf true) nan h n k = absurd k
  by_high (inf true) (inf true) h n k = absurd k
  by_high (inf true) (inf false) h n k = unfold product_down mul in tt
  by_high (inf true) (fin t zero d) h n k = unfold product_down in flat (x *ℚ y) (none (subst (λ (z : ℚ). y ≤ℚ z) (value_zero t d) k))
  by_high (inf true) (fin false (suc m) d) h n k = unfold product_down mul in subst (λ (z : Float). Below z (x *ℚ y)) (sym (inf-times true m)) tt
  by_high (inf true) (fin true (suc m) d) h n k = absurd (lt→not_le (value-under m d) (le_trans Y k))
  by_high (fin s m e) nan h n k = absurd k
  by_high (fin s m e) (inf true) h n k = absurd k
  by_high (fin s zero e) (inf false) h n k = unfold product_down in flat (x *ℚ y) (both (subst (λ (z : ℚ). z ≤ℚ x) (value_zero s e) h))
  by_high (fin true (suc m) e) (inf false) h n k = unfold product_down mul in subst (λ (z : Float). Below z (x *ℚ y)) (sym (inf-times true m)) tt
  by_high (fin false (suc m) e) (inf false) h n k = absurd (lt→not_le (value-above m e) n)
  by_high (fin s m e) (fin t i d) h n k = below-mono (product_down (fin s m e) (fin t i d)) _ (x *ℚ y) (under_high _ _ h n k) (product-greatest s m e t i d).below

  -- by the lower bounds of both, where p is not below zero
  pub by_low : (p q : Float) → Below p x → Above p 0ℚ → Below q y → Above q 0ℚ → Below (product_down p q) (x *ℚ y)
  by_low nan q h n k o = absurd h
  by_low (inf false) q h n k o = absurd h
  by_low (inf true) q h n k o = absurd n
  by_low (fin s m e) nan h n k o = absurd k
  by_low (fin s m e) (inf false) h n k o = absurd k
  by_low (fin s m e) (inf true) h n k o = absurd o
  by_low (fin s m e) (fin t i d) h n k o = below-mono (product_down (fin s m e) (fin t i d)) _ (x *ℚ y) (under_low _ _ h n k) (product-greatest s m e t i d).below

-- ---- the operands in the other order, and both mirrored, have the same product
unlike_turn : (s t : Bool) → unlike s t ≡ unlike t s
unlike_turn true true = refl
unlike_turn true false = refl
unlike_turn false true = refl
unlike_turn false false = refl

mul_turn : (x y : Float) → mul binary64 x y ≡ mul binary64 y x
unfolding mul
mul_turn nan nan = refl
mul_turn nan (inf t) = refl
mul_turn nan (fin t n d) = refl
mul_turn (inf s) nan = refl
mul_turn (inf s) (inf t) = ap (λ (b : Bool). inf b) (unlike_turn s t)
mul_turn (inf s) (fin t n d) = ap (λ (b : Bool). cond (eqb n 0) nan (inf b)) (unlike_turn s t)
mul_turn (fin s m e) nan = refl
mul_turn (fin s m e) (inf t) = ap (λ (b : Bool). cond (eqb m 0) nan (inf b)) (unlike_turn s t)
mul_turn (fin s m e) (fin t n d) = ap₂ (λ (b : Bool) (z : ℕ). round binary64 b z (down e * down d)) (unlike_turn s t) (mul_comm (m * up e) (n * up d)) ∙ ap (λ (z : ℕ). round binary64 (unlike t s) (n * up d * (m * up e)) z) (mul_comm (down e) (down d))

pub product_turn : (x y : Float) → product_down x y ≡ product_down y x
unfolding product_down
product_turn nan nan = refl
product_turn nan (inf t) = mul_turn nan (inf t)
product_turn nan (fin t zero d) = mul_turn nan (fin t zero d)
product_turn nan (fin t (suc n) d) = mul_turn nan (fin t (suc n) d)
product_turn (inf s) nan = mul_turn (inf s) nan
product_turn (inf s) (inf t) = mul_turn (inf s) (inf t)
product_turn (inf s) (fin t zero d) = refl
product_turn (inf s) (fin t (suc n) d) = mul_turn (inf s) (fin t (suc n) d)
product_turn (fin s zero e) nan = mul_turn (fin s zero e) nan
product_turn (fin s (suc m) e) nan = mul_turn (fin s (suc m) e) nan
product_turn (fin s zero e) (inf t) = refl
product_turn (fin s (suc m) e) (inf t) = mul_turn (fin s (suc m) e) (inf t)
product_turn (fin s m e) (fin t n d) = ap₂ lower (mul_turn (fin s m e) (fin t n d)) (*ℚ_comm (value (fin s m e)) (value (fin t n d)))

mul-mirror : (x y : Float) → mul binary64 (neg x) (neg y) ≡ mul binary64 x y
mul-mirror x y = mul-neg x (neg y) ∙ ap neg (mul-neg_right x y) ∙ neg-neg-f (mul binary64 x y)

pub product-mirror : (x y : Float) → product_down (neg x) (neg y) ≡ product_down x y
product-mirror nan nan = unfold neg in refl
product-mirror nan (inf t) = unfold product_down neg in mul-mirror nan (inf t)
product-mirror nan (fin t zero d) = unfold product_down neg in mul-mirror nan (fin t zero d)
product-mirror nan (fin t (suc n) d) = unfold product_down neg in mul-mirror nan (fin t (suc n) d)
product-mirror (inf s) nan = unfold product_down neg in mul-mirror (inf s) nan
product-mirror (inf s) (inf t) = unfold product_down neg in mul-mirror (inf s) (inf t)
product-mirror (inf s) (fin t zero d) = unfold product_down neg in refl
product-mirror (inf s) (fin t (suc n) d) = unfold product_down neg in mul-mirror (inf s) (fin t (suc n) d)
product-mirror (fin s zero e) nan = unfold product_down neg in mul-mirror (fin s zero e) nan
product-mirror (fin s (suc m) e) nan = unfold product_down neg in mul-mirror (fin s (suc m) e) nan
product-mirror (fin s zero e) (inf t) = unfold product_down neg in refl
product-mirror (fin s (suc m) e) (inf t) = unfold product_down neg in mul-mirror (fin s (suc m) e) (inf t)
product-mirror (fin s m e) (fin t n d) = unfold product_down neg in ap₂ lower (mul-mirror (fin s m e) (fin t n d)) (ap₂ ◌*ℚ◌ (unfold neg in value-neg (fin s m e)) (unfold neg in value-neg (fin t n d)) ∙ by_rep ℚring (value (fin s m e) ∷ value (fin t n d) ∷ []) (search read) (search read) tt)

-- ---- so by the other bounds
turn_q : (x y : ℚ) → x *ℚ y ≡ y *ℚ x
turn_q x y = *ℚ_comm x y

mirror_q : (x y : ℚ) → -ℚ x *ℚ -ℚ y ≡ x *ℚ y
mirror_q x y = by_rep ℚring (x ∷ y ∷ []) (search read) (search read) tt

below_zero : (p : Float) → Above p 0ℚ → Below (neg p) 0ℚ
below_zero p h = subst (λ (z : ℚ). Below (neg p) z) neg_0 (above-neg p 0ℚ h)

above_zero : (p : Float) → Below p 0ℚ → Above (neg p) 0ℚ
above_zero p h = subst (λ (z : ℚ). Above (neg p) z) neg_0 (below-neg p 0ℚ h)

not-below : (y : ℚ) → y ≤ℚ 0ℚ → 0ℚ ≤ℚ -ℚ y
not-below y h = le_by (nn_of h) (by_rep ℚring (y ∷ []) (search read) (search read) tt)

module _ (x y : ℚ) where
  -- x at most p, which is not below zero, and q at most y, which is not above zero
  pub by_high_mirrored : (p q : Float) → y ≤ℚ 0ℚ → Above p x → Above p 0ℚ → Below q y → Below (product_down p q) (x *ℚ y)
  by_high_mirrored p q Y h n k =
      subst (λ (r : Float). Below r (x *ℚ y)) (product-mirror p q) (subst (λ (v : ℚ). Below (product_down (neg p) (neg q)) v) (mirror_q x y)
      (by_high (-ℚ x) (-ℚ y) (not-below y Y) (neg p) (neg q) (above-neg p x h) (below_zero p n) (below-neg q y k)))

module _ (x y : ℚ) where
  -- x not below zero and at most p, q at most y and not above zero
  pub by_high_turned : (p q : Float) → 0ℚ ≤ℚ x → Above p x → Below q y → Below q 0ℚ → Below (product_down p q) (x *ℚ y)
  by_high_turned p q X h k n = subst (λ (r : Float). Below r (x *ℚ y)) (product_turn q p) (subst (λ (v : ℚ). Below (product_down q p) v) (turn_q y x) (by_high y x X q p k n h))

  -- x not above zero and at least p, y at most q, which is not below zero
  pub by_high_both : (p q : Float) → x ≤ℚ 0ℚ → Below p x → Above q y → Above q 0ℚ → Below (product_down p q) (x *ℚ y)
  by_high_both p q X h k n = subst (λ (r : Float). Below r (x *ℚ y)) (product_turn q p) (subst (λ (v : ℚ). Below (product_down q p) v) (turn_q y x) (by_high_mirrored y x q p X k n h))

  -- both not above zero
  pub by_low_mirrored : (p q : Float) → y ≤ℚ 0ℚ → Above p x → Below p 0ℚ → Above q y → Below q 0ℚ → Below (product_down p q) (x *ℚ y)
  by_low_mirrored p q Y h n k o =
      subst (λ (r : Float). Below r (x *ℚ y)) (product-mirror p q) (subst (λ (v : ℚ). Below (product_down (neg p) (neg q)) v) (mirror_q x y)
      (by_low (-ℚ x) (-ℚ y) (not-below y Y) (neg p) (neg q) (above-neg p x h) (above_zero p n) (above-neg q y k) (above_zero q o)))

-- ---- products and quotients are doubles
pub product-fits : (x y : Float) → T (fits binary64 (product_down x y))
product-fits nan nan = unfold product_down in mul-fits binary64 nan nan
product-fits nan (inf t) = unfold product_down in mul-fits binary64 nan (inf t)
product-fits nan (fin t zero d) = unfold product_down in mul-fits binary64 nan (fin t zero d)
product-fits nan (fin t (suc n) d) = unfold product_down in mul-fits binary64 nan (fin t (suc n) d)
product-fits (inf s) nan = unfold product_down in mul-fits binary64 (inf s) nan
product-fits (inf s) (inf t) = unfold product_down in mul-fits binary64 (inf s) (inf t)
product-fits (inf s) (fin t zero d) = unfold product_down fits in tt
product-fits (inf s) (fin t (suc n) d) = unfold product_down in mul-fits binary64 (inf s) (fin t (suc n) d)
product-fits (fin s zero e) nan = unfold product_down in mul-fits binary64 (fin s zero e) nan
product-fits (fin s (suc m) e) nan = unfold product_down in mul-fits binary64 (fin s (suc m) e) nan
product-fits (fin s zero e) (inf t) = unfold product_down fits in tt
product-fits (fin s (suc m) e) (inf t) = unfold product_down in mul-fits binary64 (fin s (suc m) e) (inf t)
product-fits (fin s m e) (fin t n d) = (product-greatest s m e t n d).held

pub quotient_fits : (x y : Float) → T (fits binary64 (quotient_down x y))
quotient_fits nan y = unfold quotient_down in div-fits binary64 nan y
quotient_fits (inf s) y = unfold quotient_down in div-fits binary64 (inf s) y
quotient_fits (fin s m e) nan = unfold quotient_down in div-fits binary64 (fin s m e) nan
quotient_fits (fin s m e) (inf t) = unfold quotient_down in div-fits binary64 (fin s m e) (inf t)
quotient_fits (fin s m e) (fin t zero d) = unfold quotient_down in div-fits binary64 (fin s m e) (fin t zero d)
quotient_fits (fin s m e) (fin t (suc n) d) = (quotient-greatest s m e t n d).held
