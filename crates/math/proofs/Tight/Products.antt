-- Whether a rounded product or quotient lies above the exact one, by the sizes that the bit patterns stand for. Assumes nothing.
use mathlib.Core.Path.{◌≡◌, refl, sym, ap, ap₂, ◌∙◌, subst}
use mathlib.Core.List.{[], ◌∷◌}
use mathlib.Core.Bool.{Bool, true, false, cond}
use Prim.Native.Nat.{ℕ, zero, suc, ◌+◌, ◌*◌, ◌^◌, ◌<◌}
use native.Mathlib.Nat.{mul-pos, mul-lt-mul_of_pos_right, lt_of_mul-lt-mul_right}
use lib.IntN.{ℤ}
use lib.Dec.{T, ltb, ltb→lt, lt→ltb}
use lib.Pow.{pow_pos}
use lib.Ieee.{Float, nan, inf, fin, Format, binary64, low, emax, prec, unlike, odd, units, round, fits}
use Rattle.solver.proofs.Ring.{by_rep, by_eq, read}
use Rattle.exact.specs.Rational.{ℚ, ◌*ℚ◌, -ℚ◌, ◌-ℚ◌, 0ℚ, invℚ, ◌÷◌, signed, ◌≤ℚ◌, ◌<ℚ◌, nn_of, lt→not_le, not_le→lt}
use Rattle.exact.proofs.Field.{ℚring, nn_mul, nn_inv}
use Rattle.exact.proofs.Order.{le_by, nn_le, lt→le, neg_lt, neg-neg, neg_0, pos-inv}
use Rattle.exact.proofs.Embed.{÷_mul, ÷_wide, ÷_lt, ÷_lt⁻¹, signed_mul, signed-inv}
use Rattle.math.specs.Values.{value}
use Rattle.math.proofs.Bools.{same_test}
use Rattle.math.proofs.Doubles.Values.{value-above, value-under}
use Rattle.math.specs.Digits.{size_of, size_q, Reading}
use Rattle.math.specs.Directed.{exceeds}
use Rattle.math.proofs.Tight.Greatest.{exceeds-yes, over-exceeds}
use Rattle.math.proofs.Tight.Readings.{reading}

-- ---- sizes as numbers
abbrev D : ℕ
D = 2 ^ low binary64

module _ (x y z : ℕ) where
  product_is : size_q x *ℚ size_q y ≡ (size_of x * size_of y) ÷ (D * D)
  product_is = ÷_mul (size_of x) (size_of y) D D (pow_pos (low binary64)) (pow_pos (low binary64))

  third_is : size_q z ≡ (size_of z * D) ÷ (D * D)
  third_is = ÷_wide (size_of z) D D (pow_pos (low binary64)) (pow_pos (low binary64))

  square : 0 < D * D
  square = mul-pos (pow_pos (low binary64)) (pow_pos (low binary64))

  pub less : T (ltb (size_of x * size_of y) (size_of z * D)) → size_q x *ℚ size_q y <ℚ size_q z
  less t = subst (λ (v : ℚ). v <ℚ size_q z) (sym product_is) (subst (λ (v : ℚ). (size_of x * size_of y) ÷ (D * D) <ℚ v) (sym third_is) (÷_lt (size_of x * size_of y) (size_of z * D) (D * D) (D * D) square square (mul-lt-mul_of_pos_right (ltb→lt (size_of x * size_of y) (size_of z * D) t) square)))

  pub less⁻¹ : size_q x *ℚ size_q y <ℚ size_q z → T (ltb (size_of x * size_of y) (size_of z * D))
  less⁻¹ h = lt→ltb (size_of x * size_of y) (size_of z * D) (lt_of_mul-lt-mul_right (D * D) (÷_lt⁻¹ (size_of x * size_of y) (size_of z * D) (D * D) (D * D) square square (subst (λ (v : ℚ). v <ℚ (size_of z * D) ÷ (D * D)) product_is (subst (λ (v : ℚ). size_q x *ℚ size_q y <ℚ v) third_is h))))

  pub more : T (ltb (size_of z * D) (size_of x * size_of y)) → size_q z <ℚ size_q x *ℚ size_q y
  more t = subst (λ (v : ℚ). v <ℚ size_q x *ℚ size_q y) (sym third_is) (subst (λ (v : ℚ). (size_of z * D) ÷ (D * D) <ℚ v) (sym product_is) (÷_lt (size_of z * D) (size_of x * size_of y) (D * D) (D * D) square square (mul-lt-mul_of_pos_right (ltb→lt (size_of z * D) (size_of x * size_of y) t) square)))

  pub more⁻¹ : size_q z <ℚ size_q x *ℚ size_q y → T (ltb (size_of z * D) (size_of x * size_of y))
  more⁻¹ h = lt→ltb (size_of z * D) (size_of x * size_of y) (lt_of_mul-lt-mul_right (D * D) (÷_lt⁻¹ (size_of z * D) (size_of x * size_of y) (D * D) (D * D) square square (subst (λ (v : ℚ). v <ℚ (size_of x * size_of y) ÷ (D * D)) third_is (subst (λ (v : ℚ). size_q z <ℚ v) product_is h))))

-- ---- what a rounded number's sign is
abbrev pub sign_of : Float → Bool
sign_of nan = false
sign_of (inf s) = s
sign_of (fin s m e) = s

odd_sign : (d : ℕ) (s : Bool) (q k l : ℕ) → sign_of (odd d s q k l) ≡ s
unfolding odd
odd_sign d s zero k l = refl
odd_sign d s (suc q) k l = refl

units-sign : (f : Format) (s : Bool) (q k : ℕ) → sign_of (units f s q k) ≡ s
unfolding units
units-sign f s q k = go (ltb (q * 2 ^ k) (2 ^ (low f + suc (emax f))))
  where
    go : (b : Bool) → sign_of (cond b (odd (suc (prec f)) s q k (low f)) (inf s)) ≡ s
    go true = odd_sign (suc (prec f)) s q k (low f)
    go false = refl

pub round-sign : (f : Format) (s : Bool) (a c : ℕ) → sign_of (round f s a c) ≡ s
unfolding round
round-sign f s a c = units-sign f s _ _

-- ---- the tests, from the numbers
exceeds_is : (u : Bool) (k : ℕ) (c : ℤ) (v : ℚ) (b : Bool) → (T b → v <ℚ value (fin u k c)) → (v <ℚ value (fin u k c) → T b) → b ≡ exceeds (fin u k c) v
exceeds_is u k c v b f g = same_test b (exceeds (fin u k c) v) (λ t. over-exceeds u k c v (f t)) (λ t. g (not_le→lt (exceeds-yes (fin u k c) v t)))

-- ± x against ± y
neg_lt⁻¹ : {x y : ℚ} → -ℚ y <ℚ -ℚ x → x <ℚ y
neg_lt⁻¹ {x} {y} h = not_le→lt (λ k. lt→not_le h (le_by (nn_of k) (by_rep ℚring (x ∷ y ∷ []) (search read) (search read) tt)))

-- where ± W lies below ± R
abbrev pub Sided : Bool → ℚ → ℚ → Type 0
Sided true R W = R <ℚ W
Sided false R W = W <ℚ R

-- the number that is rounded is ± W, and the rounded one ± R
module _ (u : Bool) (k : ℕ) (c : ℤ) (v W R : ℚ) (ev : v ≡ signed u W) (er : value (fin u k c) ≡ signed u R) where
  there : (u : Bool) → Sided u R W → signed u W <ℚ signed u R
  there true h = neg_lt h
  there false h = h

  back : (u : Bool) → signed u W <ℚ signed u R → Sided u R W
  back true h = neg_lt⁻¹ h
  back false h = h

  pub by_sign : (b : Bool) → (T b → Sided u R W) → (Sided u R W → T b) → b ≡ exceeds (fin u k c) v
  by_sign b f g = exceeds_is u k c v b (λ t. subst (λ (z : ℚ). z <ℚ value (fin u k c)) (sym ev) (subst (λ (z : ℚ). signed u W <ℚ z) (sym er) (there u (f t)))) (λ h. g (back u (subst (λ (z : ℚ). z <ℚ signed u R) ev (subst (λ (z : ℚ). v <ℚ z) er h))))

-- ---- the product: x and y are the factors' patterns, z the rounded product's
module _ (s : Bool) (m : ℕ) (e : ℤ) (t : Bool) (n : ℕ) (d : ℤ) (F : T (fits binary64 (fin s m e))) (G : T (fits binary64 (fin t n d))) where
  abbrev rx : Reading s m e
  rx = reading s m e F

  abbrev ry : Reading t n d
  ry = reading t n d G

  exact : value (fin s m e) *ℚ value (fin t n d) ≡ signed (unlike s t) (size_q rx.bits *ℚ size_q ry.bits)
  exact = ap₂ ◌*ℚ◌ rx.size ry.size ∙ signed_mul s t (size_q rx.bits) (size_q ry.bits)

  module _ (k : ℕ) (c : ℤ) where
    pub product-plus : unlike s t ≡ false → (H : T (fits binary64 (fin false k c))) → let z = (reading false k c H).bits in
        ltb (size_of rx.bits * size_of ry.bits) (size_of z * D) ≡ exceeds (fin false k c) (value (fin s m e) *ℚ value (fin t n d))
    product-plus u H = let r = reading false k c H in
        by_sign false k c _ _ (size_q r.bits) (exact ∙ ap (λ (b : Bool). signed b (size_q rx.bits *ℚ size_q ry.bits)) u) r.size _ (less rx.bits ry.bits r.bits) (less⁻¹ rx.bits ry.bits r.bits)

    pub product-minus : unlike s t ≡ true → (H : T (fits binary64 (fin true k c))) → let z = (reading true k c H).bits in
        ltb (size_of z * D) (size_of rx.bits * size_of ry.bits) ≡ exceeds (fin true k c) (value (fin s m e) *ℚ value (fin t n d))
    product-minus u H = let r = reading true k c H in
        by_sign true k c _ _ (size_q r.bits) (exact ∙ ap (λ (b : Bool). signed b (size_q rx.bits *ℚ size_q ry.bits)) u) r.size _ (more rx.bits ry.bits r.bits) (more⁻¹ rx.bits ry.bits r.bits)

-- ---- the quotient: x is the rounded quotient's pattern, y the divisor's, z the dividend's
unscale : (p q y : ℚ) → 0ℚ <ℚ y → q *ℚ y ≤ℚ p *ℚ y → q ≤ℚ p
unscale p q y P h = le_by (nn_mul (p *ℚ y -ℚ q *ℚ y) (invℚ y) (nn_of h) (nn_inv y (nn_le (lt→le P)))) (by_eq ℚring (-ℚ (p -ℚ q)) (pos-inv y P) (by_rep ℚring (p ∷ q ∷ y ∷ invℚ y ∷ []) (search read depth 9) (search read depth 9) tt))

scale : (p q y : ℚ) → 0ℚ <ℚ y → q ≤ℚ p → q *ℚ y ≤ℚ p *ℚ y
scale p q y P h = le_by (nn_mul (p -ℚ q) y (nn_of h) (nn_le (lt→le P))) (by_rep ℚring (p ∷ q ∷ y ∷ []) (search read depth 9) (search read depth 9) tt)

module _ (w x y : ℚ) (P : 0ℚ <ℚ y) where
  whole : w *ℚ invℚ y *ℚ y ≡ w
  whole = by_eq ℚring w (pos-inv y P) (by_rep ℚring (w ∷ y ∷ invℚ y ∷ []) (search read depth 9) (search read depth 9) tt)

  over_lt : w <ℚ x *ℚ y → w *ℚ invℚ y <ℚ x
  over_lt h = not_le→lt (λ k. lt→not_le h (subst (λ (z : ℚ). x *ℚ y ≤ℚ z) whole (scale (w *ℚ invℚ y) x y P k)))

  over_lt⁻¹ : w *ℚ invℚ y <ℚ x → w <ℚ x *ℚ y
  over_lt⁻¹ h = not_le→lt (λ k. lt→not_le h (unscale (w *ℚ invℚ y) x y P (subst (λ (z : ℚ). x *ℚ y ≤ℚ z) (sym whole) k)))

  under_lt : x *ℚ y <ℚ w → x <ℚ w *ℚ invℚ y
  under_lt h = not_le→lt (λ k. lt→not_le h (subst (λ (z : ℚ). z ≤ℚ x *ℚ y) whole (scale x (w *ℚ invℚ y) y P k)))

  under_lt⁻¹ : x <ℚ w *ℚ invℚ y → x *ℚ y <ℚ w
  under_lt⁻¹ h = not_le→lt (λ k. lt→not_le h (unscale x (w *ℚ invℚ y) y P (subst (λ (z : ℚ). z ≤ℚ x *ℚ y) (sym whole) k)))

module _ (s : Bool) (m : ℕ) (e : ℤ) (t : Bool) (n : ℕ) (d : ℤ) (F : T (fits binary64 (fin s m e))) (G : T (fits binary64 (fin t (suc n) d))) where
  abbrev rz : Reading s m e
  rz = reading s m e F

  abbrev rd : Reading t (suc n) d
  rd = reading t (suc n) d G

  divisor : 0ℚ <ℚ size_q rd.bits
  divisor = go t rd.size
    where
      go : (t : Bool) → value (fin t (suc n) d) ≡ signed t (size_q rd.bits) → 0ℚ <ℚ size_q rd.bits
      go false h = subst (λ (z : ℚ). 0ℚ <ℚ z) h (value-above n d)
      go true h = subst (λ (z : ℚ). 0ℚ <ℚ z) (neg-neg (size_q rd.bits)) (subst (λ (z : ℚ). z <ℚ -ℚ (-ℚ size_q rd.bits)) neg_0 (neg_lt (subst (λ (z : ℚ). z <ℚ 0ℚ) h (value-under n d))))

  ratio : value (fin s m e) *ℚ invℚ (value (fin t (suc n) d)) ≡ signed (unlike s t) (size_q rz.bits *ℚ invℚ (size_q rd.bits))
  ratio =
      ap₂ ◌*ℚ◌ rz.size (ap invℚ rd.size ∙ signed-inv t (size_q rd.bits) (invℚ (size_q rd.bits)) (pos-inv (size_q rd.bits) divisor))
      ∙ signed_mul s t (size_q rz.bits) (invℚ (size_q rd.bits))

  module _ (k : ℕ) (c : ℤ) where
    pub quotient-plus : unlike s t ≡ false → (H : T (fits binary64 (fin false k c))) → let x = (reading false k c H).bits in
        ltb (size_of rz.bits * D) (size_of x * size_of rd.bits) ≡ exceeds (fin false k c) (value (fin s m e) *ℚ invℚ (value (fin t (suc n) d)))
    quotient-plus u H = let r = reading false k c H in
        by_sign false k c _ _ (size_q r.bits) (ratio ∙ ap (λ (b : Bool). signed b (size_q rz.bits *ℚ invℚ (size_q rd.bits))) u) r.size _
        (λ h. over_lt (size_q rz.bits) (size_q r.bits) (size_q rd.bits) divisor (more r.bits rd.bits rz.bits h))
        (λ h. more⁻¹ r.bits rd.bits rz.bits (over_lt⁻¹ (size_q rz.bits) (size_q r.bits) (size_q rd.bits) divisor h))

    pub quotient-minus : unlike s t ≡ true → (H : T (fits binary64 (fin true k c))) → let x = (reading true k c H).bits in
        ltb (size_of x * size_of rd.bits) (size_of rz.bits * D) ≡ exceeds (fin true k c) (value (fin s m e) *ℚ invℚ (value (fin t (suc n) d)))
    quotient-minus u H = let r = reading true k c H in
        by_sign true k c _ _ (size_q r.bits) (ratio ∙ ap (λ (b : Bool). signed b (size_q rz.bits *ℚ invℚ (size_q rd.bits))) u) r.size _
        (λ h. under_lt (size_q rz.bits) (size_q r.bits) (size_q rd.bits) divisor (less r.bits rd.bits rz.bits h))
        (λ h. less⁻¹ r.bits rd.bits rz.bits (under_lt⁻¹ (size_q rz.bits) (size_q r.bits) (size_q rd.bits) divisor h))
