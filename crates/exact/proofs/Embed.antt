-- Whole numbers, fractions of whole numbers and powers of two as rationals: a ÷ c adds, multiplies and compares by cross multiplication.
use mathlib.Core.Path.{◌≡◌, refl, sym, ◌∙◌, ap, ap₂, subst}
use mathlib.Core.List.{[], ◌∷◌}
use mathlib.Core.Bool.{Bool, true, false, not, beq}
use Prim.Native.Nat.{ℕ, suc, pred, ◌+◌, ◌-◌, ◌*◌, ◌≤◌, ◌<◌}
use native.Mathlib.Nat.{lt_of_not-le, lt_irrefl, lt_of_lt_of_le, sub-add_cancel, mul-pos, mul_comm}
use native.Mathlib.Decide.{dec_le}
use native.Mathlib.Omega.{arith}
use lib.Dec.{T}
use lib.IntN.{ℤ, pos, negsuc, neg_ℤ, ◌+ℤ◌, ◌*ℤ◌, +ℤ-neg_ℤ_cancel, +ℤ_assoc, +ℤ_idl, +ℤ_invr, neg_ℤ-+ℤ}
use Rattle.solver.proofs.Integer.{negℤ_*ℤ}
use Rattle.solver.proofs.Ring.{by_rep, by_eq, read}
use Rattle.exact.specs.Fraction.{frac, is_pos, add_f, neg_f, mul_d}
use Rattle.exact.specs.Rational.{ℚ, mk, same, ◌+ℚ◌, ◌*ℚ◌, -ℚ◌, ◌-ℚ◌, 0ℚ, 1ℚ, invℚ, ◌÷◌, signed, Nn, ◌≤ℚ◌, ◌<ℚ◌, nn_of, not_le→lt, lt→not_le}
use Rattle.exact.proofs.Field.{ℚring, add-mk, mul-mk, neg-mk, Nn-mk, Nn-mk⁻¹, one_mk, zero_mk}
use Rattle.exact.proofs.Order.{le_by, le_nn, inv_unique}

-- ---- whole numbers
-- ---- a / c, for a c above 0
at_pred : (c : ℕ) → 0 < c → suc (pred c) ≡ c
at_pred c h = omega arith

pub ÷_eq : (a b c d : ℕ) → 0 < c → 0 < d → a * d ≡ b * c → a ÷ c ≡ b ÷ d
unfolding ◌÷◌
÷_eq a b c d hc hd h = same (pos a, pred c) (pos b, pred d) (ap pos (ap (λ (z : ℕ). a * z) (at_pred d hd) ∙ h ∙ ap (λ (z : ℕ). b * z) (sym (at_pred c hc))))

-- the sign of a difference of naturals
pos-diff : (x y : ℕ) → y ≤ x → T (is_pos (pos x +ℤ neg_ℤ (pos y)))
pos-diff x y h = subst (λ (z : ℤ). T (is_pos z)) (sym eq) tt
  where
    eq : pos x +ℤ neg_ℤ (pos y) ≡ pos (x - y)
    eq = ap (λ (z : ℕ). pos z +ℤ neg_ℤ (pos y)) (sym (sub-add_cancel h)) ∙ +ℤ-neg_ℤ_cancel (pos (x - y)) (pos y)

neg-diff : (x y : ℕ) → x < y → T (is_pos (pos x +ℤ neg_ℤ (pos y))) → ⊥
neg-diff x y h t = subst (λ (z : ℤ). T (is_pos z)) eq t
  where
    ny : y ≡ x + suc (y - suc x)
    ny = omega arith

    eq : pos x +ℤ neg_ℤ (pos y) ≡ negsuc (y - suc x)
    eq = ap (λ (z : ℕ). pos x +ℤ neg_ℤ (pos z)) ny ∙ ap (λ z. pos x +ℤ z) (neg_ℤ-+ℤ (pos x) (pos (suc (y - suc x)))) ∙ sym (+ℤ_assoc (pos x) (neg_ℤ (pos x)) (negsuc (y - suc x))) ∙ ap (λ z. z +ℤ negsuc (y - suc x)) (+ℤ_invr (pos x)) ∙ +ℤ_idl (negsuc (y - suc x))

-- the numerator of the difference b / d − a / c
diff-num : (a b c d : ℕ) → 0 < c → 0 < d → pos b *ℤ pos (suc (pred c)) +ℤ neg_ℤ (pos a) *ℤ pos (suc (pred d)) ≡ pos (b * c) +ℤ neg_ℤ (pos (a * d))
diff-num a b c d hc hd = ap₂ ◌+ℤ◌ (ap (λ (z : ℕ). pos (b * z)) (at_pred c hc)) (negℤ_*ℤ (pos a) (pos (suc (pred d))) ∙ ap (λ (z : ℕ). neg_ℤ (pos (a * z))) (at_pred d hd))

pub ÷_le : (a b c d : ℕ) → 0 < c → 0 < d → a * d ≤ b * c → a ÷ c ≤ℚ b ÷ d
unfolding ◌÷◌
÷_le a b c d hc hd h = le_by (Nn-mk (add_f (pos b, pred d) (neg_f (pos a, pred c))) (subst (λ (z : ℤ). T (is_pos z)) (sym (diff-num a b c d hc hd)) (pos-diff (b * c) (a * d) h))) (ap (λ z. mk (pos b, pred d) +ℚ z) (neg-mk (pos a, pred c)) ∙ add-mk (pos b, pred d) (neg_f (pos a, pred c)))

pub ÷_le⁻¹ : (a b c d : ℕ) → 0 < c → 0 < d → a ÷ c ≤ℚ b ÷ d → a * d ≤ b * c
unfolding ◌÷◌
÷_le⁻¹ a b c d hc hd h = elim (dec_le (a * d) (b * c)) [
  | yes k ↦ k
  | no n ↦ absurd (neg-diff (b * c) (a * d) (lt_of_not-le n)
      (subst (λ (z : ℤ). T (is_pos z)) (diff-num a b c d hc hd) (Nn-mk⁻¹ (add_f (pos b, pred d) (neg_f (pos a, pred c)))
      (subst (λ (z : ℚ). Nn z) (ap (λ z. mk (pos b, pred d) +ℚ z) (neg-mk (pos a, pred c)) ∙ add-mk (pos b, pred d) (neg_f (pos a, pred c))) (nn_of h)))))
]

pub ÷_mul : (a b c d : ℕ) → 0 < c → 0 < d → (a ÷ c) *ℚ (b ÷ d) ≡ (a * b) ÷ (c * d)
unfolding ◌÷◌
÷_mul a b c d hc hd = mul-mk (pos a, pred c) (pos b, pred d) ∙ ap mk (frac refl den)
  where
    step : (x y : ℕ) → pred (suc x * suc y) ≡ mul_d x y
    step x y = omega arith

    den : mul_d (pred c) (pred d) ≡ pred (c * d)
    den = sym (step (pred c) (pred d)) ∙ ap₂ (λ (x y : ℕ). pred (x * y)) (at_pred c hc) (at_pred d hd)

pub ÷_add : (a b c : ℕ) → 0 < c → (a ÷ c) +ℚ (b ÷ c) ≡ (a + b) ÷ c
unfolding ◌÷◌
÷_add a b c hc = add-mk (pos a, pred c) (pos b, pred c) ∙ same (add_f (pos a, pred c) (pos b, pred c)) (pos (a + b), pred c) (ap pos (nat a b (pred c)))
  where
    nat : (a b d : ℕ) → (a * suc d + b * suc d) * suc d ≡ (a + b) * suc (d * d + d + d)
    nat a b d = omega arith

pub ÷_zero : (c : ℕ) → 0 ÷ c ≡ 0ℚ
unfolding ◌÷◌
÷_zero c = same (pos 0, pred c) (pos 0, 0) (ap pos (nat (pred c))) ∙ zero_mk
  where
    nat : (d : ℕ) → 0 * 1 ≡ 0 * suc d
    nat d = omega arith

pub ÷_nn : (a c : ℕ) → 0ℚ ≤ℚ a ÷ c
unfolding ◌÷◌
÷_nn a c = le_nn (Nn-mk (pos a, pred c) tt)

pub ÷_one : 1 ÷ 1 ≡ 1ℚ
unfolding ◌÷◌
÷_one = one_mk

-- a / c with both parts multiplied by d
pub ÷_wide : (a c d : ℕ) → 0 < c → 0 < d → a ÷ c ≡ (a * d) ÷ (c * d)
÷_wide a c d hc hd = ÷_eq a (a * d) c (c * d) hc (mul-pos hc hd) (nat a c d)
  where
    nat : (a c d : ℕ) → a * (c * d) ≡ a * d * c
    nat a c d = omega arith

pub ÷_sum : (a b c d : ℕ) → 0 < c → 0 < d → a ÷ c +ℚ b ÷ d ≡ (a * d + b * c) ÷ (c * d)
÷_sum a b c d hc hd =
    ap₂ ◌+ℚ◌ (÷_wide a c d hc hd) (÷_wide b d c hd hc ∙ ap (λ (z : ℕ). (b * c) ÷ z) (mul_comm d c))
    ∙ ÷_add (a * d) (b * c) (c * d) (mul-pos hc hd)

pub ÷_sub : (a b c : ℕ) → 0 < c → b ≤ a → (a - b) ÷ c ≡ a ÷ c -ℚ b ÷ c
÷_sub a b c hc h = turn ((a - b) ÷ c) (b ÷ c) (a ÷ c) (÷_add (a - b) b c hc ∙ ap (λ (z : ℕ). z ÷ c) (sub-add_cancel h))
  where
    turn : (x y z : ℚ) → x +ℚ y ≡ z → x ≡ z -ℚ y
    turn x y z e = by_eq ℚring 1ℚ e (by_rep ℚring (x ∷ y ∷ z ∷ []) (search read depth 9) (search read depth 9) tt)

pub ÷_lt : (a b c d : ℕ) → 0 < c → 0 < d → a * d < b * c → a ÷ c <ℚ b ÷ d
÷_lt a b c d hc hd h = not_le→lt (λ k. lt_irrefl (a * d) (lt_of_lt_of_le h (÷_le⁻¹ b a d c hd hc k)))

pub ÷_lt⁻¹ : (a b c d : ℕ) → 0 < c → 0 < d → a ÷ c <ℚ b ÷ d → a * d < b * c
÷_lt⁻¹ a b c d hc hd h = lt_of_not-le (λ k. lt→not_le h (÷_le b a d c hd hc k))

pub ÷_pos : (a c : ℕ) → 0 < a → 0 < c → 0ℚ <ℚ a ÷ c
÷_pos a c ha hc = subst (λ (z : ℚ). z <ℚ a ÷ c) (÷_zero 1) (÷_lt 0 a 1 c (omega arith) hc (nat a c ha))
  where
    nat : (a c : ℕ) → 0 < a → 0 * c < a * 1
    nat a c h = omega arith

-- a numerator is zero where the fraction is at most zero
pub ÷_none : (a c : ℕ) → 0 < c → a ÷ c ≤ℚ 0ℚ → a ≡ 0
÷_none a c hc h = nat a c (÷_le⁻¹ a 0 c 1 hc (omega arith) (subst (λ (z : ℚ). a ÷ c ≤ℚ z) (sym (÷_zero 1)) h))
  where
    nat : (a c : ℕ) → a * 1 ≤ 0 * c → a ≡ 0
    nat a c h = omega arith

pub ÷_inv : (a c : ℕ) → 0 < a → 0 < c → invℚ (a ÷ c) ≡ c ÷ a
÷_inv a c ha hc = inv_unique (a ÷ c) (c ÷ a) (÷_mul a c c a hc ha ∙ ÷_eq (a * c) 1 (c * a) 1 (mul-pos hc ha) (omega arith) (nat a c) ∙ ÷_one)
  where
    nat : (a c : ℕ) → a * c * 1 ≡ 1 * (c * a)
    nat a c = omega arith

-- ---- signs
pub signed-neg : (s : Bool) (x : ℚ) → signed (not s) x ≡ -ℚ signed s x
signed-neg true x = by_rep ℚring (x ∷ []) (search read) (search read) tt
signed-neg false x = refl

pub signed_mul : (s t : Bool) (x y : ℚ) → signed s x *ℚ signed t y ≡ signed (not (beq s t)) (x *ℚ y)
signed_mul true true x y = by_rep ℚring (x ∷ y ∷ []) (search read) (search read) tt
signed_mul true false x y = by_rep ℚring (x ∷ y ∷ []) (search read) (search read) tt
signed_mul false true x y = by_rep ℚring (x ∷ y ∷ []) (search read) (search read) tt
signed_mul false false x y = refl

pub signed-inv : (s : Bool) (x i : ℚ) → x *ℚ i ≡ 1ℚ → invℚ (signed s x) ≡ signed s i
signed-inv true x i e = inv_unique (-ℚ x) (-ℚ i) (by_eq ℚring 1ℚ e (by_rep ℚring (x ∷ i ∷ []) (search read) (search read) tt))
signed-inv false x i e = inv_unique x i e

-- ---- powers of two, with a negative exponent too
