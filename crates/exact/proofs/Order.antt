-- The order of the rationals: total, and kept by sums and by factors that are at least zero. An inequality x ≤ y is proved by a certificate: `le_by c e`, with
-- c a proof that some z is at least zero (`search cone` finds it for sums and products of what is) and e the ring identity y - x ≡ z.
use mathlib.Core.Path.{◌≡◌, sym, subst}
use mathlib.Core.List.{[], ◌∷◌}
use mathlib.Core.Logic.{◌⊎◌, inl, inr}
use Rattle.solver.proofs.Ring.{by_rep, by_eq, read}
use Rattle.exact.specs.Rational.{ℚ, ◌+ℚ◌, ◌*ℚ◌, -ℚ◌, ◌-ℚ◌, 0ℚ, 1ℚ, invℚ, lerp, ratio, Nn, ◌≤ℚ◌, ◌<ℚ◌, le_in, nn_of, not_le→lt, lt→not_le}
use Rattle.exact.proofs.Field.{ℚring, Nn-dec, nn_add, nn_mul, nn_neg, nn_zero, nn_0, nn_1, not_nn_1, nn_inv, *ℚ_inv, *ℚ_comm}

-- ---- into the cone and back
pub le_by : {x y z : ℚ} → Nn z → y -ℚ x ≡ z → x ≤ℚ y
le_by c e = le_in (subst (λ (w : ℚ). Nn w) (sym e) c)

pub nn_cast : {x y : ℚ} → Nn x → y ≡ x → Nn y
nn_cast c e = subst (λ (w : ℚ). Nn w) (sym e) c

sub_0 : (x : ℚ) → x -ℚ 0ℚ ≡ x
sub_0 x = by_rep ℚring (x ∷ []) (search read) (search read) tt

pub nn_le : {x : ℚ} → 0ℚ ≤ℚ x → Nn x
nn_le {x} h = nn_cast (nn_of h) (sym (sub_0 x))

pub le_nn : {x : ℚ} → Nn x → 0ℚ ≤ℚ x
le_nn {x} h = le_by h (sub_0 x)

-- ---- a total order
pub le_refl : (x : ℚ) → x ≤ℚ x
le_refl x = le_by nn_0 (by_rep ℚring (x ∷ []) (search read) (search read) tt)

pub le_trans : {x y z : ℚ} → x ≤ℚ y → y ≤ℚ z → x ≤ℚ z
le_trans {x} {y} {z} h k = le_by (nn_add _ _ (nn_of h) (nn_of k)) (by_rep ℚring (x ∷ y ∷ z ∷ []) (search read) (search read) tt)

pub le_antisym : {x y : ℚ} → x ≤ℚ y → y ≤ℚ x → x ≡ y
le_antisym {x} {y} h k = by_eq ℚring (-ℚ 1ℚ) (nn_zero (y -ℚ x) (nn_of h) (nn_cast (nn_of k) (by_rep ℚring (x ∷ y ∷ []) (search read) (search read) tt)))
    (by_rep ℚring (x ∷ y ∷ []) (search read) (search read) tt)

pub le_dec : (x y : ℚ) → Dec (x ≤ℚ y)
le_dec x y = elim (Nn-dec (y -ℚ x)) [ yes h ↦ yes (le_in h) | no n ↦ no (λ h. n (nn_of h)) ]

pub lt→le : {x y : ℚ} → x <ℚ y → x ≤ℚ y
lt→le {x} {y} h = le_by (nn_neg (x -ℚ y) (λ k. lt→not_le h (le_in k))) (by_rep ℚring (x ∷ y ∷ []) (search read) (search read) tt)

pub le_or_lt : (x y : ℚ) → (x ≤ℚ y) ⊎ (y <ℚ x)
le_or_lt x y = elim (le_dec x y) [ yes h ↦ inl h | no n ↦ inr (not_le→lt n) ]

pub lt_or_le : (x y : ℚ) → (x <ℚ y) ⊎ (y ≤ℚ x)
lt_or_le x y = elim (le_dec y x) [ yes h ↦ inr h | no n ↦ inl (not_le→lt n) ]

pub lt_le_trans : {x y z : ℚ} → x <ℚ y → y ≤ℚ z → x <ℚ z
lt_le_trans h k = not_le→lt (λ m. lt→not_le h (le_trans k m))

pub le_lt_trans : {x y z : ℚ} → x ≤ℚ y → y <ℚ z → x <ℚ z
le_lt_trans h k = not_le→lt (λ m. lt→not_le k (le_trans m h))

pub 0<1 : 0ℚ <ℚ 1ℚ
0<1 = not_le→lt (λ h. not_nn_1 (nn_cast (nn_of h) (by_rep ℚring [] (search read) (search read) tt)))

-- ---- sums and products
pub add-mono : {x y u v : ℚ} → x ≤ℚ y → u ≤ℚ v → x +ℚ u ≤ℚ y +ℚ v
add-mono {x} {y} {u} {v} h k = le_by (nn_add _ _ (nn_of h) (nn_of k)) (by_rep ℚring (x ∷ y ∷ u ∷ v ∷ []) (search read) (search read) tt)

pub mul_mono : {k x y : ℚ} → 0ℚ ≤ℚ k → x ≤ℚ y → k *ℚ x ≤ℚ k *ℚ y
mul_mono {k} {x} {y} c h = le_by (nn_mul _ _ (nn_le c) (nn_of h)) (by_rep ℚring (k ∷ x ∷ y ∷ []) (search read) (search read) tt)

pub neg-mono : {x y : ℚ} → x ≤ℚ y → -ℚ y ≤ℚ -ℚ x
neg-mono {x} {y} h = le_by (nn_of h) (by_rep ℚring (x ∷ y ∷ []) (search read) (search read) tt)

pub neg-neg : (x : ℚ) → -ℚ (-ℚ x) ≡ x
neg-neg x = by_rep ℚring (x ∷ []) (search read) (search read) tt

pub neg_0 : -ℚ 0ℚ ≡ 0ℚ
neg_0 = by_rep ℚring [] (search read) (search read) tt

-- ---- a positive difference has an inverse, which is at least zero
pub sub-inv : {x y : ℚ} → x <ℚ y → invℚ (y -ℚ x) *ℚ (y -ℚ x) ≡ 1ℚ
sub-inv {x} {y} h = rw *ℚ_comm (*ℚ_inv (y -ℚ x) (λ e. lt→not_le h (le_by nn_0 (by_eq ℚring (-ℚ 1ℚ) e (by_rep ℚring (x ∷ y ∷ []) (search read) (search read) tt)))))

pub inv_nn : {x y : ℚ} → x <ℚ y → Nn (invℚ (y -ℚ x))
inv_nn h = nn_inv _ (nn_of (lt→le h))

pub lerp_ge : {l a x y : ℚ} → 0ℚ ≤ℚ a → a ≤ℚ 1ℚ → l ≤ℚ x → l ≤ℚ y → l ≤ℚ lerp a x y
unfolding lerp
lerp_ge {l} {a} {x} {y} h k p q = le_by (nn_add _ _ (nn_mul _ _ (nn_of k) (nn_of p)) (nn_mul _ _ (nn_le h) (nn_of q)))
    (by_rep ℚring (l ∷ a ∷ x ∷ y ∷ []) (search read depth 12) (search read depth 12) tt)

pub lerp_le : {l a x y : ℚ} → 0ℚ ≤ℚ a → a ≤ℚ 1ℚ → x ≤ℚ l → y ≤ℚ l → lerp a x y ≤ℚ l
unfolding lerp
lerp_le {l} {a} {x} {y} h k p q = le_by (nn_add _ _ (nn_mul _ _ (nn_of k) (nn_of p)) (nn_mul _ _ (nn_le h) (nn_of q)))
    (by_rep ℚring (l ∷ a ∷ x ∷ y ∷ []) (search read depth 12) (search read depth 12) tt)

pub ratio_ge : {t u v : ℚ} → u <ℚ v → u ≤ℚ t → 0ℚ ≤ℚ ratio t u v
unfolding ratio
ratio_ge h k = le_nn (nn_mul _ _ (nn_of k) (inv_nn h))

pub ratio_le : {t u v : ℚ} → u <ℚ v → t ≤ℚ v → ratio t u v ≤ℚ 1ℚ
unfolding ratio
ratio_le {t} {u} {v} h k = le_by (nn_mul _ _ (nn_of k) (inv_nn h)) (eq t u v (invℚ (v -ℚ u)) (sub-inv h))
  where
    eq : (t u v i : ℚ) → i *ℚ (v -ℚ u) ≡ 1ℚ → 1ℚ -ℚ (t -ℚ u) *ℚ i ≡ (v -ℚ t) *ℚ i
    eq t u v i e = by_eq ℚring (-ℚ 1ℚ) e (by_rep ℚring (t ∷ u ∷ v ∷ i ∷ []) (search read depth 12) (search read depth 12) tt)

-- what `search` proves to be at least zero: sums and products of what is, and differences of what is in order
pub ruleset cone = (nn_add, nn_mul, nn_inv, nn_of, nn_le, nn_0, nn_1)

pub pos-inv : (x : ℚ) → 0ℚ <ℚ x → x *ℚ invℚ x ≡ 1ℚ
pos-inv x h = *ℚ_inv x (λ e. lt→not_le h (subst (λ (z : ℚ). z ≤ℚ 0ℚ) (sym e) (le_refl 0ℚ)))

pub inv-anti : (c y : ℚ) → 0ℚ <ℚ c → c ≤ℚ y → invℚ y ≤ℚ invℚ c
inv-anti c y h k = le_by {z = invℚ c *ℚ invℚ y *ℚ (y -ℚ c)} (nn_mul _ _ (nn_mul _ _ (nn_inv c (nn_le (lt→le h))) (nn_inv y (nn_le (le_trans (lt→le h) k)))) (nn_of k))
    (eq c y (invℚ c) (invℚ y) (pos-inv c h) (pos-inv y (lt_le_trans h k)))
  where
    eq : (c y i j : ℚ) → c *ℚ i ≡ 1ℚ → y *ℚ j ≡ 1ℚ → i -ℚ j ≡ i *ℚ j *ℚ (y -ℚ c)
    eq c y i j p q = by_eq ℚring j p (by_eq ℚring (-ℚ i) q (by_rep ℚring (c ∷ y ∷ i ∷ j ∷ []) (search read depth 9) (search read depth 9) tt))

-- ---- the inverse is the only number with the product 1
pub inv_unique : (x y : ℚ) → x *ℚ y ≡ 1ℚ → invℚ x ≡ y
inv_unique x y e = eq x y (invℚ x) e (*ℚ_inv x (λ z. lt→not_le 0<1 (le_by nn_0 (none x y z e))))
  where
    eq : (x y i : ℚ) → x *ℚ y ≡ 1ℚ → x *ℚ i ≡ 1ℚ → i ≡ y
    eq x y i p q = by_eq ℚring y q (by_eq ℚring (-ℚ i) p (by_rep ℚring (x ∷ y ∷ i ∷ []) (search read depth 9) (search read depth 9) tt))

    none : (x y : ℚ) → x ≡ 0ℚ → x *ℚ y ≡ 1ℚ → 0ℚ -ℚ 1ℚ ≡ 0ℚ
    none x y z e = by_eq ℚring (-ℚ y) z (by_eq ℚring 1ℚ e (by_rep ℚring (x ∷ y ∷ []) (search read depth 9) (search read depth 9) tt))

pub neg_lt : {x y : ℚ} → x <ℚ y → -ℚ y <ℚ -ℚ x
neg_lt {x} {y} h = not_le→lt (λ k. lt→not_le h (le_by (nn_of k) (by_rep ℚring (x ∷ y ∷ []) (search read) (search read) tt)))
