-- The rationals are a field: the laws of sum and product, the ring that the solver works in (`ℚring`), the inverse; and the cone of the numbers that are at
-- least zero. Each law is proved of fractions and carried over to their classes.
use mathlib.Core.Path.{◌≡◌, refl, sym, ◌∙◌, ap, ap₂}
use mathlib.Core.List.{[], ◌∷◌}
use mathlib.Core.Bool.{Bool, true, false}
use mathlib.Core.HLevel.{Π_prop}
use Prim.Native.Nat.{ℕ, zero, suc, ◌+◌, ◌*◌}
use native.Mathlib.Omega.{arith}
use lib.Dec.{T}
use lib.IntN.{ℤ, pos, negsuc, neg_ℤ, ◌+ℤ◌, ◌*ℤ◌, +ℤ_idr, zero-*ℤ}
use std.Quotient.{/_set, /_rec, /_map, /_elim_prop, /_elim_prop₂, /_elim_prop₃}
use Rattle.solver.proofs.Integer.{*ℤ_unit, *ℤ_assoc}
use Rattle.solver.proofs.Ring.{CRing, ℤring, by_rep, by_eq, read}
use Rattle.exact.specs.Fraction.{Frac, dn, ◌~◌, mul_d, dn_mul, frac, add_f, add_f_comm, mul_f, mul_f_comm, neg_f, is_pos, inv_n}
use Rattle.exact.specs.Rational.{ℚ, mk, same, lift₂, ◌+ℚ◌, ◌*ℚ◌, -ℚ◌, ◌-ℚ◌, 0ℚ, 1ℚ, invℚ, nonneg, Nn, Nn-prop, nn_in, nn_out}

pub ℚ-set : IsSet ℚ
unfolding ℚ
ℚ-set = /_set

-- each operation on classes
pub add-mk : (f g : Frac) → mk f +ℚ mk g ≡ mk (add_f f g)
unfolding mk ℚ lift₂ ◌+ℚ◌
add-mk f g = refl

pub mul-mk : (f g : Frac) → mk f *ℚ mk g ≡ mk (mul_f f g)
unfolding mk ℚ lift₂ ◌*ℚ◌
mul-mk f g = refl

pub neg-mk : (f : Frac) → -ℚ mk f ≡ mk (neg_f f)
unfolding mk ℚ /_map -ℚ◌
neg-mk f = refl

-- a property of every class is a property of every rational
pub on₁ : (P : ℚ → Type 0) → ((x : ℚ) → IsProp (P x)) → ((f : Frac) → P (mk f)) → (x : ℚ) → P x
unfolding mk ℚ
on₁ P h c = /_elim_prop P h c

pub on₂ : (P : ℚ → ℚ → Type 0) → ((x y : ℚ) → IsProp (P x y)) → ((f g : Frac) → P (mk f) (mk g)) → (x y : ℚ) → P x y
unfolding mk ℚ
on₂ P h c = /_elim_prop₂ P h c

pub on₃ : (P : ℚ → ℚ → ℚ → Type 0) → ((x y z : ℚ) → IsProp (P x y z)) → ((f g h : Frac) → P (mk f) (mk g) (mk h)) → (x y z : ℚ) → P x y z
unfolding mk ℚ
on₃ P h c = /_elim_prop₃ P h c

-- ---- the laws of a commutative ring
mul_d-assoc : (a b c : ℕ) → mul_d (mul_d a b) c ≡ mul_d a (mul_d b c)
mul_d-assoc a b c = omega arith

mul_d_zero : (a : ℕ) → mul_d a 0 ≡ a
mul_d_zero a = omega arith

z_assoc : (n d m e l g u w : ℤ) → u ≡ d *ℤ e → w ≡ e *ℤ g → (n *ℤ e +ℤ m *ℤ d) *ℤ g +ℤ l *ℤ u ≡ n *ℤ w +ℤ (m *ℤ g +ℤ l *ℤ e) *ℤ d
z_assoc n d m e l g u w hu hw = by_eq ℤring l hu (by_eq ℤring (neg_ℤ n) hw
    (by_rep ℤring (n ∷ d ∷ m ∷ e ∷ l ∷ g ∷ u ∷ w ∷ []) (search read depth 12) (search read depth 12) tt))

z_dist : (n d m e l g w u v a b : ℤ) → w ≡ e *ℤ g → u ≡ d *ℤ e → v ≡ d *ℤ g → a ≡ d *ℤ w → b ≡ u *ℤ v
    → (n *ℤ (m *ℤ g +ℤ l *ℤ e)) *ℤ b ≡ ((n *ℤ m) *ℤ v +ℤ (n *ℤ l) *ℤ u) *ℤ a
z_dist n d m e l g w u v a b hw hu hv ha hb = rw (hb, ha, hu, hv, hw) (by_rep ℤring (n ∷ d ∷ m ∷ e ∷ l ∷ g ∷ []) (search read depth 12) (search read depth 12) tt)

z_inv : (n d u : ℤ) → (n *ℤ d +ℤ neg_ℤ n *ℤ d) *ℤ pos 1 ≡ pos 0 *ℤ u
z_inv n d u = by_rep ℤring (n ∷ d ∷ u ∷ []) (search read depth 12) (search read depth 12) tt

pub +ℚ_assoc : (x y z : ℚ) → x +ℚ y +ℚ z ≡ x +ℚ (y +ℚ z)
+ℚ_assoc = on₃ (λ x y z. x +ℚ y +ℚ z ≡ x +ℚ (y +ℚ z)) (λ x y z. ℚ-set _ _)
    (λ a b c. simp add-mk (ap mk (frac (z_assoc a.0 (dn a) b.0 (dn b) c.0 (dn c) (dn (add_f a b)) (dn (add_f b c)) (dn_mul a.1 b.1) (dn_mul b.1 c.1)) (mul_d-assoc a.1 b.1 c.1))))

pub +ℚ_comm : (x y : ℚ) → x +ℚ y ≡ y +ℚ x
+ℚ_comm = on₂ (λ x y. x +ℚ y ≡ y +ℚ x) (λ x y. ℚ-set _ _) (λ a b. simp add-mk (ap mk (add_f_comm a b)))

pub +ℚ_0 : (x : ℚ) → x +ℚ 0ℚ ≡ x
unfolding 0ℚ
+ℚ_0 = on₁ (λ x. x +ℚ 0ℚ ≡ x) (λ x. ℚ-set _ _) (λ a. simp add-mk (ap mk (frac (ap₂ ◌+ℤ◌ (*ℤ_unit a.0) (zero-*ℤ (dn a)) ∙ +ℤ_idr a.0) (mul_d_zero a.1))))

pub +ℚ_neg : (x : ℚ) → x +ℚ -ℚ x ≡ 0ℚ
unfolding 0ℚ
+ℚ_neg = on₁ (λ x. x +ℚ -ℚ x ≡ 0ℚ) (λ x. ℚ-set _ _) (λ a. simp (neg-mk, add-mk) (same (add_f a (neg_f a)) (pos 0, 0) (z_inv a.0 (dn a) (dn (add_f a (neg_f a))))))

pub *ℚ_assoc : (x y z : ℚ) → x *ℚ y *ℚ z ≡ x *ℚ (y *ℚ z)
*ℚ_assoc = on₃ (λ x y z. x *ℚ y *ℚ z ≡ x *ℚ (y *ℚ z)) (λ x y z. ℚ-set _ _)
    (λ a b c. simp mul-mk (ap mk (frac (*ℤ_assoc a.0 b.0 c.0) (mul_d-assoc a.1 b.1 c.1))))

pub *ℚ_comm : (x y : ℚ) → x *ℚ y ≡ y *ℚ x
*ℚ_comm = on₂ (λ x y. x *ℚ y ≡ y *ℚ x) (λ x y. ℚ-set _ _) (λ a b. simp mul-mk (ap mk (mul_f_comm a b)))

pub *ℚ_1 : (x : ℚ) → x *ℚ 1ℚ ≡ x
unfolding 1ℚ
*ℚ_1 = on₁ (λ x. x *ℚ 1ℚ ≡ x) (λ x. ℚ-set _ _) (λ a. simp mul-mk (ap mk (frac (*ℤ_unit a.0) (mul_d_zero a.1))))

pub *ℚ_dist : (x y z : ℚ) → x *ℚ (y +ℚ z) ≡ x *ℚ y +ℚ x *ℚ z
*ℚ_dist = on₃ (λ x y z. x *ℚ (y +ℚ z) ≡ x *ℚ y +ℚ x *ℚ z) (λ x y z. ℚ-set _ _)
    (λ a b c. simp (add-mk, mul-mk) (same (mul_f a (add_f b c)) (add_f (mul_f a b) (mul_f a c))
    (z_dist a.0 (dn a) b.0 (dn b) c.0 (dn c) (dn (add_f b c)) (dn (mul_f a b)) (dn (mul_f a c)) (dn (mul_f a (add_f b c))) (dn (add_f (mul_f a b) (mul_f a c)))
    (dn_mul b.1 c.1) (dn_mul a.1 b.1) (dn_mul a.1 c.1) (dn_mul a.1 (mul_d b.1 c.1)) (dn_mul (mul_d a.1 b.1) (mul_d a.1 c.1)))))

abbrev pub ℚring : CRing ℚ
ℚring = record {
  add = ◌+ℚ◌;
  mul = ◌*ℚ◌;
  neg = -ℚ◌;
  nil = 0ℚ;
  unit = 1ℚ;
  add_assoc = +ℚ_assoc;
  add_comm = +ℚ_comm;
  add-nil = +ℚ_0;
  add-neg = +ℚ_neg;
  mul_assoc = *ℚ_assoc;
  mul_comm = *ℚ_comm;
  mul-unit = *ℚ_1;
  mul-add = *ℚ_dist;
}

-- ---- the cone of the numbers that are at least zero
nonneg-mk : (f : Frac) → nonneg (mk f) ≡ is_pos f.0
unfolding mk ℚ nonneg /_rec
nonneg-mk f = refl

pub Nn-mk : (f : Frac) → T (is_pos f.0) → Nn (mk f)
Nn-mk f t = nn_in (rw nonneg-mk t)

pub Nn-mk⁻¹ : (f : Frac) → Nn (mk f) → T (is_pos f.0)
Nn-mk⁻¹ f t = rw nonneg-mk at (nn_out t)

pos-add : (n m : ℤ) (d e : ℕ) → T (is_pos n) → T (is_pos m) → T (is_pos (n *ℤ pos (suc e) +ℤ m *ℤ pos (suc d)))
pos-add (pos n) (pos m) d e s t = tt
pos-add (pos n) (negsuc m) d e s t = absurd t
pos-add (negsuc n) m d e s t = absurd s

pub nn_add : (x y : ℚ) → Nn x → Nn y → Nn (x +ℚ y)
nn_add = on₂ (λ x y. Nn x → Nn y → Nn (x +ℚ y)) (λ x y. Π_prop (λ _. Π_prop (λ _. Nn-prop _)))
    (λ a b s t. rw add-mk (Nn-mk (add_f a b) (pos-add a.0 b.0 a.1 b.1 (Nn-mk⁻¹ a s) (Nn-mk⁻¹ b t))))

pos-mul : (n m : ℤ) → T (is_pos n) → T (is_pos m) → T (is_pos (n *ℤ m))
pos-mul (pos n) (pos m) s t = tt
pos-mul (pos n) (negsuc m) s t = absurd t
pos-mul (negsuc n) m s t = absurd s

pub nn_mul : (x y : ℚ) → Nn x → Nn y → Nn (x *ℚ y)
nn_mul = on₂ (λ x y. Nn x → Nn y → Nn (x *ℚ y)) (λ x y. Π_prop (λ _. Π_prop (λ _. Nn-prop _)))
    (λ a b s t. rw mul-mk (Nn-mk (mul_f a b) (pos-mul a.0 b.0 (Nn-mk⁻¹ a s) (Nn-mk⁻¹ b t))))

pub Nn-dec : (x : ℚ) → Dec (Nn x)
Nn-dec x = go (nonneg x) (λ t. nn_in t) (λ h. nn_out h)
  where
    go : (b : Bool) → (T b → Nn x) → (Nn x → T b) → Dec (Nn x)
    go true f g = yes (f tt)
    go false f g = no g

neg-not : (n : ℤ) → ¬ T (is_pos n) → T (is_pos (neg_ℤ n))
neg-not (pos n) h = absurd (h tt)
neg-not (negsuc n) h = tt

pub nn_neg : (x : ℚ) → ¬ Nn x → Nn (-ℚ x)
nn_neg = on₁ (λ x. ¬ Nn x → Nn (-ℚ x)) (λ x. Π_prop (λ _. Nn-prop _))
    (λ a h. rw neg-mk (Nn-mk (neg_f a) (neg-not a.0 (λ t. h (Nn-mk a t)))))

both_zero : (n : ℤ) → T (is_pos n) → T (is_pos (neg_ℤ n)) → n ≡ pos 0
both_zero (pos zero) s t = refl
both_zero (pos (suc n)) s t = absurd t
both_zero (negsuc n) s t = absurd s

pub nn_zero : (x : ℚ) → Nn x → Nn (-ℚ x) → x ≡ 0ℚ
unfolding 0ℚ
nn_zero = on₁ (λ x. Nn x → Nn (-ℚ x) → x ≡ 0ℚ) (λ x. Π_prop (λ _. Π_prop (λ _. ℚ-set _ _)))
    (λ a s t. same a (pos 0, 0) (ap (λ (n : ℤ). n *ℤ pos 1) (both_zero a.0 (Nn-mk⁻¹ a s) (Nn-mk⁻¹ (neg_f a) (rw neg-mk at t))) ∙ sym (zero-*ℤ (dn a))))

pub nn_1 : Nn 1ℚ
unfolding 1ℚ
nn_1 = Nn-mk (pos 1, 0) tt

pub not_nn_1 : ¬ Nn (-ℚ 1ℚ)
unfolding 1ℚ
not_nn_1 h = Nn-mk⁻¹ (negsuc 0, 0) (rw neg-mk at h)

-- ---- the inverse
inv-mk : (f : Frac) → invℚ (mk f) ≡ mk (inv_n f.0 f.1)
unfolding mk ℚ invℚ /_rec
inv-mk f = refl

inv-num : (n : ℤ) (d : ℕ) → ¬ (n ≡ pos 0) → mul_f (n, d) (inv_n n d) ~ (pos 1, 0)
inv-num (pos zero) d h = absurd (h refl)
inv-num (pos (suc n)) d h = ap pos nat
  where
    nat : suc n * suc d * 1 ≡ 1 * suc (d * n + d + n)
    nat = omega arith
inv-num (negsuc n) d h = ap pos nat
  where
    nat : suc n * suc d * 1 ≡ 1 * suc (d * n + d + n)
    nat = omega arith

pub *ℚ_inv : (x : ℚ) → ¬ (x ≡ 0ℚ) → x *ℚ invℚ x ≡ 1ℚ
unfolding 0ℚ 1ℚ
*ℚ_inv = on₁ (λ x. ¬ (x ≡ 0ℚ) → x *ℚ invℚ x ≡ 1ℚ) (λ x. Π_prop (λ _. ℚ-set _ _))
    (λ a h. rw (inv-mk, mul-mk) (same (mul_f a (inv_n a.0 a.1)) (pos 1, 0)
    (inv-num a.0 a.1 (λ e. h (same a (pos 0, 0) (ap (λ (n : ℤ). n *ℤ pos 1) e ∙ sym (zero-*ℤ (dn a))))))))

inv_n-pos : (n : ℤ) (d : ℕ) → T (is_pos n) → T (is_pos (inv_n n d).0)
inv_n-pos (pos zero) d t = tt
inv_n-pos (pos (suc n)) d t = tt
inv_n-pos (negsuc n) d t = absurd t

pub nn_inv : (x : ℚ) → Nn x → Nn (invℚ x)
nn_inv = on₁ (λ x. Nn x → Nn (invℚ x)) (λ x. Π_prop (λ _. Nn-prop _))
    (λ a t. rw inv-mk (Nn-mk (inv_n a.0 a.1) (inv_n-pos a.0 a.1 (Nn-mk⁻¹ a t))))

pub nn_0 : Nn 0ℚ
unfolding 0ℚ
nn_0 = Nn-mk (pos 0, 0) tt

pub one_mk : mk (pos 1, 0) ≡ 1ℚ
unfolding 1ℚ
one_mk = refl

pub zero_mk : mk (pos 0, 0) ≡ 0ℚ
unfolding 0ℚ
zero_mk = refl
