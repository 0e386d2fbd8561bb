-- A fraction as a pair: a numerator n and a denominator d + 1, so that no denominator is zero. Many pairs are one number: `◌~◌` says when two are.
-- Sum, product, negative, sign and inverse of pairs, and that each respects `◌~◌`: what the rationals are made from.
use Rattle.std.specs.Prelude.{◌≡◌, refl, [], ◌∷◌, Bool, true, false, ℕ, zero, suc, ◌+◌, ◌*◌, ◌<◌, T, ℤ, pos, negsuc, neg_ℤ, nat_abs, ◌+ℤ◌, ◌*ℤ◌}
use Rattle.std.proofs.Common.{sym, ◌∙◌, ap, subst, arith}
use Rattle.std.proofs.Math.IntN.{+ℤ_comm, *ℤ_comm}
use Rattle.solver.proofs.Ring.{ℤring, by_rep, by_eq, read}

-- ---- fractions: a numerator, and the denominator less one
abbrev pub Frac : Type 0
Frac = ℤ × ℕ

abbrev pub dn : Frac → ℤ
dn f = pos (suc f.1)

infix 4 ◌~◌
abbrev pub ◌~◌ : Frac → Frac → Type 0
f ~ g = f.0 *ℤ dn g ≡ g.0 *ℤ dn f

abbrev pub mul_d : ℕ → ℕ → ℕ
mul_d a b = a * b + a + b

pub dn_mul : (a b : ℕ) → pos (suc (mul_d a b)) ≡ pos (suc a) *ℤ pos (suc b)
dn_mul a b = ap pos nat
  where
    nat : suc (a * b + a + b) ≡ suc a * suc b
    nat = omega arith

pub mul_d_comm : (a b : ℕ) → mul_d a b ≡ mul_d b a
mul_d_comm a b = omega arith

pub frac : {n m : ℤ} {d e : ℕ} → n ≡ m → d ≡ e → ◌≡◌ {A = Frac} (n, d) (m, e)
frac p q = λ i. (p i, q i)

abbrev pub add_f : Frac → Frac → Frac
add_f f g = (f.0 *ℤ dn g +ℤ g.0 *ℤ dn f, mul_d f.1 g.1)

abbrev pub mul_f : Frac → Frac → Frac
mul_f f g = (f.0 *ℤ g.0, mul_d f.1 g.1)

abbrev pub neg_f : Frac → Frac
neg_f f = (neg_ℤ f.0, f.1)

-- ---- the same identities of integers that the laws below state of pairs
z_add : (n d n' d' m e u u' : ℤ) → n *ℤ d' ≡ n' *ℤ d → u ≡ d *ℤ e → u' ≡ d' *ℤ e → (n *ℤ e +ℤ m *ℤ d) *ℤ u' ≡ (n' *ℤ e +ℤ m *ℤ d') *ℤ u
z_add n d n' d' m e u u' h hu hu' = by_eq ℤring (e *ℤ e) h (by_eq ℤring (neg_ℤ (n' *ℤ e +ℤ m *ℤ d')) hu (by_eq ℤring (n *ℤ e +ℤ m *ℤ d) hu'
    (by_rep ℤring (n ∷ d ∷ n' ∷ d' ∷ m ∷ e ∷ u ∷ u' ∷ []) (search read depth 12) (search read depth 12) tt)))

z_mul : (n d n' d' m e u u' : ℤ) → n *ℤ d' ≡ n' *ℤ d → u ≡ d *ℤ e → u' ≡ d' *ℤ e → (n *ℤ m) *ℤ u' ≡ (n' *ℤ m) *ℤ u
z_mul n d n' d' m e u u' h hu hu' = by_eq ℤring (m *ℤ e) h (by_eq ℤring (neg_ℤ (n' *ℤ m)) hu (by_eq ℤring (n *ℤ m) hu'
    (by_rep ℤring (n ∷ d ∷ n' ∷ d' ∷ m ∷ e ∷ u ∷ u' ∷ []) (search read depth 12) (search read depth 12) tt)))

z_neg : (n d n' d' : ℤ) → n *ℤ d' ≡ n' *ℤ d → neg_ℤ n *ℤ d' ≡ neg_ℤ n' *ℤ d
z_neg n d n' d' h = by_eq ℤring (neg_ℤ (pos 1)) h (by_rep ℤring (n ∷ d ∷ n' ∷ d' ∷ []) (search read depth 12) (search read depth 12) tt)

-- ---- the operations respect the relation
pub add_f_comm : (f g : Frac) → add_f f g ≡ add_f g f
add_f_comm f g = frac (+ℤ_comm (f.0 *ℤ dn g) (g.0 *ℤ dn f)) (mul_d_comm f.1 g.1)

pub add_f_l : (f f' g : Frac) → f ~ f' → add_f f g ~ add_f f' g
add_f_l f f' g h = z_add f.0 (dn f) f'.0 (dn f') g.0 (dn g) (dn (add_f f g)) (dn (add_f f' g)) h (dn_mul f.1 g.1) (dn_mul f'.1 g.1)

pub add_f_r : (g f f' : Frac) → f ~ f' → add_f g f ~ add_f g f'
add_f_r g f f' h = subst (λ (x : Frac). x ~ add_f g f') (add_f_comm f g) (subst (λ (x : Frac). add_f f g ~ x) (add_f_comm f' g) (add_f_l f f' g h))

pub mul_f_comm : (f g : Frac) → mul_f f g ≡ mul_f g f
mul_f_comm f g = frac (*ℤ_comm f.0 g.0) (mul_d_comm f.1 g.1)

pub mul_f_l : (f f' g : Frac) → f ~ f' → mul_f f g ~ mul_f f' g
mul_f_l f f' g h = z_mul f.0 (dn f) f'.0 (dn f') g.0 (dn g) (dn (mul_f f g)) (dn (mul_f f' g)) h (dn_mul f.1 g.1) (dn_mul f'.1 g.1)

pub mul_f_r : (g f f' : Frac) → f ~ f' → mul_f g f ~ mul_f g f'
mul_f_r g f f' h = subst (λ (x : Frac). x ~ mul_f g f') (mul_f_comm f g) (subst (λ (x : Frac). mul_f f g ~ x) (mul_f_comm f' g) (mul_f_l f f' g h))

pub neg_f_~ : (f f' : Frac) → f ~ f' → neg_f f ~ neg_f f'
neg_f_~ f f' h = z_neg f.0 (dn f) f'.0 (dn f') h

-- ---- the sign
abbrev pub is_pos : ℤ → Bool
is_pos (pos n) = true
is_pos (negsuc n) = false

is_pos_neg : (k : ℕ) → 0 < k → is_pos (neg_ℤ (pos k)) ≡ false
is_pos_neg zero h = absurd (no_lt h)
  where
    no_lt : 0 < 0 → ⊥
    no_lt h = omega arith
is_pos_neg (suc k) h = refl

pub is_pos_mul : (n : ℤ) (d : ℕ) → is_pos (n *ℤ pos (suc d)) ≡ is_pos n
is_pos_mul (pos n) d = refl
is_pos_mul (negsuc n) d = is_pos_neg (suc n * suc d) (omega arith)

-- ---- the inverse; of zero it is zero
abbrev pub inv_n : ℤ → ℕ → Frac
inv_n (pos zero) d = (pos 0, 0)
inv_n (pos (suc n)) d = (pos (suc d), n)
inv_n (negsuc n) d = (negsuc d, n)

abs_neg : (k : ℕ) → nat_abs (neg_ℤ (pos k)) ≡ k
abs_neg zero = refl
abs_neg (suc k) = refl

signs : {X : Type 0} (a k : ℕ) → 0 < k → pos a ≡ neg_ℤ (pos k) → X
signs a k h e = absurd (subst T (ap is_pos e ∙ is_pos_neg k h) tt)

pub inv_n_~ : (n m : ℤ) (d e : ℕ) → n *ℤ pos (suc e) ≡ m *ℤ pos (suc d) → inv_n n d ~ inv_n m e
inv_n_~ (pos zero) (pos zero) d e h = refl
inv_n_~ (pos zero) (pos (suc m)) d e h = absurd (no_eq m d e (ap nat_abs h))
  where
    no_eq : (m d e : ℕ) → 0 * suc e ≡ suc m * suc d → ⊥
    no_eq m d e h = omega arith
inv_n_~ (pos zero) (negsuc m) d e h = signs (0 * suc e) (suc m * suc d) (omega arith) h
inv_n_~ (pos (suc n)) (pos zero) d e h = absurd (no_eq n d e (ap nat_abs h))
  where
    no_eq : (n d e : ℕ) → suc n * suc e ≡ 0 * suc d → ⊥
    no_eq n d e h = omega arith
inv_n_~ (pos (suc n)) (pos (suc m)) d e h = ap pos (nat n m d e (ap nat_abs h))
  where
    nat : (n m d e : ℕ) → suc n * suc e ≡ suc m * suc d → suc d * suc m ≡ suc e * suc n
    nat n m d e h = omega arith
inv_n_~ (pos (suc n)) (negsuc m) d e h = signs (suc n * suc e) (suc m * suc d) (omega arith) h
inv_n_~ (negsuc n) (pos zero) d e h = signs (0 * suc d) (suc n * suc e) (omega arith) (sym h)
inv_n_~ (negsuc n) (pos (suc m)) d e h = signs (suc m * suc d) (suc n * suc e) (omega arith) (sym h)
inv_n_~ (negsuc n) (negsuc m) d e h = ap (λ (k : ℕ). neg_ℤ (pos k)) (nat n m d e (sym (abs_neg (suc n * suc e)) ∙ ap nat_abs h ∙ abs_neg (suc m * suc d)))
  where
    nat : (n m d e : ℕ) → suc n * suc e ≡ suc m * suc d → suc d * suc m ≡ suc e * suc n
    nat n m d e h = omega arith
