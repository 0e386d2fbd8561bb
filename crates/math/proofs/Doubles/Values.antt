-- The comparisons of finite doubles are those of the numbers that they are. Assumes nothing.
use mathlib.Core.Path.{◌≡◌, refl, sym, ap, ap₂, ◌∙◌, subst}
use mathlib.Core.List.{[], ◌∷◌}
use mathlib.Core.Logic.{inl, inr}
use mathlib.Core.Bool.{Bool, true, false, ◌&&◌, ◌||◌, beq}
use Prim.Native.Nat.{ℕ, zero, suc, ◌+◌, ◌*◌, ◌≤◌, ◌<◌}
use native.Mathlib.Nat.{mul-pos, zero-mul, zero-lt-suc}
use native.Mathlib.Omega.{arith}
use lib.IntN.{ℤ}
use lib.Dec.{T, eqb, ltb→lt, lt→ltb, eqb→eq}
use lib.Ieee.{Float, nan, inf, fin, up, down, neg, lt, le, eq, below, level}
use lib.Ieee.Fits.{up_pos, down_pos}
use lib.Ieee.Exact.{HasValue}
use Rattle.solver.proofs.Ring.{by_rep, by_eq, read}
use Rattle.exact.specs.Rational.{ℚ, ◌+ℚ◌, -ℚ◌, ◌-ℚ◌, 0ℚ, 1ℚ, ◌÷◌, signed, ◌≤ℚ◌, ◌<ℚ◌, nn_of, not_le→lt, lt→not_le}
use Rattle.exact.proofs.Field.{ℚring, nn_0}
use Rattle.exact.proofs.Order.{le_by, nn_le, le_refl, le_trans, le_antisym, lt→le, le_or_lt, neg-mono, neg_lt, neg_0}
use Rattle.exact.proofs.Embed.{÷_eq, ÷_le⁻¹, ÷_lt, ÷_lt⁻¹, ÷_sum, ÷_nn, ÷_pos, ÷_none, ÷_zero, signed-neg}
use Rattle.math.specs.Values.{value}
use Rattle.math.proofs.Bools.{and_i, and_l, and_r, or_l, or_r, or_split, same_eqb}

-- ---- what a finite double's number is

pub value_is : (x : Float) (s : Bool) (a c : ℕ) → 0 < c → HasValue x s a c → value x ≡ signed s (a ÷ c)
unfolding value
value_is nan s a c C h = absurd h
value_is (inf t) s a c C h = absurd h
value_is (fin t m e) s a c C h = ap₂ signed h.0 (÷_eq (m * up e) a (down e) c (down_pos e) C h.1)

pub value-neg : (x : Float) → value (neg x) ≡ -ℚ value x
unfolding value neg
value-neg nan = by_rep ℚring [] (search read) (search read) tt
value-neg (inf s) = by_rep ℚring [] (search read) (search read) tt
value-neg (fin s m e) = signed-neg s ((m * up e) ÷ down e)

signed_zero : (s : Bool) → signed s 0ℚ ≡ 0ℚ
signed_zero true = by_rep ℚring [] (search read) (search read) tt
signed_zero false = refl

pub value_zero : (s : Bool) (e : ℤ) → value (fin s zero e) ≡ 0ℚ
unfolding value
value_zero s e = ap (signed s) (ap (λ (z : ℕ). z ÷ down e) (zero-mul (up e)) ∙ ÷_zero (down e)) ∙ signed_zero s

pub value-nonneg : (m : ℕ) (e : ℤ) → 0ℚ ≤ℚ value (fin false m e)
unfolding value
value-nonneg m e = ÷_nn (m * up e) (down e)

pub value_nonpos : (m : ℕ) (e : ℤ) → value (fin true m e) ≤ℚ 0ℚ
unfolding value
value_nonpos m e = le_by (nn_le (÷_nn (m * up e) (down e))) (by_rep ℚring (((m * up e) ÷ down e) ∷ []) (search read) (search read) tt)

pub value-above : (m : ℕ) (e : ℤ) → 0ℚ <ℚ value (fin false (suc m) e)
unfolding value
value-above m e = ÷_pos (suc m * up e) (down e) (mul-pos (zero-lt-suc m) (up_pos e)) (down_pos e)

pub value-under : (m : ℕ) (e : ℤ) → value (fin true (suc m) e) <ℚ 0ℚ
value-under m e = subst (λ (z : ℚ). value (fin true (suc m) e) <ℚ z) neg_0 (subst (λ (z : ℚ). z <ℚ -ℚ 0ℚ) (sym (turned m e)) (neg_lt (value-above m e)))
  where
    turned : (m : ℕ) (e : ℤ) → value (fin true (suc m) e) ≡ -ℚ value (fin false (suc m) e)
    turned m e = unfold neg in value-neg (fin false (suc m) e)

-- ---- ±x / c against ±y / d
module _ (x c y d : ℕ) (C : 0 < c) (D : 0 < d) where
  -- two numbers that are not negative, and whose sum is not positive, are zeros
  zeros : x ÷ c +ℚ y ÷ d ≤ℚ 0ℚ → x * d + y * c ≡ 0
  zeros h = ÷_none (x * d + y * c) (c * d) (mul-pos C D) (subst (λ (z : ℚ). z ≤ℚ 0ℚ) (÷_sum x y c d C D) h)

  nil-sum : x * d + y * c ≡ 0 → x ÷ c +ℚ y ÷ d ≡ 0ℚ
  nil-sum e = ÷_sum x y c d C D ∙ ap (λ (z : ℕ). z ÷ (c * d)) e ∙ ÷_zero (c * d)

  opposite : y ÷ d ≤ℚ -ℚ (x ÷ c) → x ÷ c +ℚ y ÷ d ≤ℚ 0ℚ
  opposite h = le_by (nn_of h) (by_rep ℚring ((x ÷ c) ∷ (y ÷ d) ∷ []) (search read depth 9) (search read depth 9) tt)

  lt→below : (s t : Bool) → T (below s (x * d) t (y * c)) → signed s (x ÷ c) <ℚ signed t (y ÷ d)
  lt→below false false h = ÷_lt x y c d C D (ltb→lt (x * d) (y * c) h)
  lt→below false true h = absurd h
  lt→below true false h = not_le→lt (λ k. some (zeros (opposite k)) (ltb→lt 0 (x * d + y * c) h))
    where
      some : x * d + y * c ≡ 0 → 0 < x * d + y * c → ⊥
      some e p = omega arith
  lt→below true true h = neg_lt (÷_lt y x d c D C (ltb→lt (y * c) (x * d) h))

  below→lt : (s t : Bool) → signed s (x ÷ c) <ℚ signed t (y ÷ d) → T (below s (x * d) t (y * c))
  below→lt false false h = lt→ltb (x * d) (y * c) (÷_lt⁻¹ x y c d C D h)
  below→lt false true h = absurd (lt→not_le h (le_trans (le_by (nn_le (÷_nn y d)) (by_rep ℚring ((y ÷ d) ∷ []) (search read) (search read) tt)) (÷_nn x c)))
  below→lt true false h = lt→ltb 0 (x * d + y * c) (some (x * d + y * c) (λ e. lt→not_le h (le_by nn_0 (by_eq ℚring (-ℚ 1ℚ) (nil-sum e) (by_rep ℚring ((x ÷ c) ∷ (y ÷ d) ∷ []) (search read depth 9) (search read depth 9) tt)))))
    where
      some : (n : ℕ) → (n ≡ 0 → ⊥) → 0 < n
      some zero h = absurd (h refl)
      some (suc n) h = omega arith
  below→lt true true h = lt→ltb (y * c) (x * d) (÷_lt⁻¹ y x d c D C (back h))
    where
      back : -ℚ (x ÷ c) <ℚ -ℚ (y ÷ d) → y ÷ d <ℚ x ÷ c
      back k = not_le→lt (λ l. lt→not_le k (neg-mono l))

  level→same : (s t : Bool) → T (level s (x * d) t (y * c)) → signed s (x ÷ c) ≡ signed t (y ÷ d)
  level→same s t h = go s t (eqb→eq (x * d) (y * c) (and_l (eqb (x * d) (y * c)) (beq s t || eqb (x * d) 0) h)) (and_r (eqb (x * d) (y * c)) (beq s t || eqb (x * d) 0) h)
    where
      apart : x * d ≡ y * c → T (eqb (x * d) 0) → x ÷ c +ℚ y ÷ d ≡ 0ℚ
      apart e u = nil-sum (both (eqb→eq (x * d) 0 u))
        where
          both : x * d ≡ 0 → x * d + y * c ≡ 0
          both z = omega arith

      go : (s t : Bool) → x * d ≡ y * c → T (beq s t || eqb (x * d) 0) → signed s (x ÷ c) ≡ signed t (y ÷ d)
      go false false e u = ÷_eq x y c d C D e
      go true true e u = ap (λ (z : ℚ). -ℚ z) (÷_eq x y c d C D e)
      go false true e u = by_eq ℚring 1ℚ (apart e u) (by_rep ℚring ((x ÷ c) ∷ (y ÷ d) ∷ []) (search read depth 9) (search read depth 9) tt)
      go true false e u = by_eq ℚring (-ℚ 1ℚ) (apart e u) (by_rep ℚring ((x ÷ c) ∷ (y ÷ d) ∷ []) (search read depth 9) (search read depth 9) tt)

  same→level : (s t : Bool) → signed s (x ÷ c) ≡ signed t (y ÷ d) → T (level s (x * d) t (y * c))
  same→level s t h = go s t h
    where
      alike : (b : Bool) → T b → x ÷ c ≡ y ÷ d → T (eqb (x * d) (y * c) && (b || eqb (x * d) 0))
      alike b B e = and_i (eqb (x * d) (y * c)) (b || eqb (x * d) 0) (same_eqb (x * d) (y * c) (cross (÷_le⁻¹ x y c d C D (le-eq e)) (÷_le⁻¹ y x d c D C (le-eq (sym e))))) (or_l b (eqb (x * d) 0) B)
        where
          cross : x * d ≤ y * c → y * c ≤ x * d → x * d ≡ y * c
          cross p q = omega arith

          le-eq : {a b : ℚ} → a ≡ b → a ≤ℚ b
          le-eq {a} e = subst (λ (z : ℚ). a ≤ℚ z) e (le_refl a)

      unlike : (b : Bool) → x * d + y * c ≡ 0 → T (eqb (x * d) (y * c) && (b || eqb (x * d) 0))
      unlike b e = and_i (eqb (x * d) (y * c)) (b || eqb (x * d) 0) (same_eqb (x * d) (y * c) (omega arith)) (or_r b (eqb (x * d) 0) (same_eqb (x * d) 0 (omega arith)))

      go : (s t : Bool) → signed s (x ÷ c) ≡ signed t (y ÷ d) → T (level s (x * d) t (y * c))
      go false false e = alike true tt e
      go true true e = alike true tt (by_eq ℚring (-ℚ 1ℚ) e (by_rep ℚring ((x ÷ c) ∷ (y ÷ d) ∷ []) (search read depth 9) (search read depth 9) tt))
      go false true e = unlike false (zeros (le_by nn_0 (by_eq ℚring (-ℚ 1ℚ) e (by_rep ℚring ((x ÷ c) ∷ (y ÷ d) ∷ []) (search read depth 9) (search read depth 9) tt))))
      go true false e = unlike false (zeros (le_by nn_0 (by_eq ℚring 1ℚ e (by_rep ℚring ((x ÷ c) ∷ (y ÷ d) ∷ []) (search read depth 9) (search read depth 9) tt))))

-- ---- finite doubles
module _ (s : Bool) (m : ℕ) (e : ℤ) (t : Bool) (n : ℕ) (d : ℤ) where
  pub lt→value : T (lt (fin s m e) (fin t n d)) → value (fin s m e) <ℚ value (fin t n d)
  unfolding lt value
  lt→value h = lt→below (m * up e) (down e) (n * up d) (down d) (down_pos e) (down_pos d) s t h

  pub value→lt : value (fin s m e) <ℚ value (fin t n d) → T (lt (fin s m e) (fin t n d))
  unfolding lt value
  value→lt h = below→lt (m * up e) (down e) (n * up d) (down d) (down_pos e) (down_pos d) s t h

  pub eq→value : T (eq (fin s m e) (fin t n d)) → value (fin s m e) ≡ value (fin t n d)
  unfolding eq value
  eq→value h = level→same (m * up e) (down e) (n * up d) (down d) (down_pos e) (down_pos d) s t h

  pub value→eq : value (fin s m e) ≡ value (fin t n d) → T (eq (fin s m e) (fin t n d))
  unfolding eq value
  value→eq h = same→level (m * up e) (down e) (n * up d) (down d) (down_pos e) (down_pos d) s t h

  pub le→value : T (le (fin s m e) (fin t n d)) → value (fin s m e) ≤ℚ value (fin t n d)
  unfolding le
  le→value h = elim (or_split (lt (fin s m e) (fin t n d)) (eq (fin s m e) (fin t n d)) h) [
    | inl k ↦ lt→le (lt→value k)
    | inr k ↦ subst (λ (z : ℚ). value (fin s m e) ≤ℚ z) (eq→value k) (le_refl (value (fin s m e)))
  ]

  pub value→le : value (fin s m e) ≤ℚ value (fin t n d) → T (le (fin s m e) (fin t n d))
  unfolding le
  value→le h = elim (le_or_lt (value (fin t n d)) (value (fin s m e))) [
    | inl k ↦ or_r (lt (fin s m e) (fin t n d)) (eq (fin s m e) (fin t n d)) (value→eq (le_antisym h k))
    | inr k ↦ or_l (lt (fin s m e) (fin t n d)) (eq (fin s m e) (fin t n d)) (value→lt k)
  ]
