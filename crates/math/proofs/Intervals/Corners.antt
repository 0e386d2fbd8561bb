-- Of the four products of two intervals' bounds some one bounds x y from below, for every x in the one and y in the other, unless one interval is the whole line and the
-- other is zero. Which one goes by the signs, and where a bound is infinite by IEEE's products. The case y < 0 is the mirror image of 0 ≤ y. Assumes nothing.
use mathlib.Core.Path.{◌≡◌, refl, sym, ap, ◌∙◌, subst}
use mathlib.Core.List.{[], ◌∷◌}
use mathlib.Core.Logic.{◌⊎◌, inl, inr}
use mathlib.Core.Bool.{Bool, true, false, not, cond}
use Prim.Native.Nat.{ℕ, zero, suc, ◌*◌}
use lib.IntN.{ℤ, pos}
use lib.Dec.{T, eqb, eqb-suc-zero}
use lib.Ieee.{Float, nan, inf, fin, binary64, up, down, round, unlike, mul, neg, eq}
use Rattle.solver.proofs.Ring.{by_rep, by_eq, read}
use Rattle.exact.specs.Rational.{ℚ, ◌+ℚ◌, ◌*ℚ◌, -ℚ◌, ◌-ℚ◌, 0ℚ, 1ℚ, ◌≤ℚ◌, ◌<ℚ◌, lt→not_le}
use Rattle.exact.proofs.Field.{ℚring, nn_mul}
use Rattle.exact.proofs.Order.{le_by, le_nn, nn_le, le_refl, le_trans, le_antisym, le_or_lt, lt→le, neg_0, neg_lt, cone}
use Rattle.math.specs.Values.{value, Below, Above}
use Rattle.math.specs.Scalars.{zero_f}
use Rattle.math.proofs.Doubles.Values.{value-above, value-under, value_zero, value-neg, value-nonneg, value_nonpos, eq→value, value→eq}
use Rattle.math.proofs.Doubles.Order.{below-neg, above-neg}
use Rattle.math.proofs.Doubles.Mirror.{neg-neg as neg-neg-f}
use Rattle.math.proofs.Doubles.Rounded.{neg-round}
use Rattle.math.proofs.Doubles.Rounding.{Lows, lows-mono, lows-inf}
use Rattle.math.proofs.Doubles.Operations.{mul-rounds}

-- ---- products of numbers
module _ (A D x y : ℚ) where
  -- A ≤ 0, A ≤ x and 0 ≤ y ≤ D; 0 ≤ A ≤ x and D ≤ y, 0 ≤ y
  by_high : A ≤ℚ 0ℚ → A ≤ℚ x → y ≤ℚ D → 0ℚ ≤ℚ y → A *ℚ D ≤ℚ x *ℚ y
  by_high n h k p = le_by {z = (x -ℚ A) *ℚ (y -ℚ 0ℚ) +ℚ (0ℚ -ℚ A) *ℚ (D -ℚ y)} (search cone depth 9) (by_rep ℚring (A ∷ D ∷ x ∷ y ∷ []) (search read depth 9) (search read depth 9) tt)

  by_low : 0ℚ ≤ℚ A → A ≤ℚ x → D ≤ℚ y → 0ℚ ≤ℚ y → A *ℚ D ≤ℚ x *ℚ y
  by_low n h k p = le_by {z = (x -ℚ A) *ℚ (y -ℚ 0ℚ) +ℚ (A -ℚ 0ℚ) *ℚ (y -ℚ D)} (search cone depth 9) (by_rep ℚring (A ∷ D ∷ x ∷ y ∷ []) (search read depth 9) (search read depth 9) tt)

nil_l : (A D v : ℚ) → A ≡ 0ℚ → 0ℚ ≤ℚ v → A *ℚ D ≤ℚ v
nil_l A D v e h = subst (λ (z : ℚ). z ≤ℚ v) (sym (by_eq ℚring D e (by_rep ℚring (A ∷ D ∷ []) (search read) (search read) tt))) h

nil_r : (A D v : ℚ) → D ≡ 0ℚ → 0ℚ ≤ℚ v → A *ℚ D ≤ℚ v
nil_r A D v e h = subst (λ (z : ℚ). z ≤ℚ v) (sym (by_eq ℚring A e (by_rep ℚring (A ∷ D ∷ []) (search read) (search read) tt))) h

pos-pos : (x y : ℚ) → 0ℚ ≤ℚ x → 0ℚ ≤ℚ y → 0ℚ ≤ℚ x *ℚ y
pos-pos x y h k = le_nn (nn_mul x y (nn_le h) (nn_le k))

-- a zero of either sign
pub zero_eq : (s : Bool) (e : ℤ) → T (eq (fin s zero e) zero_f)
zero_eq s e = value→eq s zero e false zero (pos 0) (value_zero s e ∙ sym (value_zero false (pos 0)))

-- ---- the products that are the negative infinity
pos-inf : (n : ℕ) (d : ℤ) → mul binary64 (fin false (suc n) d) (inf true) ≡ inf true
unfolding mul
pos-inf n d = ap (λ (b : Bool). cond b nan (inf true)) (eqb-suc-zero n)

neg-inf : (n : ℕ) (d : ℤ) → mul binary64 (fin true (suc n) d) (inf false) ≡ inf true
unfolding mul
neg-inf n d = ap (λ (b : Bool). cond b nan (inf true)) (eqb-suc-zero n)

inf-pos : (n : ℕ) (d : ℤ) → mul binary64 (inf true) (fin false (suc n) d) ≡ inf true
unfolding mul
inf-pos n d = ap (λ (b : Bool). cond b nan (inf true)) (eqb-suc-zero n)

inf-neg : (n : ℕ) (d : ℤ) → mul binary64 (inf false) (fin true (suc n) d) ≡ inf true
unfolding mul
inf-neg n d = ap (λ (b : Bool). cond b nan (inf true)) (eqb-suc-zero n)

inf-inf : (s : Bool) → mul binary64 (inf s) (inf (not s)) ≡ inf true
unfolding mul
inf-inf true = refl
inf-inf false = refl

-- ---- the corners
abbrev pub Corner : Float → Float → Float → Float → ℚ → Type 0
Corner a b c d v = (Lows (mul binary64 a c) v ⊎ Lows (mul binary64 a d) v) ⊎ (Lows (mul binary64 b c) v ⊎ Lows (mul binary64 b d) v)

-- not the whole line times zero
pub record Clear (a b c d : Float) : Type 0 where
  pub first : a ≡ inf true → b ≡ inf false → T (eq c zero_f) → T (eq d zero_f) → ⊥
  pub second : T (eq a zero_f) → T (eq b zero_f) → c ≡ inf true → d ≡ inf false → ⊥

lows_fin : (s : Bool) (m : ℕ) (e : ℤ) (t : Bool) (n : ℕ) (d : ℤ) (v : ℚ) → value (fin s m e) *ℚ value (fin t n d) ≤ℚ v → Lows (mul binary64 (fin s m e) (fin t n d)) v
lows_fin s m e t n d v h = lows-mono (mul binary64 (fin s m e) (fin t n d)) (value (fin s m e) *ℚ value (fin t n d)) v h (mul-rounds s m e t n d).lows

module _ (x y : ℚ) (P : 0ℚ ≤ℚ y) where
  abbrev v : ℚ
  v = x *ℚ y

  -- the lower bound is negative, positive, a zero, or infinite
  from-negative : (m : ℕ) (e : ℤ) (b c d : Float) → value (fin true (suc m) e) ≤ℚ x → Above d y → Corner (fin true (suc m) e) b c d v
  from-negative m e b c nan h k = absurd k
  from-negative m e b c (inf true) h k = absurd k
  from-negative m e b c (inf false) h k = inl (inr (lows-inf _ v (neg-inf m e)))
  from-negative m e b c (fin t n g) h k = inl (inr (lows_fin true (suc m) e t n g v (by_high _ _ x y (value_nonpos (suc m) e) h k P)))

  from-positive : (m : ℕ) (e : ℤ) (b c d : Float) → value (fin false (suc m) e) ≤ℚ x → Below c y → Corner (fin false (suc m) e) b c d v
  from-positive m e b nan d h k = absurd k
  from-positive m e b (inf false) d h k = absurd k
  from-positive m e b (inf true) d h k = inl (inl (lows-inf _ v (pos-inf m e)))
  from-positive m e b (fin t n g) d h k = inl (inl (lows_fin false (suc m) e t n g v (by_low _ _ x y (value-nonneg (suc m) e) h k P)))

  from_zero : (s : Bool) (e : ℤ) (b c d : Float) → value (fin s zero e) ≤ℚ x → Above b x → Below c y → Above d y → Clear (fin s zero e) b c d → Corner (fin s zero e) b c d v
  from_zero s e b nan d h B C D u = absurd C
  from_zero s e b (inf false) d h B C D u = absurd C
  from_zero s e b (fin t n g) d h B C D u = inl (inl (lows_fin s zero e t n g v (nil_l _ _ v (value_zero s e) (pos-pos x y (subst (λ (z : ℚ). z ≤ℚ x) (value_zero s e) h) P))))
  from_zero s e b (inf true) nan h B C D u = absurd D
  from_zero s e b (inf true) (inf true) h B C D u = absurd D
  from_zero s e b (inf true) (fin t n g) h B C D u = inl (inr (lows_fin s zero e t n g v (nil_l _ _ v (value_zero s e) (pos-pos x y (subst (λ (z : ℚ). z ≤ℚ x) (value_zero s e) h) P))))
  from_zero s e nan (inf true) (inf false) h B C D u = absurd B
  from_zero s e (inf true) (inf true) (inf false) h B C D u = absurd B
  from_zero s e (inf false) (inf true) (inf false) h B C D u = inr (inl (lows-inf _ v (inf-inf false)))
  from_zero s e (fin t zero g) (inf true) (inf false) h B C D u = absurd (u.second (zero_eq s e) (zero_eq t g) refl refl)
  from_zero s e (fin false (suc n) g) (inf true) (inf false) h B C D u = inr (inl (lows-inf _ v (pos-inf n g)))
  from_zero s e (fin true (suc n) g) (inf true) (inf false) h B C D u = inr (inr (lows-inf _ v (neg-inf n g)))

  -- y is zero
  at_zero : (b c : Float) (t : Bool) (g : ℤ) → Above b x → Below c y → y ≤ℚ value (fin t zero g) → Clear (inf true) b c (fin t zero g) → Corner (inf true) b c (fin t zero g) v
  at_zero b c t g B C D u = go b c B C u
    where
      none : y ≤ℚ 0ℚ
      none = subst (λ (z : ℚ). y ≤ℚ z) (value_zero t g) D

      nothing : 0ℚ ≤ℚ v
      nothing = subst (λ (z : ℚ). 0ℚ ≤ℚ z) (sym (by_eq ℚring x (le_antisym none P) (by_rep ℚring (x ∷ y ∷ []) (search read) (search read) tt))) (le_refl 0ℚ)

      go : (b c : Float) → Above b x → Below c y → Clear (inf true) b c (fin t zero g) → Corner (inf true) b c (fin t zero g) v
      go nan c B C u = absurd B
      go (inf true) c B C u = absurd B
      go (fin s m e) c B C u = inr (inr (lows_fin s m e t zero g v (nil_r _ _ v (value_zero t g) nothing)))
      go (inf false) nan B C u = absurd C
      go (inf false) (inf false) B C u = absurd C
      go (inf false) (inf true) B C u = inr (inl (lows-inf _ v (inf-inf false)))
      go (inf false) (fin true (suc n) k) B C u = inr (inl (lows-inf _ v (inf-neg n k)))
      go (inf false) (fin false (suc n) k) B C u = absurd (lt→not_le (value-above n k) (le_trans C none))
      go (inf false) (fin r zero k) B C u = absurd (u.first refl refl (zero_eq r k) (zero_eq t g))

  from-inf : (b c d : Float) → Above b x → Below c y → Above d y → Clear (inf true) b c d → Corner (inf true) b c d v
  from-inf b c nan B C D u = absurd D
  from-inf b c (inf true) B C D u = absurd D
  from-inf b c (inf false) B C D u = inl (inr (lows-inf _ v (inf-inf true)))
  from-inf b c (fin false (suc n) g) B C D u = inl (inr (lows-inf _ v (inf-pos n g)))
  from-inf b c (fin true (suc n) g) B C D u = absurd (lt→not_le (value-under n g) (le_trans P D))
  from-inf b c (fin t zero g) B C D u = at_zero b c t g B C D u

  corner_up : (a b c d : Float) → Below a x → Above b x → Below c y → Above d y → Clear a b c d → Corner a b c d v
  corner_up nan b c d A B C D u = absurd A
  corner_up (inf false) b c d A B C D u = absurd A
  corner_up (inf true) b c d A B C D u = from-inf b c d B C D u
  corner_up (fin true (suc m) e) b c d A B C D u = from-negative m e b c d A D
  corner_up (fin false (suc m) e) b c d A B C D u = from-positive m e b c d A C
  corner_up (fin s zero e) b c d A B C D u = from_zero s e b c d A B C D u

-- ---- the mirror images
unlike-not : (s t : Bool) → unlike (not s) t ≡ not (unlike s t)
unlike-not true true = refl
unlike-not true false = refl
unlike-not false true = refl
unlike-not false false = refl

unlike-both : (s t : Bool) → unlike (not s) (not t) ≡ unlike s t
unlike-both true true = refl
unlike-both true false = refl
unlike-both false true = refl
unlike-both false false = refl

pub round-not : (a c : ℕ) (s : Bool) → round binary64 (not s) a c ≡ neg (round binary64 s a c)
round-not a c false = neg-round binary64 a c
round-not a c true = sym (ap neg (neg-round binary64 a c) ∙ neg-neg-f (round binary64 false a c))

neg-cond : (t : Bool) (s : Bool) → cond t nan (inf (not s)) ≡ neg (cond t nan (inf s))
unfolding neg
neg-cond true s = refl
neg-cond false s = refl

pub mul-neg : (x y : Float) → mul binary64 (neg x) y ≡ neg (mul binary64 x y)
unfolding mul neg
mul-neg nan y = refl
mul-neg (inf s) nan = refl
mul-neg (inf s) (inf t) = ap (λ (b : Bool). inf b) (unlike-not s t)
mul-neg (inf s) (fin t n d) = ap (λ (b : Bool). cond (eqb n 0) nan (inf b)) (unlike-not s t) ∙ neg-cond (eqb n 0) (unlike s t)
mul-neg (fin s m e) nan = refl
mul-neg (fin s m e) (inf t) = ap (λ (b : Bool). cond (eqb m 0) nan (inf b)) (unlike-not s t) ∙ neg-cond (eqb m 0) (unlike s t)
mul-neg (fin s m e) (fin t n d) = ap (λ (b : Bool). round binary64 b (m * up e * (n * up d)) (down e * down d)) (unlike-not s t) ∙ round-not (m * up e * (n * up d)) (down e * down d) (unlike s t)

mul-both : (x y : Float) → mul binary64 (neg x) (neg y) ≡ mul binary64 x y
unfolding mul neg
mul-both nan y = refl
mul-both (inf s) nan = refl
mul-both (inf s) (inf t) = ap (λ (b : Bool). inf b) (unlike-both s t)
mul-both (inf s) (fin t n d) = ap (λ (b : Bool). cond (eqb n 0) nan (inf b)) (unlike-both s t)
mul-both (fin s m e) nan = refl
mul-both (fin s m e) (inf t) = ap (λ (b : Bool). cond (eqb m 0) nan (inf b)) (unlike-both s t)
mul-both (fin s m e) (fin t n d) = ap (λ (b : Bool). round binary64 b (m * up e * (n * up d)) (down e * down d)) (unlike-both s t)

pub mul-neg_right : (x y : Float) → mul binary64 x (neg y) ≡ neg (mul binary64 x y)
mul-neg_right x y = sym (mul-both x (neg y)) ∙ ap (mul binary64 (neg x)) (neg-neg-f y) ∙ mul-neg x y

zero_neg : (x : Float) → T (eq (neg x) zero_f) → T (eq x zero_f)
unfolding neg
zero_neg nan h = h
zero_neg (inf s) h = unfold eq in absurd h
zero_neg (fin s m e) h = value→eq s m e false zero (pos 0) (flipped (value (fin s m e)) (sym (value-neg (fin s m e)) ∙ eq→value (not s) m e false zero (pos 0) h ∙ value_zero false (pos 0)) ∙ sym (value_zero false (pos 0)))
  where
    flipped : (v : ℚ) → -ℚ v ≡ 0ℚ → v ≡ 0ℚ
    flipped v e = by_eq ℚring (-ℚ 1ℚ) e (by_rep ℚring (v ∷ []) (search read) (search read) tt)

inf-neg_is : (x : Float) (s : Bool) → neg x ≡ inf s → x ≡ inf (not s)
inf-neg_is x s h = sym (neg-neg-f x) ∙ ap neg h ∙ turned s
  where
    turned : (s : Bool) → neg (inf s) ≡ inf (not s)
    turned s = unfold neg in refl

pub clear-neg : (a b c d : Float) → Clear a b c d → Clear (neg b) (neg a) c d
clear-neg a b c d u = record {
  first = λ p q z w. u.first (inf-neg_is a false q) (inf-neg_is b true p) z w;
  second = λ z w p q. u.second (zero_neg a w) (zero_neg b z) p q;
}

clear_both : (a b c d : Float) → Clear a b c d → Clear (neg b) (neg a) (neg d) (neg c)
clear_both a b c d u = record {
  first = λ p q z w. u.first (inf-neg_is a false q) (inf-neg_is b true p) (zero_neg c w) (zero_neg d z);
  second = λ z w p q. u.second (zero_neg a w) (zero_neg b z) (inf-neg_is c false q) (inf-neg_is d true p);
}

-- THE LAW of the corners
module _ (x y : ℚ) (a b c d : Float) (A : Below a x) (B : Above b x) (C : Below c y) (D : Above d y) (u : Clear a b c d) where
  moved : (z w : Float) → Lows (mul binary64 (neg z) (neg w)) (-ℚ x *ℚ -ℚ y) → Lows (mul binary64 z w) (x *ℚ y)
  moved z w l = subst (λ (r : Float). Lows r (x *ℚ y)) (mul-both z w) (subst (λ (v : ℚ). Lows (mul binary64 (neg z) (neg w)) v) (by_rep ℚring (x ∷ y ∷ []) (search read) (search read) tt) l)

  turn : Corner (neg b) (neg a) (neg d) (neg c) (-ℚ x *ℚ -ℚ y) → Corner a b c d (x *ℚ y)
  turn (inl (inl l)) = inr (inr (moved b d l))
  turn (inl (inr l)) = inr (inl (moved b c l))
  turn (inr (inl l)) = inl (inr (moved a d l))
  turn (inr (inr l)) = inl (inl (moved a c l))

  pub corner : Corner a b c d (x *ℚ y)
  corner = elim (le_or_lt 0ℚ y) [
    | inl h ↦ corner_up x y h a b c d A B C D u
    | inr h ↦ turn (corner_up (-ℚ x) (-ℚ y) (lt→le (subst (λ (z : ℚ). z <ℚ -ℚ y) neg_0 (neg_lt h))) (neg b) (neg a) (neg d) (neg c) (above-neg b x B) (below-neg a x A) (above-neg d y D) (below-neg c y C) (clear_both a b c d u))
  ]
