-- The widened reciprocal of an interval that does not reach zero holds the reciprocal of every number in it. Above zero by the order of reciprocals; below zero by the mirror image.
-- Assumes nothing.
use mathlib.Core.Path.{◌≡◌, refl, sym, ap, ◌∙◌, subst}
use mathlib.Core.List.{[], ◌∷◌}
use mathlib.Core.Logic.{◌⊎◌, inl, inr}
use mathlib.Core.Bool.{Bool, true, false, not, ◌&&◌, cond}
use Prim.Native.Nat.{ℕ, zero, suc, ◌*◌}
use lib.IntN.{ℤ, pos}
use lib.Dec.{T, eqb}
use lib.Ieee.{Float, nan, inf, fin, binary64, up, down, round, div, neg, lt, le, fits}
use lib.Ieee.Fits.{div-fits}
use Rattle.solver.proofs.Ring.{by_rep, by_eq, read}
use Rattle.exact.specs.Rational.{ℚ, ◌*ℚ◌, -ℚ◌, 0ℚ, 1ℚ, invℚ, ◌≤ℚ◌, ◌<ℚ◌, lt→not_le}
use Rattle.exact.proofs.Field.{ℚring, nn_inv, *ℚ_comm, *ℚ_1}
use Rattle.exact.proofs.Order.{le_nn, nn_le, le_refl, le_trans as ≤_trans, lt→le, le_or_lt, lt_le_trans, neg-neg, neg_0, neg_lt, 0<1, pos-inv, inv-anti}
use Rattle.exact.proofs.Embed.{÷_one, signed-inv}
use Rattle.math.specs.Neighbours.{next_up, next_down}
use Rattle.math.specs.Values.{value, Below, Above, Holds}
use Rattle.math.specs.Scalars.{zero_f, one_f, has_zero, inverse_s}
use Rattle.math.specs.declared.scalars.Scalar.{Scalar}
use Rattle.math.proofs.Doubles.Values.{value_zero, value-nonneg, value_nonpos, value→lt, value→le}
use Rattle.math.proofs.Doubles.Order.{below-neg, above-neg, le_trans, neg_le}
use Rattle.math.proofs.Doubles.Mirror.{neg-neg as neg-neg-f}
use Rattle.math.proofs.Doubles.Rounding.{Lows, Highs, lows-mono, highs_mono, lows_own, lows-neg, highs_neg, lows-down, highs_up, down-neg, nonneg, round-nonneg}
use Rattle.math.proofs.Doubles.Operations.{div_is, div-rounds}
use Rattle.math.proofs.Doubles.NextLeast.{next_down-greatest}
use Rattle.math.proofs.Intervals.Corners.{round-not}
use Rattle.math.proofs.Intervals.Strict.{Strict}

-- ---- a bound that is not at most zero
no_zero : (s : Bool) (m : ℕ) (e : ℤ) → (T (le (fin s m e) zero_f) → ⊥) → 0ℚ <ℚ value (fin s m e)
no_zero s m e n = elim (le_or_lt (value (fin s m e)) 0ℚ) [
  | inl h ↦ absurd (n (value→le s m e false zero (pos 0) (subst (λ (z : ℚ). value (fin s m e) ≤ℚ z) (sym (value_zero false (pos 0))) h)))
  | inr h ↦ h
]

pub above_zero : (lo : Float) (q : ℚ) → Below lo q → (T (le lo zero_f) → ⊥) → 0ℚ <ℚ q
above_zero nan q b n = absurd b
above_zero (inf true) q b n = absurd (n (unfold le in tt))
above_zero (inf false) q b n = absurd b
above_zero (fin s m e) q b n = lt_le_trans (no_zero s m e n) b

one_is : value one_f ≡ 1ℚ
unfolding value
one_is = ÷_one

one_times : (x : ℚ) → value one_f *ℚ x ≡ x
one_times x = ap (λ (z : ℚ). z *ℚ x) one_is ∙ *ℚ_comm 1ℚ x ∙ *ℚ_1 x

-- ---- above zero
module _ (q : ℚ) (P : 0ℚ <ℚ q) where
  pos-lows : (hi : Float) → Above hi q → Lows (div binary64 one_f hi) (invℚ q)
  pos-lows nan h = absurd h
  pos-lows (inf true) h = absurd h
  pos-lows (inf false) h = unfold div in lows-mono (fin false 0 (pos 0)) (value (fin false 0 (pos 0))) (invℚ q) (subst (λ (z : ℚ). z ≤ℚ invℚ q) (sym (value_zero false (pos 0))) (le_nn (nn_inv q (nn_le (lt→le P))))) (lows_own false 0 (pos 0))
  pos-lows (fin s zero e) h = absurd (lt→not_le P (subst (λ (z : ℚ). q ≤ℚ z) (value_zero s e) h))
  pos-lows (fin true (suc n) e) h = absurd (lt→not_le P (≤_trans h (value_nonpos (suc n) e)))
  pos-lows (fin false (suc n) e) h = lows-mono _ _ (invℚ q) (subst (λ (z : ℚ). z ≤ℚ invℚ q) (sym (one_times (invℚ (value (fin false (suc n) e))))) (inv-anti q (value (fin false (suc n) e)) P h)) (div-rounds false 1 (pos 0) false n e).lows

  pos_highs : (lo : Float) → Below lo q → (T (le lo zero_f) → ⊥) → Highs (div binary64 one_f lo) (invℚ q)
  pos_highs nan b n = absurd b
  pos_highs (inf true) b n = absurd (n (unfold le in tt))
  pos_highs (inf false) b n = absurd b
  pos_highs (fin s zero e) b n = absurd (lt→not_le (no_zero s zero e n) (subst (λ (z : ℚ). z ≤ℚ 0ℚ) (sym (value_zero s e)) (le_refl 0ℚ)))
  pos_highs (fin true (suc m) e) b n = absurd (lt→not_le (no_zero true (suc m) e n) (value_nonpos (suc m) e))
  pos_highs (fin false (suc m) e) b n = highs_mono _ _ (invℚ q) (subst (λ (z : ℚ). invℚ q ≤ℚ z) (sym (one_times (invℚ (value (fin false (suc m) e))))) (inv-anti (value (fin false (suc m) e)) q (no_zero false (suc m) e n) b)) (div-rounds false 1 (pos 0) false m e).highs

-- ---- the mirror image
div-ends : (b c : Bool) (s : Bool) (v w : Float) → v ≡ neg w → cond b (cond c nan (inf (not s))) v ≡ neg (cond b (cond c nan (inf s)) w)
unfolding neg
div-ends true true s v w h = refl
div-ends true false s v w h = refl
div-ends false c s v w h = h

div-neg : (x : Float) → div binary64 one_f (neg x) ≡ neg (div binary64 one_f x)
unfolding div neg
div-neg nan = refl
div-neg (inf true) = refl
div-neg (inf false) = refl
div-neg (fin true n d) = div-ends (eqb n 0) (eqb 1 0) true (round binary64 false (1 * 1 * down d) (n * up d * 1)) (round binary64 true (1 * 1 * down d) (n * up d * 1)) (round-not (1 * 1 * down d) (n * up d * 1) true)
div-neg (fin false n d) = div-ends (eqb n 0) (eqb 1 0) false (round binary64 true (1 * 1 * down d) (n * up d * 1)) (round binary64 false (1 * 1 * down d) (n * up d * 1)) (round-not (1 * 1 * down d) (n * up d * 1) false)

module _ (q : ℚ) (P : 0ℚ <ℚ -ℚ q) where
  inv-neg : -ℚ invℚ (-ℚ q) ≡ invℚ q
  inv-neg = sym (ap invℚ (sym (neg-neg q)) ∙ signed-inv true (-ℚ q) (invℚ (-ℚ q)) (pos-inv (-ℚ q) P))

  back : (x : Float) → neg (div binary64 one_f (neg x)) ≡ div binary64 one_f x
  back x = ap neg (div-neg x) ∙ neg-neg-f (div binary64 one_f x)

  neg-lows : (hi : Float) → Above hi q → (T (le zero_f hi) → ⊥) → Lows (div binary64 one_f hi) (invℚ q)
  neg-lows hi h n =
      subst (λ (r : Float). Lows r (invℚ q)) (back hi) (subst (λ (z : ℚ). Lows (neg (div binary64 one_f (neg hi))) z) inv-neg
      (highs_neg (div binary64 one_f (neg hi)) (invℚ (-ℚ q)) (pos_highs (-ℚ q) P (neg hi) (above-neg hi q h) (λ t. n (le_trans zero_f (neg zero_f) hi (unfold le neg in tt) (subst (λ (z : Float). T (le (neg zero_f) z)) (neg-neg-f hi) (neg_le (neg hi) zero_f t)))))))

  neg_highs : (lo : Float) → Below lo q → Highs (div binary64 one_f lo) (invℚ q)
  neg_highs lo b =
      subst (λ (r : Float). Highs r (invℚ q)) (back lo) (subst (λ (z : ℚ). Highs (neg (div binary64 one_f (neg lo))) z) inv-neg
      (lows-neg (div binary64 one_f (neg lo)) (invℚ (-ℚ q)) (pos-lows (-ℚ q) P (neg lo) (below-neg lo q b))))

below_zero : (hi : Float) (q : ℚ) → Above hi q → (T (le zero_f hi) → ⊥) → 0ℚ <ℚ -ℚ q
below_zero hi q h n = above_zero (neg hi) (-ℚ q) (above-neg hi q h) (λ t. n (le_trans zero_f (neg zero_f) hi (unfold le neg in tt) (subst (λ (z : Float). T (le (neg zero_f) z)) (neg-neg-f hi) (neg_le (neg hi) zero_f t))))

-- ---- both
split_zero : (x : Scalar) → has_zero x ≡ false → (T (le x.lo zero_f) → ⊥) ⊎ (T (le zero_f x.hi) → ⊥)
split_zero x e = go (le x.lo zero_f) (le zero_f x.hi) e
  where
    go : (a b : Bool) → (a && b) ≡ false → (T a → ⊥) ⊎ (T b → ⊥)
    go false b h = inl (λ t. t)
    go true b h = inr (λ t. subst T h t)

-- q itself is then not zero
pub not_zero : (x : Scalar) (q : ℚ) → Holds x q → has_zero x ≡ false → q *ℚ invℚ q ≡ 1ℚ
not_zero x q h e = elim (split_zero x e) [
  | inl n ↦ pos-inv q (above_zero x.lo q h.low n)
  | inr n ↦ turned q (below_zero x.hi q h.high n)
]
  where
    turned : (q : ℚ) → 0ℚ <ℚ -ℚ q → q *ℚ invℚ q ≡ 1ℚ
    turned q P = ap (λ (z : ℚ). q *ℚ z) (sym (inv-neg q P)) ∙ eq q (invℚ (-ℚ q)) (pos-inv (-ℚ q) P)
      where
        eq : (q i : ℚ) → -ℚ q *ℚ i ≡ 1ℚ → q *ℚ -ℚ i ≡ 1ℚ
        eq q i e = by_eq ℚring 1ℚ e (by_rep ℚring (q ∷ i ∷ []) (search read) (search read) tt)

pub inverse-strict : (x : Scalar) (q : ℚ) → Holds x q → has_zero x ≡ false → Strict (inverse_s x) (invℚ q)
unfolding inverse_s
inverse-strict x q h e = elim (split_zero x e) [
  | inl n ↦
      let P = above_zero x.lo q h.low n in
      made (pos-lows q P x.hi h.high) (pos_highs q P x.lo h.low n)
  | inr n ↦
      let P = below_zero x.hi q h.high n in
      made (neg-lows q P x.hi h.high n) (neg_highs q P x.lo h.low)
]
  where
    made : Lows (div binary64 one_f x.hi) (invℚ q) → Highs (div binary64 one_f x.lo) (invℚ q) → Strict (record { lo = next_down (div binary64 one_f x.hi); hi = next_up (div binary64 one_f x.lo) }) (invℚ q)
    made l g = record { low = lows-down (div binary64 one_f x.hi) (invℚ q) (div-fits binary64 one_f x.hi) l; high = highs_up (div binary64 one_f x.lo) (invℚ q) (div-fits binary64 one_f x.lo) g }

-- ---- a reciprocal is never the whole line: above zero its lower bound is at least -1, and below zero its upper bound at most 1
abbrev pub minus_one : Float
minus_one = fin true 1 (pos 0)

nonneg-above : (r : Float) → T (nonneg r) → T (lt minus_one r)
nonneg-above nan n = absurd n
nonneg-above (inf true) n = absurd n
nonneg-above (inf false) n = unfold lt in tt
nonneg-above (fin true m e) n = absurd n
nonneg-above (fin false m e) n = value→lt true 1 (pos 0) false m e (lt_le_trans negative (value-nonneg m e))
  where
    negative : value minus_one <ℚ 0ℚ
    negative = subst (λ (z : ℚ). z <ℚ 0ℚ) (sym minus_is) (subst (λ (z : ℚ). -ℚ 1ℚ <ℚ z) neg_0 (neg_lt 0<1))
      where
        minus_is : value minus_one ≡ -ℚ 1ℚ
        minus_is = unfold value in ap (λ (z : ℚ). -ℚ z) ÷_one

nonneg-inverse : (hi : Float) (q : ℚ) → 0ℚ <ℚ q → Above hi q → T (nonneg (div binary64 one_f hi))
nonneg-inverse nan q P h = absurd h
nonneg-inverse (inf true) q P h = absurd h
nonneg-inverse (inf false) q P h = unfold div in tt
nonneg-inverse (fin s zero e) q P h = absurd (lt→not_le P (subst (λ (z : ℚ). q ≤ℚ z) (value_zero s e) h))
nonneg-inverse (fin true (suc n) e) q P h = absurd (lt→not_le P (≤_trans h (value_nonpos (suc n) e)))
nonneg-inverse (fin false (suc n) e) q P h = subst (λ (r : Float). T (nonneg r)) (sym (div_is false 1 (pos 0) false n e)) (round-nonneg binary64 (1 * 1 * down e) (suc n * up e * 1))

pub low_inverse : (hi : Float) (q : ℚ) → 0ℚ <ℚ q → Above hi q → T (le minus_one (next_down (div binary64 one_f hi)))
low_inverse hi q P h = next_down-greatest (div binary64 one_f hi) (div-fits binary64 one_f hi) minus_one (unfold fits in tt) (nonneg-above (div binary64 one_f hi) (nonneg-inverse hi q P h))

no_low : (x : Float) → T (le minus_one x) → x ≡ inf true → ⊥
no_low x h e = none (subst (λ (z : Float). T (le minus_one z)) e h)
  where
    none : T (le minus_one (inf true)) → ⊥
    none t = unfold le in t

pub inverse-bounded : (x : Scalar) (q : ℚ) → Holds x q → has_zero x ≡ false → (inverse_s x).lo ≡ inf true → (inverse_s x).hi ≡ inf false → ⊥
unfolding inverse_s
inverse-bounded x q h e l g = elim (split_zero x e) [
  | inl n ↦ no_low (next_down (div binary64 one_f x.hi)) (low_inverse x.hi q (above_zero x.lo q h.low n) h.high) l
  | inr n ↦ no_low (next_down (div binary64 one_f (neg x.lo))) (low_inverse (neg x.lo) (-ℚ q) (below_zero x.hi q h.high n) (below-neg x.lo q h.low)) (turned g)
]
  where
    turned : next_up (div binary64 one_f x.lo) ≡ inf false → next_down (div binary64 one_f (neg x.lo)) ≡ inf true
    turned p = ap next_down (div-neg x.lo) ∙ sym (neg-neg-f (next_down (neg (div binary64 one_f x.lo)))) ∙ ap neg (down-neg (div binary64 one_f x.lo) ∙ p) ∙ flip
      where
        flip : neg (inf false) ≡ inf true
        flip = unfold neg in refl
