-- A product with a finite double above zero keeps the order of the other factor, infinities included, and is a number where that is one. Below zero it is the mirror image. Assumes nothing.
use mathlib.Core.Path.{◌≡◌, refl, sym, ap, ◌∙◌, subst}
use mathlib.Core.Logic.{inl, inr}
use mathlib.Core.Bool.{Bool, true, false, cond}
use Prim.Native.Nat.{ℕ, zero, suc}
use native.Mathlib.Nat.{zero-lt-suc}
use lib.IntN.{ℤ, pos}
use lib.Dec.{T, lt→ltb, eqb-suc-zero}
use lib.Ieee.{Float, nan, inf, fin, binary64, mul, neg, lt, le, fits, is_nan}
use lib.Ieee.Positive.{positive, mul_mono}
use Rattle.exact.specs.Rational.{ℚ, ◌*ℚ◌, ◌≤ℚ◌, ◌<ℚ◌, lt→not_le}
use Rattle.exact.proofs.Field.{nn_mul}
use Rattle.exact.proofs.Order.{le_refl, le_nn, nn_le}
use Rattle.math.specs.Scalars.{zero_f}
use Rattle.math.specs.Values.{value}
use Rattle.math.proofs.Bools.{decide}
use Rattle.math.proofs.Doubles.Values.{value_zero, value-nonneg, value_nonpos, lt→value, le→value, value→le}
use Rattle.math.proofs.Doubles.Order.{number, le_number_l, le_number_r, le_self, le_trans, lt→le_f, lt_le, le_lt, total-order, neg_le}
use Rattle.math.proofs.Doubles.Mirror.{neg-neg, neg_lt}
use Rattle.math.proofs.Doubles.Rounding.{rounds_ge}
use Rattle.math.proofs.Doubles.Operations.{mul-rounds}
use Rattle.math.proofs.Intervals.Corners.{mul-neg_right}

-- finite and above zero, by two tests
pub above_zero : (x : Float) → T (lt zero_f x) → T (lt x (inf false)) → T (positive x)
above_zero nan h k = unfold lt in absurd h
above_zero (inf true) h k = unfold lt in absurd h
above_zero (inf false) h k = unfold lt in absurd k
above_zero (fin true m e) h k = absurd (lt→not_le (subst (λ (z : ℚ). z <ℚ value (fin true m e)) (value_zero false (pos 0)) (lt→value false zero (pos 0) true m e h)) (value_nonpos m e))
above_zero (fin false zero e) h k =
    absurd (lt→not_le (subst (λ (z : ℚ). z <ℚ value (fin false zero e)) (value_zero false (pos 0)) (lt→value false zero (pos 0) false zero e h)) (subst (λ (z : ℚ). value (fin false zero e) ≤ℚ z) (value_zero false e) (le_refl (value (fin false zero e)))))
above_zero (fin false (suc m) e) h k = lt→ltb 0 (suc m) (zero-lt-suc m)

-- every number is at most the positive infinity
pub greatest : (x : Float) → T (number x) → T (le x (inf false))
unfolding is_nan le
greatest nan n = absurd n
greatest (inf true) n = tt
greatest (inf false) n = tt
greatest (fin s m e) n = tt

-- the product with an infinity
scaled-inf : (m : ℕ) (e : ℤ) (s : Bool) → mul binary64 (fin false (suc m) e) (inf s) ≡ inf s
unfolding mul
scaled-inf m e true = ap (λ (b : Bool). cond b nan (inf true)) (eqb-suc-zero m)
scaled-inf m e false = ap (λ (b : Bool). cond b nan (inf false)) (eqb-suc-zero m)

nothing : T (fits binary64 zero_f)
unfolding fits
nothing = tt

module _ (m : ℕ) (e : ℤ) where
  abbrev t : Float
  t = fin false (suc m) e

  abbrev by : Float → Float
  by x = mul binary64 t x

  plus : T (positive t)
  plus = lt→ltb 0 (suc m) (zero-lt-suc m)

  -- ---- the sign stays
  from_zero : (y : Float) → T (le zero_f y) → T (le zero_f (by y))
  from_zero nan h = unfold le in absurd h
  from_zero (inf true) h = unfold le in absurd h
  from_zero (inf false) h = rw (scaled-inf m e false) (unfold le in tt)
  from_zero (fin s n d) h =
      rounds_ge (by (fin s n d)) (value t *ℚ value (fin s n d)) (mul-rounds false (suc m) e s n d) false zero (pos 0) nothing
      (subst (λ (z : ℚ). z ≤ℚ value t *ℚ value (fin s n d)) (sym (value_zero false (pos 0)))
      (le_nn (nn_mul (value t) (value (fin s n d)) (nn_le (value-nonneg (suc m) e)) (nn_le (subst (λ (z : ℚ). z ≤ℚ value (fin s n d)) (value_zero false (pos 0)) (le→value false zero (pos 0) s n d h))))))

  turned : (y : Float) → neg (by (neg y)) ≡ by y
  turned y = ap neg (mul-neg_right t y) ∙ neg-neg (by y)

  zeros : (s u : Bool) → T (le (fin s zero (pos 0)) (fin u zero (pos 0)))
  zeros s u = value→le s zero (pos 0) u zero (pos 0) (subst (λ (z : ℚ). z ≤ℚ value (fin u zero (pos 0))) (value_zero u (pos 0) ∙ sym (value_zero s (pos 0))) (le_refl (value (fin u zero (pos 0)))))

  minus_zero : neg zero_f ≡ fin true zero (pos 0)
  unfolding neg
  minus_zero = refl

  over_zero : (y : Float) → T (le y zero_f) → T (le zero_f (neg y))
  over_zero y h = le_trans zero_f (neg zero_f) (neg y) (rw minus_zero (zeros false true)) (neg_le y zero_f h)

  to_zero : (y : Float) → T (le y zero_f) → T (le (by y) zero_f)
  to_zero y h =
      let flipped = neg_le zero_f (by (neg y)) (from_zero (neg y) (over_zero y h)) in
      le_trans (by y) (neg zero_f) zero_f (subst (λ (z : Float). T (le z (neg zero_f))) (turned y) flipped) (rw minus_zero (zeros true false))

  -- ---- the order stays: above zero, below zero, and across it
  rising : (x y : Float) → T (lt zero_f x) → T (le x y) → T (le (by x) (by y))
  rising x nan h k = absurd (unfold is_nan in le_number_r x nan k)
  rising x (inf true) h k = absurd (unfold lt in lt_le zero_f x (inf true) h k)
  rising x (inf false) h k = rw (scaled-inf m e false) (greatest (by x) (le_number_r zero_f (by x) (from_zero x (lt→le_f zero_f x h))))
  rising nan (fin u j c) h k = unfold lt in absurd h
  rising (inf true) (fin u j c) h k = unfold lt in absurd h
  rising (inf false) (fin u j c) h k = unfold le in absurd k
  rising (fin s n d) (fin u j c) h k =
      mul_mono binary64 t t (fin s n d) (fin u j c) plus plus (above_zero (fin s n d) h (unfold lt in tt)) (above_zero (fin u j c) (lt_le zero_f (fin s n d) (fin u j c) h k) (unfold lt in tt)) (le_self t (unfold is_nan in tt)) k

  falling : (x y : Float) → T (lt y zero_f) → T (le x y) → T (le (by x) (by y))
  falling x y h k =
      let flipped = neg_le (by (neg y)) (by (neg x)) (rising (neg y) (neg x) (le_lt zero_f (neg zero_f) (neg y) (rw minus_zero (zeros false true)) (neg_lt y zero_f h)) (neg_le x y k)) in
      subst (λ (z : Float). T (le z (by y))) (turned x) (subst (λ (z : Float). T (le (neg (by (neg x))) z)) (turned y) flipped)

  scaled : (x y : Float) → T (le x y) → T (le (by x) (by y))
  scaled x y k = elim (decide (lt zero_f x)) [
    | inl h ↦ rising x y h k
    | inr h ↦ elim (decide (lt y zero_f)) [
      | inl g ↦ falling x y g k
      | inr g ↦ le_trans (by x) zero_f (by y) (to_zero x (total-order x zero_f (le_number_l x y k) (unfold is_nan in tt) h)) (from_zero y (total-order zero_f y (unfold is_nan in tt) (le_number_r x y k) g))
    ]
  ]

-- THE LAWS
pub scale_le : (t x y : Float) → T (positive t) → T (le x y) → T (le (mul binary64 t x) (mul binary64 t y))
scale_le nan x y p h = absurd p
scale_le (inf s) x y p h = absurd p
scale_le (fin true m e) x y p h = absurd p
scale_le (fin false zero e) x y p h = absurd p
scale_le (fin false (suc m) e) x y p h = scaled m e x y h

pub scale_number : (t x : Float) → T (positive t) → T (number x) → T (number (mul binary64 t x))
scale_number t x p n = le_number_l (mul binary64 t x) (mul binary64 t x) (scale_le t x x p (le_self x n))
