-- The Rust's sum, difference, product and quotient hold the exact results, strictly inside. Assumes nothing.
use mathlib.Core.Path.{◌≡◌, refl, sym, ap, ◌∙◌, subst}
use mathlib.Core.Logic.{◌↔◌}
use mathlib.Core.Bool.{Bool, true, false, not, ◌&&◌, cond}
use Prim.Native.Nat.{ℕ}
use native.Mathlib.Omega.{arith}
use lib.IntN.{pos}
use lib.Dec.{T}
use lib.Ieee.{Float, nan, inf, fin, binary64, sub, div, neg, le, eq, of_int}
use lib.Ieee.Bits.{is_true}
use Rattle.solver.proofs.Ring.{by_rep, by_eq, read}
use Rattle.exact.specs.Rational.{ℚ, ◌+ℚ◌, ◌*ℚ◌, -ℚ◌, ◌-ℚ◌, 0ℚ, 1ℚ, invℚ, ◌÷◌, ◌≤ℚ◌, lt→not_le}
use Rattle.exact.proofs.Order.{0<1, le_refl, le_antisym}
use Rattle.exact.proofs.Field.{ℚring}
use Rattle.exact.proofs.Embed.{÷_inv, ÷_mul}
use mathlib.Core.List.{[], ◌∷◌}
use Rattle.math.specs.declared.scalars.Scalar.{Scalar}
use Rattle.std.specs.Prelude.{Some, None}
use Rattle.math.specs.Scalars.{add_s, sub_s, corners, mul_s, div_s, inverse_s, four_fifths_s, ratio_of, zero_f, has_zero, is_same, ZERO, ENTIRE}
use Rattle.math.specs.Values.{value, Below, Above, Holds}
use Rattle.math.specs.Encloses.{is_clash}
use Rattle.math.proofs.Bools.{and_i, and_l, and_r, or_l, or_r}
use Rattle.math.proofs.Doubles.Values.{value_zero, eq→value, le→value, value→le}
use Rattle.math.proofs.Doubles.Order.{below-neg, above-neg}
use Rattle.math.proofs.Doubles.Rounding.{Rounds, rounds_at, lows-down, highs_up}
use Rattle.math.proofs.Doubles.Operations.{div-rounds}
use Rattle.math.proofs.Intervals.Sum.{add-below, add-above}
use Rattle.math.proofs.Intervals.Corners.{Clear}
use Rattle.math.proofs.Intervals.Product.{mul-below, mul-above}
use Rattle.math.proofs.Intervals.Quotient.{inverse-strict, inverse-bounded, not_zero}
use Rattle.math.proofs.Intervals.Strict.{Strict, strict_holds}

add-strict : (a b : Scalar) (x y : ℚ) → Holds a x → Holds b y → Strict (add_s a b) (x +ℚ y)
unfolding add_s
add-strict a b x y h k = record { low = add-below x y a.lo b.lo h.low k.low; high = add-above x y a.hi b.hi h.high k.high }

pub add_holds : (a b : Scalar) (x y : ℚ) → Holds a x → Holds b y → Holds (add_s a b) (x +ℚ y)
add_holds a b x y h k = strict_holds (add_s a b) (x +ℚ y) (add-strict a b x y h k)

pub sub-strict : (a b : Scalar) (x y : ℚ) → Holds a x → Holds b y → Strict (sub_s a b) (x -ℚ y)
unfolding sub_s sub
sub-strict a b x y h k = record {
  low = add-below x (-ℚ y) a.lo (neg b.hi) h.low (above-neg b.hi y k.high);
  high = add-above x (-ℚ y) a.hi (neg b.lo) h.high (below-neg b.lo y k.low);
}

pub sub_holds : (a b : Scalar) (x y : ℚ) → Holds a x → Holds b y → Holds (sub_s a b) (x -ℚ y)
sub_holds a b x y h k = strict_holds (sub_s a b) (x -ℚ y) (sub-strict a b x y h k)

-- ---- the product
product-strict : (a b : Scalar) (x y : ℚ) → Clear a.lo a.hi b.lo b.hi → Holds a x → Holds b y → Strict (mul_s a b) (x *ℚ y)
unfolding mul_s corners
product-strict a b x y u h k = record {
  low = mul-below x y a.lo a.hi b.lo b.hi h.low h.high k.low k.high u;
  high = mul-above x y a.lo a.hi b.lo b.hi h.low h.high k.low k.high u;
}

entire : (a : Scalar) → a.lo ≡ inf true → a.hi ≡ inf false → T (is_same a ENTIRE)
entire a p q = and_i (eq a.lo (inf true)) (eq a.hi (inf false)) (subst (λ (z : Float). T (eq z (inf true))) (sym p) (unfold eq in tt)) (subst (λ (z : Float). T (eq z (inf false))) (sym q) (unfold eq in tt))

clear : (a b : Scalar) → T (not (is_clash a b)) → Clear a.lo a.hi b.lo b.hi
clear a b n = record {
  first = λ p q z w. no (is_clash a b) n (or_l (is_same a ENTIRE && is_same b ZERO) (is_same a ZERO && is_same b ENTIRE) (and_i (is_same a ENTIRE) (is_same b ZERO) (entire a p q) (and_i (eq b.lo zero_f) (eq b.hi zero_f) z w)));
  second = λ z w p q. no (is_clash a b) n (or_r (is_same a ENTIRE && is_same b ZERO) (is_same a ZERO && is_same b ENTIRE) (and_i (is_same a ZERO) (is_same b ENTIRE) (and_i (eq a.lo zero_f) (eq a.hi zero_f) z w) (entire b p q)));
}
  where
    no : (t : Bool) → T (not t) → T t → ⊥
    no true h k = h
    no false h k = k

pub mul_holds : (a b : Scalar) (x y : ℚ) → T (not (is_clash a b)) → Holds a x → Holds b y → Holds (mul_s a b) (x *ℚ y)
mul_holds a b x y n h k = strict_holds (mul_s a b) (x *ℚ y) (product-strict a b x y (clear a b n) h k)

-- ---- the quotient

-- a number between two zeros is zero
at_zeros : (l g : Float) (q : ℚ) → Below l q → Above g q → T (eq l zero_f) → T (eq g zero_f) → q ≡ 0ℚ
at_zeros nan g q b a z w = absurd b
at_zeros (inf s) g q b a z w = unfold eq in absurd z
at_zeros (fin s m e) nan q b a z w = absurd a
at_zeros (fin s m e) (inf t) q b a z w = unfold eq in absurd w
at_zeros (fin s m e) (fin t n d) q b a z w =
    le_antisym (subst (λ (v : ℚ). q ≤ℚ v) (eq→value t n d false 0 (pos 0) w ∙ value_zero false (pos 0)) a) (subst (λ (v : ℚ). v ≤ℚ q) (eq→value s m e false 0 (pos 0) z ∙ value_zero false (pos 0)) b)

quotient-clear : (a b : Scalar) (y : ℚ) → Holds b y → has_zero b ≡ false → Clear a.lo a.hi (inverse_s b).lo (inverse_s b).hi
quotient-clear a b y k e = record {
  first = λ p q z w. nothing y (at_zeros (inverse_s b).lo (inverse_s b).hi (invℚ y) (strict_holds (inverse_s b) (invℚ y) (inverse-strict b y k e)).low (strict_holds (inverse_s b) (invℚ y) (inverse-strict b y k e)).high z w) (not_zero b y k e);
  second = λ z w p q. inverse-bounded b y k e p q;
}
  where
    nothing : (y : ℚ) → invℚ y ≡ 0ℚ → y *ℚ invℚ y ≡ 1ℚ → ⊥
    nothing y z e = lt→not_le 0<1 (subst (λ (v : ℚ). v ≤ℚ 0ℚ) (sym (zero-times y (invℚ y) z) ∙ e) (le_refl 0ℚ))
      where
        zero-times : (y i : ℚ) → i ≡ 0ℚ → y *ℚ i ≡ 0ℚ
        zero-times y i h = by_eq ℚring y h (by_rep ℚring (y ∷ i ∷ []) (search read) (search read) tt)

pub div-strict : (a b c : Scalar) (x y : ℚ) → div_s a b ≡ Some c → Holds a x → Holds b y → Strict c (x *ℚ invℚ y)
unfolding div_s
div-strict a b c x y e h k = go (has_zero b) refl e
  where
    go : (t : Bool) → has_zero b ≡ t → cond t None (Some (mul_s a (inverse_s b))) ≡ Some c → Strict c (x *ℚ invℚ y)
    go true p q = let z : ◌≡◌ {A = ℕ} 0 1 = cc in absurd (omega arith)
    go false p q =
        let z : mul_s a (inverse_s b) ≡ c = cc in
        subst (λ (s : Scalar). Strict s (x *ℚ invℚ y)) z (product-strict a (inverse_s b) x (invℚ y) (quotient-clear a b y k p) h (strict_holds (inverse_s b) (invℚ y) (inverse-strict b y k p)))

pub div_holds : (a b c : Scalar) (x y : ℚ) → div_s a b ≡ Some c → Holds a x → Holds b y → Holds c (x *ℚ invℚ y)
div_holds a b c x y e h k = strict_holds c (x *ℚ invℚ y) (div-strict a b c x y e h k)

-- the divisor holds zero exactly where the test says so
low_zero : (l : Float) → T (le l zero_f) ↔ Below l 0ℚ
low_zero nan = (λ t. unfold le in t, λ t. absurd t)
low_zero (inf true) = (λ t. tt, λ t. unfold le in tt)
low_zero (inf false) = (λ t. unfold le in t, λ t. absurd t)
low_zero (fin s m e) = (λ t. subst (λ (v : ℚ). value (fin s m e) ≤ℚ v) (value_zero false (pos 0)) (le→value s m e false 0 (pos 0) t), λ t. value→le s m e false 0 (pos 0) (subst (λ (v : ℚ). value (fin s m e) ≤ℚ v) (sym (value_zero false (pos 0))) t))

high_zero : (g : Float) → T (le zero_f g) ↔ Above g 0ℚ
high_zero nan = (λ t. unfold le in t, λ t. absurd t)
high_zero (inf true) = (λ t. unfold le in t, λ t. absurd t)
high_zero (inf false) = (λ t. tt, λ t. unfold le in tt)
high_zero (fin s m e) = (λ t. subst (λ (v : ℚ). v ≤ℚ value (fin s m e)) (value_zero false (pos 0)) (le→value false 0 (pos 0) s m e t), λ t. value→le false 0 (pos 0) s m e (subst (λ (v : ℚ). v ≤ℚ value (fin s m e)) (sym (value_zero false (pos 0))) t))

pub zero_held : (b : Scalar) → T (has_zero b) ↔ Holds b 0ℚ
zero_held b = (
  λ t. record { low = (low_zero b.lo).0 (and_l (le b.lo zero_f) (le zero_f b.hi) t); high = (high_zero b.hi).0 (and_r (le b.lo zero_f) (le zero_f b.hi) t) },
  λ h. and_i (le b.lo zero_f) (le zero_f b.hi) ((low_zero b.lo).1 h.low) ((high_zero b.hi).1 h.high),
)

pub div_fails : (a b : Scalar) → div_s a b ≡ None ↔ Holds b 0ℚ
unfolding div_s
div_fails a b = (λ e. (zero_held b).0 (test (has_zero b) e), λ h. ap (λ (t : Bool). cond t None (Some (mul_s a (inverse_s b)))) (is_true (has_zero b) ((zero_held b).1 h)))
  where
    test : (t : Bool) → cond t None (Some (mul_s a (inverse_s b))) ≡ None → T t
    test true e = tt
    test false e = let z : ◌≡◌ {A = ℕ} 0 1 = cc in absurd (omega arith)

-- ---- 4 / 5
ratio_is : ratio_of 4 5 ≡ div binary64 (fin false 1 (pos 2)) (fin false 5 (pos 0))
unfolding of_int
ratio_is = refl

ratio-value : value (fin false 1 (pos 2)) *ℚ invℚ (value (fin false 5 (pos 0))) ≡ 4 ÷ 5
unfolding value
ratio-value = ap (λ (z : ℚ). (4 ÷ 1) *ℚ z) (÷_inv 5 1 (omega arith) (omega arith)) ∙ ÷_mul 4 1 1 5 (omega arith) (omega arith)

ratio-rounds : Rounds (ratio_of 4 5) (4 ÷ 5)
ratio-rounds = subst (λ (r : Float). Rounds r (4 ÷ 5)) (sym ratio_is) (rounds_at _ _ (4 ÷ 5) ratio-value (div-rounds false 1 (pos 2) false 4 (pos 0)))

pub ratio_holds : Holds four_fifths_s (4 ÷ 5)
unfolding four_fifths_s
ratio_holds = strict_holds _ (4 ÷ 5) (record { low = lows-down (ratio_of 4 5) (4 ÷ 5) ratio-rounds.held ratio-rounds.lows; high = highs_up (ratio_of 4 5) (4 ÷ 5) ratio-rounds.held ratio-rounds.highs })
