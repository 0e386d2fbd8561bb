-- Revision 2's arithmetic meets the record of laws that soundness needs: `tight_encloses`. No product is exempt. Assumes nothing.
use mathlib.Core.Path.{◌≡◌, refl, sym, ap, ap₂, ◌∙◌, subst}
use mathlib.Core.List.{[], ◌∷◌}
use mathlib.Core.Logic.{◌↔◌, inl, inr}
use mathlib.Core.Bool.{Bool, true, false, not, ◌&&◌, cond}
use Prim.Native.Nat.{ℕ, zero, suc, ◌^◌}
use native.Mathlib.Omega.{arith}
use lib.IntN.{ℤ, pos}
use lib.Dec.{T, T_not, not_T}
use lib.Pow.{pow_pos}
use lib.Ieee.{Float, nan, inf, fin, binary64, low, unlike, div, neg, lt, le, fits, is_nan}
use lib.Ieee.Fits.{neg-fits}
use lib.Ieee.Bits.{is_true}
use Rattle.solver.proofs.Ring.{by_rep, by_eq, read}
use Rattle.exact.specs.Rational.{ℚ, ◌+ℚ◌, ◌*ℚ◌, -ℚ◌, ◌-ℚ◌, 0ℚ, 1ℚ, invℚ, ◌÷◌, signed, ◌≤ℚ◌, ◌<ℚ◌, nn_of, lt→not_le}
use Rattle.exact.proofs.Field.{ℚring, nn_mul, nn_add, nn_inv}
use Rattle.exact.proofs.Order.{le_by, le_nn, nn_le, le_refl, le_trans, le_or_lt, lt→le, neg-neg, pos-inv, inv-anti, inv_unique}
use Rattle.exact.proofs.Embed.{÷_inv, ÷_mul, ÷_pos}
use Rattle.math.specs.Picks.{min_f}
use Rattle.math.specs.Scalars.{zero_f, has_zero, sharp}
use Rattle.math.specs.Values.{value, Below, Above, Holds}
use Rattle.math.specs.Encloses.{Encloses, Between}
use Rattle.math.specs.declared.scalars.Scalar.{Scalar}
use Rattle.std.specs.Prelude.{Some, None}
use Rattle.math.proofs.Bools.{never, pick, and_i}
use Rattle.math.proofs.Doubles.Values.{value_zero, value-neg, value-above, value_nonpos, le→value, value→le, lt→value}
use Rattle.math.proofs.Doubles.Order.{below_number, below-neg, above-neg, below-mono, le_below, meet_le, total-order, lt_le, lt→le_f, neg_le, le_trans as ≤_trans}
use Rattle.math.proofs.Doubles.Mirror.{neg-neg as neg-neg-f}
use Rattle.math.proofs.Intervals.Quotient.{above_zero}
use Rattle.math.proofs.Doubles.Least.{min_left, min_second}
use Rattle.math.proofs.Doubles.Grid.{grid, one_step}
use Rattle.math.proofs.Intervals.Geop.{zero_held}
use Rattle.math.proofs.Intervals.Sizes.{tiny, tiny_is, moderate}
use Rattle.math.specs.Directed.{sum_down, product_down, quotient_down}
use Rattle.math.specs.Tight.{tight, add_t, sub_t, low_of, mul_t, over, quotient, div_t, four_fifths_t}
use Rattle.math.proofs.Tight.Ends.{sum-greatest, sum_below, sum_fits, by_high, by_low, by_high_turned, by_high_mirrored, by_high_both, by_low_mirrored, quotient-greatest}

-- ---- sum and difference
pub add_holds : (a b : Scalar) (x y : ℚ) → Holds a x → Holds b y → Holds (add_t a b) (x +ℚ y)
unfolding add_t
add_holds a b x y h k = record {
  low = sum_below x y a.lo b.lo h.low k.low;
  high = mirrored (sum_down (neg a.hi) (neg b.hi)) (sum_below (-ℚ x) (-ℚ y) (neg a.hi) (neg b.hi) (above-neg a.hi x h.high) (above-neg b.hi y k.high));
}
  where
    mirrored : (r : Float) → Below r (-ℚ x +ℚ -ℚ y) → Above (neg r) (x +ℚ y)
    mirrored r l = subst (λ (v : ℚ). Above (neg r) v) (by_rep ℚring (x ∷ y ∷ []) (search read) (search read) tt) (below-neg r (-ℚ x +ℚ -ℚ y) l)

-- the difference is the sum with the other interval mirrored
pub sub_holds : (a b : Scalar) (x y : ℚ) → Holds a x → Holds b y → Holds (sub_t a b) (x -ℚ y)
sub_holds a b x y h k = unfold sub_t add_t in add_holds a (record { lo = neg b.hi; hi = neg b.lo }) x (-ℚ y) h (record { low = above-neg b.hi y k.high; high = below-neg b.lo y k.low })

-- ---- the signs of bounds
pub not_low : (f : Float) → T (le zero_f f) → Above f 0ℚ
not_low nan t = unfold le in absurd t
not_low (inf true) t = unfold le in absurd t
not_low (inf false) t = tt
not_low (fin s m e) t = subst (λ (v : ℚ). v ≤ℚ value (fin s m e)) (value_zero false (pos 0)) (le→value false 0 (pos 0) s m e t)

not_high : (f : Float) → T (le f zero_f) → Below f 0ℚ
not_high nan t = unfold le in absurd t
not_high (inf true) t = tt
not_high (inf false) t = unfold le in absurd t
not_high (fin s m e) t = subst (λ (v : ℚ). value (fin s m e) ≤ℚ v) (value_zero false (pos 0)) (le→value s m e false 0 (pos 0) t)

pub is_low : (f : Float) (q : ℚ) → Below f q → T (not (le zero_f f)) → Below f 0ℚ
is_low nan q b t = absurd b
is_low (inf true) q b t = tt
is_low (inf false) q b t = absurd b
is_low (fin s m e) q b t = elim (le_or_lt (value (fin s m e)) 0ℚ) [
  | inl h ↦ h
  | inr h ↦ absurd (never (le zero_f (fin s m e)) t (value→le false 0 (pos 0) s m e (subst (λ (v : ℚ). v ≤ℚ value (fin s m e)) (sym (value_zero false (pos 0))) (lt→le h))))
]

is_high : (f : Float) (q : ℚ) → Above f q → T (not (le f zero_f)) → Above f 0ℚ
is_high nan q b t = absurd b
is_high (inf true) q b t = absurd b
is_high (inf false) q b t = tt
is_high (fin s m e) q b t = elim (le_or_lt 0ℚ (value (fin s m e))) [
  | inl h ↦ h
  | inr h ↦ absurd (never (le (fin s m e) zero_f) t (value→le s m e false 0 (pos 0) (subst (λ (v : ℚ). value (fin s m e) ≤ℚ v) (sym (value_zero false (pos 0))) (lt→le h))))
]

-- an upper bound that is not at least zero is at most zero
is_high_low : (f : Float) (q : ℚ) → Above f q → T (not (le zero_f f)) → Below f 0ℚ
is_high_low nan q b t = absurd b
is_high_low (inf true) q b t = tt
is_high_low (inf false) q b t = unfold le in absurd t
is_high_low (fin s m e) q b t = is_low (fin s m e) (value (fin s m e)) (le_refl (value (fin s m e))) t

from_low : (f : Float) (q : ℚ) → Below f q → Above f 0ℚ → 0ℚ ≤ℚ q
from_low nan q b a = absurd b
from_low (inf true) q b a = absurd a
from_low (inf false) q b a = absurd b
from_low (fin s m e) q b a = le_trans a b

from_high : (f : Float) (q : ℚ) → Above f q → Below f 0ℚ → q ≤ℚ 0ℚ
from_high nan q b a = absurd b
from_high (inf true) q b a = absurd b
from_high (inf false) q b a = absurd a
from_high (fin s m e) q b a = le_trans b a

-- ---- the product
module _ (a b c d : Float) (x y : ℚ) (A : Below a x) (B : Above b x) (C : Below c y) (D : Above d y) where
  abbrev P : Float → Type 0
  P r = Below r (x *ℚ y)

  least : Below a 0ℚ → Above b 0ℚ → P (min_f (product_down a d) (product_down b c))
  least na nb = elim (le_or_lt 0ℚ y) [
    | inl Y ↦ let h = by_high x y Y a d A na D in le_below _ (product_down a d) (x *ℚ y) (min_left (product_down a d) (product_down b c) (below_number (product_down a d) (x *ℚ y) h)) h
    | inr Y ↦ let h = by_high_mirrored x y b c (lt→le Y) B nb C in le_below _ (product_down b c) (x *ℚ y) (min_second (product_down a d) (product_down b c) (below_number (product_down b c) (x *ℚ y) h)) h
  ]

  pub low_below : Below (low_of a b c d) (x *ℚ y)
  unfolding low_of
  low_below =
      pick P (le zero_f c) _ _
      (λ tc. let Y = from_low c y C (not_low c tc) in
      pick (λ (z : Float). P (product_down a z)) (le zero_f a) c d (λ ta. by_low x y Y a c A (not_low a ta) C (not_low c tc)) (λ ta. by_high x y Y a d A (is_low a x A ta) D))
      (λ tc. pick P (le d zero_f) _ _
      (λ td. let Y = from_high d y D (not_high d td) in
      pick (λ (z : Float). P (product_down b z)) (le zero_f b) c d (λ tb. by_high_mirrored x y b c Y B (not_low b tb) C) (λ tb. by_low_mirrored x y b d Y B (is_high_low b x B tb) D (not_high d td)))
      (λ td. pick P (le zero_f a) _ _
      (λ ta. by_high_turned x y b c (from_low a x A (not_low a ta)) B C (is_low c y C tc))
      (λ ta. pick P (le b zero_f) _ _
      (λ tb. by_high_both x y a d (from_high b x B (not_high b tb)) A D (is_high d y D td))
      (λ tb. least (is_low a x A ta) (is_high b x B tb)))))

pub mul_holds : (a b : Scalar) (x y : ℚ) → Holds a x → Holds b y → Holds (mul_t a b) (x *ℚ y)
unfolding mul_t
mul_holds a b x y h k = record {
  low = low_below a.lo a.hi b.lo b.hi x y h.low h.high k.low k.high;
  high = mirrored (low_of (neg a.hi) (neg a.lo) b.lo b.hi) (low_below (neg a.hi) (neg a.lo) b.lo b.hi (-ℚ x) y (above-neg a.hi x h.high) (below-neg a.lo x h.low) k.low k.high);
}
  where
    mirrored : (r : Float) → Below r (-ℚ x *ℚ y) → Above (neg r) (x *ℚ y)
    mirrored r l = subst (λ (v : ℚ). Above (neg r) v) (by_rep ℚring (x ∷ y ∷ []) (search read) (search read) tt) (below-neg r (-ℚ x *ℚ y) l)

-- ---- the quotient by an interval above zero
module _ (a c d : Float) (x y : ℚ) (A : Below a x) (C : Below c y) (D : Above d y) (P : 0ℚ <ℚ y) where
  inv-pos : 0ℚ ≤ℚ invℚ y
  inv-pos = le_nn (nn_inv y (nn_le (lt→le P)))

  -- 0 ≤ a, and y at most d
  by_most : (a d : Float) → Below a x → Above a 0ℚ → Above d y → Below (quotient_down a d) (x *ℚ invℚ y)
  by_most nan d h o k = absurd h
  by_most (inf false) d h o k = absurd h
  by_most (inf true) d h o k = absurd o
  by_most (fin s m e) nan h o k = absurd k
  by_most (fin s m e) (inf true) h o k = absurd k
  by_most (fin s m e) (inf false) h o k = unfold quotient_down div in subst (λ (z : ℚ). z ≤ℚ x *ℚ invℚ y) (sym (value_zero (unlike s false) (pos 0))) (le_nn (nn_mul x (invℚ y) (nn_le (le_trans o h)) (nn_le inv-pos)))
  by_most (fin s m e) (fin t zero g) h o k = absurd (lt→not_le P (subst (λ (z : ℚ). y ≤ℚ z) (value_zero t g) k))
  by_most (fin s m e) (fin t (suc i) g) h o k = below-mono (quotient_down (fin s m e) (fin t (suc i) g)) _ (x *ℚ invℚ y) (smaller (value (fin s m e)) (invℚ (value (fin t (suc i) g))) h o (inv-anti y (value (fin t (suc i) g)) P k)) (quotient-greatest s m e t i g).below
    where
      smaller : (v w : ℚ) → v ≤ℚ x → 0ℚ ≤ℚ v → w ≤ℚ invℚ y → v *ℚ w ≤ℚ x *ℚ invℚ y
      smaller v w p q r = le_by {z = (x -ℚ v) *ℚ (invℚ y -ℚ 0ℚ) +ℚ (v -ℚ 0ℚ) *ℚ (invℚ y -ℚ w)} (nn_add _ _ (nn_mul _ _ (nn_of p) (nn_of inv-pos)) (nn_mul _ _ (nn_of q) (nn_of r))) (by_rep ℚring (v ∷ w ∷ x ∷ invℚ y ∷ []) (search read depth 9) (search read depth 9) tt)

  -- a bound above zero of what lies in the divisor is finite
  positive : (c : Float) → Below c y → (T (le c zero_f) → ⊥) → (i : ℕ) × (g : ℤ) × (c ≡ fin false (suc i) g)
  positive nan k z = absurd k
  positive (inf false) k z = absurd k
  positive (inf true) k z = absurd (z (unfold le in tt))
  positive (fin t zero g) k z = absurd (z (value→le t zero g false 0 (pos 0) (subst (λ (v : ℚ). v ≤ℚ value zero_f) (value_zero false (pos 0) ∙ sym (value_zero t g)) (le_refl (value zero_f)))))
  positive (fin true (suc i) g) k z = absurd (z (value→le true (suc i) g false 0 (pos 0) (subst (λ (v : ℚ). value (fin true (suc i) g) ≤ℚ v) (sym (value_zero false (pos 0))) (value_nonpos (suc i) g))))
  positive (fin false (suc i) g) k z = (i, g, refl)

  -- a ≤ 0, and c, above zero, at most y
  by_least : (a : Float) (i : ℕ) (g : ℤ) → Below a x → Below a 0ℚ → value (fin false (suc i) g) ≤ℚ y → Below (quotient_down a (fin false (suc i) g)) (x *ℚ invℚ y)
  by_least nan i g h o k = absurd h
  by_least (inf false) i g h o k = absurd h
  by_least (inf true) i g h o k = unfold quotient_down div in tt
  by_least (fin s m e) i g h o k = below-mono (quotient_down (fin s m e) (fin false (suc i) g)) _ (x *ℚ invℚ y) (smaller (value (fin s m e)) (invℚ (value (fin false (suc i) g))) h o (inv-anti (value (fin false (suc i) g)) y (value-above i g) k)) (quotient-greatest s m e false i g).below
    where
      smaller : (v w : ℚ) → v ≤ℚ x → v ≤ℚ 0ℚ → invℚ y ≤ℚ w → v *ℚ w ≤ℚ x *ℚ invℚ y
      smaller v w p q r = le_by {z = (x -ℚ v) *ℚ (invℚ y -ℚ 0ℚ) +ℚ (0ℚ -ℚ v) *ℚ (w -ℚ invℚ y)} (nn_add _ _ (nn_mul _ _ (nn_of p) (nn_of inv-pos)) (nn_mul _ _ (nn_of q) (nn_of r))) (by_rep ℚring (v ∷ w ∷ x ∷ invℚ y ∷ []) (search read depth 9) (search read depth 9) tt)

  pub over_below : (T (le c zero_f) → ⊥) → Below (over a c d) (x *ℚ invℚ y)
  over_below z = pick (λ (w : Float). Below (quotient_down a w) (x *ℚ invℚ y)) (le zero_f a) d c (λ t. by_most a d A (not_low a t) D) (λ t. let w = positive c C z in subst (λ (f : Float). Below (quotient_down a f) (x *ℚ invℚ y)) (sym w.2) (by_least a w.0 w.1 A (is_low a x A t) (subst (λ (f : Float). Below f y) w.2 C)))

-- ---- the quotient, by what does not hold zero
mirror-over : (x y : ℚ) → 0ℚ <ℚ -ℚ y → -ℚ x *ℚ invℚ (-ℚ y) ≡ x *ℚ invℚ y
mirror-over x y P = ap (λ (z : ℚ). -ℚ x *ℚ z) (sym back) ∙ by_rep ℚring (x ∷ invℚ y ∷ []) (search read) (search read) tt
  where
    whole : y *ℚ -ℚ invℚ (-ℚ y) ≡ 1ℚ
    whole = by_eq ℚring 1ℚ (pos-inv (-ℚ y) P) (by_rep ℚring (y ∷ invℚ (-ℚ y) ∷ []) (search read) (search read) tt)

    back : -ℚ invℚ y ≡ invℚ (-ℚ y)
    back = ap (λ (z : ℚ). -ℚ z) (inv_unique y (-ℚ invℚ (-ℚ y)) whole) ∙ neg-neg (invℚ (-ℚ y))

low_clear : (f g : Float) (q : ℚ) → Below f q → Above g q → (le f zero_f && le zero_f g) ≡ false → T (le zero_f f) → T (le f zero_f) → ⊥
low_clear f g q b a e t u = subst T e (and_i (le f zero_f) (le zero_f g) u (≤_trans zero_f f g t (meet_le f g q b a)))

module _ (a b : Scalar) (x y : ℚ) (h : Holds a x) (k : Holds b y) (e : has_zero b ≡ false) where
  abbrev Q : Scalar → Type 0
  Q r = Holds r (x *ℚ invℚ y)

  upper_of : (r : Float) → Below r (-ℚ x *ℚ invℚ y) → Above (neg r) (x *ℚ invℚ y)
  upper_of r l = subst (λ (v : ℚ). Above (neg r) v) (by_rep ℚring (x ∷ invℚ y ∷ []) (search read) (search read) tt) (below-neg r (-ℚ x *ℚ invℚ y) l)

  above_case : T (le zero_f b.lo) → Q (record { lo = over a.lo b.lo b.hi; hi = neg (over (neg a.hi) b.lo b.hi) })
  above_case t =
      let z : T (le b.lo zero_f) → ⊥ = low_clear b.lo b.hi y k.low k.high e t in
      let P = above_zero b.lo y k.low z in
      record {
        low = over_below a.lo b.lo b.hi x y h.low k.low k.high P z;
        high = upper_of (over (neg a.hi) b.lo b.hi) (over_below (neg a.hi) b.lo b.hi (-ℚ x) y (above-neg a.hi x h.high) k.low k.high P z);
      }

  below_case : T (not (le zero_f b.lo)) → Q (record { lo = over (neg a.hi) (neg b.hi) (neg b.lo); hi = neg (over a.lo (neg b.hi) (neg b.lo)) })
  below_case t =
      let z : T (le (neg b.hi) zero_f) → ⊥ = λ u. high-clear (back u) in
      let P = above_zero (neg b.hi) (-ℚ y) (above-neg b.hi y k.high) z in
      let C = above-neg b.hi y k.high in
      let D = below-neg b.lo y k.low in
      record {
        low = subst (λ (v : ℚ). Below (over (neg a.hi) (neg b.hi) (neg b.lo)) v) (mirror-over x y P) (over_below (neg a.hi) (neg b.hi) (neg b.lo) (-ℚ x) (-ℚ y) (above-neg a.hi x h.high) C D P z);
        high = upper_of (over a.lo (neg b.hi) (neg b.lo)) (subst (λ (v : ℚ). Below (over a.lo (neg b.hi) (neg b.lo)) v) (mirrored P) (over_below a.lo (neg b.hi) (neg b.lo) x (-ℚ y) h.low C D P z));
      }
    where
      -- the lower bound is at most zero, so the upper one is not at least zero
      under : T (le b.lo zero_f)
      under = total-order b.lo zero_f (below_number b.lo y k.low) (unfold is_nan in tt) (not_T (lt zero_f b.lo) (λ u. T_not (le zero_f b.lo) t (lt→le_f zero_f b.lo u)))

      high-clear : T (le zero_f b.hi) → ⊥
      high-clear u = subst T e (and_i (le b.lo zero_f) (le zero_f b.hi) under u)

      back : T (le (neg b.hi) zero_f) → T (le zero_f b.hi)
      back u = ≤_trans zero_f (neg zero_f) b.hi (unfold le neg in tt) (subst (λ (f : Float). T (le (neg zero_f) f)) (neg-neg-f b.hi) (neg_le (neg b.hi) zero_f u))

      mirrored : 0ℚ <ℚ -ℚ y → x *ℚ invℚ (-ℚ y) ≡ -ℚ x *ℚ invℚ y
      mirrored P = ap (λ (v : ℚ). v *ℚ invℚ (-ℚ y)) (sym (neg-neg x)) ∙ mirror-over (-ℚ x) y P

pub quotient_holds : (a b : Scalar) (x y : ℚ) → Holds a x → Holds b y → has_zero b ≡ false → Holds (quotient a b) (x *ℚ invℚ y)
unfolding quotient
quotient_holds a b x y h k e = pick (λ (r : Scalar). Holds r (x *ℚ invℚ y)) (le zero_f b.lo) _ _ (above_case a b x y h k e) (below_case a b x y h k e)

pub div_holds : (a b c : Scalar) (x y : ℚ) → div_t a b ≡ Some c → Holds a x → Holds b y → Holds c (x *ℚ invℚ y)
unfolding div_t
div_holds a b c x y e h k = go (has_zero b) refl e
  where
    go : (t : Bool) → has_zero b ≡ t → cond t None (Some (quotient a b)) ≡ Some c → Holds c (x *ℚ invℚ y)
    go true p q = let z : ◌≡◌ {A = ℕ} 0 1 = cc in absurd (omega arith)
    go false p q = let z : quotient a b ≡ c = cc in subst (λ (s : Scalar). Holds s (x *ℚ invℚ y)) z (quotient_holds a b x y h k p)

pub div_fails : (a b : Scalar) → div_t a b ≡ None ↔ Holds b 0ℚ
unfolding div_t
div_fails a b = (λ e. (zero_held b).0 (test (has_zero b) e), λ h. ap (λ (t : Bool). cond t None (Some (quotient a b))) (is_true (has_zero b) ((zero_held b).1 h)))
  where
    test : (t : Bool) → cond t None (Some (quotient a b)) ≡ None → T t
    test true e = tt
    test false e = let z : ◌≡◌ {A = ℕ} 0 1 = cc in absurd (omega arith)

-- ---- 4 / 5
pub four_fifths_lem : value (fin false 1 (pos 2)) *ℚ invℚ (value (fin false 5 (pos 0))) ≡ 4 ÷ 5
unfolding value
four_fifths_lem = ap (λ (z : ℚ). (4 ÷ 1) *ℚ z) (÷_inv 5 1 (omega arith) (omega arith)) ∙ ÷_mul 4 1 1 5 (omega arith) (omega arith)

pub four_fifths_turned : -ℚ (value (fin true 1 (pos 2)) *ℚ invℚ (value (fin false 5 (pos 0)))) ≡ 4 ÷ 5
unfolding neg
four_fifths_turned = ap (λ (z : ℚ). -ℚ (z *ℚ invℚ (value (fin false 5 (pos 0))))) (value-neg (fin false 1 (pos 2))) ∙ by_rep ℚring (value (fin false 1 (pos 2)) ∷ invℚ (value (fin false 5 (pos 0))) ∷ []) (search read) (search read) tt ∙ four_fifths_lem

pub ratio_holds : Holds four_fifths_t (4 ÷ 5)
unfolding four_fifths_t neg
ratio_holds = record {
  low = subst (λ (v : ℚ). Below (quotient_down (fin false 1 (pos 2)) (fin false 5 (pos 0))) v) four_fifths_lem (quotient-greatest false 1 (pos 2) false 4 (pos 0)).below;
  high = subst (λ (v : ℚ). Above (neg (quotient_down (fin true 1 (pos 2)) (fin false 5 (pos 0)))) v) four_fifths_turned (below-neg (quotient_down (fin true 1 (pos 2)) (fin false 5 (pos 0))) _ (quotient-greatest true 1 (pos 2) false 4 (pos 0)).below);
}

-- ---- bounds of a difference
pub sub_doubles : (a b : Scalar) → T (fits binary64 (sub_t a b).lo) × T (fits binary64 (sub_t a b).hi)
unfolding sub_t
sub_doubles a b = (sum_fits a.lo (neg b.hi), neg-fits binary64 (sum_down (neg a.hi) (neg (neg b.lo))) (sum_fits (neg a.hi) (neg (neg b.lo))))

-- two doubles that differ are at least the least positive double apart, and so is the difference's lower bound above zero
apart : (s : Bool) (m : ℕ) (e : ℤ) (t : Bool) (n : ℕ) (d : ℤ) → T (fits binary64 (fin s m e)) → T (fits binary64 (fin t n d)) → value (fin s m e) <ℚ value (fin t n d) → Below (sum_down (fin t n d) (fin (not s) m e)) 0ℚ → ⊥
apart s m e t n d F G l h =
    let x = grid s m e F in
    let y = grid t n d G in
    let D = 2 ^ low binary64 in
    let step : 1 ÷ D ≤ℚ value (fin t n d) -ℚ value (fin s m e) =
    subst (λ (v : ℚ). 1 ÷ D ≤ℚ v) (ap₂ ◌-ℚ◌ (sym y.1) (sym x.1)) (one_step D (pow_pos (low binary64)) s t x.0 y.0 (subst (λ (v : ℚ). v <ℚ signed t (y.0 ÷ D)) x.1 (subst (λ (v : ℚ). value (fin s m e) <ℚ v) y.1 l))) in
    lt→not_le (÷_pos 1 D (omega arith) (pow_pos (low binary64)))
    (subst (λ (v : ℚ). v ≤ℚ 0ℚ) tiny_is
    (le_below tiny (sum_down (fin t n d) (fin (not s) m e)) 0ℚ
    ((sum-greatest t n d (not s) m e).most tiny (unfold fits in tt) (subst (λ (v : ℚ). v ≤ℚ value (fin t n d) +ℚ value (fin (not s) m e)) (sym tiny_is) (subst (λ (v : ℚ). 1 ÷ D ≤ℚ value (fin t n d) +ℚ v) (sym turned) step))) h))
  where
    turned : value (fin (not s) m e) ≡ -ℚ value (fin s m e)
    turned = unfold neg in value-neg (fin s m e)

pub gap : (a t b : Float) → Between a t b → Holds (sub_t (sharp b) (sharp a)) 0ℚ → ⊥
unfolding sub_t neg
gap a t b w h =
    let fa = moderate a w.moderate_a in
    let fb = moderate b w.moderate_b in
    apart fa.s fa.m fa.e fb.s fb.m fb.e (subst (λ (z : Float). T (fits binary64 z)) fa.is w.double_a) (subst (λ (z : Float). T (fits binary64 z)) fb.is w.double_b)
    (lt→value fa.s fa.m fa.e fb.s fb.m fb.e (subst (λ (z : Float). T (lt z (fin fb.s fb.m fb.e))) fa.is (subst (λ (z : Float). T (lt a z)) fb.is (lt_le a t b w.from (lt→le_f t b w.upto)))))
    (subst (λ (z : Float). Below (sum_down (fin fb.s fb.m fb.e) (neg z)) 0ℚ) fa.is (subst (λ (z : Float). Below (sum_down z (neg a)) 0ℚ) fb.is h.low))

-- THE LAWS: no product is exempt
pub tight_encloses : Encloses tight
tight_encloses = record {
  exempt = λ a b. false;
  add_holds = add_holds;
  sub_holds = sub_holds;
  mul_holds = λ a b x y n h k. mul_holds a b x y h k;
  div_holds = div_holds;
  div_fails = div_fails;
  ratio_holds = ratio_holds;
  exempt_only = λ a b t. absurd t;
  slope_clear = λ a b s c d x y z w e A B C D. tt;
  alpha_clear = λ a t b f s w e. tt;
  rest_clear = λ a t b f s w e. tt;
  gap = gap;
  sub_doubles = sub_doubles;
}
