-- Revision 2's sum, difference and product are the tightest, for intervals with infinite bounds too. A lower bound is made from two ends, and what bounds every exact result bounds the results at
-- these ends, or toward them. An upper bound is the lower one of the mirror image. Assumes nothing.
use mathlib.Core.Path.{◌≡◌, refl, sym, ap, ◌∙◌, subst}
use mathlib.Core.List.{[], ◌∷◌}
use mathlib.Core.Logic.{inl, inr}
use mathlib.Core.Bool.{Bool, true, false}
use Prim.Native.Nat.{ℕ, zero, suc}
use lib.IntN.{ℤ, pos}
use lib.Dec.{T}
use lib.Ieee.{Float, nan, inf, fin, binary64, add, mul, neg, lt, le, fits}
use lib.Ieee.Fits.{neg-fits}
use Rattle.solver.proofs.Ring.{by_rep, by_eq, read}
use Rattle.exact.specs.Rational.{ℚ, ◌+ℚ◌, ◌*ℚ◌, -ℚ◌, ◌-ℚ◌, 0ℚ, 1ℚ, invℚ, ◌≤ℚ◌, ◌<ℚ◌, nn_of}
use Rattle.exact.proofs.Field.{ℚring, nn_mul, nn_add, *ℚ_comm}
use Rattle.exact.proofs.Order.{le_by, nn_le, le_refl, le_trans, le_or_lt, lt→le, neg-mono, neg_0, pos-inv}
use Rattle.math.specs.Scalars.{zero_f}
use Rattle.math.specs.Values.{value, Below, Holds, Proper}
use Rattle.math.specs.declared.scalars.Scalar.{Scalar}
use Rattle.math.proofs.Bools.{pick}
use Rattle.math.proofs.Doubles.Values.{value_zero, value-above}
use Rattle.math.proofs.Doubles.Order.{meet_le}
use Rattle.math.proofs.Doubles.Least.{min-either}
use Rattle.math.proofs.Intervals.Tests.{proper_holds}
use Rattle.math.specs.Directed.{sum_down, product_down}
use Rattle.math.specs.Tight.{add_t, sub_t, mul_t, low_of}
use Rattle.math.specs.Tightest.{Hull, Results}
use Rattle.math.proofs.Tight.Ends.{sum-greatest, product-greatest, sum_fits, product-fits, inf-times, product_turn}
use Rattle.math.proofs.Tight.Instance.{add_holds, mul_holds}
use Rattle.math.proofs.Tight.Limits.{mirrored, mirror_holds, mirror_back, mirror_proper, flip, turned, Bounding, Falls, Rises, falls_low, under_top, End, low_end, high_end, end_mirror}

-- ---- the sum
abbrev Sums : Scalar → Scalar → ℚ → Type 0
Sums a b = Results (λ x y. x +ℚ y) a b

sums_fall : (a b : Scalar) → Falls (λ q. Holds a q) → (y : ℚ) → Holds b y → Falls (Sums a b)
sums_fall a b f y h = λ k. let x = f (k -ℚ y) in (x.0 +ℚ y, (x.0, y, x.1, h, refl), le_by (nn_of x.2) (by_rep ℚring (k ∷ x.0 ∷ y ∷ []) (search read) (search read) tt))

sums_turn : (a b : Scalar) → Falls (Sums a b) → Falls (Sums b a)
sums_turn a b f = λ k. let q = f k in let r = q.1 in (q.0, (r.1, r.0, r.3, r.2, r.4 ∙ by_rep ℚring (r.0 ∷ r.1 ∷ []) (search read) (search read) tt), q.2)

module _ (a b : Scalar) (A : Proper a) (B : Proper b) (w : Float) (k : Bounding (Sums a b) w) where
  -- two lower ends
  sum_at : (p r : Float) → End a p → End b r → T (lt p (inf false)) → T (lt r (inf false)) → T (le w (sum_down p r))
  sum_at nan r g h u v = absurd g
  sum_at (inf false) r g h u v = unfold lt in absurd u
  sum_at (inf true) nan g h u v = absurd h
  sum_at (inf true) (inf false) g h u v = unfold lt in absurd v
  sum_at (inf true) (inf true) g h u v = let y = proper_holds b B in unfold sum_down add in falls_low (Sums a b) (sums_fall a b g y.0 y.1) w k.1
  sum_at (inf true) (fin t n d) g h u v = unfold sum_down add in falls_low (Sums a b) (sums_fall a b g (value (fin t n d)) h) w k.1
  sum_at (fin s m e) nan g h u v = absurd h
  sum_at (fin s m e) (inf false) g h u v = unfold lt in absurd v
  sum_at (fin s m e) (inf true) g h u v = unfold sum_down add in falls_low (Sums a b) (sums_turn b a (sums_fall b a h (value (fin s m e)) g)) w k.1
  sum_at (fin s m e) (fin t n d) g h u v = (sum-greatest s m e t n d).most w k.0 (k.1 _ (_, _, g, h, refl))

  sum_low : T (le w (sum_down a.lo b.lo))
  sum_low = sum_at a.lo b.lo (low_end a A) (low_end b B) A.low B.low

module _ (a b : Scalar) (A : Proper a) (B : Proper b) where
  -- the sums of the mirrored intervals are the mirrored sums
  sums-mirror : (q : ℚ) → Sums (mirrored a) (mirrored b) q → Sums a b (-ℚ q)
  sums-mirror q p = (-ℚ p.0, -ℚ p.1, mirror_back a p.0 p.2, mirror_back b p.1 p.3, ap (λ (z : ℚ). -ℚ z) p.4 ∙ by_rep ℚring (p.0 ∷ p.1 ∷ []) (search read) (search read) tt)

  pub sum_hull : Hull (add_t a b) (Sums a b)
  sum_hull = record {
    doubles = unfold add_t in (sum_fits a.lo b.lo, neg-fits binary64 _ (sum_fits (neg a.hi) (neg b.hi)));
    holds = λ q p. subst (λ (z : ℚ). Holds (add_t a b) z) (sym p.4) (add_holds a b p.0 p.1 p.2 p.3);
    low = λ w F h. unfold add_t in sum_low a b A B w (F, h);
    high = λ w F h. unfold add_t in flip w _ (sum_low (mirrored a) (mirrored b) (mirror_proper a A) (mirror_proper b B) (neg w) (neg-fits binary64 w F, λ q p. turned w q (h (-ℚ q) (sums-mirror q p))));
  }

-- ---- the difference: the sum with the other interval mirrored
module _ (a b : Scalar) (A : Proper a) (B : Proper b) where
  as_sum : add_t a (mirrored b) ≡ sub_t a b
  unfolding sub_t add_t
  as_sum = refl

  -- the same numbers
  there : (q : ℚ) → Sums a (mirrored b) q → Results (λ x y. x -ℚ y) a b q
  there q p = (p.0, -ℚ p.1, p.2, mirror_back b p.1 p.3, p.4 ∙ by_rep ℚring (p.0 ∷ p.1 ∷ []) (search read) (search read) tt)

  back : (q : ℚ) → Results (λ x y. x -ℚ y) a b q → Sums a (mirrored b) q
  back q p = (p.0, -ℚ p.1, p.2, mirror_holds b p.1 p.3, p.4)

  pub difference_hull : Hull (sub_t a b) (Results (λ x y. x -ℚ y) a b)
  difference_hull = let s = sum_hull a (mirrored b) A (mirror_proper b B) in subst (λ (r : Scalar). Hull r (Results (λ x y. x -ℚ y) a b)) as_sum
      (record { doubles = s.doubles; holds = λ q p. s.holds q (back q p); low = λ w F h. s.low w F (λ q p. h q (there q p)); high = λ w F h. s.high w F (λ q p. h q (there q p)) })

-- ---- the product
abbrev Products : Scalar → Scalar → ℚ → Type 0
Products a b = Results (λ x y. x *ℚ y) a b

products_turn : (a b : Scalar) (q : ℚ) → Products b a q → Products a b q
products_turn a b q p = (p.1, p.0, p.3, p.2, p.4 ∙ *ℚ_comm p.0 p.1)

products-mirror : (a b : Scalar) (q : ℚ) → Products (mirrored a) (mirrored b) q → Products a b q
products-mirror a b q p = (-ℚ p.0, -ℚ p.1, mirror_back a p.0 p.2, mirror_back b p.1 p.3, p.4 ∙ by_rep ℚring (p.0 ∷ p.1 ∷ []) (search read) (search read) tt)

-- v times what falls, for a v above zero
products_fall : (a b : Scalar) (v : ℚ) → 0ℚ <ℚ v → Holds a v → Falls (λ q. Holds b q) → Falls (Products a b)
products_fall a b v P h f = λ k. let y = f (k *ℚ invℚ v) in
    (v *ℚ y.0, (v, y.0, h, y.1, refl), le_by (nn_mul v (k *ℚ invℚ v -ℚ y.0) (nn_le (lt→le P)) (nn_of y.2)) (by_eq ℚring (-ℚ k) (pos-inv v P) (by_rep ℚring (k ∷ v ∷ invℚ v ∷ y.0 ∷ []) (search read depth 9) (search read depth 9) tt)))

-- what falls times what rises
both_fall : (a b : Scalar) → Falls (λ q. Holds a q) → Rises (λ q. Holds b q) → Falls (Products a b)
both_fall a b f g = λ k.
    let x = f (-ℚ 1ℚ) in
    let n = reach k in
    let y = g n.0 in
    let Y = le_trans n.1 y.2 in (
      x.0 *ℚ y.0,
      (x.0, y.0, x.1, y.1, refl),
      le_by {z = (y.0 -ℚ n.0) +ℚ (n.0 -ℚ -ℚ k) +ℚ (-ℚ 1ℚ -ℚ x.0) *ℚ (y.0 -ℚ 0ℚ)} (nn_add _ _ (nn_add _ _ (nn_of y.2) (nn_of n.2)) (nn_mul _ _ (nn_of x.2) (nn_of Y)))
          (by_rep ℚring (k ∷ n.0 ∷ x.0 ∷ y.0 ∷ []) (search read depth 9) (search read depth 9) tt),
    )
  where
    -- at least zero and -k
    reach : (k : ℚ) → (n : ℚ) × (0ℚ ≤ℚ n) × (-ℚ k ≤ℚ n)
    reach k = elim (le_or_lt 0ℚ k) [
      | inl h ↦ (0ℚ, le_refl 0ℚ, subst (λ (z : ℚ). -ℚ k ≤ℚ z) neg_0 (neg-mono h))
      | inr h ↦ (-ℚ k, subst (λ (z : ℚ). z ≤ℚ -ℚ k) neg_0 (neg-mono (lt→le h)), le_refl (-ℚ k))
    ]

module _ (a b : Scalar) (w : Float) (k : Bounding (Products a b) w) where
  -- toward the infinity, and at zero
  product-inf : (s : Bool) (m : ℕ) (e : ℤ) (t : Bool) → End a (fin s m e) → End b (inf t) → (y : ℚ) → Holds b y → T (le w (product_down (fin s m e) (inf t)))
  product-inf s zero e t g h y B = unfold product_down in meet_le w zero_f 0ℚ (subst (λ (z : ℚ). Below w z) nil (k.1 _ (_, _, g, B, refl))) (subst (λ (z : ℚ). 0ℚ ≤ℚ z) (sym (value_zero false (pos 0))) (le_refl 0ℚ))
    where
      nil : value (fin s zero e) *ℚ y ≡ 0ℚ
      nil = by_eq ℚring y (value_zero s e) (by_rep ℚring (value (fin s zero e) ∷ y ∷ []) (search read) (search read) tt)
  product-inf false (suc m) e false g h y B = unfold product_down mul in subst (λ (z : Float). T (le w z)) (sym (inf-times false m)) (under_top w _ (k.1 _ (_, _, g, B, refl)))
  product-inf true (suc m) e true g h y B = unfold product_down mul in subst (λ (z : Float). T (le w z)) (sym (inf-times false m)) (under_top w _ (k.1 _ (_, _, g, B, refl)))
  product-inf false (suc m) e true g h y B = unfold product_down mul in subst (λ (z : Float). T (le w z)) (sym (inf-times true m)) (falls_low (Products a b) (products_fall a b (value (fin false (suc m) e)) (value-above m e) g h) w k.1)
  product-inf true (suc m) e false g h y B = unfold product_down mul in subst (λ (z : Float). T (le w z)) (sym (inf-times true m))
      (falls_low (Products (mirrored a) (mirrored b)) (products_fall (mirrored a) (mirrored b) (value (fin false (suc m) e)) (value-above m e) (unfold neg in end_mirror a (fin true (suc m) e) g) (unfold neg in end_mirror b (inf false) h)) w (λ q p. k.1 q (products-mirror a b q p)))

module _ (a b : Scalar) (A : Proper a) (B : Proper b) (w : Float) (k : Bounding (Products a b) w) where
  turned-k : Bounding (Products b a) w
  turned-k = (k.0, λ q p. k.1 q (products_turn a b q p))

  below_some : T (le w (inf false))
  below_some = let x = proper_holds a A in let y = proper_holds b B in under_top w _ (k.1 _ (x.0, y.0, x.1, y.1, refl))

  product_at : (p r : Float) → End a p → End b r → T (le w (product_down p r))
  product_at nan r g h = absurd g
  product_at (inf s) nan g h = absurd h
  product_at (inf true) (inf true) g h = unfold product_down mul in below_some
  product_at (inf false) (inf false) g h = unfold product_down mul in below_some
  product_at (inf true) (inf false) g h = unfold product_down mul in falls_low (Products a b) (both_fall a b g h) w k.1
  product_at (inf false) (inf true) g h = unfold product_down mul in falls_low (Products b a) (both_fall b a h g) w turned-k.1
  product_at (inf s) (fin t n d) g h = let x = proper_holds a A in subst (λ (z : Float). T (le w z)) (product_turn (fin t n d) (inf s)) (product-inf b a w turned-k t n d s h g x.0 x.1)
  product_at (fin s m e) nan g h = absurd h
  product_at (fin s m e) (inf t) g h = let y = proper_holds b B in product-inf a b w k s m e t g h y.0 y.1
  product_at (fin s m e) (fin t n d) g h = (product-greatest s m e t n d).most w k.0 (k.1 _ (_, _, g, h, refl))

-- the lower bound is one of the four products of the ends
module _ (P : Float → Type 0) (a b c d : Float) (ac : P (product_down a c)) (ad : P (product_down a d)) (bc : P (product_down b c)) (bd : P (product_down b d)) where
  low_either : P (low_of a b c d)
  unfolding low_of
  low_either =
      pick P (le zero_f c) _ _ (λ _. pick (λ (z : Float). P (product_down a z)) (le zero_f a) c d (λ _. ac) (λ _. ad))
      (λ _. pick P (le d zero_f) _ _ (λ _. pick (λ (z : Float). P (product_down b z)) (le zero_f b) c d (λ _. bc) (λ _. bd))
      (λ _. pick P (le zero_f a) _ _ (λ _. bc)
      (λ _. pick P (le b zero_f) _ _ (λ _. ad) (λ _. min-either P (product_down a d) (product_down b c) ad bc))))

low_fits : (a b c d : Float) → T (fits binary64 (low_of a b c d))
low_fits a b c d = low_either (λ (z : Float). T (fits binary64 z)) a b c d (product-fits a c) (product-fits a d) (product-fits b c) (product-fits b d)

product_low : (a b : Scalar) → Proper a → Proper b → (w : Float) → Bounding (Products a b) w → T (le w (low_of a.lo a.hi b.lo b.hi))
product_low a b A B w k =
    low_either (λ (z : Float). T (le w z)) a.lo a.hi b.lo b.hi
    (product_at a b A B w k a.lo b.lo (low_end a A) (low_end b B))
    (product_at a b A B w k a.lo b.hi (low_end a A) (high_end b B))
    (product_at a b A B w k a.hi b.lo (high_end a A) (low_end b B))
    (product_at a b A B w k a.hi b.hi (high_end a A) (high_end b B))

module _ (a b : Scalar) (A : Proper a) (B : Proper b) where
  -- the products with the one mirrored are the mirrored products
  one_mirrored : (q : ℚ) → Products (mirrored a) b q → Products a b (-ℚ q)
  one_mirrored q p = (-ℚ p.0, p.1, mirror_back a p.0 p.2, p.3, ap (λ (z : ℚ). -ℚ z) p.4 ∙ by_rep ℚring (p.0 ∷ p.1 ∷ []) (search read) (search read) tt)

  pub product_hull : Hull (mul_t a b) (Products a b)
  product_hull = record {
    doubles = unfold mul_t in (low_fits a.lo a.hi b.lo b.hi, neg-fits binary64 _ (low_fits (neg a.hi) (neg a.lo) b.lo b.hi));
    holds = λ q p. subst (λ (z : ℚ). Holds (mul_t a b) z) (sym p.4) (mul_holds a b p.0 p.1 p.2 p.3);
    low = λ w F h. unfold mul_t in product_low a b A B w (F, h);
    high = λ w F h. unfold mul_t in flip w _ (product_low (mirrored a) b (mirror_proper a A) B (neg w) (neg-fits binary64 w F, λ q p. turned w q (h (-ℚ q) (one_mirrored q p))));
  }
