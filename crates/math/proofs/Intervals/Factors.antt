-- The short way of `times` and `between`: a product by a factor has each bound picked from two products, whichever operand comes first, and what two sums have in common is widened once, where they meet.
-- Assumes nothing.
use mathlib.Core.Path.{◌≡◌, refl, sym, ap, ◌∙◌}
use mathlib.Core.Bool.{Bool, true, false, ◌&&◌, cond}
use Prim.Native.Nat.{◌*◌}
use native.Mathlib.Nat.{mul_comm}
use lib.Dec.{T, eqb}
use lib.Ieee.{Float, nan, inf, fin, binary64, up, down, round, unlike, add, sub, mul, neg, lt, le, fits, is_nan}
use lib.Ieee.Fits.{add-fits, sub-fits, mul-fits, neg-fits}
use lib.Ieee.Bits.{is_true, is_false}
use lib.Ieee.Positive.{positive}
use Rattle.math.specs.Neighbours.{next_up, next_down}
use Rattle.math.specs.Picks.{lesser_f, greater_f, min_f, max_f}
use Rattle.math.specs.Scalars.{Arithmetic, zero_f, least4, most4, add_s, sub_s, corners, mul_s, intersect_s, interpolate_s, widened}
use Rattle.math.specs.Factors.{is_factor, in_order, all_in_order, fraction_of, both_ways, between_s}
use Rattle.math.specs.declared.scalars.Scalar.{Scalar}
use Rattle.math.specs.declared.revision.Fraction.{Fraction}
use Rattle.math.proofs.Bools.{yes, and_l, and_r}
use Rattle.math.proofs.Picks.{lesser_is, greater_is}
use Rattle.math.proofs.Doubles.Order.{number, le_number_l, le_number_r, le_trans, lt_le, le_lt, neg_le}
use Rattle.math.proofs.Doubles.Mirror.{neg-neg}
use Rattle.math.proofs.Doubles.Same.{down_same}
use Rattle.math.proofs.Doubles.Least.{min-either, max_is, min_left, min_right, least_number, least_fits, least_a, least_b, least_c, least_d, least_above, most_is}
use Rattle.math.proofs.Intervals.Widen.{widened-order, widened-meet}
use Rattle.math.proofs.Intervals.Positive.{above_zero, greatest, scale_le, scale_number}

-- ---- the least of four, two of which are known to be no more than the others

module _ (a b c d : Float) (A : T (fits binary64 a)) (B : T (fits binary64 b)) (C : T (fits binary64 c)) (D : T (fits binary64 d)) where
  -- the lesser of two of them, where what is no more than these is no more than any
  down-pair : (x y : Float) → T (fits binary64 x) → T (fits binary64 y) → T (number x) → T (number y)
      → T (le (least4 a b c d) x) → T (le (least4 a b c d) y)
      → ((w : Float) → T (le w x) → T (le w y) → T (le w a) × T (le w b) × T (le w c) × T (le w d))
      → next_down (min_f x y) ≡ next_down (least4 a b c d)
  down-pair x y X Y n m lx ly any =
      let w = min_f x y in
      let r = any w (min_left x y n) (min_right x y n m) in
      let g = least_above w a b c d (greatest w (le_number_l w a r.0)) (λ _. r.0) (λ _. r.1) (λ _. r.2) (λ _. r.3) in
      down_same w (least4 a b c d) (min-either (λ z. T (fits binary64 z)) x y X Y) (least_fits a b c d A B C D) g
      (min-either (λ z. T (le (least4 a b c d) z)) x y lx ly)

  -- the first and the third are the lesser ones
  down_two : T (le a b) → T (le c d) → next_down (min_f a c) ≡ next_down (least4 a b c d)
  down_two h k =
      let n = le_number_l a b h in
      let m = le_number_l c d k in
      down-pair a c A C n m (least_a a b c d n) (least_c a b c d m) (λ w p q. (p, le_trans w a b p h, q, le_trans w c d q k))

  -- the second and the fourth are
  down-others : T (le b a) → T (le d c) → next_down (min_f b d) ≡ next_down (least4 a b c d)
  down-others h k =
      let n = le_number_l b a h in
      let m = le_number_l d c k in
      down-pair b d B D n m (least_b a b c d n) (least_d a b c d m) (λ w p q. (le_trans w b a p h, p, le_trans w d c q k, q))

-- the neighbour above is the mirror image of the one below
turned : (x : Float) → next_up (neg x) ≡ neg (next_down x)
unfolding next_down
turned x = sym (neg-neg (next_up (neg x)))

up-most : (a b c d : Float) → next_up (most4 a b c d) ≡ neg (next_down (least4 (neg a) (neg b) (neg c) (neg d)))
up-most a b c d = ap next_up (most_is a b c d) ∙ turned (least4 (neg a) (neg b) (neg c) (neg d))

-- the second and the fourth are the greater ones
up_two : (a b c d : Float) → T (fits binary64 a) → T (fits binary64 b) → T (fits binary64 c) → T (fits binary64 d) → T (le a b) → T (le c d) → next_up (max_f b d) ≡ next_up (most4 a b c d)
up_two a b c d A B C D h k =
    ap next_up (max_is b d)
    ∙ turned (min_f (neg b) (neg d))
    ∙ ap neg (down-others (neg a) (neg b) (neg c) (neg d) (neg-fits binary64 a A) (neg-fits binary64 b B) (neg-fits binary64 c C) (neg-fits binary64 d D) (neg_le a b h) (neg_le c d k))
    ∙ sym (up-most a b c d)

-- ---- the product by a factor
module _ (t x : Scalar) (P : is_factor t ≡ true) (O : in_order x ≡ true) where
  first_two : T (lt zero_f t.lo && le t.lo t.hi)
  first_two = and_l (lt zero_f t.lo && le t.lo t.hi) (lt t.hi (inf false)) (yes (is_factor t) P)

  low : T (lt zero_f t.lo)
  low = and_l (lt zero_f t.lo) (le t.lo t.hi) first_two

  order : T (le t.lo t.hi)
  order = and_r (lt zero_f t.lo) (le t.lo t.hi) first_two

  high : T (lt t.hi (inf false))
  high = and_r (lt zero_f t.lo && le t.lo t.hi) (lt t.hi (inf false)) (yes (is_factor t) P)

  lo-positive : T (positive t.lo)
  lo-positive = above_zero t.lo low (le_lt t.lo t.hi (inf false) order high)

  hi-positive : T (positive t.hi)
  hi-positive = above_zero t.hi (lt_le zero_f t.lo t.hi low order) high

  rises : T (le x.lo x.hi)
  rises = yes (in_order x) O

  -- the first of the two products is a number
  pub scale_low : is_nan (mul binary64 t.lo x.lo) ≡ false
  scale_low = is_false _ (scale_number t.lo x.lo lo-positive (le_number_l x.lo x.hi rises))

  pub scale_high : is_nan (mul binary64 t.lo x.hi) ≡ false
  scale_high = is_false _ (scale_number t.lo x.hi lo-positive (le_number_r x.lo x.hi rises))

  pub scale_is : (l h lo hi : Float) → l ≡ min_f (mul binary64 t.lo x.lo) (mul binary64 t.hi x.lo) → h ≡ max_f (mul binary64 t.lo x.hi) (mul binary64 t.hi x.hi) → lo ≡ next_down l → hi ≡ next_up h
      → record { lo = lo; hi = hi } ≡ mul_s t x
  unfolding mul_s corners
  scale_is l h lo hi L H LO HI =
      let a = mul binary64 t.lo x.lo in
      let b = mul binary64 t.lo x.hi in
      let c = mul binary64 t.hi x.lo in
      let d = mul binary64 t.hi x.hi in
      let A : T (fits binary64 a) = mul-fits binary64 t.lo x.lo in
      let B : T (fits binary64 b) = mul-fits binary64 t.lo x.hi in
      let C : T (fits binary64 c) = mul-fits binary64 t.hi x.lo in
      let D : T (fits binary64 d) = mul-fits binary64 t.hi x.hi in
      let h1 : T (le a b) = scale_le t.lo x.lo x.hi lo-positive rises in
      let h2 : T (le c d) = scale_le t.hi x.lo x.hi hi-positive rises in
      λ i. record { lo = (LO ∙ ap next_down L ∙ down_two a b c d A B C D h1 h2) i; hi = (HI ∙ ap next_up H ∙ up_two a b c d A B C D h1 h2) i }

-- ---- the product does not depend on the order of its operands

-- the least of four is as great in either order of the middle two, and so it has the same neighbours
least-swap : (a b c d : Float) → T (le (least4 a b c d) (least4 a c b d))
least-swap a b c d = least_above (least4 a b c d) a c b d (greatest (least4 a b c d) (least_number a b c d)) (least_a a b c d) (least_c a b c d) (least_b a b c d) (least_d a b c d)

down-swap : (a b c d : Float) → T (fits binary64 a) → T (fits binary64 b) → T (fits binary64 c) → T (fits binary64 d) → next_down (least4 a b c d) ≡ next_down (least4 a c b d)
down-swap a b c d A B C D = down_same (least4 a b c d) (least4 a c b d) (least_fits a b c d A B C D) (least_fits a c b d A C B D) (least-swap a b c d) (least-swap a c b d)

-- the mirror image
up-swap : (a b c d : Float) → T (fits binary64 a) → T (fits binary64 b) → T (fits binary64 c) → T (fits binary64 d) → next_up (most4 a b c d) ≡ next_up (most4 a c b d)
up-swap a b c d A B C D =
    up-most a b c d
    ∙ ap neg (down-swap (neg a) (neg b) (neg c) (neg d) (neg-fits binary64 a A) (neg-fits binary64 b B) (neg-fits binary64 c C) (neg-fits binary64 d D))
    ∙ sym (up-most a c b d)

unlike-swap : (s t : Bool) → unlike s t ≡ unlike t s
unlike-swap true true = refl
unlike-swap true false = refl
unlike-swap false true = refl
unlike-swap false false = refl

mul-swap : (x y : Float) → mul binary64 x y ≡ mul binary64 y x
unfolding mul
mul-swap nan nan = refl
mul-swap nan (inf t) = refl
mul-swap nan (fin t n d) = refl
mul-swap (inf s) nan = refl
mul-swap (inf s) (inf t) = ap (λ (b : Bool). inf b) (unlike-swap s t)
mul-swap (inf s) (fin t n d) = ap (λ (b : Bool). cond (eqb n 0) nan (inf b)) (unlike-swap s t)
mul-swap (fin s m e) nan = refl
mul-swap (fin s m e) (inf t) = ap (λ (b : Bool). cond (eqb m 0) nan (inf b)) (unlike-swap s t)
mul-swap (fin s m e) (fin t n d) = λ i. round binary64 (unlike-swap s t i) (mul_comm (m * up e) (n * up d) i) (mul_comm (down e) (down d) i)

pub swapped : (x y : Scalar) → mul_s x y ≡ mul_s y x
unfolding mul_s corners
swapped x y =
    let a = mul binary64 x.lo y.lo in
    let b = mul binary64 x.lo y.hi in
    let c = mul binary64 x.hi y.lo in
    let d = mul binary64 x.hi y.hi in
    let A : T (fits binary64 a) = mul-fits binary64 x.lo y.lo in
    let B : T (fits binary64 b) = mul-fits binary64 x.lo y.hi in
    let C : T (fits binary64 c) = mul-fits binary64 x.hi y.lo in
    let D : T (fits binary64 d) = mul-fits binary64 x.hi y.hi in
    (λ i. record { lo = down-swap a b c d A B C D i; hi = up-swap a b c d A B C D i })
    ∙ (λ i. each (mul-swap x.lo y.lo i) (mul-swap x.hi y.lo i) (mul-swap x.lo y.hi i) (mul-swap x.hi y.hi i))
  where
    each : Float → Float → Float → Float → Scalar
    each a b c d = widened (least4 a b c d) (most4 a b c d)

-- ---- bounds that are in order

-- they are numbers
pub lower_number : (a b : Float) → le a b ≡ true → is_nan a ≡ false
lower_number a b e = is_false (is_nan a) (le_number_l a b (yes (le a b) e))

pub upper_number : (a b : Float) → le a b ≡ true → is_nan b ≡ false
upper_number a b e = is_false (is_nan b) (le_number_r a b (yes (le a b) e))

-- what two sums have in common, where the sums meet before they are widened
module _ (a m p q : Scalar) where
  pub meet_of_sums_is : (u w lo hi : Float)
      → u ≡ greater_f (add binary64 a.lo m.lo) (add binary64 p.lo q.lo)
      → w ≡ lesser_f (add binary64 a.hi m.hi) (add binary64 p.hi q.hi)
      → le u w ≡ true → lo ≡ next_down u → hi ≡ next_up w → record { lo = lo; hi = hi } ≡ intersect_s (add_s a m) (add_s p q)
  unfolding add_s
  meet_of_sums_is u w lo hi L0 H0 e LO HI =
      let x = add binary64 a.lo m.lo in
      let y = add binary64 a.hi m.hi in
      let z = add binary64 p.lo q.lo in
      let k = add binary64 p.hi q.hi in
      let L : u ≡ max_f x z = L0 ∙ greater_is x z (ap is_nan (sym L0) ∙ lower_number u w e) in
      let H : w ≡ min_f y k = H0 ∙ lesser_is y k (ap is_nan (sym H0) ∙ upper_number u w e) in
      (λ i. record { lo = (LO ∙ ap next_down L) i; hi = (HI ∙ ap next_up H) i })
      ∙ widened-meet x y z k (add-fits binary64 a.lo m.lo) (add-fits binary64 a.hi m.hi) (add-fits binary64 p.lo q.lo) (add-fits binary64 p.hi q.hi) (sym (λ i. le (L i) (H i)) ∙ e)

-- a difference, and its order from before it was widened
module _ (a b : Scalar) (lo hi : Float) (LO : lo ≡ next_down (sub binary64 b.lo a.hi)) (HI : hi ≡ next_up (sub binary64 b.hi a.lo)) where
  pub delta_is : record { lo = lo; hi = hi } ≡ sub_s b a
  unfolding sub_s
  delta_is = λ i. record { lo = LO i; hi = HI i }

  pub delta-order : le (sub binary64 b.lo a.hi) (sub binary64 b.hi a.lo) ≡ true → le lo hi ≡ true
  delta-order e = (λ i. le (LO i) (HI i)) ∙ widened-order (sub binary64 b.lo a.hi) (sub binary64 b.hi a.lo) (sub-fits binary64 b.lo a.hi) (sub-fits binary64 b.hi a.lo) e

-- ---- the fraction of alpha, in any arithmetic

module _ (ar : Arithmetic) where
  -- it has its alpha, and to go it is to interpolate
  pub fraction_own : (f : Fraction) (alpha : Scalar) → f ≡ fraction_of ar alpha → f.alpha ≡ alpha
  unfolding fraction_of
  fraction_own f alpha e = ap (λ (g : Fraction). g.alpha) e

  pub between_is : (a b alpha : Scalar) → between_s ar a b (fraction_of ar alpha) ≡ interpolate_s ar a b alpha
  unfolding between_s both_ways fraction_of interpolate_s
  between_is a b alpha = refl

  pub between_own : (a b : Scalar) (f : Fraction) (alpha : Scalar) → f ≡ fraction_of ar alpha → between_s ar a b f ≡ interpolate_s ar a b f.alpha
  between_own a b f alpha e = ap (between_s ar a b) e ∙ between_is a b alpha ∙ ap (interpolate_s ar a b) (sym (fraction_own f alpha e))

-- ---- what `all_in_order` says, test by test
pub record AllInOrder (t u a b d : Scalar) : Type 0 where
  pub alpha : is_factor t ≡ true
  pub beta : is_factor u ≡ true
  pub first : in_order a ≡ true
  pub second : in_order b ≡ true
  pub diff : in_order d ≡ true

pub all_in_order_lem : (t u a b d : Scalar) → all_in_order t u a b d ≡ true → AllInOrder t u a b d
all_in_order_lem t u a b d e =
    let f2 = is_factor t && is_factor u in
    let f3 = f2 && in_order a in
    let f4 = f3 && in_order b in
    let h5 : T (f4 && in_order d) = yes (f4 && in_order d) e in
    let h4 : T f4 = and_l f4 (in_order d) h5 in
    let h3 : T f3 = and_l f3 (in_order b) h4 in
    let h2 : T f2 = and_l f2 (in_order a) h3 in
    record {
      alpha = is_true (is_factor t) (and_l (is_factor t) (is_factor u) h2);
      beta = is_true (is_factor u) (and_r (is_factor t) (is_factor u) h2);
      first = is_true (in_order a) (and_r f2 (in_order a) h3);
      second = is_true (in_order b) (and_r f3 (in_order b) h4);
      diff = is_true (in_order d) (and_r f4 (in_order d) h5);
    }
