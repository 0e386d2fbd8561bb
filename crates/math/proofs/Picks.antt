-- What the picks of `lesser`, `greater`, `corners`, `intersect` and `between` give, over plain values. Assumes nothing.
use mathlib.Core.Path.{◌≡◌, refl, sym, ap, ◌∙◌}
use mathlib.Core.Bool.{Bool, true, false, cond, false≢true}
use lib.Ieee.{Float, nan, inf, fin, binary64, fits, is_nan, lt, le, sub}
use lib.Ieee.Bits.{is_false}
use lib.Ieee.Fits.{mul-fits}
use lib.Dec.{T}
use Rattle.math.specs.Picks.{lesser_f, greater_f, min_f, max_f}
use Rattle.math.specs.Scalars.{Arithmetic, least4, most4, corners, intersect_s, same_operands}
use Rattle.math.specs.Factors.{both_ways, between_s}
use Rattle.math.specs.declared.scalars.Scalar.{Scalar}
use Rattle.math.specs.declared.revision.Fraction.{Fraction}
use Rattle.math.proofs.Bools.{pick_yes, pick_no}
use Rattle.math.proofs.Doubles.Least.{least_number, most_number, least_fits, most-fits}

-- ---- the lesser and the greater by one comparison: one that passed had no NaN
left_number : (a b : Float) → lt a b ≡ true → is_nan a ≡ false
unfolding lt is_nan
left_number nan b e = absurd (false≢true e)
left_number (inf s) b e = refl
left_number (fin s m k) b e = refl

right_number : (a b : Float) → lt a b ≡ true → is_nan b ≡ false
unfolding lt is_nan
right_number nan b e = absurd (false≢true e)
right_number (inf s) nan e = absurd (false≢true e)
right_number (inf s) (inf t) e = refl
right_number (inf s) (fin t m k) e = refl
right_number (fin s m k) nan e = absurd (false≢true e)
right_number (fin s m k) (inf t) e = refl
right_number (fin s m k) (fin t n l) e = refl

-- b where a test passes that only numbers pass, else a: a number where a is one, and `min` or `max` where it is a number
picked_number : (t : Bool) (a b : Float) → (t ≡ true → is_nan b ≡ false) → is_nan a ≡ false → is_nan (cond t b a) ≡ false
picked_number true a b h n = h refl
picked_number false a b h n = n

picked_is : (t : Bool) (a b : Float) → (t ≡ true → is_nan a ≡ false) → is_nan (cond t b a) ≡ false
    → cond t b a ≡ cond (is_nan a) b (cond t b a)
picked_is true a b h n = rw (h refl)
picked_is false a b h n = rw n

module _ (a b : Float) where
  pub lesser_is : is_nan (lesser_f a b) ≡ false → lesser_f a b ≡ min_f a b
  unfolding min_f
  lesser_is = picked_is (lt b a) a b (right_number b a)

  pub greater_is : is_nan (greater_f a b) ≡ false → greater_f a b ≡ max_f a b
  unfolding max_f
  greater_is = picked_is (lt a b) a b (left_number a b)

  -- with a first operand that is a number
  pub lesser_number : is_nan a ≡ false → is_nan (lesser_f a b) ≡ false
  lesser_number = picked_number (lt b a) a b (left_number b a)

  pub greater_number : is_nan a ≡ false → is_nan (greater_f a b) ≡ false
  greater_number = picked_number (lt a b) a b (right_number a b)

  pub lesser-min : is_nan a ≡ false → lesser_f a b ≡ min_f a b
  lesser-min n = lesser_is (lesser_number n)

  pub greater-max : is_nan a ≡ false → greater_f a b ≡ max_f a b
  greater-max n = greater_is (greater_number n)

-- ---- the least and the greatest of four, by four picks from a number on
module _ (pick def : Float → Float → Float)
    (same : (a b : Float) → is_nan a ≡ false → (pick a b ≡ def a b) × (is_nan (def a b) ≡ false)) where
  step : (x y b r : Float) → (x ≡ y) × (is_nan y ≡ false) → r ≡ pick x b → (r ≡ def y b) × (is_nan (def y b) ≡ false)
  step x y b r h e = let k = same y b h.1 in (e ∙ ap (λ (z : Float). pick z b) h.0 ∙ k.0, k.1)

  four : (o a b c d p q r s : Float) → is_nan o ≡ false → p ≡ pick o a → q ≡ pick p b → r ≡ pick q c → s ≡ pick r d
      → s ≡ def (def (def (def o a) b) c) d
  four o a b c d p q r s n e1 e2 e3 e4 = (step _ _ d s (step _ _ c r (step _ _ b q (step o o a p (refl, n) e1) e2) e3) e4).0

module _ (a b c d p q r s : Float) where
  pub least_of : p ≡ lesser_f (inf false) a → q ≡ lesser_f p b → r ≡ lesser_f q c → s ≡ lesser_f r d → s ≡ least4 a b c d
  least_of =
      four lesser_f min_f (λ x y n. (lesser-min x y n, sym (ap is_nan (lesser-min x y n)) ∙ lesser_number x y n))
      (inf false) a b c d p q r s (unfold is_nan in refl)

  pub most_of : p ≡ greater_f (inf true) a → q ≡ greater_f p b → r ≡ greater_f q c → s ≡ greater_f r d → s ≡ most4 a b c d
  most_of =
      four greater_f max_f (λ x y n. (greater-max x y n, sym (ap is_nan (greater-max x y n)) ∙ greater_number x y n))
      (inf true) a b c d p q r s (unfold is_nan in refl)

-- the bounds of a product before it is widened are numbers
pub corners-lower : (x y : Scalar) → is_nan (corners x y).lo ≡ false
unfolding corners
corners-lower x y = is_false _ (least_number _ _ _ _)

pub corners-upper : (x y : Scalar) → is_nan (corners x y).hi ≡ false
unfolding corners
corners-upper x y = is_false _ (most_number _ _ _ _)

-- and doubles
pub corners-doubles : (x y : Scalar) → T (fits binary64 (corners x y).lo) × T (fits binary64 (corners x y).hi)
unfolding corners
corners-doubles x y =
    let A = mul-fits binary64 x.lo y.lo in
    let B = mul-fits binary64 x.lo y.hi in
    let C = mul-fits binary64 x.hi y.lo in
    let D = mul-fits binary64 x.hi y.hi in
    (least_fits _ _ _ _ A B C D, most-fits _ _ _ _ A B C D)

-- ---- the three answers of `intersect`
module _ (x y : Scalar) (l h : Float) (L : l ≡ max_f x.lo y.lo) (H : h ≡ min_f x.hi y.hi) where
  test : (b : Bool) → le l h ≡ b → le (max_f x.lo y.lo) (min_f x.hi y.hi) ≡ b
  test b e = sym (ap (λ (z : Float). le z (min_f x.hi y.hi)) L) ∙ sym (ap (λ (z : Float). le l z) H) ∙ e

  pub meets : le l h ≡ true → record { lo = l; hi = h } ≡ intersect_s x y
  unfolding intersect_s
  meets e = (λ i. record { lo = L i; hi = H i }) ∙ rw (test true e)

  pub first : le l h ≡ false → le (sub binary64 x.hi x.lo) (sub binary64 y.hi y.lo) ≡ true → x ≡ intersect_s x y
  unfolding intersect_s
  first e f = rw (test false e, f)

  pub second : le l h ≡ false → le (sub binary64 x.hi x.lo) (sub binary64 y.hi y.lo) ≡ false → y ≡ intersect_s x y
  unfolding intersect_s
  second e f = rw (test false e, f)

-- ---- in any arithmetic, the two answers of `between`: its first operand, or what two ways to it have in common
module _ (ar : Arithmetic) where
  pub sums-meet : (a m p q x y r : Scalar) → x ≡ ar.add a m → y ≡ ar.add p q → r ≡ intersect_s x y → r ≡ intersect_s (ar.add a m) (ar.add p q)
  sums-meet a m p q x y r X Y R = R ∙ (λ i. intersect_s (X i) (Y i))

  module _ (a b : Scalar) (f : Fraction) where
    pub kept : same_operands a b f.alpha ≡ true → a ≡ between_s ar a b f
    unfolding between_s
    kept e = pick_yes _ _ _ e

    pub went : (r : Scalar) → r ≡ both_ways ar a b f → same_operands a b f.alpha ≡ false → r ≡ between_s ar a b f
    unfolding between_s
    went r R e = R ∙ pick_no _ _ _ e

    pub blended : (d m p q r : Scalar) → d ≡ ar.sub b a → m ≡ ar.mul f.alpha d → p ≡ ar.mul f.beta a → q ≡ ar.mul f.alpha b
        → r ≡ intersect_s (ar.add a m) (ar.add p q) → r ≡ both_ways ar a b f
    unfolding both_ways
    blended d m p q r D M P Q R = R ∙ (λ i. intersect_s (ar.add a ((M ∙ ap (ar.mul f.alpha) D) i)) (ar.add (P i) (Q i)))
