-- `min_f` and `max_f` give one of their operands, a number where the first is one, and no larger, or no smaller, than either; and so the least and the most of four.
-- What is said of `max_f` is the mirror image of what is said of `min_f`. Assumes nothing.
use mathlib.Core.Path.{◌≡◌, refl, sym, ap, ◌∙◌, subst}
use mathlib.Core.Logic.{inl, inr}
use mathlib.Core.Bool.{Bool, true, false, not, cond}
use lib.Dec.{T}
use lib.Ieee.{Float, nan, inf, fin, binary64, is_nan, lt, le, fits, neg}
use lib.Ieee.Fits.{inf-fits, neg-fits}
use lib.Ieee.Bits.{is_true}
use Rattle.math.specs.Picks.{min_f, max_f}
use Rattle.math.specs.Scalars.{least4, most4}
use Rattle.math.proofs.Bools.{decide, pick}
use Rattle.math.proofs.Doubles.Mirror.{neg-neg, lt_neg}
use Rattle.math.proofs.Doubles.Order.{number, number_neg, le_number_l, lt→le_f, le_self, le_trans, total-order, neg_le}

-- one of the two
pub min-either : (P : Float → Type 0) (a b : Float) → P a → P b → P (min_f a b)
unfolding min_f
min-either P a b h k = pick P (is_nan a) b (cond (lt b a) b a) (λ _. k) (λ _. pick P (lt b a) b a (λ _. k) (λ _. h))

pub max_either : (P : Float → Type 0) (a b : Float) → P a → P b → P (max_f a b)
unfolding max_f
max_either P a b h k = pick P (is_nan a) b (cond (lt a b) b a) (λ _. k) (λ _. pick P (lt a b) b a (λ _. k) (λ _. h))

-- the mirror image
pub is_nan-neg : (x : Float) → is_nan (neg x) ≡ is_nan x
unfolding is_nan neg
is_nan-neg nan = refl
is_nan-neg (inf s) = refl
is_nan-neg (fin s m e) = refl

neg-cond : (t : Bool) (x y : Float) → neg (cond t x y) ≡ cond t (neg x) (neg y)
neg-cond true x y = refl
neg-cond false x y = refl

pub max_is : (a b : Float) → max_f a b ≡ neg (min_f (neg a) (neg b))
unfolding min_f max_f
max_is a b = sym (
    neg-cond (is_nan (neg a)) (neg b) (cond (lt (neg b) (neg a)) (neg b) (neg a))
    ∙ ap (λ (x : Float). cond (is_nan (neg a)) (neg (neg b)) x) (neg-cond (lt (neg b) (neg a)) (neg b) (neg a))
    ∙ rw (is_nan-neg a, lt_neg a b, neg-neg a, neg-neg b))

-- ---- the lesser, with a first operand that is a number
min_is : (a b : Float) → T (number a) → min_f a b ≡ cond (lt b a) b a
unfolding min_f
min_is a b n = pick (λ (x : Float). x ≡ cond (lt b a) b a) (is_nan a) b (cond (lt b a) b a) (λ t. absurd (clash (is_nan a) n t)) (λ _. refl)
  where
    clash : (t : Bool) → T (not t) → T t → ⊥
    clash true h k = h
    clash false h k = k

min_number : (a b : Float) → T (number a) → T (number (min_f a b))
min_number a b n = subst (λ (x : Float). T (number x)) (sym (min_is a b n)) (pick (λ (x : Float). T (number x)) (lt b a) b a (λ t. le_number_l b a (lt→le_f b a t)) (λ t. n))

pub min_left : (a b : Float) → T (number a) → T (le (min_f a b) a)
min_left a b n = subst (λ (x : Float). T (le x a)) (sym (min_is a b n)) (pick (λ (x : Float). T (le x a)) (lt b a) b a (λ t. lt→le_f b a t) (λ t. le_self a n))

pub min_right : (a b : Float) → T (number a) → T (number b) → T (le (min_f a b) b)
min_right a b n k = subst (λ (x : Float). T (le x b)) (sym (min_is a b n)) (pick (λ (x : Float). T (le x b)) (lt b a) b a (λ t. le_self b k) (λ t. total-order a b n k t))

-- the second where the first is no number
pub min_second : (a b : Float) → T (number b) → T (le (min_f a b) b)
min_second a b k = elim (decide (is_nan a)) [
  | inl t ↦ subst (λ (x : Float). T (le x b)) (sym (passed t)) (le_self b k)
  | inr n ↦ min_right a b n k
]
  where
    passed : T (is_nan a) → min_f a b ≡ b
    passed t = unfold min_f in ap (λ (z : Bool). cond z b (cond (lt b a) b a)) (is_true (is_nan a) t)

-- the greater
flip_le : (x y : Float) → T (le x (neg y)) → T (le y (neg x))
flip_le x y h = subst (λ (z : Float). T (le z (neg x))) (neg-neg y) (neg_le x (neg y) h)

pub max_left : (a b : Float) → T (number a) → T (le a (max_f a b))
max_left a b n = subst (λ (x : Float). T (le a x)) (sym (max_is a b)) (flip_le (min_f (neg a) (neg b)) a (min_left (neg a) (neg b) (number_neg a n)))

pub max_second : (a b : Float) → T (number b) → T (le b (max_f a b))
max_second a b k = subst (λ (x : Float). T (le b x)) (sym (max_is a b)) (flip_le (min_f (neg a) (neg b)) b (min_second (neg a) (neg b) (number_neg b k)))

-- ---- the least of four, from the positive infinity on
fits-min : (a b : Float) → T (fits binary64 a) → T (fits binary64 b) → T (fits binary64 (min_f a b))
fits-min a b h k = min-either (λ (x : Float). T (fits binary64 x)) a b h k

module _ (a b c d : Float) where
  n1 : T (number (min_f (inf false) a))
  n1 = min_number (inf false) a (unfold is_nan in tt)

  n2 : T (number (min_f (min_f (inf false) a) b))
  n2 = min_number (min_f (inf false) a) b n1

  n3 : T (number (min_f (min_f (min_f (inf false) a) b) c))
  n3 = min_number (min_f (min_f (inf false) a) b) c n2

  pub least_number : T (number (least4 a b c d))
  least_number = min_number (min_f (min_f (min_f (inf false) a) b) c) d n3

  pub least_fits : T (fits binary64 a) → T (fits binary64 b) → T (fits binary64 c) → T (fits binary64 d) → T (fits binary64 (least4 a b c d))
  least_fits A B C D = fits-min _ d (fits-min _ c (fits-min _ b (fits-min (inf false) a (inf-fits binary64 false) A) B) C) D

  pub least_d : T (number d) → T (le (least4 a b c d) d)
  least_d n = min_right (min_f (min_f (min_f (inf false) a) b) c) d n3 n

  to_3 : T (le (least4 a b c d) (min_f (min_f (min_f (inf false) a) b) c))
  to_3 = min_left (min_f (min_f (min_f (inf false) a) b) c) d n3

  pub least_c : T (number c) → T (le (least4 a b c d) c)
  least_c n = le_trans (least4 a b c d) (min_f (min_f (min_f (inf false) a) b) c) c to_3 (min_right (min_f (min_f (inf false) a) b) c n2 n)

  to_2 : T (le (least4 a b c d) (min_f (min_f (inf false) a) b))
  to_2 = le_trans (least4 a b c d) (min_f (min_f (min_f (inf false) a) b) c) (min_f (min_f (inf false) a) b) to_3 (min_left (min_f (min_f (inf false) a) b) c n2)

  pub least_b : T (number b) → T (le (least4 a b c d) b)
  least_b n = le_trans (least4 a b c d) (min_f (min_f (inf false) a) b) b to_2 (min_right (min_f (inf false) a) b n1 n)

  pub least_a : T (number a) → T (le (least4 a b c d) a)
  least_a n = le_trans (least4 a b c d) (min_f (inf false) a) a (le_trans (least4 a b c d) (min_f (min_f (inf false) a) b) (min_f (inf false) a) to_2 (min_left (min_f (inf false) a) b n1)) (min_right (inf false) a (unfold is_nan in tt) n)

-- what is no larger than each of the four that is a number is no larger than the least
above-min : (w a b : Float) → T (number a) → T (le w a) → (T (number b) → T (le w b)) → T (le w (min_f a b))
above-min w a b n h k = subst (λ (x : Float). T (le w x)) (sym (min_is a b n)) (pick (λ (x : Float). T (le w x)) (lt b a) b a (λ t. k (le_number_l b a (lt→le_f b a t))) (λ _. h))

pub least_above : (w a b c d : Float) → T (le w (inf false)) → (T (number a) → T (le w a)) → (T (number b) → T (le w b)) → (T (number c) → T (le w c)) → (T (number d) → T (le w d)) → T (le w (least4 a b c d))
least_above w a b c d i A B C D =
    above-min w (min_f (min_f (min_f (inf false) a) b) c) d (n3 a b c d)
    (above-min w (min_f (min_f (inf false) a) b) c (n2 a b c d) (above-min w (min_f (inf false) a) b (n1 a b c d) (above-min w (inf false) a (unfold is_nan in tt) i A) B) C) D

-- ---- the most of four
-- one step of the mirrored fold
mirrored : (x w y : Float) → x ≡ neg y → max_f x w ≡ neg (min_f y (neg w))
mirrored x w y e = ap (λ (z : Float). max_f z w) e ∙ max_is (neg y) w ∙ ap (λ (z : Float). neg (min_f z (neg w))) (neg-neg y)

low_end : inf true ≡ neg (inf false)
unfolding neg
low_end = refl

pub most_is : (a b c d : Float) → most4 a b c d ≡ neg (least4 (neg a) (neg b) (neg c) (neg d))
most_is a b c d = mirrored _ d _ (mirrored _ c _ (mirrored _ b _ (mirrored (inf true) a (inf false) low_end)))

pub most_number : (a b c d : Float) → T (number (most4 a b c d))
most_number a b c d =
    subst (λ (x : Float). T (number x)) (sym (most_is a b c d))
    (number_neg (least4 (neg a) (neg b) (neg c) (neg d)) (least_number (neg a) (neg b) (neg c) (neg d)))

pub most-fits : (a b c d : Float) → T (fits binary64 a) → T (fits binary64 b) → T (fits binary64 c) → T (fits binary64 d)
    → T (fits binary64 (most4 a b c d))
most-fits a b c d A B C D =
    subst (λ (x : Float). T (fits binary64 x)) (sym (most_is a b c d))
    (neg-fits binary64 (least4 (neg a) (neg b) (neg c) (neg d))
    (least_fits (neg a) (neg b) (neg c) (neg d) (neg-fits binary64 a A) (neg-fits binary64 b B) (neg-fits binary64 c C) (neg-fits binary64 d D)))
