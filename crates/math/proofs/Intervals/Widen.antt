-- The neighbours of doubles keep their order, so that a pick of some is widened once: the neighbour below the lesser, or the greater, of two is the lesser, or the greater, of their neighbours, and so above.
-- Assumes nothing.
use mathlib.Core.Path.{◌≡◌, refl, sym, ap, ◌∙◌, subst}
use mathlib.Core.Logic.{inl, inr}
use mathlib.Core.Bool.{Bool, true, false, not, cond}
use lib.Dec.{T}
use lib.Ieee.{Float, nan, inf, fin, binary64, is_nan, lt, le, fits, neg}
use lib.Ieee.Fits.{neg-fits}
use lib.Ieee.Bits.{is_true, is_false}
use Rattle.math.specs.Neighbours.{next_up, next_down}
use Rattle.math.specs.Picks.{lesser_f, greater_f, min_f, max_f}
use Rattle.math.specs.Scalars.{union_s, intersect_s, widened}
use Rattle.math.proofs.Bools.{yes, no, decide}
use Rattle.math.proofs.Picks.{lesser-min, greater-max, meets}
use Rattle.math.proofs.Doubles.Order.{number, number_neg, le_number_l, le_number_r, lt→le_f, le_self, le_trans, lt_le, lt_not_le, total-order, neg_le}
use Rattle.math.proofs.Doubles.Mirror.{neg-neg}
use Rattle.math.proofs.Doubles.Least.{min-either, max_either, max_is}
use Rattle.math.proofs.Doubles.Next.{next_down-fits, next_down-below}
use Rattle.math.proofs.Doubles.NextLeast.{next_down-greatest}

-- ---- the neighbour below

-- there is none below the least
down-least : next_down (inf true) ≡ inf true
unfolding next_down next_up neg
down-least = refl

-- it is a number, and no more than its double
down_le : (a : Float) → T (fits binary64 a) → T (number a) → T (le (next_down a) a)
unfolding is_nan neg
down_le nan F n = absurd n
down_le (inf true) F n = rw down-least (le_self (inf true) tt)
down_le (inf false) F n = lt→le_f (next_down (inf false)) (inf false) (next_down-below (inf false) F tt)
down_le (fin s m e) F n = lt→le_f (next_down (fin s m e)) (fin s m e) (next_down-below (fin s m e) F tt)

down_number : (a : Float) → T (fits binary64 a) → T (number a) → T (number (next_down a))
down_number a F n = le_number_l (next_down a) a (down_le a F n)

-- what is no more than the least is the least
bottom : (x : Float) → T (le x (inf true)) → x ≡ inf true
unfolding le lt
bottom nan h = absurd h
bottom (inf true) h = refl
bottom (inf false) h = absurd h
bottom (fin s m e) h = absurd h

not-below : (x : Float) → T (lt x (inf true)) → ⊥
unfolding lt
not-below nan h = h
not-below (inf true) h = h
not-below (inf false) h = h
not-below (fin s m e) h = h

not_true : (t : Bool) → t ≡ false → T (not t)
not_true t e = subst (λ (b : Bool). T (not b)) (sym e) tt

-- ---- of two doubles

-- where the second is less, so is its neighbour, unless both neighbours are the least
down-yes : (a : Float) → T (fits binary64 a) → T (number a) → (b : Float) → T (fits binary64 b) → T (number b) → T (lt b a) → lt (next_down b) (next_down a) ≡ false → next_down a ≡ next_down b
unfolding is_nan neg
down-yes a F n nan G m h e = absurd m
down-yes a F n (inf true) G m h e =
    bottom (next_down a) (total-order (next_down a) (inf true) (down_number a F n) tt (not_true (lt (inf true) (next_down a)) (ap (λ (x : Float). lt x (next_down a)) (sym down-least) ∙ e)))
    ∙ sym down-least
down-yes a F n (inf false) G m h e =
    absurd (no (lt (next_down (inf false)) (next_down a)) e (lt_le (next_down (inf false)) (inf false) (next_down a) (next_down-below (inf false) G tt) (next_down-greatest a F (inf false) G h)))
down-yes a F n (fin s k d) G m h e =
    absurd (no (lt (next_down (fin s k d)) (next_down a)) e (lt_le (next_down (fin s k d)) (fin s k d) (next_down a) (next_down-below (fin s k d) G tt) (next_down-greatest a F (fin s k d) G h)))

-- a number that its neighbour reaches is the least, and nothing is below that
down-stuck : (a x : Float) → T (fits binary64 a) → T (number a) → T (le a (next_down a)) → T (lt x (next_down a)) → ⊥
unfolding is_nan neg
down-stuck nan x F n l h = n
down-stuck (inf true) x F n l h = not-below x (subst (λ (y : Float). T (lt x y)) down-least h)
down-stuck (inf false) x F n l h = lt_not_le (next_down (inf false)) (inf false) (next_down-below (inf false) F tt) l
down-stuck (fin s m e) x F n l h = lt_not_le (next_down (fin s m e)) (fin s m e) (next_down-below (fin s m e) F tt) l

-- where the second is not less, nor is its neighbour
down-no : (a b : Float) → T (fits binary64 a) → T (fits binary64 b) → T (number a) → T (number b) → lt b a ≡ false → T (lt (next_down b) (next_down a)) → ⊥
down-no a b F G n m e h = elim (decide (lt (next_down a) b)) [
  | inl t ↦ lt_not_le (next_down b) (next_down a) h (next_down-greatest b G (next_down a) (next_down-fits a) t)
  | inr t ↦ down-stuck a (next_down b) F n (le_trans a b (next_down a) (total-order a b n m (not_true (lt b a) e)) (total-order b (next_down a) m (down_number a F n) t)) h
]

-- so a pick f by the neighbours' comparison has the neighbour of the pick by their own: they compare alike, unless their neighbours are the same
agree : (a b : Float) → T (fits binary64 a) → T (fits binary64 b) → T (number a) → T (number b)
    → (f : Bool → Float) → (next_down a ≡ next_down b → next_down (f false) ≡ next_down (f true))
    → next_down (f (lt (next_down b) (next_down a))) ≡ next_down (f (lt b a))
agree a b F G n m f h = by (lt b a) refl (lt (next_down b) (next_down a)) refl
  where
    by : (t : Bool) → lt b a ≡ t → (u : Bool) → lt (next_down b) (next_down a) ≡ u → next_down (f u) ≡ next_down (f t)
    by true e true g = refl
    by true e false g = h (down-yes a F n b G m (yes (lt b a) e) g)
    by false e true g = absurd (down-no a b F G n m e (yes (lt (next_down b) (next_down a)) g))
    by false e false g = refl

-- the neighbour of a pick
through : (t : Bool) (a b : Float) → cond t (next_down b) (next_down a) ≡ next_down (cond t b a)
through true a b = refl
through false a b = refl

module _ (a b : Float) (F : T (fits binary64 a)) (G : T (fits binary64 b)) (n : T (number a)) (m : T (number b)) where
  p : is_nan a ≡ false
  p = is_false (is_nan a) n

  q : is_nan (next_down a) ≡ false
  q = is_false (is_nan (next_down a)) (down_number a F n)

  down-min_numbers : min_f (next_down a) (next_down b) ≡ next_down (min_f a b)
  down-min_numbers =
      sym (lesser-min _ _ q) ∙ through (lt (next_down b) (next_down a)) a b
      ∙ agree a b F G n m (λ z. cond z b a) (λ e. e) ∙ ap next_down (lesser-min a b p)

  down-max_numbers : max_f (next_down a) (next_down b) ≡ next_down (max_f a b)
  down-max_numbers =
      sym (greater-max _ _ q) ∙ through (lt (next_down a) (next_down b)) a b
      ∙ agree b a G F m n (λ z. cond z b a) (λ e. sym e) ∙ ap next_down (greater-max a b p)

-- a pick that passes a NaN over on both sides
module _ (P : Float → Float → Float) (after-nan : (x : Float) → P nan x ≡ x) (before-nan : (x : Float) → T (number x) → P x nan ≡ x)
    (numbers : (a b : Float) → T (fits binary64 a) → T (fits binary64 b) → T (number a) → T (number b) → P (next_down a) (next_down b) ≡ next_down (P a b)) where
  down_nan : next_down nan ≡ nan
  unfolding next_down next_up neg
  down_nan = refl

  mixed : (a : Float) → T (fits binary64 a) → T (number a) → P (next_down a) (next_down nan) ≡ next_down (P a nan)
  mixed a F n = ap (P (next_down a)) down_nan ∙ before-nan (next_down a) (down_number a F n) ∙ ap next_down (sym (before-nan a n))

  down-pick : (a b : Float) → T (fits binary64 a) → T (fits binary64 b) → P (next_down a) (next_down b) ≡ next_down (P a b)
  down-pick nan b F G = ap (λ (x : Float). P x (next_down b)) down_nan ∙ after-nan (next_down b) ∙ ap next_down (sym (after-nan b))
  down-pick (inf s) nan F G = mixed (inf s) F (unfold is_nan in tt)
  down-pick (inf s) (inf t) F G = numbers (inf s) (inf t) F G (unfold is_nan in tt) (unfold is_nan in tt)
  down-pick (inf s) (fin t n d) F G = numbers (inf s) (fin t n d) F G (unfold is_nan in tt) (unfold is_nan in tt)
  down-pick (fin s m e) nan F G = mixed (fin s m e) F (unfold is_nan in tt)
  down-pick (fin s m e) (inf t) F G = numbers (fin s m e) (inf t) F G (unfold is_nan in tt) (unfold is_nan in tt)
  down-pick (fin s m e) (fin t n d) F G = numbers (fin s m e) (fin t n d) F G (unfold is_nan in tt) (unfold is_nan in tt)

-- the neighbour below the lesser, and below the greater
down-min : (a b : Float) → T (fits binary64 a) → T (fits binary64 b) → min_f (next_down a) (next_down b) ≡ next_down (min_f a b)
down-min = down-pick min_f (λ x. after x) (λ x n. sym (lesser-min x nan (is_false (is_nan x) n)) ∙ before x) down-min_numbers
  where
    after : (x : Float) → min_f nan x ≡ x
    after x = unfold min_f is_nan in refl

    before : (x : Float) → lesser_f x nan ≡ x
    before x = unfold lt in refl

down-max : (a b : Float) → T (fits binary64 a) → T (fits binary64 b) → max_f (next_down a) (next_down b) ≡ next_down (max_f a b)
down-max = down-pick max_f (λ x. after x) (λ x n. sym (greater-max x nan (is_false (is_nan x) n)) ∙ before x) down-max_numbers
  where
    after : (x : Float) → max_f nan x ≡ x
    after x = unfold max_f is_nan in refl

    before : (x : Float) → greater_f x nan ≡ x
    before nan = unfold lt in refl
    before (inf s) = unfold lt in refl
    before (fin s m e) = unfold lt in refl

-- ---- the mirror image

-- the neighbour above is the mirror image of the one below
down-neg : (a : Float) → next_down (neg a) ≡ neg (next_up a)
unfolding next_down
down-neg a = ap (λ (x : Float). neg (next_up x)) (neg-neg a)

up_neg : (a : Float) → neg (next_down (neg a)) ≡ next_up a
up_neg a = ap neg (down-neg a) ∙ neg-neg (next_up a)

-- Q is P's mirror image
module _ (P Q : Float → Float → Float) (is : (a b : Float) → Q a b ≡ neg (P (neg a) (neg b)))
    (below : (a b : Float) → T (fits binary64 a) → T (fits binary64 b) → P (next_down a) (next_down b) ≡ next_down (P a b)) where
  up-pick : (a b : Float) → T (fits binary64 a) → T (fits binary64 b) → Q (next_up a) (next_up b) ≡ next_up (Q a b)
  up-pick a b F G =
      is (next_up a) (next_up b)
      ∙ ap neg ((λ i. P (sym (down-neg a) i) (sym (down-neg b) i)) ∙ below (neg a) (neg b) (neg-fits binary64 a F) (neg-fits binary64 b G))
      ∙ ap (λ (x : Float). neg (next_down x)) (sym (neg-neg (P (neg a) (neg b))) ∙ ap neg (sym (is a b)))
      ∙ up_neg (Q a b)

up-max : (a b : Float) → T (fits binary64 a) → T (fits binary64 b) → max_f (next_up a) (next_up b) ≡ next_up (max_f a b)
up-max = up-pick min_f max_f max_is down-min

up-min : (a b : Float) → T (fits binary64 a) → T (fits binary64 b) → min_f (next_up a) (next_up b) ≡ next_up (min_f a b)
up-min = up-pick max_f min_f min-turned down-max
  where
    min-turned : (a b : Float) → min_f a b ≡ neg (max_f (neg a) (neg b))
    min-turned a b = sym (ap neg (max_is (neg a) (neg b)) ∙ neg-neg (min_f (neg (neg a)) (neg (neg b))) ∙ (λ i. min_f (neg-neg a i) (neg-neg b i)))

-- a union of intervals that were widened is widened once
pub widened-union : (a b c d : Float) → T (fits binary64 a) → T (fits binary64 b) → T (fits binary64 c) → T (fits binary64 d) → union_s (widened a b) (widened c d) ≡ widened (min_f a c) (max_f b d)
unfolding union_s
widened-union a b c d A B C D = λ i. record { lo = down-min a c A C i; hi = up-max b d B D i }

-- ---- the order of two bounds

-- the neighbour above is no less than its double
up_le : (a : Float) → T (fits binary64 a) → T (number a) → T (le a (next_up a))
up_le a F n =
    subst (λ (x : Float). T (le x (next_up a))) (neg-neg a)
    (subst (λ (x : Float). T (le (neg (neg a)) x)) (up_neg a) (neg_le (next_down (neg a)) (neg a) (down_le (neg a) (neg-fits binary64 a F) (number_neg a n))))

-- two bounds that are in order stay so when they are widened
pub widened-order : (a b : Float) → T (fits binary64 a) → T (fits binary64 b) → le a b ≡ true → le (next_down a) (next_up b) ≡ true
widened-order a b F G e =
    let h : T (le a b) = yes (le a b) e in
    is_true (le (next_down a) (next_up b)) (le_trans (next_down a) a (next_up b) (down_le a F (le_number_l a b h)) (le_trans a b (next_up b) h (up_le b G (le_number_r a b h))))

-- what two intervals have in common, where they meet, is widened once
pub widened-meet : (a b c d : Float) → T (fits binary64 a) → T (fits binary64 b) → T (fits binary64 c) → T (fits binary64 d) → le (max_f a c) (min_f b d) ≡ true
    → widened (max_f a c) (min_f b d) ≡ intersect_s (widened a b) (widened c d)
widened-meet a b c d A B C D e =
    meets (widened a b) (widened c d) (next_down (max_f a c)) (next_up (min_f b d)) (sym (down-max a c A C)) (sym (up-min b d B D))
    (widened-order (max_f a c) (min_f b d) (max_either (λ (x : Float). T (fits binary64 x)) a c A C) (min-either (λ (x : Float). T (fits binary64 x)) b d B D) e)
