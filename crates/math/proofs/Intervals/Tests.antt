-- What the comparisons of two intervals say of the numbers in them, and what `union`, `intersect` and a sharp interval hold. The same for every arithmetic. Assumes nothing.
use mathlib.Core.Path.{◌≡◌, subst}
use mathlib.Core.Bool.{Bool, true, false, cond}
use Prim.Native.Nat.{ℕ}
use lib.IntN.{ℤ, pos}
use lib.Dec.{T}
use lib.Ieee.{Float, nan, inf, fin, binary64, lt, le, eq, sub}
use Rattle.exact.specs.Rational.{ℚ, 0ℚ, 1ℚ, ◌≤ℚ◌}
use Rattle.exact.proofs.Order.{le_refl, le_antisym}
use Rattle.exact.proofs.Embed.{÷_one}
use Rattle.math.specs.Picks.{min_f, max_f}
use Rattle.math.specs.declared.scalars.Scalar.{Scalar}
use Rattle.math.specs.Scalars.{sharp, ZERO, ONE, ENTIRE, one_f, is_same, is_subset_of, is_exactly, union_s, intersect_s}
use Rattle.math.specs.Values.{value, Below, Above, Holds, Proper}
use Rattle.math.proofs.Bools.{and_l, and_r, pick}
use Rattle.math.proofs.Doubles.Values.{value_zero, eq→value}
use Rattle.math.proofs.Doubles.Order.{below_number, above_number, le_below, le_above, meet_le}
use Rattle.math.proofs.Doubles.Least.{min-either, max_either, min_left, min_second, max_left, max_second}

-- ---- intervals that no operation made
pub sharp_holds : (s : Bool) (m : ℕ) (e : ℤ) → Holds (sharp (fin s m e)) (value (fin s m e))
sharp_holds s m e = record { low = le_refl (value (fin s m e)); high = le_refl (value (fin s m e)) }

pub zero_holds : Holds ZERO 0ℚ
zero_holds = subst (λ (q : ℚ). Holds ZERO q) (value_zero false (pos 0)) (sharp_holds false 0 (pos 0))

pub one_holds : Holds ONE 1ℚ
one_holds = subst (λ (q : ℚ). Holds ONE q) one_is (sharp_holds false 1 (pos 0))
  where
    one_is : value one_f ≡ 1ℚ
    one_is = unfold value in ÷_one

pub entire_holds : (q : ℚ) → Holds ENTIRE q
entire_holds q = record { low = tt; high = tt }

-- an interval with the bounds of a sharp one holds its number alone
pub same_sharp : (a : Scalar) (s : Bool) (m : ℕ) (e : ℤ) (x : ℚ) → T (is_same a (sharp (fin s m e))) → Holds a x → x ≡ value (fin s m e)
same_sharp a s m e x t h = le_antisym (high a.hi (and_r (eq a.lo (fin s m e)) (eq a.hi (fin s m e)) t) h.high) (low a.lo (and_l (eq a.lo (fin s m e)) (eq a.hi (fin s m e)) t) h.low)
  where
    low : (f : Float) → T (eq f (fin s m e)) → Below f x → value (fin s m e) ≤ℚ x
    low nan t b = absurd b
    low (inf u) t b = unfold eq in absurd t
    low (fin u n d) t b = subst (λ (z : ℚ). z ≤ℚ x) (eq→value u n d s m e t) b

    high : (f : Float) → T (eq f (fin s m e)) → Above f x → x ≤ℚ value (fin s m e)
    high nan t b = absurd b
    high (inf u) t b = unfold eq in absurd t
    high (fin u n d) t b = subst (λ (z : ℚ). x ≤ℚ z) (eq→value u n d s m e t) b

subset_holds : (a b : Scalar) (x : ℚ) → T (is_subset_of a b) → Holds a x → Holds b x
subset_holds a b x t h = record {
  low = le_below b.lo a.lo x (and_l (le b.lo a.lo) (le a.hi b.hi) t) h.low;
  high = le_above a.hi b.hi x (and_r (le b.lo a.lo) (le a.hi b.hi) t) h.high;
}

pub exactly_holds : (a b : Scalar) (x : ℚ) → T (is_exactly a b) → Holds b x → Holds a x
exactly_holds a b x t h = subset_holds b a x (and_r (is_subset_of a b) (is_subset_of b a) t) h

-- ---- union and intersect
pub union_left : (a b : Scalar) (x : ℚ) → Holds a x → Holds (union_s a b) x
unfolding union_s
union_left a b x h = record {
  low = le_below (min_f a.lo b.lo) a.lo x (min_left a.lo b.lo (below_number a.lo x h.low)) h.low;
  high = le_above a.hi (max_f a.hi b.hi) x (max_left a.hi b.hi (above_number a.hi x h.high)) h.high;
}

pub union_right : (a b : Scalar) (x : ℚ) → Holds b x → Holds (union_s a b) x
unfolding union_s
union_right a b x h = record {
  low = le_below (min_f a.lo b.lo) b.lo x (min_second a.lo b.lo (below_number b.lo x h.low)) h.low;
  high = le_above b.hi (max_f a.hi b.hi) x (max_second a.hi b.hi (above_number b.hi x h.high)) h.high;
}

pub intersect_holds : (a b : Scalar) (x : ℚ) → Holds a x → Holds b x → Holds (intersect_s a b) x
unfolding intersect_s
intersect_holds a b x h k =
    let lo = max_f a.lo b.lo in
    let hi = min_f a.hi b.hi in
    pick (λ (s : Scalar). Holds s x) (le lo hi) (record { lo = lo; hi = hi }) (cond (le (sub binary64 a.hi a.lo) (sub binary64 b.hi b.lo)) a b)
    (λ _. record { low = max_either (λ (f : Float). Below f x) a.lo b.lo h.low k.low; high = min-either (λ (f : Float). Above f x) a.hi b.hi h.high k.high })
    (λ _. pick (λ (s : Scalar). Holds s x) (le (sub binary64 a.hi a.lo) (sub binary64 b.hi b.lo)) a b (λ _. h) (λ _. k))

-- ---- proper intervals are those that hold a number
low_finite : (l : Float) (x : ℚ) → Below l x → T (lt l (inf false))
unfolding lt
low_finite nan x h = h
low_finite (inf true) x h = tt
low_finite (inf false) x h = h
low_finite (fin s m e) x h = tt

high_finite : (g : Float) (x : ℚ) → Above g x → T (lt (inf true) g)
unfolding lt
high_finite nan x h = h
high_finite (inf true) x h = h
high_finite (inf false) x h = tt
high_finite (fin s m e) x h = tt

pub holds_proper : (a : Scalar) (x : ℚ) → Holds a x → Proper a
holds_proper a x h = record { order = meet_le a.lo a.hi x h.low h.high; low = low_finite a.lo x h.low; high = high_finite a.hi x h.high }

between : (l g : Float) → T (le l g) → T (lt l (inf false)) → T (lt (inf true) g) → (x : ℚ) × Below l x × Above g x
between nan g t u v = unfold le in absurd t
between (inf false) g t u v = unfold lt in absurd u
between (inf true) nan t u v = unfold lt in absurd v
between (inf true) (inf true) t u v = unfold lt in absurd v
between (inf true) (inf false) t u v = (0ℚ, tt, tt)
between (inf true) (fin s m e) t u v = (value (fin s m e), tt, le_refl (value (fin s m e)))
between (fin s m e) g t u v = (value (fin s m e), le_refl (value (fin s m e)), le_above (fin s m e) g (value (fin s m e)) t (le_refl (value (fin s m e))))

pub proper_holds : (a : Scalar) → Proper a → (x : ℚ) × Holds a x
proper_holds a P = let w = between a.lo a.hi P.order P.low P.high in (w.0, record { low = w.1; high = w.2 })
