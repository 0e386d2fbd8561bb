-- `next_up` is the least double above, and `next_down` the greatest below: no double lies between. Through the bit patterns, which are in the order of what they stand for. Assumes nothing.
use mathlib.Core.Path.{◌≡◌, refl, sym, ap, ◌∙◌, subst}
use mathlib.Core.Logic.{◌⊎◌, inl, inr}
use Prim.Native.Nat.{ℕ, zero, suc, ◌+◌, ◌-◌, ◌^◌, ◌≤◌, ◌<◌}
use native.Mathlib.Nat.{le_of_lt, lt_trans, lt_of_lt_of_le, eq-or-lt_of_le, mul-le-mul_right}
use native.Mathlib.Numerals.{add-one}
use native.Mathlib.Omega.{arith}
use mathlib.Core.Bool.{Bool, true, false, not, true≢false}
use lib.IntN.{ℤ}
use lib.Dec.{T, lit<}
use lib.Pow.{pow_pos}
use lib.Ieee.{Float, nan, inf, fin, binary64, low, neg, lt, le, fits, to_bits, of_bits, is_nan}
use lib.Ieee.Fits.{neg-fits}
use lib.Ieee.Bits.{of_bits-to_bits}
use lib.Ieee.Exact.{HasValue}
use lib.Ieee.Order.{le_of_values}
use Rattle.exact.specs.Rational.{ℚ, ◌≤ℚ◌}
use Rattle.exact.proofs.Order.{le_refl as ≤-refl}
use Rattle.math.specs.Neighbours.{next_up, next_down}
use Rattle.math.specs.Values.{value}
use Rattle.math.proofs.Bools.{compare_le}
use Rattle.math.proofs.Doubles.Values.{value-nonneg, value_nonpos, value_zero, value→le}
use Rattle.math.proofs.Doubles.Order.{number, number_neg, le_number_r, le_self, lt→le_f, lt_not_le, le_trans, neg_le}
use Rattle.math.proofs.Doubles.Rounding.{nonneg}
use Rattle.math.proofs.Doubles.Patterns.{top-bits, size_of, rises, bits-val, bits-inf, Written, written}
use Rattle.math.proofs.Doubles.Mirror.{neg-neg, neg_lt}
use Rattle.math.proofs.Doubles.Next.{bits_pos, below_zero, unsign}

-- ---- what is not negative
to_top : (x : Float) → T (number x) → T (le x (inf false))
unfolding le is_nan
to_top nan n = absurd n
to_top (inf true) n = tt
to_top (inf false) n = tt
to_top (fin s m e) n = tt

-- a zero of either sign is at most what is not negative, and the negative of that at most a zero
zero_le : (s : Bool) (d : ℤ) (y : Float) → T (nonneg y) → T (le (fin s zero d) y)
zero_le s d nan h = absurd h
zero_le s d (inf true) h = absurd h
zero_le s d (inf false) h = to_top (fin s zero d) (unfold is_nan in tt)
zero_le s d (fin true m e) h = absurd h
zero_le s d (fin false m e) h = value→le s zero d false m e (subst (λ (z : ℚ). z ≤ℚ value (fin false m e)) (sym (value_zero s d)) (value-nonneg m e))

le_zero : (s : Bool) (d : ℤ) (y : Float) → T (nonneg y) → T (le (neg y) (fin s zero d))
le_zero s d y h = subst (λ (z : Float). T (le (neg y) z)) (flip s) (neg_le (fin (not s) zero d) y (zero_le (not s) d y h))
  where
    flip : (s : Bool) → neg (fin (not s) zero d) ≡ fin s zero d
    flip true = unfold neg in refl
    flip false = unfold neg in refl

-- so no double that is not negative lies strictly below a zero or what is negative
none_under : (x : Float) (s : Bool) (d : ℤ) → T (nonneg x) → T (lt x (fin s zero d)) → ⊥
none_under x s d n t = lt_not_le x (fin s zero d) t (zero_le s d x n)

-- ---- the patterns up to the infinity's are in the order of what they stand for
finite_number : (x : Float) (s : Bool) (a d : ℕ) → HasValue x s a d → T (number x)
unfolding is_nan
finite_number nan s a d v = absurd v
finite_number (inf t) s a d v = tt
finite_number (fin t m e) s a d v = tt

number_bits : (b : ℕ) → b ≤ top-bits binary64 → T (number (of_bits binary64 b))
number_bits b h = elim (eq-or-lt_of_le h) [
  | inl e ↦ subst (λ (x : Float). T (number x)) (sym (bits-inf b e)) (unfold is_nan in tt)
  | inr l ↦ finite_number (of_bits binary64 b) false (size_of binary64 b) (2 ^ low binary64) (bits-val binary64 b l)
]

bits_le : (b c : ℕ) → b ≤ c → c ≤ top-bits binary64 → T (le (of_bits binary64 b) (of_bits binary64 c))
bits_le b c h k = go (eq-or-lt_of_le h) (eq-or-lt_of_le k)
  where
    go : (b ≡ c) ⊎ (b < c) → (c ≡ top-bits binary64) ⊎ (c < top-bits binary64) → T (le (of_bits binary64 b) (of_bits binary64 c))
    go (inl p) q = subst (λ (z : ℕ). T (le (of_bits binary64 z) (of_bits binary64 c))) (sym p) (le_self (of_bits binary64 c) (number_bits c k))
    go (inr l) (inl q) = subst (λ (x : Float). T (le (of_bits binary64 b) x)) (sym (bits-inf c q)) (to_top (of_bits binary64 b) (number_bits b (le_of_lt (lt_of_lt_of_le l k))))
    go (inr l) (inr m) =
        le_of_values (of_bits binary64 b) (of_bits binary64 c) (size_of binary64 b) (2 ^ low binary64) (size_of binary64 c) (2 ^ low binary64) (pow_pos (low binary64)) (pow_pos (low binary64))
        (bits-val binary64 b (lt_trans l m)) (bits-val binary64 c m) (mul-le-mul_right (2 ^ low binary64) (le_of_lt (rises binary64 b c l)))

nonneg-value : (x : Float) (a c : ℕ) → HasValue x false a c → T (nonneg x)
nonneg-value nan a c v = v
nonneg-value (inf t) a c v = absurd v
nonneg-value (fin true m e) a c v = absurd (true≢false v.0)
nonneg-value (fin false m e) a c v = tt

nonneg-bits : (b : ℕ) → b < top-bits binary64 → T (nonneg (of_bits binary64 b))
nonneg-bits b h = nonneg-value (of_bits binary64 b) (size_of binary64 b) (2 ^ low binary64) (bits-val binary64 b h)

-- a value above zero is what its pattern is read as
read : (m : ℕ) (e : ℤ) → T (fits binary64 (fin false (suc m) e)) → (w : Written binary64 (suc m) e) → of_bits binary64 w.bits ≡ fin false (suc m) e
read m e F w = sym (ap (of_bits binary64) w.plus) ∙ of_bits-to_bits binary64 (fin false (suc m) e) F

-- a pattern c and a value above zero that is at least, or is above, what c stands for
above-bits : (c n : ℕ) (d : ℤ) → T (fits binary64 (fin false (suc n) d)) → (u : Written binary64 (suc n) d) → c ≤ top-bits binary64 → T (lt (of_bits binary64 c) (fin false (suc n) d)) → c < u.bits
above-bits c n d G u C t = elim (compare_le u.bits c) [
  | inr l ↦ l
  | inl h ↦ absurd (lt_not_le (of_bits binary64 c) (fin false (suc n) d) t (subst (λ (x : Float). T (le x (of_bits binary64 c))) (read n d G u) (bits_le u.bits c h C)))
]

-- ---- above zero, and from zero: c is the pattern, s the next one
up_least : (c : ℕ) → c < top-bits binary64 → (w : Float) → T (fits binary64 w) → ((n : ℕ) (d : ℤ) (u : Written binary64 (suc n) d) → w ≡ fin false (suc n) d → c < u.bits) → T (nonneg w) → ((d : ℤ) → w ≡ fin false zero d → ⊥)
    → T (le (of_bits binary64 (suc c)) w)
up_least c C nan G f n z = absurd n
up_least c C (inf true) G f n z = absurd n
up_least c C (inf false) G f n z = to_top (of_bits binary64 (suc c)) (number_bits (suc c) C)
up_least c C (fin true k d) G f n z = absurd n
up_least c C (fin false zero d) G f n z = absurd (z d refl)
up_least c C (fin false (suc k) d) G f n z =
    let u = written binary64 false k d G in
    subst (λ (x : Float). T (le (of_bits binary64 (suc c)) x)) (read k d G u) (bits_le (suc c) u.bits (f k d u refl) (le_of_lt u.below))

-- what lies strictly above something that is not negative is not negative
nonneg-above : (x w : Float) → T (nonneg x) → T (lt x w) → T (nonneg w)
nonneg-above x nan n t = absurd (no x t)
  where
    no : (x : Float) → T (lt x nan) → ⊥
    no nan u = unfold lt in u
    no (inf s) u = unfold lt in u
    no (fin s m e) u = unfold lt in u
nonneg-above x (inf true) n t = absurd (no x t)
  where
    no : (x : Float) → T (lt x (inf true)) → ⊥
    no nan u = unfold lt in u
    no (inf true) u = unfold lt in u
    no (inf false) u = unfold lt in u
    no (fin s m e) u = unfold lt in u
nonneg-above x (inf false) n t = tt
nonneg-above nan (fin true k d) n t = absurd n
nonneg-above (inf true) (fin true k d) n t = absurd n
nonneg-above (inf false) (fin true k d) n t = unfold lt in absurd t
nonneg-above (fin true m e) (fin true k d) n t = absurd n
nonneg-above (fin false m e) (fin true k d) n t = unfold lt in absurd t
nonneg-above x (fin false k d) n t = tt

up-pos-least : (m : ℕ) (e : ℤ) → T (fits binary64 (fin false (suc m) e)) → (w : Float) → T (fits binary64 w) → T (lt (fin false (suc m) e) w) → T (le (of_bits binary64 (to_bits binary64 (fin false (suc m) e) + 1)) w)
up-pos-least m e F w G t =
    let v = written binary64 false m e F in
    subst (λ (z : ℕ). T (le (of_bits binary64 z) w)) (sym (ap (λ (z : ℕ). z + 1) v.plus ∙ add-one v.bits))
    (up_least v.bits v.below w G
    (λ n d u q. above-bits v.bits n d (subst (λ (x : Float). T (fits binary64 x)) q G) u (le_of_lt v.below) (subst (λ (x : Float). T (lt x (fin false (suc n) d))) (sym (read m e F v)) (subst (λ (x : Float). T (lt (fin false (suc m) e) x)) q t)))
    (nonneg-above (fin false (suc m) e) w tt t)
    (λ d q. none_under (fin false (suc m) e) false d tt (subst (λ (x : Float). T (lt (fin false (suc m) e) x)) q t)))

zero_least : (s : Bool) (e : ℤ) (w : Float) → T (fits binary64 w) → T (lt (fin s zero e) w) → T (le (of_bits binary64 1) w)
zero_least s e w G t =
    up_least 0 (lit< tt) w G (λ n d u q. bits_pos n d (subst (λ (x : Float). T (fits binary64 x)) q G) u) (above w t)
    (λ d q. lt_not_le (fin s zero e) (fin false zero d) (subst (λ (x : Float). T (lt (fin s zero e) x)) q t) (le-self-zero d))
  where
    le-self-zero : (d : ℤ) → T (le (fin false zero d) (fin s zero e))
    le-self-zero d = value→le false zero d s zero e (subst (λ (z : ℚ). z ≤ℚ value (fin s zero e)) (value_zero s e ∙ sym (value_zero false d)) (≤-refl (value (fin s zero e))))

    above : (w : Float) → T (lt (fin s zero e) w) → T (nonneg w)
    above nan t = unfold lt in absurd t
    above (inf true) t = unfold lt in absurd t
    above (inf false) t = tt
    above (fin false n d) t = tt
    above (fin true n d) t = absurd (lt_not_le (fin s zero e) (fin true n d) t (value→le true n d s zero e (subst (λ (z : ℚ). value (fin true n d) ≤ℚ z) (sym (value_zero s e)) (value_nonpos n d))))

-- ---- below zero: c is no smaller than the pattern of any value above zero whose mirror image is w
mirror-least : (c : ℕ) → c < top-bits binary64 → (w : Float) → T (fits binary64 w) → T (number w)
    → ((n : ℕ) (d : ℤ) (u : Written binary64 (suc n) d) → w ≡ fin true (suc n) d → u.bits ≤ c) → (w ≡ inf true → ⊥) → T (le (neg (of_bits binary64 c)) w)
mirror-least c C nan G n h k = unfold is_nan in absurd n
mirror-least c C (inf true) G n h k = absurd (k refl)
mirror-least c C (inf false) G n h k = to_top (neg (of_bits binary64 c)) (number_neg (of_bits binary64 c) (number_bits c (le_of_lt C)))
mirror-least c C (fin false m d) G n h k = le_trans (neg (of_bits binary64 c)) (fin false zero d) (fin false m d) (le_zero false d (of_bits binary64 c) (nonneg-bits c C)) (zero_le false d (fin false m d) tt)
mirror-least c C (fin true zero d) G n h k = le_zero true d (of_bits binary64 c) (nonneg-bits c C)
mirror-least c C (fin true (suc j) d) G n h k =
    let F = unsign j d G in
    let u = written binary64 false j d F in
    subst (λ (x : Float). T (le (neg (of_bits binary64 c)) x)) (flip j d)
    (neg_le (fin false (suc j) d) (of_bits binary64 c) (subst (λ (x : Float). T (le x (of_bits binary64 c))) (read j d F u) (bits_le u.bits c (h j d u refl) (le_of_lt C))))
  where
    flip : (j : ℕ) (d : ℤ) → neg (fin false (suc j) d) ≡ fin true (suc j) d
    flip j d = unfold neg in refl

lt_number : (x y : Float) → T (lt x y) → T (number y)
lt_number x y t = le_number_r x y (lt→le_f x y t)

not_low : (x : Float) → T (lt x (inf true)) → ⊥
unfolding lt
not_low nan t = t
not_low (inf true) t = t
not_low (inf false) t = t
not_low (fin s m e) t = t

turn : (m : ℕ) (e : ℤ) (n : ℕ) (d : ℤ) → T (lt (fin true m e) (fin true n d)) → T (lt (fin false n d) (fin false m e))
unfolding lt
turn m e n d t = t

pred_le : (a b : ℕ) → a < b → a ≤ b - 1
pred_le a b h = omega arith

pred_lt : (b o : ℕ) → 0 < b → b < o → b - 1 < o
pred_lt b o p h = omega arith

up-neg-least : (m : ℕ) (e : ℤ) → T (fits binary64 (fin true (suc m) e)) → (w : Float) → T (fits binary64 w) → T (lt (fin true (suc m) e) w) → T (le (of_bits binary64 (to_bits binary64 (fin true (suc m) e) - 1)) w)
up-neg-least m e F' w G t =
    let F = unsign m e F' in
    let v = written binary64 false m e F in
    let P = bits_pos m e F v in
    subst (λ (x : Float). T (le x w)) (sym (below_zero m e F v))
    (mirror-least (v.bits - 1) (pred_lt v.bits (top-bits binary64) P v.below) w G (lt_number (fin true (suc m) e) w t)
    (λ n d u q.
    let H = unsign n d (subst (λ (x : Float). T (fits binary64 x)) q G) in
    pred_le u.bits v.bits (above-bits u.bits m e F v (le_of_lt u.below) (subst (λ (x : Float). T (lt x (fin false (suc m) e))) (sym (read n d H u)) (turn (suc m) e (suc n) d (subst (λ (x : Float). T (lt (fin true (suc m) e) x)) q t)))))
    (λ q. not_low (fin true (suc m) e) (subst (λ (x : Float). T (lt (fin true (suc m) e) x)) q t)))

-- the largest finite value, below zero
lowest : of_bits binary64 (to_bits binary64 (inf true) - 1) ≡ neg (of_bits binary64 (top-bits binary64 - 1))
unfolding of_bits to_bits neg
lowest = refl

inf-least : (w : Float) → T (fits binary64 w) → T (lt (inf true) w) → T (le (of_bits binary64 (to_bits binary64 (inf true) - 1)) w)
inf-least w G t =
    subst (λ (x : Float). T (le x w)) (sym lowest)
    (mirror-least (top-bits binary64 - 1) (lit< tt) w G (lt_number (inf true) w t) (λ n d u q. pred_le u.bits (top-bits binary64) u.below) (λ q. not_low (inf true) (subst (λ (x : Float). T (lt (inf true) x)) q t)))

-- THE LAWS: no double lies between x and its neighbour
pub next_up-least : (x : Float) → T (fits binary64 x) → (w : Float) → T (fits binary64 w) → T (lt x w) → T (le (next_up x) w)
unfolding next_up
next_up-least nan F w G t = unfold lt in absurd t
next_up-least (inf false) F w G t = absurd (none w t)
  where
    none : (w : Float) → T (lt (inf false) w) → ⊥
    none nan t = unfold lt in t
    none (inf s) t = unfold lt in t
    none (fin s m e) t = unfold lt in t
next_up-least (inf true) F w G t = inf-least w G t
next_up-least (fin s zero e) F w G t = zero_least s e w G t
next_up-least (fin false (suc m) e) F w G t = up-pos-least m e F w G t
next_up-least (fin true (suc m) e) F w G t = up-neg-least m e F w G t

pub next_down-greatest : (x : Float) → T (fits binary64 x) → (w : Float) → T (fits binary64 w) → T (lt w x) → T (le w (next_down x))
unfolding next_down
next_down-greatest x F w G t =
    subst (λ (z : Float). T (le z (neg (next_up (neg x))))) (neg-neg w)
    (neg_le (next_up (neg x)) (neg w) (next_up-least (neg x) (neg-fits binary64 x F) (neg w) (neg-fits binary64 w G) (neg_lt w x t)))
