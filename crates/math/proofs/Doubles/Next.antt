-- `next_up` gives a double that is above, and `next_down` one that is below. Assumes nothing.
use mathlib.Core.Path.{◌≡◌, refl, sym, ap, ◌∙◌, subst}
use mathlib.Core.Logic.{◌⊎◌, inl, inr}
use Prim.Native.Nat.{ℕ, zero, suc, ◌+◌, ◌-◌, ◌*◌, ◌^◌, ◌<◌}
use native.Mathlib.Nat.{zero-mul, mul-pos, zero-lt-suc, eq-or-lt_of_le, eq-zero-or-pos, lt_irrefl, lt_trans, le_of_lt}
use native.Mathlib.Numerals.{add-one}
use native.Mathlib.Omega.{arith}
use mathlib.Core.Bool.{Bool, true, false}
use lib.IntN.{ℤ}
use lib.Dec.{T, ltb, lt→ltb}
use lib.Pow.{pow_pos}
use lib.Ieee.{Float, nan, inf, fin, binary64, low, top, up, down, neg, lt, fits, to_bits, of_bits}
use lib.Ieee.Fits.{up_pos, down_pos, neg-fits}
use lib.Ieee.Bits.{of_bits-to_bits, of_bits-fits}
use lib.Ieee.Exact.{HasValue}
use Rattle.math.specs.Neighbours.{next_up, next_down}
use Rattle.math.proofs.Doubles.Patterns.{top-bits, size_of, rises, bits-val, bits-inf, signed, under_top, Written, written}
use Rattle.math.proofs.Doubles.Mirror.{neg-neg, neg_lt, lt_of_values, lt_inf}

-- ---- the neighbours are doubles
pub next_up-fits : (x : Float) → T (fits binary64 (next_up x))
unfolding next_up
next_up-fits nan = unfold fits in tt
next_up-fits (inf false) = unfold fits in tt
next_up-fits (inf true) = of_bits-fits binary64 (to_bits binary64 (inf true) - 1)
next_up-fits (fin s zero e) = of_bits-fits binary64 1
next_up-fits (fin false (suc m) e) = of_bits-fits binary64 (to_bits binary64 (fin false (suc m) e) + 1)
next_up-fits (fin true (suc m) e) = of_bits-fits binary64 (to_bits binary64 (fin true (suc m) e) - 1)

pub next_down-fits : (x : Float) → T (fits binary64 (next_down x))
unfolding next_down
next_down-fits x = neg-fits binary64 (next_up (neg x)) (next_up-fits (neg x))

-- ---- up
from_zero : (s : Bool) (e : ℤ) → T (lt (fin s zero e) (of_bits binary64 1))
unfolding lt of_bits
from_zero true e = lt→ltb 0 (0 * up e * 2 ^ 1074 + 1 * 1 * down e) (most (0 * up e * 2 ^ 1074) (down e) (down_pos e))
  where
    most : (a d : ℕ) → 0 < d → 0 < a + 1 * 1 * d
    most a d h = omega arith
from_zero false e = subst (λ (z : ℕ). T (ltb z (1 * 1 * down e))) (sym (ap (λ (z : ℕ). z * 2 ^ 1074) (zero-mul (up e)) ∙ zero-mul (2 ^ 1074))) (lt→ltb 0 (1 * 1 * down e) (most (down e) (down_pos e)))
  where
    most : (d : ℕ) → 0 < d → 0 < 1 * 1 * d
    most d h = omega arith

-- the value of the pattern that was written
pub value : (m : ℕ) (e : ℤ) (F : T (fits binary64 (fin false (suc m) e))) (w : Written binary64 (suc m) e) → HasValue (fin false (suc m) e) false (size_of binary64 w.bits) (2 ^ low binary64)
value m e F w =
    subst (λ (x : Float). HasValue x false (size_of binary64 w.bits) (2 ^ low binary64)) (sym (ap (of_bits binary64) w.plus) ∙ of_bits-to_bits binary64 (fin false (suc m) e) F) (bits-val binary64 w.bits w.below)

above-pos : (m : ℕ) (e : ℤ) → T (fits binary64 (fin false (suc m) e)) → T (lt (fin false (suc m) e) (of_bits binary64 (to_bits binary64 (fin false (suc m) e) + 1)))
above-pos m e F =
    let w = written binary64 false m e F in
    subst (λ (z : ℕ). T (lt (fin false (suc m) e) (of_bits binary64 z))) (sym (ap (λ (z : ℕ). z + 1) w.plus ∙ add-one w.bits))
    (go w (eq-or-lt_of_le w.below))
  where
    go : (w : Written binary64 (suc m) e) → (suc w.bits ≡ top-bits binary64) ⊎ (suc w.bits < top-bits binary64) → T (lt (fin false (suc m) e) (of_bits binary64 (suc w.bits)))
    go w (inl p) = subst (λ (x : Float). T (lt (fin false (suc m) e) x)) (sym (bits-inf (suc w.bits) p)) (lt_inf (fin false (suc m) e) false (size_of binary64 w.bits) (2 ^ low binary64) (value m e F w))
    go w (inr l) =
        lt_of_values (fin false (suc m) e) (of_bits binary64 (suc w.bits)) (size_of binary64 w.bits) (size_of binary64 (suc w.bits)) (2 ^ low binary64) (value m e F w) (bits-val binary64 (suc w.bits) l)
        (rises binary64 w.bits (suc w.bits) (self w.bits))
      where
        self : (b : ℕ) → b < suc b
        self b = omega arith

-- a pattern of a value above zero is above zero
pub bits_pos : (m : ℕ) (e : ℤ) → T (fits binary64 (fin false (suc m) e)) → (w : Written binary64 (suc m) e) → 0 < w.bits
bits_pos m e F w = elim (eq-zero-or-pos w.bits) [
  | inl z ↦ absurd (lt_irrefl 0 (subst (λ (x : ℕ). 0 < x) ((value m e F w).1 ∙ ap (λ (b : ℕ). size_of binary64 b * down e) z ∙ zero-mul (down e)) (mul-pos (mul-pos (zero-lt-suc m) (up_pos e)) (pow_pos (low binary64)))))
  | inr p ↦ p
]

less_one : (t b : ℕ) → 0 < b → t + b - 1 ≡ t + (b - 1)
less_one t b h = omega arith

pred_lt : (b : ℕ) → 0 < b → b - 1 < b
pred_lt b h = omega arith

-- one pattern down from one below zero
pub below_zero : (m : ℕ) (e : ℤ) → T (fits binary64 (fin false (suc m) e)) → (w : Written binary64 (suc m) e) → of_bits binary64 (to_bits binary64 (fin true (suc m) e) - 1) ≡ neg (of_bits binary64 (w.bits - 1))
below_zero m e F w =
    ap (λ (z : ℕ). of_bits binary64 (z - 1)) w.minus
    ∙ ap (of_bits binary64) (less_one (top binary64) w.bits (bits_pos m e F w))
    ∙ signed binary64 (w.bits - 1) (under_top binary64 (w.bits - 1) (le_of_lt (lt_trans (pred_lt w.bits (bits_pos m e F w)) w.below)))

flip : (m : ℕ) (e : ℤ) → neg (fin false m e) ≡ fin true m e
unfolding neg
flip m e = refl

pub unsign : (m : ℕ) (e : ℤ) → T (fits binary64 (fin true (suc m) e)) → T (fits binary64 (fin false (suc m) e))
unfolding fits
unsign m e t = t

above-neg : (m : ℕ) (e : ℤ) → T (fits binary64 (fin true (suc m) e)) → T (lt (fin true (suc m) e) (of_bits binary64 (to_bits binary64 (fin true (suc m) e) - 1)))
above-neg m e G =
    let F = unsign m e G in
    let w = written binary64 false m e F in
    let P = bits_pos m e F w in
    subst (λ (x : Float). T (lt (fin true (suc m) e) x)) (sym (below_zero m e F w))
    (subst (λ (x : Float). T (lt x (neg (of_bits binary64 (w.bits - 1))))) (flip (suc m) e)
    (neg_lt (of_bits binary64 (w.bits - 1)) (fin false (suc m) e)
    (lt_of_values (of_bits binary64 (w.bits - 1)) (fin false (suc m) e) (size_of binary64 (w.bits - 1)) (size_of binary64 w.bits) (2 ^ low binary64)
    (bits-val binary64 (w.bits - 1) (lt_trans (pred_lt w.bits P) w.below)) (value m e F w) (rises binary64 (w.bits - 1) w.bits (pred_lt w.bits P)))))

-- where there is something above
abbrev pub upward : Float → Bool
upward nan = false
upward (inf s) = s
upward (fin s m e) = true

pub next_up-above : (x : Float) → T (fits binary64 x) → T (upward x) → T (lt x (next_up x))
unfolding next_up
next_up-above nan F t = absurd t
next_up-above (inf false) F t = absurd t
next_up-above (inf true) F t = unfold lt of_bits to_bits in tt
next_up-above (fin s zero e) F t = from_zero s e
next_up-above (fin false (suc m) e) F t = above-pos m e F
next_up-above (fin true (suc m) e) F t = above-neg m e F

pub next_down-below : (x : Float) → T (fits binary64 x) → T (upward (neg x)) → T (lt (next_down x) x)
unfolding next_down
next_down-below x F t = subst (λ (y : Float). T (lt (neg (next_up (neg x))) y)) (neg-neg x) (neg_lt (neg x) (next_up (neg x)) (next_up-above (neg x) (neg-fits binary64 x F) t))
