-- The neighbours of a double above zero, by its bit pattern b: `next_up` and `next_down` are the patterns b + 1 and b - 1. It leans on what Doubles/ shows of patterns.
use mathlib.Core.Path.{◌≡◌, refl, sym, ap, ◌∙◌, subst}
use Prim.Native.Nat.{ℕ, zero, suc, ◌+◌, ◌-◌, ◌*◌, ◌^◌, ◌<◌, zero-le}
use native.Mathlib.Nat.{le_of_lt, lt_of_lt_of_le, lt_of_le_of_lt, lt_irrefl, mul-pos, zero-mul}
use mathlib.Core.Bool.{Bool, true, false, not, true≢false}
use lib.IntN.{ℤ}
use lib.Dec.{T, lit≤}
use lib.Ieee.{Float, nan, inf, fin, binary64, low, fits, up, neg, to_bits, of_bits}
use lib.Ieee.Fits.{down_pos}
use lib.Ieee.Bits.{of_bits-fits, to_bits-of_bits}
use lib.Ieee.Exact.{HasValue}
use Rattle.math.specs.Neighbours.{next_up, next_down}
use Rattle.math.proofs.Doubles.Patterns.{top-bits, size_of, bits-val, rises, written}
use Rattle.math.proofs.Doubles.Next.{below_zero}
use Rattle.math.proofs.Doubles.Mirror.{neg-neg}
use Rattle.math.proofs.Doubles.Tests.{pattern-ok, Positive}

module _ (b : ℕ) (B : 0 < b) (H : b < top-bits binary64) where
  bits_back : to_bits binary64 (of_bits binary64 b) ≡ b
  bits_back = to_bits-of_bits binary64 b (lt_of_lt_of_le H (lit≤ tt)) (subst (λ (t : Bool). T (not t)) (sym (pattern-ok b (le_of_lt H))) tt)

  shape : (x : Float) → HasValue x false (size_of binary64 b) (2 ^ low binary64) → Positive x
  shape nan v = absurd v
  shape (inf s) v = absurd v
  shape (fin true m e) v = absurd (true≢false v.0)
  shape (fin false zero e) v =
      absurd (lt_irrefl 0 (subst (λ (z : ℕ). 0 < z) (sym v.1 ∙ ap (λ (z : ℕ). z * 2 ^ low binary64) (zero-mul (up e)) ∙ zero-mul (2 ^ low binary64)) (mul-pos (lt_of_le_of_lt zero-le (rises binary64 0 b B)) (down_pos e))))
  shape (fin false (suc m) e) v = (m, e, refl)

  found : Positive (of_bits binary64 b)
  found = shape (of_bits binary64 b) (bits-val binary64 b H)

  up_fin : (m : ℕ) (e : ℤ) → next_up (fin false (suc m) e) ≡ of_bits binary64 (to_bits binary64 (fin false (suc m) e) + 1)
  unfolding next_up
  up_fin m e = refl

  pub up_is : next_up (of_bits binary64 b) ≡ of_bits binary64 (b + 1)
  up_is =
      let s = found in
      ap next_up s.2 ∙ up_fin s.0 s.1 ∙ ap (λ (z : ℕ). of_bits binary64 (z + 1)) (sym (ap (to_bits binary64) s.2) ∙ bits_back)

  down_fin : (m : ℕ) (e : ℤ) → next_down (fin false (suc m) e) ≡ neg (of_bits binary64 (to_bits binary64 (fin true (suc m) e) - 1))
  unfolding next_down next_up neg
  down_fin m e = refl

  pub down_is : next_down (of_bits binary64 b) ≡ of_bits binary64 (b - 1)
  down_is =
      let s = found in
      let F = subst (λ (x : Float). T (fits binary64 x)) s.2 (of_bits-fits binary64 b) in
      let w = written binary64 false s.0 s.1 F in
      ap next_down s.2
      ∙ down_fin s.0 s.1
      ∙ ap neg (below_zero s.0 s.1 F w)
      ∙ neg-neg (of_bits binary64 (w.bits - 1))
      ∙ ap (λ (z : ℕ). of_bits binary64 (z - 1)) (sym w.plus ∙ sym (ap (to_bits binary64) s.2) ∙ bits_back)
