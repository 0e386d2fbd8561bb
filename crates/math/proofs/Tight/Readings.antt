-- What a finite double's bit pattern says: its size, by `size_of`, and its sign. Assumes nothing.
use mathlib.Core.Path.{◌≡◌, refl, sym, ap, ap₂, ◌∙◌}
use mathlib.Core.Logic.{inl, inr}
use mathlib.Core.Bool.{Bool, true, false, cond}
use Prim.Native.Nat.{ℕ, zero, suc, ◌+◌, ◌-◌, ◌*◌, ◌/◌, ◌%◌, ◌^◌, ◌≤◌, ◌<◌}
use native.Mathlib.Nat.{mul-one, zero-add, zero-mul, zero-div}
use native.Mathlib.Omega.{arith}
use lib.IntN.{ℤ}
use lib.Dec.{T}
use lib.Pow.{pow_pos}
use lib.Ieee.{fin, binary64, low, up, down, fits, to_bits, neg, top, hid, prec, size, span, climb}
use Rattle.exact.specs.Rational.{ℚ, -ℚ◌, ◌÷◌, signed}
use Rattle.exact.proofs.Embed.{÷_zero}
use Rattle.math.specs.Values.{value}
use Rattle.math.proofs.Bools.{compare_le}
use Rattle.math.proofs.Doubles.Values.{value_is, value_zero, value-neg}
use Rattle.math.proofs.Doubles.Patterns.{Written, written}
use Rattle.math.proofs.Doubles.Patterns as P
use Rattle.math.proofs.Doubles.Next as N
use Rattle.math.specs.Digits.{digits_of, shift_of, size_of, size_q, Reading}
use Rattle.math.proofs.Tight.Wholes.{digits_low, digits_high, shift_low, shift_high}

-- the two ways to read a size are one
same_size : (b : ℕ) → size_of b ≡ P.size_of binary64 b
same_size b = elim (compare_le 0x10_0000_0000_0000 b) [
  | inl h ↦ ap₂ (λ (x y : ℕ). x * 2 ^ y) (sym (digits_high b h)) (sym (shift_high b h)) ∙ high (b / 0x10_0000_0000_0000) (b % 0x10_0000_0000_0000) (some b h)
  | inr h ↦ ap₂ (λ (x y : ℕ). x * 2 ^ y) (sym (digits_low b h)) (sym (shift_low b h)) ∙ mul-one b ∙ sym (ap₂ (λ (x t : ℕ). P.size_at binary64 x t) (none b h) (rest b h))
]
  where
    some : (b : ℕ) → 0x10_0000_0000_0000 ≤ b → 0 < b / 0x10_0000_0000_0000
    some b h = omega arith

    none : (b : ℕ) → b < 0x10_0000_0000_0000 → b / 0x10_0000_0000_0000 ≡ 0
    none b h = omega arith

    rest : (b : ℕ) → b < 0x10_0000_0000_0000 → b % 0x10_0000_0000_0000 ≡ b
    rest b h = omega arith

    high : (x t : ℕ) → 0 < x → (t + 0x10_0000_0000_0000) * 2 ^ (x - 1) ≡ P.size_at binary64 x t
    high zero t h = absurd (no h)
      where
        no : 0 < 0 → ⊥
        no h = omega arith
    high (suc x) t h = ap₂ (λ (u v : ℕ). u * 2 ^ v) (swap t) (pred x)
      where
        swap : (t : ℕ) → t + 0x10_0000_0000_0000 ≡ 0x10_0000_0000_0000 + t
        swap t = omega arith

        pred : (x : ℕ) → suc x - 1 ≡ x
        pred x = omega arith

-- ---- what is read off a finite double
from-plus : (s : Bool) (m : ℕ) (e : ℤ) (b : ℕ) → value (fin false m e) ≡ size_q b → value (fin s m e) ≡ signed s (size_q b)
from-plus false m e b h = h
from-plus true m e b h = unfold neg in value-neg (fin false m e) ∙ ap (λ (z : ℚ). -ℚ z) h

zero_bits : (s : Bool) (e : ℤ) → to_bits binary64 (fin s zero e) ≡ cond s 0x8000_0000_0000_0000 0 + 0
unfolding to_bits
zero_bits s e = ap (λ (n : ℕ). cond s (top binary64) 0 + (size n - prec binary64) * hid binary64 + n / 2 ^ (size n - prec binary64)) (ap (λ (z : ℕ). z * 2 ^ low binary64 / down e) (zero-mul (up e)) ∙ zero-div (down e)) ∙ ends s
  where
    ends : (s : Bool) → cond s (top binary64) 0 + (size 0 - prec binary64) * hid binary64 + 0 / 2 ^ (size 0 - prec binary64) ≡ cond s 0x8000_0000_0000_0000 0 + 0
    ends true = unfold size span climb in refl
    ends false = unfold size span climb in refl

pub reading : (s : Bool) (m : ℕ) (e : ℤ) → T (fits binary64 (fin s m e)) → Reading s m e
unfolding digits_of shift_of
reading s zero e F = record { bits = 0; below = omega arith; at = zero_bits s e; size = from-plus s zero e 0 (value_zero false e ∙ sym (÷_zero (2 ^ low binary64))) }
reading s (suc m) e F = record { bits = w.bits; below = w.below; at = at s; size = from-plus s (suc m) e w.bits (value_is (fin false (suc m) e) false (P.size_of binary64 w.bits) (2 ^ low binary64) (pow_pos (low binary64)) (N.value m e (plus s F) w) ∙ ap (λ (z : ℕ). z ÷ 2 ^ low binary64) (sym (same_size w.bits))) }
  where
    w : Written binary64 (suc m) e
    w = written binary64 s m e F

    plus : (s : Bool) → T (fits binary64 (fin s (suc m) e)) → T (fits binary64 (fin false (suc m) e))
    plus false F = F
    plus true F = N.unsign m e F

    at : (s : Bool) → to_bits binary64 (fin s (suc m) e) ≡ cond s 0x8000_0000_0000_0000 0 + w.bits
    at false = w.plus ∙ sym (zero-add w.bits)
    at true = w.minus
