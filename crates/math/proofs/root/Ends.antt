-- What the tests of `sqrt` say, and how a double's bit pattern gives the number whose root is taken. It leans on the laws of tests and patterns in Doubles/.
use mathlib.Core.Path.{◌≡◌, refl, sym, ap, ◌∙◌, subst}
use Prim.Native.Nat.{ℕ, zero, suc, ◌+◌, ◌-◌, ◌*◌, ◌/◌, ◌%◌, ◌^◌, ◌<◌}
use native.Mathlib.Nat.{mul-pos, zero-lt-suc, zero-mul, mul_assoc, mul-div_cancel, add_comm, le_of_lt}
use native.Mathlib.Omega.{arith}
use mathlib.Core.Bool.{Bool, true, false, not, ◌||◌, beq, false≢true}
use lib.IntN.{ℤ, pos}
use lib.Dec.{T, eqb, ltb→lt, lt→ltb}
use lib.Pow.{pow-add}
use lib.Ieee.{Float, nan, inf, fin, binary64, up, down, is_nan, eq, lt, fits, to_bits, of_bits, nan_bits}
use lib.Ieee.Fits.{up_pos, down_pos, and_l}
use Rattle.math.proofs.Doubles.Patterns.{size_of, size_at, written}
use Rattle.math.proofs.Doubles.Next.{value, bits_pos}
use Rattle.math.proofs.Bools.{yes, no, and_i, or_r, same_eqb}
use Rattle.math.proofs.Doubles.Tests.{nonzero, zero_bits, inf_bits, eq-inf, pattern-ok, no-nan_bits, Positive}
use Rattle.math.specs.Root.{sqrt_f, root_of}

pub at_nan : (x : Float) → is_nan x ≡ true → x ≡ sqrt_f x
unfolding is_nan sqrt_f
at_nan nan e = refl
at_nan (inf s) e = absurd (false≢true e)
at_nan (fin s m d) e = absurd (false≢true e)

zero_root : (x : Float) → T (eq x (fin false 0 (pos 0))) → x ≡ sqrt_f x
unfolding eq sqrt_f
zero_root nan t = absurd t
zero_root (inf s) t = absurd t
zero_root (fin s zero e) t = refl
zero_root (fin s (suc m) e) t = absurd (nonzero m e (and_l (eqb (suc m * up e * 1) (0 * 1 * down e)) (beq s false || eqb (suc m * up e * 1) 0) t))

pub at_zero : (x : Float) → eq x (of_bits binary64 0) ≡ true → x ≡ sqrt_f x
at_zero x e = zero_root x (yes (eq x (fin false 0 (pos 0))) (sym (ap (λ (z : Float). eq x z) zero_bits) ∙ e))

pub at_inf : (x : Float) → eq x (of_bits binary64 0x7ff0_0000_0000_0000) ≡ true → x ≡ sqrt_f x
unfolding sqrt_f
at_inf x e = subst (λ (y : Float). y ≡ sqrt_f y) (sym (eq-inf x (yes (eq x (inf false)) (sym (ap (λ (z : Float). eq x z) inf_bits) ∙ e)))) refl

nan_is : of_bits binary64 0x7ff8_0000_0000_0000 ≡ nan
unfolding of_bits
nan_is = refl

neg-root : (x : Float) → T (lt x (fin false 0 (pos 0))) → nan ≡ sqrt_f x
unfolding lt sqrt_f
neg-root nan t = absurd t
neg-root (inf true) t = refl
neg-root (inf false) t = absurd t
neg-root (fin true (suc m) e) t = refl
neg-root (fin true zero e) t = absurd (nothing (up e) (down e) (zero-mul (up e)) (ltb→lt 0 (0 * up e * 1 + 0 * 1 * down e) t))
  where
    nothing : (u d : ℕ) → 0 * u ≡ 0 → 0 < 0 * u * 1 + 0 * 1 * d → ⊥
    nothing u d z h = omega arith
neg-root (fin false m e) t = absurd (nothing (m * up e * 1) (down e) (ltb→lt (m * up e * 1) (0 * 1 * down e) t))
  where
    nothing : (a d : ℕ) → a < 0 * 1 * d → ⊥
    nothing a d h = omega arith

pub at_negative : (x : Float) → lt x (of_bits binary64 0) ≡ true → of_bits binary64 0x7ff8_0000_0000_0000 ≡ sqrt_f x
at_negative x e = nan_is ∙ neg-root x (yes (lt x (fin false 0 (pos 0))) (sym (ap (λ (z : Float). lt x z) zero_bits) ∙ e))

-- ---- what is left
kind : (x : Float) → T (not (is_nan x)) → (T (eq x (fin false 0 (pos 0))) → ⊥) → (T (lt x (fin false 0 (pos 0))) → ⊥) → (T (eq x (inf false)) → ⊥) → Positive x
unfolding is_nan eq lt
kind nan n z l i = absurd n
kind (inf true) n z l i = absurd (l tt)
kind (inf false) n z l i = absurd (i tt)
kind (fin s zero e) n z l i =
    absurd (z (and_i (eqb (0 * up e * 1) (0 * 1 * down e)) (beq s false || eqb (0 * up e * 1) 0) (same_eqb (0 * up e * 1) (0 * 1 * down e) (omega (arith, zero-mul (up e)))) (or_r (beq s false) (eqb (0 * up e * 1) 0) (same_eqb (0 * up e * 1) 0 (omega (arith, zero-mul (up e)))))))
kind (fin true (suc m) e) n z l i = absurd (l (lt→ltb 0 (suc m * up e * 1 + 0 * 1 * down e) (some (suc m * up e) (down e) (mul-pos (zero-lt-suc m) (up_pos e)))))
  where
    some : (a d : ℕ) → 0 < a → 0 < a * 1 + 0 * 1 * d
    some a d k = omega arith
kind (fin false (suc m) e) n z l i = (m, e, refl)

pub positive : (x : Float) → is_nan x ≡ false → eq x (of_bits binary64 0) ≡ false → lt x (of_bits binary64 0) ≡ false → eq x (of_bits binary64 0x7ff0_0000_0000_0000) ≡ false → Positive x
positive x n z l i =
    kind x (subst (λ (b : Bool). T (not b)) (sym n) tt) (no (eq x (fin false 0 (pos 0))) (sym (ap (λ (y : Float). eq x y) zero_bits) ∙ z)) (no (lt x (fin false 0 (pos 0))) (sym (ap (λ (y : Float). lt x y) zero_bits) ∙ l))
    (no (eq x (inf false)) (sym (ap (λ (y : Float). eq x y) inf_bits) ∙ i))

-- ---- the pattern of a value above zero
pub record Read (x : Float) (b : ℕ) : Type 0 where
  pub low : 0 < b
  pub high : b < 0x7ff0_0000_0000_0000
  pub root : sqrt_f x ≡ root_of (size_of binary64 b * 2 ^ 1074)

pub read_fin : (m : ℕ) (e : ℤ) → T (fits binary64 (fin false (suc m) e)) → Read (fin false (suc m) e) (to_bits binary64 (fin false (suc m) e))
unfolding sqrt_f
read_fin m e F =
    let w = written binary64 false m e F in
    subst (λ (b : ℕ). Read (fin false (suc m) e) b) (sym w.plus) (record {
      low = bits_pos m e F w;
      high = w.below;
      root = ap (λ (n : ℕ). root_of (n * 2 ^ 1074)) (ap (λ (n : ℕ). n / down e) (value m e F w).1 ∙ mul-div_cancel (size_of binary64 w.bits) (down_pos e));
    })

pub read : (x : Float) → T (fits binary64 x) → Positive x → Read x (to_bits binary64 x)
read x F k = subst (λ (y : Float). Read y (to_bits binary64 y)) (sym k.2) (read_fin k.0 k.1 (subst (λ (y : Float). T (fits binary64 y)) k.2 F))

-- with the exponent's field 0, and above it
pub low_field : (x : Float) (b : ℕ) → Read x b → b / 2 ^ 52 ≡ 0 → sqrt_f x ≡ root_of (b % 2 ^ 52 * 2 ^ 1074)
low_field x b r e = r.root ∙ ap (λ (n : ℕ). root_of (size_at binary64 n (b % 2 ^ 52) * 2 ^ 1074)) e

at_field : (x n t : ℕ) → n ≡ suc x → size_at binary64 n t * 2 ^ 1074 ≡ (t + 2 ^ 52) * 2 ^ (n + 1073)
at_field x n t e =
    ap (λ (k : ℕ). size_at binary64 k t * 2 ^ 1074) e
    ∙ mul_assoc (2 ^ 52 + t) (2 ^ x) (2 ^ 1074)
    ∙ ap (λ (p : ℕ). (2 ^ 52 + t) * p) (sym (pow-add 2 x 1074))
    ∙ ap (λ (h : ℕ). h * 2 ^ (x + 1074)) (add_comm (2 ^ 52) t)
    ∙ ap (λ (k : ℕ). (t + 2 ^ 52) * 2 ^ k) (same x n e)
  where
    same : (x n : ℕ) → n ≡ suc x → x + 1074 ≡ n + 1073
    same x n e = omega arith

pub high_field : (x : Float) (b : ℕ) → Read x b → (b / 2 ^ 52 ≡ 0 → ⊥) → sqrt_f x ≡ root_of ((b % 2 ^ 52 + 2 ^ 52) * 2 ^ (b / 2 ^ 52 + 1073))
high_field x b r n = r.root ∙ ap root_of (at_field (b / 2 ^ 52 - 1) (b / 2 ^ 52) (b % 2 ^ 52) (back (b / 2 ^ 52) n))
  where
    back : (k : ℕ) → (k ≡ 0 → ⊥) → k ≡ suc (k - 1)
    back k n = omega arith

pub fine : (b : ℕ) → b < 0x7ff0_0000_0000_0000 → T (not (nan_bits binary64 b))
fine b h = no-nan_bits b (pattern-ok b (le_of_lt h))
