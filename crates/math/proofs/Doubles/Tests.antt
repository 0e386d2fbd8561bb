-- What the tests on a double say, and which bit patterns are no NaN's. Assumes nothing.
use mathlib.Core.Path.{◌≡◌, refl, sym, ap, ◌∙◌, subst}
use mathlib.Core.Logic.{inl, inr}
use Prim.Native.Nat.{ℕ, suc, ◌*◌, ◌^◌, ◌≤◌, ◌<◌}
use native.Mathlib.Nat.{mul-pos, zero-lt-suc, eq-or-lt_of_le}
use native.Mathlib.Omega.{arith}
use mathlib.Core.Bool.{Bool, true, false, not, ◌&&◌, ◌||◌}
use lib.IntN.{ℤ, pos}
use lib.Dec.{T, eqb, eqb_refl, eqb→eq}
use lib.Ieee.{Float, nan, inf, fin, binary64, low, up, down, is_nan, ne, eq, of_bits, nan_bits}
use lib.Ieee.Fits.{up_pos}
use lib.Ieee.Bits.{nan_bits_is, is_true}
use lib.Ieee.Exact.{HasValue}
use Rattle.math.proofs.Doubles.Patterns.{top-bits, size_of, bits-val, bits-inf}

-- ---- only a NaN differs from itself
same_side : (n : ℕ) → not (eqb n n && (true || eqb n 0)) ≡ false
same_side n = ap (λ (b : Bool). not (b && true)) (is_true (eqb n n) (eqb_refl n))

pub nan_is : (x : Float) → ne x x ≡ is_nan x
unfolding ne is_nan
nan_is nan = refl
nan_is (inf true) = refl
nan_is (inf false) = refl
nan_is (fin true m e) = same_side (m * up e * down e)
nan_is (fin false m e) = same_side (m * up e * down e)

pub ne_nan : (x : Float) → ne x x ≡ true → is_nan x ≡ true
ne_nan x e = sym (nan_is x) ∙ e

pub ne_number : (x : Float) → ne x x ≡ false → is_nan x ≡ false
ne_number x e = sym (nan_is x) ∙ e

pub no_nan : (x : Float) → ne x x ≡ false → T (not (is_nan x))
no_nan x e = subst (λ (b : Bool). T (not b)) (sym (ne_number x e)) tt

-- ---- the infinity and zero
pub inf_bits : of_bits binary64 0x7ff0_0000_0000_0000 ≡ inf false
unfolding of_bits
inf_bits = refl

pub eq-inf : (x : Float) → T (eq x (inf false)) → x ≡ inf false
unfolding eq
eq-inf nan t = absurd t
eq-inf (inf true) t = absurd t
eq-inf (inf false) t = refl
eq-inf (fin s m e) t = absurd t

pub zero_bits : of_bits binary64 0 ≡ fin false 0 (pos 0)
unfolding of_bits
zero_bits = refl

pub nonzero : (m : ℕ) (e : ℤ) → T (eqb (suc m * up e * 1) (0 * 1 * down e)) → ⊥
nonzero m e t = clash (suc m * up e) (down e) (mul-pos (zero-lt-suc m) (up_pos e)) (eqb→eq (suc m * up e * 1) (0 * 1 * down e) t)
  where
    clash : (a d : ℕ) → 0 < a → a * 1 ≡ 0 * 1 * d → ⊥
    clash a d h k = omega arith

-- ---- above zero and finite
abbrev pub Positive : Float → Type 0
Positive x = (m : ℕ) × (e : ℤ) × (x ≡ fin false (suc m) e)

-- ---- a pattern up to the infinity's is no NaN's
value-no_nan : (x : Float) (s : Bool) (a c : ℕ) → HasValue x s a c → is_nan x ≡ false
unfolding is_nan
value-no_nan nan s a c h = absurd h
value-no_nan (inf t) s a c h = refl
value-no_nan (fin t m e) s a c h = refl

inf-no_nan : (x : Float) → x ≡ inf false → is_nan x ≡ false
unfolding is_nan
inf-no_nan x e = ap is_nan e

pub pattern-ok : (b : ℕ) → b ≤ top-bits binary64 → is_nan (of_bits binary64 b) ≡ false
pattern-ok b h = elim (eq-or-lt_of_le h) [
  | inl e ↦ inf-no_nan (of_bits binary64 b) (bits-inf b e)
  | inr l ↦ value-no_nan (of_bits binary64 b) false (size_of binary64 b) (2 ^ low binary64) (bits-val binary64 b l)
]

pub no-nan_bits : (b : ℕ) → is_nan (of_bits binary64 b) ≡ false → T (not (nan_bits binary64 b))
no-nan_bits b e = subst (λ (t : Bool). T (not t)) (sym (nan_bits_is binary64 b ∙ e)) tt
