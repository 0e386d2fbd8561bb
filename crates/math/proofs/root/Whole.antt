-- The whole root of a number: `root` gives one, and there is only one. It leans on the arithmetic of whole numbers alone.
use mathlib.Core.Path.{◌≡◌, sym, subst}
use Prim.Native.Nat.{ℕ, zero, suc, ◌*◌, ◌/◌, ◌^◌, ◌≤◌, ◌<◌, zero-le}
use native.Mathlib.Nat.{le_trans, lt_of_lt_of_le, le_antisymm, le_of_suc-le-suc, lt_of_not-le, not-le_of_lt, mul-le-mul, pow-suc, div-lt_iff_lt-mul, pow-le-pow_left, zero-lt-suc}
use native.Mathlib.Omega.{arith}
use mathlib.Core.Bool.{Bool, true, false, not, cond}
use lib.Dec.{T, leb, leb→le, nleb→lt}
use lib.Ieee.{size}
use lib.Ieee.Digits.{size-lt}
use Rattle.math.specs.Root.{root_in, root}

-- r is the whole root of n
pub record Whole (r n : ℕ) : Type 0 where
  pub low : r * r ≤ n
  pub high : n < suc r * suc r

pick : (r n : ℕ) → 2 * r * (2 * r) ≤ n → n < suc (suc (2 * r)) * suc (suc (2 * r)) → (b : Bool) → (T b → suc (2 * r) * suc (2 * r) ≤ n) → (T (not b) → n < suc (2 * r) * suc (2 * r)) → Whole (cond b (suc (2 * r)) (2 * r)) n
pick r n l h true p q = record { low = p tt; high = h }
pick r n l h false p q = record { low = l; high = q tt }

quarter_low : (r n : ℕ) → r * r ≤ n / 4 → 2 * r * (2 * r) ≤ n
quarter_low r n h = omega arith

quarter_high : (r n : ℕ) → n / 4 < suc r * suc r → n < suc (suc (2 * r)) * suc (suc (2 * r))
quarter_high r n h = omega arith

root_in-whole : (d n : ℕ) → n < 4 ^ d → Whole (root_in d n) n
unfolding root_in
root_in-whole zero n h = subst (λ (x : ℕ). Whole 0 x) (sym (none n h)) (record { low = zero-le; high = zero-lt-suc 0 })
  where
    none : (n : ℕ) → n < 1 → n ≡ 0
    none n h = omega arith
root_in-whole (suc d) n h =
    go (root_in d (n / 4)) (root_in-whole d (n / 4) ((div-lt_iff_lt-mul (zero-lt-suc 3)).1 (subst (λ (x : ℕ). n < x) (pow-suc 4 d) h)))
  where
    go : (r : ℕ) → Whole r (n / 4) → Whole (cond (leb (suc (2 * r) * suc (2 * r)) n) (suc (2 * r)) (2 * r)) n
    go r w = pick r n (quarter_low r n w.low) (quarter_high r n w.high) (leb (suc (2 * r) * suc (2 * r)) n) (leb→le (suc (2 * r) * suc (2 * r)) n) (nleb→lt (suc (2 * r) * suc (2 * r)) n)

pub root-whole : (n : ℕ) → Whole (root n) n
unfolding root
root-whole n = root_in-whole (size n) n (lt_of_lt_of_le (size-lt n) (pow-le-pow_left two-four (size n)))
  where
    two-four : 2 ≤ 4
    two-four = omega arith

one_way : (q r n : ℕ) → Whole q n → Whole r n → q ≤ r
one_way q r n u v = le_of_suc-le-suc (lt_of_not-le (λ (g : suc r ≤ q). not-le_of_lt v.high (le_trans (mul-le-mul g g) u.low)))

unique : (q r n : ℕ) → Whole q n → Whole r n → q ≡ r
unique q r n u v = le_antisymm (one_way q r n u v) (one_way r q n v u)

pub root_is : (q n : ℕ) → Whole q n → root n ≡ q
root_is q n w = unique (root n) q n (root-whole n) w
