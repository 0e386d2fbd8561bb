-- From the whole root to the double: the pattern that `root_bits` makes is that of `root_of`. It leans on Whole.antt, that a whole root is the only one, and on Scaled.antt.
use mathlib.Core.Path.{◌≡◌, refl, sym, ap, ◌∙◌}
use Prim.Native.Nat.{ℕ, suc, ◌+◌, ◌-◌, ◌*◌, ◌/◌, ◌%◌, ◌^◌, ◌≤◌, ◌<◌}
use native.Mathlib.Nat.{le_trans, le_of_eq, le_of_lt, lt_of_lt_of_le, lt_irrefl, lt_of_not-le, not-le_of_lt, le_of_suc-le-suc, mul_assoc, mul-le-mul, mul-le-mul_right, mul-lt-mul_of_pos_right, mul-div_cancel, le-suc, le_of_mul-le-mul_right}
use native.Mathlib.Numerals.{add-one}
use native.Mathlib.Omega.{arith}
use mathlib.Core.Bool.{Bool, false, cond}
use lib.Dec.{ltb, lt→ltb}
use lib.Arith.{le→nltb}
use lib.Pow.{pow-add, pow_mono}
use lib.Ieee.{binary64, size, units, of_bits}
use lib.Ieee.Digits.{size-lt, size-le}
use lib.Ieee.Bits.{is_true, is_false}
use Rattle.math.specs.Root.{root, nearest_root, root_of}
use Rattle.math.specs.Scale.{Normal, Even}
use Rattle.math.proofs.root.Whole.{Whole, root-whole, root_is}
use Rattle.math.proofs.root.Scaling.{bound, pattern, four, four-pos, squared}

-- ---- the size of a root
size_is : (z k : ℕ) → 2 ^ (52 + k) ≤ z → z < 2 ^ (53 + k) → size z - 53 ≡ k
size_is z k l h =
    let a : size z ≤ 53 + k = size-le z (53 + k) h in
    let b : 52 + k < size z = lt_of_not-le (λ (g : size z ≤ 52 + k). lt_irrefl z (lt_of_lt_of_le (size-lt z) (le_trans (pow_mono g) l))) in
    omega arith

module _ (m k q rem y : ℕ) (low_m : (2 ^ 52) ≤ m) (high_m : m < 2 ^ 54) (sum : m * 2 ^ 52 ≡ q * q + rem) (tail : rem ≤ 2 * q) (K : k ≤ 1600) (Y : y ≡ m * 2 ^ 52 * 4 ^ k) where
  whole-N : Whole q (m * 2 ^ 52)
  whole-N = record { low = omega arith; high = omega arith }

  q_low : (2 ^ 52) ≤ q
  q_low = le_of_suc-le-suc (lt_of_not-le (λ (g : suc q ≤ 2 ^ 52). not-le_of_lt whole-N.high (le_trans (mul-le-mul g g) (mul-le-mul_right (2 ^ 52) low_m))))

  q_high : q < 2 ^ 53
  q_high = lt_of_not-le (λ (g : (2 ^ 53) ≤ q). not-le_of_lt (square m high_m) (le_trans (mul-le-mul g g) whole-N.low))
    where
      square : (m : ℕ) → m < 2 ^ 54 → m * 2 ^ 52 < 2 ^ 53 * 2 ^ 53
      square m h = omega arith

  whole_y : Whole (root y) y
  whole_y = root-whole y

  z_low : q * 2 ^ k ≤ root y
  z_low = le_of_suc-le-suc (lt_of_not-le (λ (g : suc (root y) ≤ q * 2 ^ k). not-le_of_lt whole_y.high (le_trans (mul-le-mul g g) (le_trans (le_of_eq (squared q (2 ^ k) ∙ ap (λ (x : ℕ). q * q * x) (sym (four k)))) (le_trans (mul-le-mul_right (4 ^ k) whole-N.low) (le_of_eq (sym Y)))))))

  z_high : root y < suc q * 2 ^ k
  z_high = lt_of_not-le (λ (g : suc q * 2 ^ k ≤ root y). not-le_of_lt whole-N.high (le_of_mul-le-mul_right (le_trans (le_of_eq (sym (squared (suc q) (2 ^ k) ∙ ap (λ (x : ℕ). suc q * suc q * x) (sym (four k))))) (le_trans (mul-le-mul g g) (le_trans whole_y.low (le_of_eq Y)))) (four-pos k)))

  dropped : size (root y) - 53 ≡ k
  dropped =
      size_is (root y) k (le_trans (le_of_eq (pow-add 2 52 k)) (le_trans (mul-le-mul_right (2 ^ k) q_low) z_low))
      (lt_of_lt_of_le z_high (le_trans (mul-le-mul_right (2 ^ k) q_high) (le_of_eq (sym (pow-add 2 53 k)))))

  quotient_is : y / 4 ^ k ≡ m * 2 ^ 52
  quotient_is = ap (λ (x : ℕ). x / 4 ^ k) Y ∙ mul-div_cancel (m * 2 ^ 52) (four-pos k)

  unfolded : root_of y ≡ units binary64 false (nearest_root y (root (y / 4 ^ (size (root y) - 53))) (size (root y) - 53)) (size (root y) - 53)
  unfolding root_of
  unfolded = refl

  root_of_is : root_of y ≡ units binary64 false (nearest_root y q k) k
  root_of_is =
      unfolded
      ∙ ap (λ (j : ℕ). units binary64 false (nearest_root y (root (y / 4 ^ j)) j) j) dropped
      ∙ ap (λ (n : ℕ). units binary64 false (nearest_root y (root n) k) k) quotient_is
      ∙ ap (λ (r : ℕ). units binary64 false (nearest_root y r k) k) (root_is q (m * 2 ^ 52) whole-N)

  four_y : 4 * y ≡ 4 * (m * 2 ^ 52) * 4 ^ k
  four_y = ap (λ (x : ℕ). 4 * x) Y ∙ sym (mul_assoc 4 (m * 2 ^ 52) (4 ^ k))

  goes-up : q < rem → nearest_root y q k ≡ suc q
  unfolding nearest_root
  goes-up h = ap (λ (b : Bool). cond b (suc q) q) (is_true (ltb ((2 * q + 1) * (2 * q + 1) * 4 ^ k) (4 * y)) (lt→ltb ((2 * q + 1) * (2 * q + 1) * 4 ^ k) (4 * y) (lt_of_lt_of_le (mul-lt-mul_of_pos_right (half q rem (m * 2 ^ 52) sum h) (four-pos k)) (le_of_eq (sym four_y)))))
    where
      half : (q r n : ℕ) → n ≡ q * q + r → q < r → (2 * q + 1) * (2 * q + 1) < 4 * n
      half q r n e h = omega arith

  stays : rem ≤ q → nearest_root y q k ≡ q
  unfolding nearest_root
  stays h = ap (λ (b : Bool). cond b (suc q) q) (is_false (ltb ((2 * q + 1) * (2 * q + 1) * 4 ^ k) (4 * y)) (le→nltb ((2 * q + 1) * (2 * q + 1) * 4 ^ k) (4 * y) (le_trans (le_of_eq four_y) (mul-le-mul_right (4 ^ k) (half q rem (m * 2 ^ 52) sum h)))))
    where
      half : (q r n : ℕ) → n ≡ q * q + r → r ≤ q → 4 * n ≤ (2 * q + 1) * (2 * q + 1)
      half q r n e h = omega arith

  up-pattern : q < rem → of_bits binary64 (k * 2 ^ 52 + (q + 1)) ≡ root_of y
  up-pattern h =
      ap (λ (x : ℕ). of_bits binary64 (k * 2 ^ 52 + x)) (add-one q)
      ∙ pattern k (suc q) K (le_trans q_low (le-suc q)) q_high
      ∙ sym (root_of_is ∙ ap (λ (x : ℕ). units binary64 false x k) (goes-up h))

  down-pattern : rem ≤ q → of_bits binary64 (k * 2 ^ 52 + q) ≡ root_of y
  down-pattern h = pattern k q K q_low (le_of_lt q_high) ∙ sym (root_of_is ∙ ap (λ (x : ℕ). units binary64 false x k) (stays h))

-- ---- the steps together
even_power : (a k : ℕ) → a ≡ 52 + (k + k) → 2 ^ a ≡ 2 ^ 52 * 4 ^ k
even_power a k e = ap (λ (x : ℕ). 2 ^ x) e ∙ pow-add 2 52 (k + k) ∙ ap (λ (x : ℕ). (2 ^ 52) * x) (pow-add 2 k k ∙ sym (four k))

joined : {m₀ a₀ m₁ a₁ m a : ℕ} → Normal m₀ a₀ m₁ a₁ → Even m₁ a₁ m a → m₀ * 2 ^ a₀ ≡ m * 2 ^ 52 * 4 ^ ((a - 52) / 2)
joined {m₀} {a₀} {m₁} {a₁} {m} {a} n e =
    sym n.same ∙ sym e.same ∙ ap (λ (x : ℕ). m * x) (even_power a ((a - 52) / 2) (halves a n.least e.least e.even)) ∙ sym (mul_assoc m (2 ^ 52) (4 ^ ((a - 52) / 2)))
  where
    halves : (a : ℕ) → 1021 ≤ a₁ → a₁ ≤ a + 1 → a % 2 ≡ 0 → a ≡ 52 + ((a - 52) / 2 + (a - 52) / 2)
    halves a h k e = omega arith

module _ {m₀ a₀ m₁ a₁ m a : ℕ} (q rem : ℕ) (A : a₀ ≤ 3119) (n : Normal m₀ a₀ m₁ a₁) (e : Even m₁ a₁ m a) (s : (m * 2 ^ 52 ≡ q * q + rem) × (rem ≤ 2 * q)) where
  low_m : 2 ^ 52 ≤ m
  low_m = le_trans n.low e.low

  high_m : m < 2 ^ 54
  high_m = omega (arith, n.high, e.high)

  small-k : (a - 52) / 2 ≤ 1600
  small-k = omega (arith, n.most, e.most)

  small_q : q < 2 ^ 53
  small_q = q_high m ((a - 52) / 2) q rem (m₀ * 2 ^ a₀) low_m high_m s.0 s.1 small-k (joined n e)

  pub up_lt : (a - 52) / 2 * 2 ^ 52 + (q + 1) < 0x7ff0_0000_0000_0000
  up_lt = bound ((a - 52) / 2) (q + 1) small-k (omega (arith, small_q))

  pub down_lt : (a - 52) / 2 * 2 ^ 52 + q < 0x7ff0_0000_0000_0000
  down_lt = bound ((a - 52) / 2) q small-k (le_of_lt small_q)

  pub up-answer : q < rem → of_bits binary64 ((a - 52) / 2 * 2 ^ 52 + (q + 1)) ≡ root_of (m₀ * 2 ^ a₀)
  up-answer h = up-pattern m ((a - 52) / 2) q rem (m₀ * 2 ^ a₀) low_m high_m s.0 s.1 small-k (joined n e) h

  pub down-answer : rem ≤ q → of_bits binary64 ((a - 52) / 2 * 2 ^ 52 + q) ≡ root_of (m₀ * 2 ^ a₀)
  down-answer h = down-pattern m ((a - 52) / 2) q rem (m₀ * 2 ^ a₀) low_m high_m s.0 s.1 small-k (joined n e) h
