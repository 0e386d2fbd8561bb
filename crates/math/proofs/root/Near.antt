-- √y lies strictly between the midpoints of `root_of y` and its two neighbours, in whole numbers of the least positive double. That no tie arises rests on y being a
-- double's number of square units: at most 53 binary digits and then zeros.
use mathlib.Core.Path.{◌≡◌, refl, sym, ap, ◌∙◌, subst}
use mathlib.Core.Logic.{◌⊎◌, inl, inr}
use Prim.Native.Nat.{ℕ, suc, ◌+◌, ◌-◌, ◌*◌, ◌/◌, ◌^◌, ◌≤◌, ◌<◌}
use native.Mathlib.Nat.{le_trans, le_of_eq, le_of_lt, lt_of_lt_of_le, lt_of_le_of_lt, lt_irrefl, lt_of_not-le, not-le_of_lt, le_of_suc-le-suc, le-suc, mul_assoc, add-mul, mul-le-mul, mul-le-mul_right, mul-lt-mul_of_pos_left, mul-lt-mul_of_pos_right, le_of_mul-le-mul_right, div-lt_iff_lt-mul, div-mul-le_self}
use native.Mathlib.Omega.{arith}
use mathlib.Core.Bool.{Bool, true, false, not, cond}
use lib.Dec.{T, ltb, ltb→lt, nltb→le}
use lib.Pow.{pow-add, pow_pos, pow_mono}
use lib.Ieee.{binary64, size, units, of_bits}
use lib.Ieee.Digits.{size-lt, size-le, size_reaches}
use Rattle.math.specs.Root.{root, nearest_root, root_of}
use Rattle.math.proofs.Doubles.Patterns.{top-bits, size_of, rises}
use Rattle.math.proofs.root.Whole.{Whole, root-whole}
use Rattle.math.proofs.root.Scaling.{pattern, size_of_lem, four, four-pos, squared}

-- ---- the leading 53 digits q of √y, for a y from 2 ^ 1074 on
module _ (y k q : ℕ) (K : k ≡ size (root y) - 53) (Q : q ≡ root (y / 4 ^ k)) (big : 2 ^ 1074 ≤ y) (small : y < 2 ^ 3172) where
  whole_q : Whole q (y / 4 ^ k)
  whole_q = subst (λ (r : ℕ). Whole r (y / 4 ^ k)) (sym Q) (root-whole (y / 4 ^ k))

  q_under : q * 2 ^ k * (q * 2 ^ k) ≤ y
  q_under = le_trans (le_of_eq (squared q (2 ^ k) ∙ ap (λ (x : ℕ). q * q * x) (sym (four k)))) (le_trans (mul-le-mul_right (4 ^ k) whole_q.low) (div-mul-le_self y (4 ^ k)))

  q_over : y < suc q * 2 ^ k * (suc q * 2 ^ k)
  q_over = lt_of_lt_of_le ((div-lt_iff_lt-mul (four-pos k)).0 whole_q.high) (le_of_eq (sym (squared (suc q) (2 ^ k) ∙ ap (λ (x : ℕ). suc q * suc q * x) (sym (four k)))))

  -- the root has 538 digits at least, and 1586 at most
  root-big : 2 ^ 537 ≤ root y
  root-big = le_of_suc-le-suc (lt_of_not-le (λ (g : suc (root y) ≤ 2 ^ 537). not-le_of_lt (root-whole y).high (le_trans (mul-le-mul g g) big)))

  root-small : root y < 2 ^ 1586
  root-small = lt_of_not-le (λ (g : 2 ^ 1586 ≤ root y). not-le_of_lt small (le_trans (mul-le-mul g g) (root-whole y).low))

  size-big : 537 < size (root y)
  size-big = lt_of_not-le (λ (g : size (root y) ≤ 537). lt_irrefl (root y) (lt_of_lt_of_le (size-lt (root y)) (le_trans (pow_mono g) root-big)))

  k-small : k ≤ 1600
  k-small = omega (arith, size-le (root y) 1586 root-small)

  k_is : size (root y) ≡ 53 + k
  k_is = omega (arith, size-big)

  root_low : 2 ^ (52 + k) ≤ root y
  root_low = size_reaches (root y) (52 + k) (omega (arith, k_is))

  root_high : root y < 2 ^ (53 + k)
  root_high = subst (λ (j : ℕ). root y < 2 ^ j) k_is (size-lt (root y))

  q_low : 2 ^ 52 ≤ q
  q_low = le_of_suc-le-suc (lt_of_not-le (λ (g : suc q ≤ 2 ^ 52). not-le_of_lt q_over (le_trans (mul-le-mul (both g) (both g)) (root-whole y).low)))
    where
      both : suc q ≤ 2 ^ 52 → suc q * 2 ^ k ≤ root y
      both g = le_trans (mul-le-mul_right (2 ^ k) g) (le_trans (le_of_eq (sym (pow-add 2 52 k))) root_low)

  q_high : q < 2 ^ 53
  q_high = lt_of_not-le (λ (g : 2 ^ 53 ≤ q). not-le_of_lt (root-whole y).high (le_trans (mul-le-mul (both g) (both g)) q_under))
    where
      both : 2 ^ 53 ≤ q → suc (root y) ≤ q * 2 ^ k
      both g = le_trans root_high (le_trans (le_of_eq (pow-add 2 53 k)) (mul-le-mul_right (2 ^ k) g))

  -- ---- no tie
  -- a y of at most 53 digits, followed by t zeros, has more zeros than 4 ^ k
  zeros : (m t : ℕ) → y ≡ m * 2 ^ t → m < 2 ^ 53 → k + k ≤ t
  zeros m t Y M = close (lt_of_not-le (λ (g : 53 + t ≤ 52 + k + (52 + k)). lt_irrefl y (lt_of_lt_of_le above (le_trans (pow_mono g) below))))
    where
      below : 2 ^ (52 + k + (52 + k)) ≤ y
      below = le_trans (le_of_eq (pow-add 2 (52 + k) (52 + k))) (le_trans (mul-le-mul root_low root_low) (root-whole y).low)

      above : y < 2 ^ (53 + t)
      above = lt_of_le_of_lt (le_of_eq Y) (lt_of_lt_of_le (mul-lt-mul_of_pos_right M (pow_pos t)) (le_of_eq (sym (pow-add 2 53 t))))

      close : 52 + k + (52 + k) < 53 + t → k + k ≤ t
      close h = omega arith

  fours : (m t : ℕ) → y ≡ m * 2 ^ t → k + k ≤ t → y ≡ m * 2 ^ (t - (k + k)) * 4 ^ k
  fours m t Y h =
      Y
      ∙ ap (λ (x : ℕ). m * x) (ap (λ (j : ℕ). 2 ^ j) (back t (k + k) h) ∙ pow-add 2 (t - (k + k)) (k + k) ∙ ap (λ (x : ℕ). 2 ^ (t - (k + k)) * x) (pow-add 2 k k ∙ sym (four k)))
      ∙ sym (mul_assoc m (2 ^ (t - (k + k))) (4 ^ k))
    where
      back : (t s : ℕ) → s ≤ t → t ≡ t - s + s
      back t s h = omega arith

  no_tie : (m t : ℕ) → y ≡ m * 2 ^ t → m < 2 ^ 53 → 4 * y ≤ (2 * q + 1) * (2 * q + 1) * 4 ^ k → 4 * y < (2 * q + 1) * (2 * q + 1) * 4 ^ k
  no_tie m t Y M h =
      let z = m * 2 ^ (t - (k + k)) in
      let e : 4 * y ≡ 4 * z * 4 ^ k = ap (λ (x : ℕ). 4 * x) (fours m t Y (zeros m t Y M)) ∙ sym (mul_assoc 4 z (4 ^ k)) in
      lt_of_le_of_lt (le_of_eq e) (mul-lt-mul_of_pos_right (parity q z (le_of_mul-le-mul_right (le_trans (le_of_eq (sym e)) h) (four-pos k))) (four-pos k))
    where
      parity : (q z : ℕ) → 4 * z ≤ (2 * q + 1) * (2 * q + 1) → 4 * z < (2 * q + 1) * (2 * q + 1)
      parity q z h = omega arith

both : {a b c d : ℕ} → a ≡ c → b ≡ d → a + b ≡ c + d
both p q = cc

-- ---- midpoints, doubled: a and b are below and at the root, or at it and above
mid-under : (a b y : ℕ) → a < b → b * b ≤ y → (a + b) * (a + b) < 4 * y
mid-under a b y h l = lt_of_le_of_lt (mul-le-mul (le_of_lt (sum a b h)) (le_of_eq refl)) (lt_of_lt_of_le (mul-lt-mul_of_pos_left (sum a b h) (some a b h)) (twice b y l))
  where
    sum : (a b : ℕ) → a < b → a + b < b + b
    sum a b h = omega arith

    some : (a b : ℕ) → a < b → 0 < b + b
    some a b h = omega arith

    twice : (b y : ℕ) → b * b ≤ y → (b + b) * (b + b) ≤ 4 * y
    twice b y l = omega arith

mid-over : (b c y : ℕ) → b < c → y < b * b → 4 * y < (b + c) * (b + c)
mid-over b c y h l = lt_of_lt_of_le (twice b y l) (mul-le-mul (sum b c h) (sum b c h))
  where
    sum : (b c : ℕ) → b < c → b + b ≤ b + c
    sum b c h = omega arith

    twice : (b y : ℕ) → y < b * b → 4 * y < (b + b) * (b + b)
    twice b y l = omega arith

-- of q and q + 1, times 2 ^ k
mid_is : (q k : ℕ) → (q * 2 ^ k + suc q * 2 ^ k) * (q * 2 ^ k + suc q * 2 ^ k) ≡ (2 * q + 1) * (2 * q + 1) * 4 ^ k
mid_is q k =
    ap (λ (x : ℕ). x * x) (sym (add-mul q (suc q) (2 ^ k)) ∙ ap (λ (x : ℕ). x * 2 ^ k) (odd q))
    ∙ squared (2 * q + 1) (2 ^ k)
    ∙ ap (λ (x : ℕ). (2 * q + 1) * (2 * q + 1) * x) (sym (four k))
  where
    odd : (q : ℕ) → q + suc q ≡ 2 * q + 1
    odd q = omega arith

-- ---- the two cases of the rounding
nearest-or : (y q k : ℕ) → ((nearest_root y q k ≡ q) × (4 * y ≤ (2 * q + 1) * (2 * q + 1) * 4 ^ k)) ⊎ ((nearest_root y q k ≡ suc q) × ((2 * q + 1) * (2 * q + 1) * 4 ^ k < 4 * y))
unfolding nearest_root
nearest-or y q k = go (ltb h (4 * y)) (ltb→lt h (4 * y)) (nltb→le h (4 * y))
  where
    h : ℕ
    h = (2 * q + 1) * (2 * q + 1) * 4 ^ k

    go : (b : Bool) → (T b → h < 4 * y) → (T (not b) → 4 * y ≤ h) → ((cond b (suc q) q ≡ q) × (4 * y ≤ h)) ⊎ ((cond b (suc q) q ≡ suc q) × (h < 4 * y))
    go true l g = inr (refl, l tt)
    go false l g = inl (refl, g tt)

unfolded : (y : ℕ) → root_of y ≡ units binary64 false (nearest_root y (root (y / 4 ^ (size (root y) - 53))) (size (root y) - 53)) (size (root y) - 53)
unfolding root_of
unfolded y = refl

-- the root's pattern, and the sizes of it and its neighbours
pub record Near (y : ℕ) : Type 0 where
  pub bits : ℕ
  pub is : root_of y ≡ of_bits binary64 bits
  pub low : 0 < bits
  pub high : bits + 1 < top-bits binary64
  pub under : (size_of binary64 (bits - 1) + size_of binary64 bits) * (size_of binary64 (bits - 1) + size_of binary64 bits) < 4 * y
  pub over : 4 * y < (size_of binary64 bits + size_of binary64 (bits + 1)) * (size_of binary64 bits + size_of binary64 (bits + 1))

pub near : (y m t : ℕ) → 2 ^ 1074 ≤ y → y < 2 ^ 3172 → y ≡ m * 2 ^ t → m < 2 ^ 53 → Near y
near y m t big small Y M = go (nearest-or y q k)
  where
    k : ℕ
    k = size (root y) - 53

    q : ℕ
    q = root (y / 4 ^ k)

    K : k ≤ 1600
    K = k-small y k q refl refl big small

    lo : 2 ^ 52 ≤ q
    lo = q_low y k q refl refl big small

    hi : q < 2 ^ 53
    hi = q_high y k q refl refl big small

    -- the two patterns
    b : ℕ
    b = k * 2 ^ 52 + q

    at_b : size_of binary64 b ≡ q * 2 ^ k
    at_b = size_of_lem k q lo (le_of_lt hi)

    at_next : size_of binary64 (k * 2 ^ 52 + suc q) ≡ suc q * 2 ^ k
    at_next = size_of_lem k (suc q) (le_trans lo (le-suc q)) hi

    fits : (k q : ℕ) → k ≤ 1600 → q < 2 ^ 53 → k * 2 ^ 52 + suc q + 1 < top-bits binary64
    fits k q h l = omega arith

    some : (a q : ℕ) → 2 ^ 52 ≤ q → 0 < a + q
    some a q l = omega arith

    pred : (a : ℕ) → 0 < a → a - 1 < a
    pred a l = omega arith

    one_more : (a q : ℕ) → a + q + 1 ≡ a + suc q
    one_more a q = omega arith

    one_less : (a q : ℕ) → a + suc q - 1 ≡ a + q
    one_less a q = omega arith

    plus : (a : ℕ) → a < a + 1
    plus a = omega arith

    go : ((nearest_root y q k ≡ q) × (4 * y ≤ (2 * q + 1) * (2 * q + 1) * 4 ^ k)) ⊎ ((nearest_root y q k ≡ suc q) × ((2 * q + 1) * (2 * q + 1) * 4 ^ k < 4 * y)) → Near y
    go (inl e) = record {
      bits = b;
      is = unfolded y ∙ ap (λ (x : ℕ). units binary64 false x k) e.0 ∙ sym (pattern k q K lo (le_of_lt hi));
      low = some (k * 2 ^ 52) q lo;
      high = lt_of_le_of_lt (le_of_eq (one_more (k * 2 ^ 52) q)) (lt_of_lt_of_le (plus (k * 2 ^ 52 + suc q)) (le_of_lt (fits k q K hi)));
      under = mid-under (size_of binary64 (b - 1)) (size_of binary64 b) y (rises binary64 (b - 1) b (pred b (some (k * 2 ^ 52) q lo))) (subst (λ (z : ℕ). z * z ≤ y) (sym at_b) (q_under y k q refl refl big small));
      over = subst (λ (z : ℕ). 4 * y < z * z) (sym (both at_b (ap (size_of binary64) (one_more (k * 2 ^ 52) q) ∙ at_next)))
          (lt_of_lt_of_le (no_tie y k q refl refl big small m t Y M e.1) (le_of_eq (sym (mid_is q k))));
    }
    go (inr e) = record {
      bits = k * 2 ^ 52 + suc q;
      is = unfolded y ∙ ap (λ (x : ℕ). units binary64 false x k) e.0 ∙ sym (pattern k (suc q) K (le_trans lo (le-suc q)) hi);
      low = some (k * 2 ^ 52) (suc q) (le_trans lo (le-suc q));
      high = fits k q K hi;
      under = subst (λ (z : ℕ). z * z < 4 * y) (sym (both (ap (size_of binary64) (one_less (k * 2 ^ 52) q) ∙ at_b) at_next))
          (lt_of_le_of_lt (le_of_eq (mid_is q k)) e.1);
      over = mid-over (size_of binary64 (k * 2 ^ 52 + suc q)) (size_of binary64 (k * 2 ^ 52 + suc q + 1)) y (rises binary64 (k * 2 ^ 52 + suc q) (k * 2 ^ 52 + suc q + 1) (plus (k * 2 ^ 52 + suc q)))
          (subst (λ (z : ℕ). y < z * z) (sym at_next) (q_over y k q refl refl big small));
    }
