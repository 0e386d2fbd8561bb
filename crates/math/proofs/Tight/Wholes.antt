-- What src/digits.rt computes with whole numbers: comparisons of numbers that are doubled until one passes the other. Assumes nothing.
use mathlib.Core.Path.{◌≡◌, sym, ap, ap₂, ◌∙◌, subst}
use mathlib.Core.Logic.{inl, inr}
use mathlib.Core.Bool.{Bool, false, cond}
use Prim.Native.Nat.{ℕ, ◌+◌, ◌-◌, ◌*◌, ◌/◌, ◌%◌, ◌^◌, ◌≤◌, ◌<◌}
use native.Mathlib.Nat.{le_trans, le_of_eq, lt_of_lt_of_le, mul-le-mul_left, mul_assoc, mul-lt-mul_of_pos_right, mul-mul-mul_comm, eq-or-lt_of_le}
use native.Mathlib.Omega.{arith}
use lib.Dec.{T, not_T, ltb, eqb, lt→ltb, ltb→lt, eqb→eq, eqb_refl}
use lib.Pow.{pow-add, pow_pos, pow_mono}
use lib.Ieee.Bits.{is_true, is_false}
use Rattle.math.proofs.Bools.{compare_le}
use Rattle.std.proofs.Common.{Ordering, Less, Equal, Greater}
use Rattle.std.specs.Ordering.{nat_cmp, ordering_reverse}
use Rattle.std.proofs.lemmas.Cmp.{nat_cmp_total}
use Rattle.math.specs.Digits.{digits_of, shift_of, size_of}

-- ---- the three outcomes of a comparison
pub side-below : (a b : ℕ) → a < b → Less ≡ nat_cmp a b
side-below a b h = sym (ap (λ (z : Bool). cond z Less (cond (eqb a b) Equal Greater)) (is_true (ltb a b) (lt→ltb a b h)))

side_same : (a b : ℕ) → a ≡ b → Equal ≡ nat_cmp a b
side_same a b h = sym (
    ap (λ (z : Bool). cond z Less (cond (eqb a b) Equal Greater)) (is_false (ltb a b) (not_T (ltb a b) (λ t. no (ltb→lt a b t))))
    ∙ ap (λ (z : Bool). cond z Equal Greater) (is_true (eqb a b) (subst (λ (z : ℕ). T (eqb a z)) h (eqb_refl a))))
  where
    no : a < b → ⊥
    no l = omega arith

side-above : (a b : ℕ) → b < a → Greater ≡ nat_cmp a b
side-above a b h = sym (
    ap (λ (z : Bool). cond z Less (cond (eqb a b) Equal Greater)) (is_false (ltb a b) (not_T (ltb a b) (λ t. no (ltb→lt a b t))))
    ∙ ap (λ (z : Bool). cond z Equal Greater) (is_false (eqb a b) (not_T (eqb a b) (λ t. differ (eqb→eq a b t)))))
  where
    no : a < b → ⊥
    no l = omega arith

    differ : a ≡ b → ⊥
    differ e = omega arith

pub side_at : (a b c d : ℕ) → a ≡ c → b ≡ d → nat_cmp a b ≡ nat_cmp c d
side_at a b c d e f = ap (λ (z : ℕ). nat_cmp z b) e ∙ ap (λ (z : ℕ). nat_cmp c z) f

-- ---- doubled until it passes
pub passes : (n t w i d : ℕ) → t ≡ w * 2 ^ i → i ≤ d → n < t → n < w * 2 ^ d
passes n t w i d e h l = lt_of_lt_of_le l (le_trans (le_of_eq e) (mul-le-mul_left w (pow_mono h)))

-- ---- the digits of a pattern, and their place
pub digits_low : (b : ℕ) → b < 0x10_0000_0000_0000 → b ≡ digits_of b
unfolding digits_of
digits_low b h = sym (ap (λ (z : Bool). cond z b (b % 0x10_0000_0000_0000 + 0x10_0000_0000_0000)) (is_true (ltb b 0x10_0000_0000_0000) (lt→ltb b 0x10_0000_0000_0000 h)))

not_low : (b : ℕ) → 0x10_0000_0000_0000 ≤ b → ltb b 0x10_0000_0000_0000 ≡ false
not_low b h = is_false (ltb b 0x10_0000_0000_0000) (not_T (ltb b 0x10_0000_0000_0000) (λ t. no (ltb→lt b 0x10_0000_0000_0000 t)))
  where
    no : b < 0x10_0000_0000_0000 → ⊥
    no l = omega arith

pub digits_high : (b : ℕ) → 0x10_0000_0000_0000 ≤ b → b % 0x10_0000_0000_0000 + 0x10_0000_0000_0000 ≡ digits_of b
unfolding digits_of
digits_high b h = sym (ap (λ (z : Bool). cond z b (b % 0x10_0000_0000_0000 + 0x10_0000_0000_0000)) (not_low b h))

pub shift_low : (b : ℕ) → b < 0x10_0000_0000_0000 → 0 ≡ shift_of b
unfolding shift_of
shift_low b h = sym (ap (λ (z : Bool). cond z 0 (b / 0x10_0000_0000_0000 - 1)) (is_true (ltb b 0x10_0000_0000_0000) (lt→ltb b 0x10_0000_0000_0000 h)))

pub shift_high : (b : ℕ) → 0x10_0000_0000_0000 ≤ b → b / 0x10_0000_0000_0000 - 1 ≡ shift_of b
unfolding shift_of
shift_high b h = sym (ap (λ (z : Bool). cond z 0 (b / 0x10_0000_0000_0000 - 1)) (not_low b h))

-- ---- both sides times the same
pub side-scale : (a b g : ℕ) → 0 < g → nat_cmp a b ≡ nat_cmp (a * g) (b * g)
side-scale a b g h = elim (compare_le a b) [
  | inl l ↦ elim (eq-or-lt_of_le l) [
    | inl e ↦ sym (side_same a b e) ∙ side_same (a * g) (b * g) (ap (λ (z : ℕ). z * g) e)
    | inr k ↦ sym (side-below a b k) ∙ side-below (a * g) (b * g) (mul-lt-mul_of_pos_right k h)
  ]
  | inr l ↦ sym (side-above a b l) ∙ side-above (a * g) (b * g) (mul-lt-mul_of_pos_right l h)
]

-- ---- m n 2 ^ (i + j) against w 2 ^ l 2 ^ 1074
gather : (m i n j : ℕ) → m * 2 ^ i * (n * 2 ^ j) ≡ m * n * 2 ^ (i + j)
gather m i n j = mul-mul-mul_comm m (2 ^ i) n (2 ^ j) ∙ ap (λ (z : ℕ). m * n * z) (sym (pow-add 2 i j))

powers : (w a b c d : ℕ) → a + b ≡ c + d → w * 2 ^ a * 2 ^ b ≡ w * 2 ^ c * 2 ^ d
powers w a b c d e = join a b ∙ ap (λ (z : ℕ). w * 2 ^ z) e ∙ sym (join c d)
  where
    join : (a b : ℕ) → w * 2 ^ a * 2 ^ b ≡ w * 2 ^ (a + b)
    join a b = mul_assoc w (2 ^ a) (2 ^ b) ∙ ap (λ (z : ℕ). w * z) (sym (pow-add 2 a b))

pub side-up : (m i n j w l : ℕ) → i + j ≤ l + 1022 → nat_cmp (m * n) (w * 2 ^ 52 * 2 ^ (l + 1022 - (i + j))) ≡ nat_cmp (m * 2 ^ i * (n * 2 ^ j)) (w * 2 ^ l * 2 ^ 1074)
side-up m i n j w l r =
    side-scale (m * n) (w * 2 ^ 52 * 2 ^ (l + 1022 - (i + j))) (2 ^ (i + j)) (pow_pos (i + j))
    ∙ side_at _ _ _ _ (sym (gather m i n j)) (ap (λ (z : ℕ). z * 2 ^ (i + j)) (joined w 52 (l + 1022 - (i + j))) ∙ powers w (52 + (l + 1022 - (i + j))) (i + j) l 1074 (sums i j l r))
  where
    joined : (w a b : ℕ) → w * 2 ^ a * 2 ^ b ≡ w * 2 ^ (a + b)
    joined w a b = mul_assoc w (2 ^ a) (2 ^ b) ∙ ap (λ (z : ℕ). w * z) (sym (pow-add 2 a b))

    sums : (i j l : ℕ) → i + j ≤ l + 1022 → 52 + (l + 1022 - (i + j)) + (i + j) ≡ l + 1074
    sums i j l r = omega arith

pub side-down : (m i n j w l : ℕ) → l + 1022 < i + j → nat_cmp (m * n * 2 ^ (i + j - (l + 1022))) (w * 2 ^ 52) ≡ nat_cmp (m * 2 ^ i * (n * 2 ^ j)) (w * 2 ^ l * 2 ^ 1074)
side-down m i n j w l r =
    side-scale (m * n * 2 ^ (i + j - (l + 1022))) (w * 2 ^ 52) (2 ^ (l + 1022)) (pow_pos (l + 1022))
    ∙ side_at _ _ _ _ (mul_assoc (m * n) (2 ^ (i + j - (l + 1022))) (2 ^ (l + 1022)) ∙ ap (λ (z : ℕ). m * n * z) (sym (pow-add 2 (i + j - (l + 1022)) (l + 1022)) ∙ ap (λ (z : ℕ). 2 ^ z) (back i j l r)) ∙ sym (gather m i n j)) (powers w 52 (l + 1022) l 1074 (sums l))
  where
    back : (i j l : ℕ) → l + 1022 < i + j → i + j - (l + 1022) + (l + 1022) ≡ i + j
    back i j l r = omega arith

    sums : (l : ℕ) → 52 + (l + 1022) ≡ l + 1074
    sums l = omega arith

-- ---- what `side` finds, from what it calls
sized : (m n i j : ℕ) → m ≡ n → i ≡ j → m * 2 ^ i ≡ n * 2 ^ j
sized m n i j e f = ap₂ ◌*◌ e (ap (λ (z : ℕ). 2 ^ z) f)

module _ (x y z m n w i j l p : ℕ) (r : Ordering) (em : m ≡ digits_of x) (en : n ≡ digits_of y) (ew : w ≡ digits_of z) (ei : i ≡ shift_of x) (ej : j ≡ shift_of y) (el : l ≡ shift_of z) (ep : p ≡ m * n) where
  sizes : nat_cmp (m * 2 ^ i * (n * 2 ^ j)) (w * 2 ^ l * 2 ^ 1074) ≡ nat_cmp (size_of x * size_of y) (size_of z * 2 ^ 1074)
  sizes = side_at _ _ _ _ (ap₂ ◌*◌ (sized m (digits_of x) i (shift_of x) em ei) (sized n (digits_of y) j (shift_of y) en ej)) (ap (λ (v : ℕ). v * 2 ^ 1074) (sized w (digits_of z) l (shift_of z) ew el))

  pub by_up : (v : ℕ) → v ≡ w * 2 ^ 52 → i + j ≤ l + 1022 → r ≡ nat_cmp p (v * 2 ^ (l + 1022 - (i + j))) → r ≡ nat_cmp (size_of x * size_of y) (size_of z * 2 ^ 1074)
  by_up v ev o e = e ∙ side_at _ _ _ _ ep (ap (λ (u : ℕ). u * 2 ^ (l + 1022 - (i + j))) ev) ∙ side-up m i n j w l o ∙ sizes

  pub by_down : (v : ℕ) → v ≡ w * 2 ^ 52 → l + 1022 < i + j → r ≡ ordering_reverse (nat_cmp v (p * 2 ^ (i + j - (l + 1022)))) → r ≡ nat_cmp (size_of x * size_of y) (size_of z * 2 ^ 1074)
  by_down v ev o e =
      e ∙ sym (nat_cmp_total.antisymm (p * 2 ^ (i + j - (l + 1022))) v)
      ∙ side_at _ _ _ _ (ap (λ (u : ℕ). u * 2 ^ (i + j - (l + 1022))) ep) ev ∙ side-down m i n j w l o ∙ sizes
