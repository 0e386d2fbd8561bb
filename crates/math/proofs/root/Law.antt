-- The laws of the root of a double above zero, over the exact numbers: √x lies between the doubles next to `sqrt_f x` (`sqrt-encloses`), and `sqrt_f x` is the nearest
-- double to it, with no tie (`sqrt-nearest`); that it is a double of the format is `root-fits`.
-- They come from Near.antt's inequalities of whole numbers. The statements are in specs/RootLaws.antt.
use mathlib.Core.Path.{◌≡◌, sym, ap, ◌∙◌, subst}
use Prim.Native.Nat.{ℕ, suc, ◌+◌, ◌-◌, ◌*◌, ◌^◌, ◌≤◌, ◌<◌, zero-le}
use native.Mathlib.Nat.{le_trans, le_of_eq, lt_of_lt_of_le, lt_of_le_of_lt, lt_trans, not-le_of_lt, one-mul, mul_assoc, mul-pos, mul-le-mul, mul-le-mul_right, mul-lt-mul_of_pos_right, eq_of_mul-eq-mul_right}
use native.Mathlib.Omega.{arith}
use mathlib.Core.Bool.{true, false, true≢false}
use lib.IntN.{ℤ}
use lib.Dec.{T, lit≤}
use lib.Pow.{pow-add, pow_pos}
use lib.Ieee.{Float, nan, inf, fin, binary64, fits, up, down, of_bits}
use lib.Ieee.Fits.{down_pos}
use lib.Ieee.Bits.{of_bits-fits}
use lib.Ieee.Exact.{HasValue}
use Rattle.exact.specs.Rational.{ℚ, ◌+ℚ◌, ◌*ℚ◌, ◌≤ℚ◌, ◌<ℚ◌, 0ℚ, ◌÷◌, whole, not_le→lt}
use Rattle.exact.proofs.Embed.{÷_eq, ÷_le, ÷_le⁻¹, ÷_mul, ÷_add, ÷_nn}
use Rattle.math.specs.Neighbours.{next_up, next_down}
use Rattle.math.specs.Root.{root_of, sqrt_f}
use Rattle.math.specs.Values.{value}
use Rattle.math.specs.RootLaws.{is_finite, square, SqrtEncloses, SqrtNearest}
use Rattle.math.proofs.Doubles.Held.{held}
use Rattle.math.proofs.Doubles.Patterns.{top-bits, size_of, bits-val, rises, written}
use Rattle.math.proofs.Doubles.Next.{bits_pos, value as written-value}
use Rattle.math.proofs.root.Ends.{read_fin}
use Rattle.math.proofs.root.Near.{near}
use Rattle.math.proofs.root.Beside.{up_is, down_is}

-- ---- a / c against n / c, by whole numbers
÷_lt : (a b c d : ℕ) → 0 < c → 0 < d → a * d < b * c → a ÷ c <ℚ b ÷ d
÷_lt a b c d C D h = not_le→lt (λ k. not-le_of_lt h (÷_le⁻¹ b a d c D C k))

square_is : (a c : ℕ) → 0 < c → square (a ÷ c) ≡ (a * a) ÷ (c * c)
square_is a c C = ÷_mul a a c c C C

mid_is : (a b c : ℕ) → 0 < c → square (a ÷ c +ℚ b ÷ c) ≡ ((a + b) * (a + b)) ÷ (c * c)
mid_is a b c C = ap square (÷_add a b c C) ∙ square_is (a + b) c C

four_is : (n c : ℕ) → 0 < c → whole 4 *ℚ (n ÷ c) ≡ (4 * n) ÷ c
four_is n c C = ÷_mul 4 n 1 c (lit≤ tt) C ∙ ap (λ (z : ℕ). (4 * n) ÷ z) (one-mul c)

square_low : (a n c : ℕ) → 0 < c → a * a ≤ n * c → square (a ÷ c) ≤ℚ n ÷ c
square_low a n c C h = rw square_is (÷_le (a * a) n (c * c) c (mul-pos C C) C (le_trans (mul-le-mul_right c h) (le_of_eq (mul_assoc n c c))))

square_high : (a n c : ℕ) → 0 < c → n * c ≤ a * a → n ÷ c ≤ℚ square (a ÷ c)
square_high a n c C h = rw square_is (÷_le n (a * a) c (c * c) C (mul-pos C C) (le_trans (le_of_eq (sym (mul_assoc n c c))) (mul-le-mul_right c h)))

mid_low : (a b n c : ℕ) → 0 < c → (a + b) * (a + b) < 4 * (n * c) → square (a ÷ c +ℚ b ÷ c) <ℚ whole 4 *ℚ (n ÷ c)
mid_low a b n c C h = rw (mid_is, four_is) (÷_lt ((a + b) * (a + b)) (4 * n) (c * c) c (mul-pos C C) C (lt_of_lt_of_le (mul-lt-mul_of_pos_right h C) (le_of_eq (regroup n c))))
  where
    regroup : (n c : ℕ) → 4 * (n * c) * c ≡ 4 * n * (c * c)
    regroup n c = omega arith

mid_high : (a b n c : ℕ) → 0 < c → 4 * (n * c) < (a + b) * (a + b) → whole 4 *ℚ (n ÷ c) <ℚ square (a ÷ c +ℚ b ÷ c)
mid_high a b n c C h = rw (mid_is, four_is) (÷_lt (4 * n) ((a + b) * (a + b)) c (c * c) C (mul-pos C C) (lt_of_le_of_lt (le_of_eq (regroup n c)) (mul-lt-mul_of_pos_right h C)))
  where
    regroup : (n c : ℕ) → 4 * n * (c * c) ≡ 4 * (n * c) * c
    regroup n c = omega arith

-- ---- a double by its value
value_is : (x : Float) (a c : ℕ) → 0 < c → HasValue x false a c → value x ≡ a ÷ c
unfolding value
value_is nan a c C v = absurd v
value_is (inf s) a c C v = absurd v
value_is (fin true m e) a c C v = absurd (true≢false v.0)
value_is (fin false m e) a c C v = ÷_eq (m * up e) a (down e) c (down_pos e) C v.1

finite_is : (x : Float) (a c : ℕ) → HasValue x false a c → T (is_finite x)
finite_is nan a c v = absurd v
finite_is (inf s) a c v = absurd v
finite_is (fin s m e) a c v = tt

-- what is known of the root r of x: the sizes a < b < d of the double below, of r and of the double above, and that of x, in parts of c
record Known (x r : Float) : Type 0 where
  a : ℕ
  b : ℕ
  d : ℕ
  n : ℕ
  c : ℕ
  some : 0 < c
  double : T (fits binary64 r)
  at_down : HasValue (next_down r) false a c
  at : HasValue r false b c
  at_up : HasValue (next_up r) false d c
  operand : HasValue x false n c
  a_b : a < b
  b_d : b < d
  under : (a + b) * (a + b) < 4 * (n * c)
  over : 4 * (n * c) < (b + d) * (b + d)

encloses : (x r : Float) → Known x r → SqrtEncloses x r
encloses x r k = record {
  finite = finite_is r k.b k.c k.at;
  finite_down = finite_is (next_down r) k.a k.c k.at_down;
  finite_up = finite_is (next_up r) k.d k.c k.at_up;
  nonneg = subst (λ (z : ℚ). 0ℚ ≤ℚ z) (sym down-value) (÷_nn k.a k.c);
  below = rw (down-value, value_is x k.n k.c k.some k.operand) (square_low k.a k.n k.c k.some (low k.a k.b (k.n * k.c) k.a_b k.under));
  above = rw (value_is x k.n k.c k.some k.operand, value_is (next_up r) k.d k.c k.some k.at_up) (square_high k.d k.n k.c k.some (high k.b k.d (k.n * k.c) k.b_d k.over));
}
  where
    down-value : value (next_down r) ≡ k.a ÷ k.c
    down-value = value_is (next_down r) k.a k.c k.some k.at_down

    quarter_low : (a y : ℕ) → (a + a) * (a + a) < 4 * y → a * a ≤ y
    quarter_low a y h = omega arith

    low : (a b y : ℕ) → a < b → (a + b) * (a + b) < 4 * y → a * a ≤ y
    low a b y h l = quarter_low a y (lt_of_le_of_lt (mul-le-mul (twice a b h) (twice a b h)) l)
      where
        twice : (a b : ℕ) → a < b → a + a ≤ a + b
        twice a b h = omega arith

    quarter_high : (d y : ℕ) → 4 * y < (d + d) * (d + d) → y ≤ d * d
    quarter_high d y h = omega arith

    high : (b d y : ℕ) → b < d → 4 * y < (b + d) * (b + d) → y ≤ d * d
    high b d y h l = quarter_high d y (lt_of_lt_of_le l (mul-le-mul (twice b d h) (twice b d h)))
      where
        twice : (b d : ℕ) → b < d → b + d ≤ d + d
        twice b d h = omega arith

nearest : (x r : Float) → Known x r → SqrtNearest x r
nearest x r k = record {
  below = rw (value_is (next_down r) k.a k.c k.some k.at_down, value_is r k.b k.c k.some k.at, value_is x k.n k.c k.some k.operand) (mid_low k.a k.b k.n k.c k.some k.under);
  above = rw (value_is x k.n k.c k.some k.operand, value_is r k.b k.c k.some k.at, value_is (next_up r) k.d k.c k.some k.at_up) (mid_high k.b k.d k.n k.c k.some k.over);
}

-- ---- the root of a double above zero is known
size-pos : (b : ℕ) → 0 < b → 1 ≤ size_of binary64 b
size-pos b h = lt_of_le_of_lt zero-le (rises binary64 0 b h)

known : (m : ℕ) (e : ℤ) → T (fits binary64 (fin false (suc m) e)) → Known (fin false (suc m) e) (sqrt_f (fin false (suc m) e))
known m e F =
    let w = written binary64 false m e F in
    let n = size_of binary64 w.bits in
    let y = n * 2 ^ 1074 in
    let v = written-value m e F w in
    let h = held binary64 false m e F in
    let N : n ≡ suc m * 2 ^ h.j = eq_of_mul-eq-mul_right (down e) (down_pos e) n (suc m * 2 ^ h.j) (sym v.1 ∙ h.is) in
    let Y : y ≡ suc m * 2 ^ (h.j + 1074) = ap (λ (z : ℕ). z * 2 ^ 1074) N ∙ mul_assoc (suc m) (2 ^ h.j) (2 ^ 1074) ∙ ap (λ (z : ℕ). suc m * z) (sym (pow-add 2 h.j 1074)) in
    let k = near y (suc m) (h.j + 1074) (big n (size-pos w.bits (bits_pos m e F w))) (small n (rises binary64 w.bits (top-bits binary64) w.below)) Y h.digits in
    let t : sqrt_f (fin false (suc m) e) ≡ of_bits binary64 k.bits = (read_fin m e F).root ∙ ap (λ (b : ℕ). root_of (size_of binary64 b * 2 ^ 1074)) w.plus ∙ k.is in
    let H : k.bits < top-bits binary64 = lt_trans (plus k.bits) k.high in
    record {
      a = size_of binary64 (k.bits - 1);
      b = size_of binary64 k.bits;
      d = size_of binary64 (k.bits + 1);
      n = n;
      c = 2 ^ 1074;
      some = pow_pos 1074;
      double = subst (λ (x : Float). T (fits binary64 x)) (sym t) (of_bits-fits binary64 k.bits);
      at_down = subst (λ (x : Float). HasValue x false (size_of binary64 (k.bits - 1)) (2 ^ 1074)) (sym (ap next_down t ∙ down_is k.bits k.low H)) (bits-val binary64 (k.bits - 1) (lt_of_le_of_lt (less k.bits) H));
      at = subst (λ (x : Float). HasValue x false (size_of binary64 k.bits) (2 ^ 1074)) (sym t) (bits-val binary64 k.bits H);
      at_up = subst (λ (x : Float). HasValue x false (size_of binary64 (k.bits + 1)) (2 ^ 1074)) (sym (ap next_up t ∙ up_is k.bits k.low H)) (bits-val binary64 (k.bits + 1) k.high);
      operand = v;
      a_b = rises binary64 (k.bits - 1) k.bits (pred k.bits k.low);
      b_d = rises binary64 k.bits (k.bits + 1) (plus k.bits);
      under = k.under;
      over = k.over;
    }
  where
    big : (n : ℕ) → 1 ≤ n → 2 ^ 1074 ≤ n * 2 ^ 1074
    big n h = le_trans (le_of_eq (sym (one-mul (2 ^ 1074)))) (mul-le-mul_right (2 ^ 1074) h)

    small : (n : ℕ) → n < 2 ^ 2098 → n * 2 ^ 1074 < 2 ^ 3172
    small n h = lt_of_lt_of_le (mul-lt-mul_of_pos_right h (pow_pos 1074)) (lit≤ tt)

    plus : (a : ℕ) → a < a + 1
    plus a = omega arith

    less : (a : ℕ) → a - 1 ≤ a
    less a = omega arith

    pred : (a : ℕ) → 0 < a → a - 1 < a
    pred a h = omega arith

-- ---- the laws, for every finite double above zero
pub root-fits : (m : ℕ) (e : ℤ) → T (fits binary64 (fin false (suc m) e)) → T (fits binary64 (sqrt_f (fin false (suc m) e)))
root-fits m e F = (known m e F).double

pub sqrt-encloses : (m : ℕ) (e : ℤ) → T (fits binary64 (fin false (suc m) e)) → SqrtEncloses (fin false (suc m) e) (sqrt_f (fin false (suc m) e))
sqrt-encloses m e F = encloses (fin false (suc m) e) (sqrt_f (fin false (suc m) e)) (known m e F)

pub sqrt-nearest : (m : ℕ) (e : ℤ) → T (fits binary64 (fin false (suc m) e)) → SqrtNearest (fin false (suc m) e) (sqrt_f (fin false (suc m) e))
sqrt-nearest m e F = nearest (fin false (suc m) e) (sqrt_f (fin false (suc m) e)) (known m e F)
