-- Sizes: differences of two doubles x < y of moderate size, widened, lie in 0 to 2^102, and above zero where another double lies between; a product of such an interval and one that
-- is at least -1 has no very low bound. Assumes nothing.
use mathlib.Core.Path.{◌≡◌, refl, sym, ap, ap₂, ◌∙◌, subst}
use mathlib.Core.List.{[], ◌∷◌}
use mathlib.Core.Bool.{Bool, true, false, not, cond}
use Prim.Native.Nat.{ℕ, zero, suc, ◌+◌, ◌*◌, ◌^◌}
use native.Mathlib.Nat.{pow-succ'}
use native.Mathlib.Omega.{arith}
use lib.IntN.{ℤ, pos, negsuc}
use lib.Dec.{T, eqb-suc-zero}
use lib.Pow.{pow_pos}
use lib.Ieee.{Float, nan, inf, fin, binary64, low, fits, neg, lt, le, sub, mul, is_nan}
use lib.Ieee.Fits.{sub-fits, mul-fits}
use Rattle.solver.proofs.Ring.{by_rep, by_eq, read}
use Rattle.exact.specs.Rational.{ℚ, ◌+ℚ◌, ◌*ℚ◌, -ℚ◌, ◌-ℚ◌, 0ℚ, 1ℚ, ◌÷◌, signed, ◌≤ℚ◌, ◌<ℚ◌, nn_of, lt→not_le}
use Rattle.exact.proofs.Field.{ℚring, nn_add}
use Rattle.exact.proofs.Order.{le_by, cone}
use Rattle.exact.proofs.Embed.{÷_eq, ÷_add, ÷_one}
use Rattle.math.specs.Neighbours.{next_up, next_down}
use Rattle.math.specs.declared.scalars.Scalar.{Scalar}
use Rattle.math.specs.Scalars.{zero_f, corners, mul_s, least4}
use Rattle.math.specs.Values.{value}
use Rattle.math.specs.Encloses.{is_moderate, Between}
use Rattle.math.proofs.Bools.{and_i, and_l, and_r}
use Rattle.math.proofs.Doubles.Values.{value-neg, value_zero, value-under, le→value}
use Rattle.math.proofs.Doubles.Order.{number, lt_le, le_lt, le_trans, lt→le_f}
use Rattle.math.proofs.Doubles.Rounding.{Rounds, rounds_at, rounds_ge, rounds_le}
use Rattle.math.proofs.Doubles.Operations.{add_rounds, mul-rounds}
use Rattle.math.proofs.Doubles.NextLeast.{next_up-least, next_down-greatest}
use Rattle.math.proofs.Doubles.Grid.{grid, one_step}
use Rattle.math.proofs.Doubles.Least.{least_above, least_fits}
use Rattle.math.proofs.Intervals.Quotient.{minus_one}

-- ---- the doubles 2^k and -2^k
abbrev pub big : ℕ → Float
big k = fin false 1 (pos k)

abbrev pub small : ℕ → Float
small k = fin true 1 (pos k)

-- the two least positive doubles
abbrev pub tiny : Float
tiny = fin false 1 (negsuc 1073)

abbrev pub tiny2 : Float
tiny2 = fin false 1 (negsuc 1072)

pub sub-rounds : (s : Bool) (m : ℕ) (e : ℤ) (t : Bool) (n : ℕ) (d : ℤ) → Rounds (sub binary64 (fin s m e) (fin t n d)) (value (fin s m e) -ℚ value (fin t n d))
unfolding sub neg
sub-rounds s m e t n d = rounds_at _ _ _ (ap (λ (z : ℚ). value (fin s m e) +ℚ z) (unfold neg in value-neg (fin t n d))) (add_rounds s m e (not t) n d)

-- ---- numbers
pub tiny_is : value tiny ≡ 1 ÷ 2 ^ low binary64
unfolding value
tiny_is = refl

pub tiny2_is : value tiny2 ≡ 2 ÷ 2 ^ low binary64
unfolding value
tiny2_is = ÷_eq 1 2 (2 ^ 1073) (2 ^ 1074) (pow_pos 1073) (pow_pos 1074) refl

pub small_is : (k : ℕ) → value (small k) ≡ -ℚ value (big k)
small_is k = unfold neg in value-neg (big k)

-- 2^k + 2^k
pub twice : (k : ℕ) → value (big k) +ℚ value (big k) ≡ value (big (suc k))
unfolding value
twice k = ÷_add (1 * 2 ^ k) (1 * 2 ^ k) 1 (omega arith) ∙ ap (λ (z : ℕ). z ÷ 1) (nat (2 ^ k) (2 ^ suc k) (pow-succ' 2 k))
  where
    nat : (x y : ℕ) → y ≡ 2 * x → 1 * x + 1 * x ≡ 1 * y
    nat x y h = omega arith

-- ---- a moderate number is finite, and its number lies within 2^100
pub record Finite (x : Float) : Type 0 where
  pub s : Bool
  pub m : ℕ
  pub e : ℤ
  pub is : x ≡ fin s m e
  pub low_by : value (small 100) ≤ℚ value (fin s m e)
  pub high_by : value (fin s m e) ≤ℚ value (big 100)

finite : (x : Float) → T (le (small 100) x) → T (le x (big 100)) → Finite x
finite nan h k = unfold le in absurd k
finite (inf true) h k = unfold le in absurd h
finite (inf false) h k = unfold le in absurd k
finite (fin s m e) h k = record { s = s; m = m; e = e; is = refl; low_by = le→value true 1 (pos 100) s m e h; high_by = le→value s m e false 1 (pos 100) k }

pub moderate : (x : Float) → T (is_moderate x) → Finite x
moderate x t = finite x (and_l (le (small 100) x) (le x (big 100)) t) (and_r (le (small 100) x) (le x (big 100)) t)

pub between_moderate : (a t b : Float) → Between a t b → T (is_moderate t)
between_moderate a t b w =
    and_i (le (small 100) t) (le t (big 100))
    (le_trans (small 100) a t (and_l (le (small 100) a) (le a (big 100)) w.moderate_a) (lt→le_f a t w.from))
    (le_trans t b (big 100) (lt→le_f t b w.upto) (and_r (le (small 100) b) (le b (big 100)) w.moderate_b))

-- ---- the difference of two doubles x < y that are moderate
module _ (s : Bool) (m : ℕ) (e : ℤ) (F : T (fits binary64 (fin s m e))) (t : Bool) (n : ℕ) (d : ℤ) (G : T (fits binary64 (fin t n d))) where
  abbrev x : Float
  x = fin s m e

  abbrev y : Float
  y = fin t n d

  abbrev r : Float
  r = sub binary64 y x

  rounds : Rounds r (value y -ℚ value x)
  rounds = sub-rounds t n d s m e

  step : value x <ℚ value y → value tiny ≤ℚ value y -ℚ value x
  step h =
      let a = grid s m e F in
      let b = grid t n d G in
      subst (λ (z : ℚ). z ≤ℚ value y -ℚ value x) (sym tiny_is) (subst (λ (z : ℚ). 1 ÷ 2 ^ low binary64 ≤ℚ z) (ap₂ ◌-ℚ◌ (sym b.1) (sym a.1)) (one_step (2 ^ low binary64) (pow_pos (low binary64)) s t a.0 b.0 (subst (λ (z : ℚ). z <ℚ signed t (b.0 ÷ 2 ^ low binary64)) a.1 (subst (λ (z : ℚ). value x <ℚ z) b.1 h))))

  -- the lower bound of the widened difference is not negative
  pub low_bound : value x <ℚ value y → T (le zero_f (next_down r))
  low_bound h = next_down-greatest r (sub-fits binary64 y x) zero_f (unfold fits in tt) (lt_le zero_f tiny r (unfold lt in tt) (rounds_ge r (value y -ℚ value x) rounds false 1 (negsuc 1073) (unfold fits in tt) (step h)))

  -- and the upper one at most 2^102
  pub high_bound : value y -ℚ value x ≤ℚ value (big 101) → T (le (next_up r) (big 102))
  high_bound h = next_up-least r (sub-fits binary64 y x) (big 102) (unfold fits in tt) (le_lt r (big 101) (big 102) (rounds_le r (value y -ℚ value x) rounds false 1 (pos 101) (unfold fits in tt) h) (unfold lt in tt))

  -- with another double between them the lower bound is above zero
  pub apart-bound : value tiny2 ≤ℚ value y -ℚ value x → T (le tiny (next_down r))
  apart-bound h = next_down-greatest r (sub-fits binary64 y x) tiny (unfold fits in tt) (lt_le tiny tiny2 r (unfold lt in tt) (rounds_ge r (value y -ℚ value x) rounds false 1 (negsuc 1072) (unfold fits in tt) h))

pub span-width : (a b : ℚ) → value (small 100) ≤ℚ a → b ≤ℚ value (big 100) → b -ℚ a ≤ℚ value (big 101)
span-width a b h k = subst (λ (z : ℚ). b -ℚ a ≤ℚ z) (twice 100) (le_by {z = (value (big 100) -ℚ b) +ℚ (a -ℚ value (small 100))} (nn_add _ _ (nn_of k) (nn_of h)) (eq (value (big 100)) (value (small 100)) a b (small_is 100)))
  where
    eq : (g l a b : ℚ) → l ≡ -ℚ g → g +ℚ g -ℚ (b -ℚ a) ≡ (g -ℚ b) +ℚ (a -ℚ l)
    eq g l a b e = by_eq ℚring 1ℚ e (by_rep ℚring (g ∷ l ∷ a ∷ b ∷ []) (search read depth 9) (search read depth 9) tt)

pos-inf : (m : ℕ) (e : ℤ) → mul binary64 (fin false (suc m) e) (inf false) ≡ inf false
unfolding mul
pos-inf m e = ap (λ (b : Bool). cond b nan (inf false)) (eqb-suc-zero m)

-- ---- products whose first factor lies in 0 to 2^102 and whose second is at least -1
product_low : (x y : Float) → T (le zero_f x) → T (le x (big 102)) → T (le minus_one y) → T (number (mul binary64 x y)) → T (le (small 102) (mul binary64 x y))
product_low nan y h k l n = unfold le in absurd k
product_low (inf true) y h k l n = unfold le in absurd h
product_low (inf false) y h k l n = unfold le in absurd k
product_low (fin s m e) nan h k l n = unfold le in absurd l
product_low (fin s m e) (inf true) h k l n = unfold le in absurd l
product_low (fin s zero e) (inf false) h k l n = unfold mul is_nan in absurd n
product_low (fin false (suc m) e) (inf false) h k l n = subst (λ (z : Float). T (le (small 102) z)) (sym (pos-inf m e)) (unfold le in tt)
product_low (fin true (suc m) e) (inf false) h k l n = absurd (lt→not_le (value-under m e) (subst (λ (z : ℚ). z ≤ℚ value (fin true (suc m) e)) (value_zero false (pos 0)) (le→value false 0 (pos 0) true (suc m) e h)))
product_low (fin s m e) (fin t n d) h k l _ = rounds_ge (mul binary64 (fin s m e) (fin t n d)) (value (fin s m e) *ℚ value (fin t n d)) (mul-rounds s m e t n d) true 1 (pos 102) (unfold fits in tt)
    (bound (value (fin s m e)) (value (fin t n d)) (subst (λ (z : ℚ). z ≤ℚ value (fin s m e)) (value_zero false (pos 0)) (le→value false 0 (pos 0) s m e h)) (le→value s m e false 1 (pos 102) k) (le→value true 1 (pos 0) t n d l))
  where
    minus_one_is : value minus_one ≡ -ℚ 1ℚ
    minus_one_is = unfold value in ap (λ (z : ℚ). -ℚ z) ÷_one

    bound : (a b : ℚ) → 0ℚ ≤ℚ a → a ≤ℚ value (big 102) → value minus_one ≤ℚ b → value (small 102) ≤ℚ a *ℚ b
    bound a b p q r = le_by {z = (value (big 102) -ℚ a) +ℚ (a -ℚ 0ℚ) *ℚ (b -ℚ value minus_one)} (search cone depth 9) (eq (value (big 102)) (value (small 102)) (value minus_one) a b (small_is 102) minus_one_is)
      where
        eq : (g l o a b : ℚ) → l ≡ -ℚ g → o ≡ -ℚ 1ℚ → a *ℚ b -ℚ l ≡ (g -ℚ a) +ℚ (a -ℚ 0ℚ) *ℚ (b -ℚ o)
        eq g l o a b e f = by_eq ℚring (-ℚ 1ℚ) e (by_eq ℚring a f (by_rep ℚring (g ∷ l ∷ o ∷ a ∷ b ∷ []) (search read depth 12) (search read depth 12) tt))

-- so the lower bound of such a product of intervals is at least -2^103
pub mul-bounded : (p q : Scalar) → T (le zero_f p.lo) → T (le p.lo (big 102)) → T (le zero_f p.hi) → T (le p.hi (big 102)) → T (le minus_one q.lo) → T (le minus_one q.hi) → T (le (small 103) (mul_s p q).lo)
unfolding mul_s corners
mul-bounded p q a b c d e f =
    let w = mul binary64 p.lo q.lo in
    let x = mul binary64 p.lo q.hi in
    let y = mul binary64 p.hi q.lo in
    let z = mul binary64 p.hi q.hi in
    next_down-greatest (least4 w x y z) (least_fits w x y z (mul-fits binary64 p.lo q.lo) (mul-fits binary64 p.lo q.hi) (mul-fits binary64 p.hi q.lo) (mul-fits binary64 p.hi q.hi)) (small 103) (unfold fits in tt)
    (lt_le (small 103) (small 102) (least4 w x y z) (unfold lt in tt)
    (least_above (small 102) w x y z (unfold le in tt) (product_low p.lo q.lo a b e) (product_low p.lo q.hi a b f) (product_low p.hi q.lo c d e) (product_low p.hi q.hi c d f)))
