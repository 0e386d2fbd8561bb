-- The double q * 2 ^ k * 2 ^ -1074, for a q of 53 binary digits: its bit pattern is k * 2 ^ 52 + q. Also powers of four, as squares of powers of two. It leans on the laws of
-- patterns in Doubles/Patterns.antt.
use mathlib.Core.Path.{◌≡◌, refl, sym, ap, ◌∙◌, subst}
use mathlib.Core.Logic.{◌⊎◌, inl, inr}
use Prim.Native.Nat.{ℕ, zero, suc, ◌+◌, ◌-◌, ◌*◌, ◌%◌, ◌^◌, ◌≤◌, ◌<◌}
use native.Mathlib.Nat.{lt_of_le_of_lt, eq-or-lt_of_le, mul_assoc, mul-le-mul, mul-mul-mul_comm, suc-mul, pow-succ', eq_of_mul-eq-mul_right, zero-lt-suc, one-le-pow, pow-suc}
use native.Mathlib.Omega.{arith}
use mathlib.Core.Bool.{Bool, false, cond}
use lib.Dec.{T, ltb, lt→ltb, lit<}
use lib.Arith.{digits_div, digits_mod}
use lib.Pow.{pow_pos, pow_mono}
use lib.Ieee.{Float, nan, inf, fin, Format, binary64, low, odd, units, fits, up, down, of_bits}
use lib.Ieee.Fits.{odd-fits}
use lib.Ieee.Bits.{is_true, of_bits-fits}
use lib.Ieee.Exact.{HasValue, units_val}
use Rattle.math.proofs.Doubles.Patterns.{size_of, size_at, bits-val}
use Rattle.math.proofs.Doubles.Held.{unique}

-- ---- two values of one format that equal one fraction are the same value
same_value : (f : Format) (x y : Float) (s : Bool) (a c : ℕ) → 0 < c → T (fits f x) → T (fits f y) → HasValue x s a c → HasValue y s a c → x ≡ y
same_value f nan y s a c C F G p q = absurd p
same_value f (inf t) y s a c C F G p q = absurd p
same_value f (fin t m e) nan s a c C F G p q = absurd q
same_value f (fin t m e) (inf u) s a c C F G p q = absurd q
same_value f (fin t m e) (fin u n d) s a c C F G p q =
    let E : t ≡ u = p.0 ∙ sym q.0 in
    let cross : m * up e * down d ≡ n * up d * down e =
    eq_of_mul-eq-mul_right c C (m * up e * down d) (n * up d * down e) (ring (m * up e) (down d) c (n * up d) (down e) a p.1 q.1) in
    subst (λ (b : Bool). fin t m e ≡ fin b n d) E (unique f t m e n d F (subst (λ (b : Bool). T (fits f (fin b n d))) (sym E) G) cross)
  where
    ring : (x dd c y de a : ℕ) → x * c ≡ a * de → y * c ≡ a * dd → x * dd * c ≡ y * de * c
    ring x dd c y de a p q =
        let u : x * c * dd ≡ a * de * dd = ap (λ (z : ℕ). z * dd) p in
        let v : y * c * de ≡ a * dd * de = ap (λ (z : ℕ). z * de) q in
        omega arith

-- ---- q * 2 ^ k smallest values, for a q of 53 digits, by its pattern
quotient : (k q h : ℕ) → h ≤ q → k * h + q ≡ suc k * h + (q - h)
quotient k q h l = omega (arith, suc-mul k h)

pub size_of_lem : (k q : ℕ) → 2 ^ 52 ≤ q → q ≤ 2 ^ 53 → size_of binary64 (k * 2 ^ 52 + q) ≡ q * 2 ^ k
size_of_lem k q l h = go (eq-or-lt_of_le h)
  where
    cancel : (a b : ℕ) → a ≤ b → a + (b - a) ≡ b
    cancel a b l = omega arith

    rest : (q : ℕ) → 2 ^ 52 ≤ q → q < 2 ^ 53 → q - 2 ^ 52 < 2 ^ 52
    rest q l h = omega arith

    go : (q ≡ 2 ^ 53) ⊎ (q < 2 ^ 53) → size_of binary64 (k * 2 ^ 52 + q) ≡ q * 2 ^ k
    go (inr s) =
        ap (λ (b : ℕ). size_of binary64 b) (quotient k q (2 ^ 52) l)
        ∙ ap (λ (x : ℕ). size_at binary64 x ((suc k * 2 ^ 52 + (q - 2 ^ 52)) % 2 ^ 52)) (digits_div (suc k) (rest q l s))
        ∙ ap (λ (t : ℕ). size_at binary64 (suc k) t) (digits_mod (suc k) (rest q l s))
        ∙ ap (λ (x : ℕ). x * 2 ^ k) (cancel (2 ^ 52) q l)
    go (inl e) =
        ap (λ (b : ℕ). size_of binary64 b) (two k q e)
        ∙ ap (λ (x : ℕ). size_at binary64 x ((suc (suc k) * 2 ^ 52 + 0) % 2 ^ 52)) (digits_div (suc (suc k)) (pow_pos 52))
        ∙ ap (λ (t : ℕ). size_at binary64 (suc (suc k)) t) (digits_mod (suc (suc k)) (pow_pos 52))
        ∙ ap (λ (x : ℕ). (2 ^ 52) * x) (pow-succ' 2 k)
        ∙ sym (mul_assoc (2 ^ 52) 2 (2 ^ k))
        ∙ ap (λ (x : ℕ). x * 2 ^ k) (sym e)
      where
        two : (k q : ℕ) → q ≡ 2 ^ 53 → k * 2 ^ 52 + q ≡ suc (suc k) * 2 ^ 52 + 0
        two k q e = omega arith

pub bound : (k q : ℕ) → k ≤ 1600 → q ≤ 2 ^ 53 → k * 2 ^ 52 + q < 0x7ff0_0000_0000_0000
bound k q l h = omega arith

units_fine : (k q : ℕ) → k ≤ 1600 → q ≤ 2 ^ 53 → q * 2 ^ k < 2 ^ 2098
units_fine k q l h = lt_of_le_of_lt (mul-le-mul h (pow_mono l)) (lit< tt)

units-fits : (q k : ℕ) → q ≤ 2 ^ 53 → q * 2 ^ k < 2 ^ 2098 → T (fits binary64 (units binary64 false q k))
unfolding units
units-fits q k h l =
    subst (λ (b : Bool). T (fits binary64 (cond b (odd 54 false q k 1074) (inf false)))) (sym (is_true (ltb (q * 2 ^ k) (2 ^ 2098)) (lt→ltb (q * 2 ^ k) (2 ^ 2098) l)))
    (odd-fits binary64 54 false q k (lt_of_le_of_lt h (lit< tt)) h l)

pub pattern : (k q : ℕ) → k ≤ 1600 → 2 ^ 52 ≤ q → q ≤ 2 ^ 53 → of_bits binary64 (k * 2 ^ 52 + q) ≡ units binary64 false q k
pattern k q K l h =
    same_value binary64 (of_bits binary64 (k * 2 ^ 52 + q)) (units binary64 false q k) false (q * 2 ^ k) (2 ^ low binary64) (pow_pos (low binary64))
    (of_bits-fits binary64 (k * 2 ^ 52 + q)) (units-fits q k h (units_fine k q K h))
    (subst (λ (a : ℕ). HasValue (of_bits binary64 (k * 2 ^ 52 + q)) false a (2 ^ low binary64)) (size_of_lem k q l h) (bits-val binary64 (k * 2 ^ 52 + q) (bound k q K h)))
    (units_val binary64 false q k (units_fine k q K h))

-- ---- powers of four
pub four : (k : ℕ) → 4 ^ k ≡ 2 ^ k * 2 ^ k
four zero = refl
four (suc k) = pow-suc 4 k ∙ ap (λ (x : ℕ). x * 4) (four k) ∙ ring (2 ^ k) ∙ sym (ap (λ (x : ℕ). x * x) (pow-suc 2 k))
  where
    ring : (a : ℕ) → a * a * 4 ≡ a * 2 * (a * 2)
    ring a = omega arith

pub four-pos : (k : ℕ) → 0 < 4 ^ k
four-pos k = one-le-pow k 4 (zero-lt-suc 3)

pub squared : (q p : ℕ) → q * p * (q * p) ≡ q * q * (p * p)
squared q p = mul-mul-mul_comm q p q p
