-- The bit patterns of the values that are not negative: what size each stands for, and that a larger pattern stands for a larger size. Assumes nothing.
use mathlib.Core.Path.{◌≡◌, refl, sym, ap, ◌∙◌, subst}
use mathlib.Core.Logic.{◌⊎◌, inl, inr}
use Prim.Native.Nat.{ℕ, zero, suc, ◌+◌, ◌-◌, ◌*◌, ◌/◌, ◌%◌, ◌^◌, ◌≤◌, ◌<◌}
use native.Mathlib.Nat.{le_of_lt, lt_of_le_of_lt, lt_trans, le_of_suc-le-suc, eq-or-lt_of_le, mod-lt, mod-eq_of_lt, div-add-mod', div-lt_iff_lt-mul, add-zero, zero-add, add_assoc, mul-one, mul_comm, mul_assoc, suc-mul, mul-lt-mul_of_pos_right, mul-le-mul_right, mul-div_cancel, pow-succ', add-mod_left, mul-add-mod_self_left, le-add_right}
use native.Mathlib.Omega.{arith}
use mathlib.Core.Bool.{Bool, true, false, cond}
use lib.IntN.{ℤ}
use lib.Dec.{T, leb, eqb, eqb→eq, le→leb, not_T}
use lib.Arith.{digits_div, digits_mod, lt→nleb}
use lib.Pow.{pow_pos}
use lib.Ieee.{Float, nan, inf, fin, Format, binary64, prec, emax, low, up, down, size, odd, neg, fits, hid, ones, top, of_fields, to_bits, of_bits}
use lib.Ieee.Digits.{size-le}
use lib.Ieee.Fits.{two, two-le_pos, kept-lt, down_pos}
use lib.Ieee.Bits.{is_true, is_false, cond_no}
use lib.Ieee.Exact.{HasValue, odd_sign}
use Rattle.math.proofs.Doubles.Held.{held}
use Rattle.math.proofs.Doubles.Rounded.{neg-odd}

-- the pattern of the positive infinity
abbrev pub top-bits : Format → ℕ
top-bits f = ones f * hid f

-- the size that a pattern below it stands for, in smallest values: by its two fields
abbrev pub size_at : Format → ℕ → ℕ → ℕ
size_at f zero t = t
size_at f (suc x) t = (hid f + t) * 2 ^ x

abbrev pub size_of : Format → ℕ → ℕ
size_of f b = size_at f (b / hid f) (b % hid f)

hid-pos : (f : Format) → 0 < hid f
hid-pos f = pow_pos (prec f - 1)

-- ---- one pattern up is a larger size
module _ (f : Format) where
  same_field : (x t : ℕ) → size_at f x t < size_at f x (suc t)
  same_field zero t = lt_self t
    where
      lt_self : (a : ℕ) → a < suc a
      lt_self a = omega arith
  same_field (suc x) t = mul-lt-mul_of_pos_right (more (hid f) t) (pow_pos x)
    where
      more : (h a : ℕ) → h + a < h + suc a
      more h a = omega arith

  next_field : (x t : ℕ) → t < hid f → size_at f x t < size_at f (suc x) 0
  next_field zero t h = subst (λ (z : ℕ). t < z) (sym (mul-one (hid f + 0) ∙ add-zero (hid f))) h
  next_field (suc x) t h =
      subst (λ (z : ℕ). (hid f + t) * 2 ^ x < z) (mul_assoc (hid f + 0) 2 (2 ^ x) ∙ ap (λ (z : ℕ). (hid f + 0) * z) (sym (pow-succ' 2 x)))
      (mul-lt-mul_of_pos_right (twice (hid f) t h) (pow_pos x))
    where
      twice : (a b : ℕ) → b < a → a + b < (a + 0) * 2
      twice a b k = omega arith

  pub step : (b : ℕ) → size_of f b < size_of f (suc b)
  step b = go (eq-or-lt_of_le (mod-lt b (hid-pos f)))
    where
      x : ℕ
      x = b / hid f

      t : ℕ
      t = b % hid f

      is : x * hid f + t ≡ b
      is = div-add-mod' b (hid f)

      up_one : (a c d : ℕ) → a + c ≡ d → a + suc c ≡ suc d
      up_one a c d h = omega arith

      carry : (a c d h : ℕ) → a + c ≡ d → suc c ≡ h → a + h + 0 ≡ suc d
      carry a c d h p q = omega arith

      go : (suc t ≡ hid f) ⊎ (suc t < hid f) → size_of f b < size_of f (suc b)
      go (inr l) =
          let e : x * hid f + suc t ≡ suc b = up_one (x * hid f) t b is in
          subst (λ (z : ℕ). size_of f b < size_of f z) e
          (subst (λ (z : ℕ). size_of f b < size_at f z ((x * hid f + suc t) % hid f)) (sym (digits_div x l))
          (subst (λ (z : ℕ). size_of f b < size_at f x z) (sym (digits_mod x l)) (same_field x t)))
      go (inl p) =
          let e : suc x * hid f + 0 ≡ suc b = ap (λ (z : ℕ). z + 0) (suc-mul x (hid f)) ∙ carry (x * hid f) t b (hid f) is p in
          subst (λ (z : ℕ). size_of f b < size_of f z) e
          (subst (λ (z : ℕ). size_of f b < size_at f z ((suc x * hid f + 0) % hid f)) (sym (digits_div (suc x) (hid-pos f)))
          (subst (λ (z : ℕ). size_of f b < size_at f (suc x) z) (sym (digits_mod (suc x) (hid-pos f))) (next_field x t (mod-lt b (hid-pos f)))))

  pub rises : (b c : ℕ) → b < c → size_of f b < size_of f c
  rises b zero h = absurd (none b h)
    where
      none : (a : ℕ) → a < 0 → ⊥
      none a k = omega arith
  rises b (suc c) h = go (eq-or-lt_of_le (le_of_suc-le-suc h)) (rises b c)
    where
      go : (b ≡ c) ⊎ (b < c) → (b < c → size_of f b < size_of f c) → size_of f b < size_of f (suc c)
      go (inl p) ih = subst (λ (z : ℕ). size_of f z < size_of f (suc c)) (sym p) (step c)
      go (inr l) ih = lt_trans (ih l) (step c)

-- ---- what a pattern below the infinity's is read as
of_bits_is : (f : Format) (b : ℕ) → of_bits f b ≡ of_fields f (leb (top f) b) (b % top f / hid f) (b % hid f)
unfolding of_bits
of_bits_is f b = refl

top_is : (h o : ℕ) → h * suc o ≡ o * h + h
top_is h o = mul_comm h (suc o) ∙ suc-mul o h

pub under_top : (f : Format) (b : ℕ) → b ≤ top-bits f → b < top f
under_top f b l = lt_of_le_of_lt l (subst (λ (z : ℕ). top-bits f < z) (sym (top_is (hid f) (ones f))) (more (top-bits f) (hid f) (hid-pos f)))
  where
    more : (a h : ℕ) → 0 < h → a < a + h
    more a h k = omega arith

plain : (f : Format) (b : ℕ) → b < top f → of_bits f b ≡ of_fields f false (b / hid f) (b % hid f)
plain f b l =
    of_bits_is f b
    ∙ ap (λ (s : Bool). of_fields f s (b % top f / hid f) (b % hid f)) (is_false (leb (top f) b) (lt→nleb (top f) b l))
    ∙ ap (λ (z : ℕ). of_fields f false (z / hid f) (b % hid f)) (mod-eq_of_lt l)

fields-val : (f : Format) (s : Bool) (x t : ℕ) → x < ones f → HasValue (of_fields f s x t) s (size_at f x t) (2 ^ low f)
unfolding of_fields
fields-val f s zero t h = subst (λ (z : ℕ). HasValue (odd (prec f) s t 0 (low f)) s z (2 ^ low f)) (mul-one t) (odd_sign (prec f) s t 0 (low f))
fields-val f s (suc x) t h =
    subst (λ (v : Float). HasValue v s ((hid f + t) * 2 ^ x) (2 ^ low f))
    (sym (cond_no (eqb (suc x) (ones f)) (cond (eqb t 0) (inf s) nan) (odd (prec f) s (hid f + t) x (low f)) (not_T (eqb (suc x) (ones f)) (λ (u : T (eqb (suc x) (ones f))). differ (suc x) (ones f) h (eqb→eq (suc x) (ones f) u)))))
    (odd_sign (prec f) s (hid f + t) x (low f))
  where
    differ : (a o : ℕ) → a < o → a ≡ o → ⊥
    differ a o p q = omega arith

pub bits-val : (f : Format) (b : ℕ) → b < top-bits f → HasValue (of_bits f b) false (size_of f b) (2 ^ low f)
bits-val f b h =
    subst (λ (v : Float). HasValue v false (size_of f b) (2 ^ low f)) (sym (plain f b (under_top f b (le_of_lt h))))
    (fields-val f false (b / hid f) (b % hid f) ((div-lt_iff_lt-mul (hid-pos f)).1 h))

pub bits-inf : (b : ℕ) → b ≡ top-bits binary64 → of_bits binary64 b ≡ inf false
unfolding of_bits
bits-inf b e = ap (of_bits binary64) e

-- ---- the pattern of a finite value that is not negative lies below the infinity's
to_bits_is : (f : Format) (s : Bool) (m : ℕ) (e : ℤ) (n : ℕ) → m * up e * 2 ^ low f ≡ n * down e → to_bits f (fin s m e) ≡ cond s (top f) 0 + (size n - prec f) * hid f + n / 2 ^ (size n - prec f)
unfolding to_bits
to_bits_is f s m e n h =
    ap (λ (x : ℕ). cond s (top f) 0 + (size x - prec f) * hid f + x / 2 ^ (size x - prec f)) (ap (λ (x : ℕ). x / down e) h ∙ mul-div_cancel n (down_pos e))

twice_hid : (p : ℕ) → 0 < p → 2 ^ p ≡ 2 * 2 ^ (p - 1)
twice_hid p h = ap (λ (x : ℕ). 2 ^ x) (sym (one_on p h)) ∙ pow-succ' 2 (p - 1)
  where
    one_on : (a : ℕ) → 0 < a → suc (a - 1) ≡ a
    one_on a k = omega arith

field_le : (z p e : ℕ) → 2 ≤ p → z ≤ e + p - 2 + suc e → 1 ≤ e → suc (suc (z - p)) ≤ 2 * e + 1
field_le z p e h k g = omega arith

emax-pos : (f : Format) → 1 ≤ emax f
emax-pos binary64 = lib.Dec.lit≤ tt
emax-pos lib.Ieee.binary32 = lib.Dec.lit≤ tt

pattern_lt : (f : Format) (n : ℕ) → n < 2 ^ (low f + suc (emax f)) → (size n - prec f) * hid f + n / 2 ^ (size n - prec f) < top-bits f
pattern_lt f n h =
    let k = size n - prec f in
    let a : n / 2 ^ k < 2 * hid f = subst (λ (z : ℕ). n / 2 ^ k < z) (twice_hid (prec f) (two-le_pos (prec f) (two f))) (kept-lt (prec f) n) in
    let b : suc (suc k) * hid f ≤ top-bits f = mul-le-mul_right (hid f) (field_le (size n) (prec f) (emax f) (two f) (size-le n (low f + suc (emax f)) h) (emax-pos f)) in
    let c : suc (suc k) * hid f ≡ k * hid f + hid f + hid f = suc-mul (suc k) (hid f) ∙ ap (λ (z : ℕ). z + hid f) (suc-mul k (hid f)) in
    fin-step (k * hid f) (hid f) (n / 2 ^ k) (suc (suc k) * hid f) (top-bits f) a b c
  where
    fin-step : (x h q y o : ℕ) → q < 2 * h → y ≤ o → y ≡ x + h + h → x + q < o
    fin-step x h q y o p r s = omega arith

-- the pattern with the sign's bit
pub record Written (f : Format) (m : ℕ) (e : ℤ) : Type 0 where
  pub bits : ℕ
  pub plus : to_bits f (fin false m e) ≡ bits
  pub minus : to_bits f (fin true m e) ≡ top f + bits
  pub below : bits < top-bits f

pub written : (f : Format) (s : Bool) (m : ℕ) (e : ℤ) → T (fits f (fin s (suc m) e)) → Written f (suc m) e
written f s m e t =
    let h = held f s m e t in
    let n = suc m * 2 ^ h.j in
    let k = size n - prec f in
    record {
      bits = k * hid f + n / 2 ^ k;
      plus = to_bits_is f false (suc m) e n h.is ∙ add_assoc 0 (k * hid f) (n / 2 ^ k) ∙ zero-add (k * hid f + n / 2 ^ k);
      minus = to_bits_is f true (suc m) e n h.is ∙ add_assoc (top f) (k * hid f) (n / 2 ^ k);
      below = pattern_lt f n h.under;
    }

-- ---- the sign's bit
neg-ends : (a b : Bool) (v w : Float) → v ≡ neg w → cond a (cond b (inf true) nan) v ≡ neg (cond a (cond b (inf false) nan) w)
unfolding neg
neg-ends true true v w h = refl
neg-ends true false v w h = refl
neg-ends false b v w h = h

neg-fields : (f : Format) (x t : ℕ) → of_fields f true x t ≡ neg (of_fields f false x t)
unfolding of_fields
neg-fields f zero t = neg-odd (prec f) t 0 (low f)
neg-fields f (suc x) t =
    neg-ends (eqb (suc x) (ones f)) (eqb t 0) (odd (prec f) true (hid f + t) x (low f)) (odd (prec f) false (hid f + t) x (low f)) (neg-odd (prec f) (hid f + t) x (low f))

pub signed : (f : Format) (b : ℕ) → b < top f → of_bits f (top f + b) ≡ neg (of_bits f b)
signed f b h =
    of_bits_is f (top f + b)
    ∙ ap (λ (s : Bool). of_fields f s ((top f + b) % top f / hid f) ((top f + b) % hid f)) (is_true (leb (top f) (top f + b)) (le→leb (top f) (top f + b) (le-add_right (top f) b)))
    ∙ ap (λ (z : ℕ). of_fields f true (z / hid f) ((top f + b) % hid f)) (add-mod_left (top f) b ∙ mod-eq_of_lt h)
    ∙ ap (λ (z : ℕ). of_fields f true (b / hid f) z) (mul-add-mod_self_left (hid f) (suc (ones f)) b)
    ∙ neg-fields f (b / hid f) (b % hid f)
    ∙ sym (ap neg (plain f b h))
