-- Numbers that are written to a text read back: a small number in front of the end of a line, and a double that is no NaN.
-- How long they are. And that what is read as a double is one. Assumes nothing.
use mathlib.Core.Path.{◌≡◌, refl, sym, ap, ◌∙◌, subst}
use mathlib.Core.Logic.{◌⊎◌, inl, inr, ⊎_elim}
use mathlib.Core.Bool.{Bool, true, false, cond, ◌||◌}
use mathlib.Core.List.{List, [], ◌∷◌, ◌++◌}
use Prim.Native.Nat.{ℕ, zero, suc, ◌+◌, ◌-◌, ◌*◌, ◌/◌, ◌%◌, ◌^◌, ◌≤◌, ◌<◌}
use native.Mathlib.Nat.{pow-zero, pow-suc, div-lt_iff_lt-mul, div-add-mod, mod-lt}
use native.Mathlib.Omega.{arith}
use lib.ListN.{length, take, drop, get_or, length-append, get_or-append}
use lib.Seq.{take-append_seam, drop-append_seam, take_at, drop_at}
use lib.Dec.{T, leb, eqb}
use lib.Ieee.{Float, nan, binary64, fits, is_nan, nan_bits, of_bits, to_bits}
use lib.Ieee.Fits.{nan-fits, cond-fits}
use lib.Ieee.Bits.{is_false, of_bits-to_bits, to_bits-lt, of_bits-fits, nan_bits_is}
use borrow.Author.Tests.{le-leb, lt-leb, ne_eqb}
use Rattle.lists.specs.Lists.{all, foldl}
use Rattle.lists.proofs.Fold.{foldl-append}
use Rattle.math.proofs.Bools.{compare_le}
use Rattle.text.specs.Bytes.{Read, bad, got}
use Rattle.text.specs.Numerals.{in_base, is_digit, digits, decimal_of, is_small, small}
use Rattle.text.specs.Numerals.{nibble, is_hex, hex_of, double_of, is_double, double}
use Rattle.text.specs.Numerals.{digit_of, last_digits, decimal_length, decimal, hexadecimal}
use Rattle.text.specs.Printable.{is_number}
use Rattle.text.proofs.numerals.Decimal.{both, small_one}
use Rattle.text.proofs.numerals.Hexadecimal.{nibble-digit, nibble-lower, double_number}
use Rattle.text.proofs.print.Writing.{digit_low, digit_high, length_digits, length_more, length_last}

-- ---- tests

or_true : (a : Bool) → a || true ≡ true
or_true true = refl
or_true false = refl

all_snoc : (p : ℕ → Bool) (xs : List ℕ) (x : ℕ) → all p xs ≡ true → p x ≡ true → all p (xs ++ (x ∷ [])) ≡ true
unfolding all
all_snoc p [] x e f = rw f
all_snoc p (y ∷ xs) x e f = let z = both (p y) (all p xs) e in rw (z.0, all_snoc p xs x z.1 f)

-- ---- the last digits of a number

-- the rest, without the last digit
rest_lt : (b k n : ℕ) → 0 < b → n < b ^ suc k → n / b < b ^ k
rest_lt b k n p h = (div-lt_iff_lt-mul p).1 (subst (λ (m : ℕ). n < m) (pow-suc b k) h)

whole_lt : (b k n : ℕ) → 0 < b → n / b < b ^ k → n < b ^ suc k
whole_lt b k n p h = subst (λ (m : ℕ). n < m) (sym (pow-suc b k)) ((div-lt_iff_lt-mul p).0 h)

module _ (b : ℕ) (p : 0 < b) where
  -- they pass a test that every digit passes
  digits-pass : (q : ℕ → Bool) → ((d : ℕ) → d < b → q (digit_of d) ≡ true) → (k n : ℕ) → all q (last_digits b k n) ≡ true
  unfolding last_digits all
  digits-pass q h zero n = refl
  digits-pass q h (suc k) n =
      all_snoc q (last_digits b k (n / b)) (digit_of (n % b)) (digits-pass q h k (n / b)) (h (n % b) (mod-lt n p))

  -- they are the number, where it has no more
  based_back : (value : ℕ → ℕ) → ((d : ℕ) → d < b → value (digit_of d) ≡ d) → (k n : ℕ) → n < b ^ k
      → in_base b value (last_digits b k n) ≡ n
  unfolding in_base last_digits foldl
  based_back value e zero n h = omega (arith, pow-zero b)
  based_back value e (suc k) n h =
      foldl-append (λ m d. b * m + value d) 0 (last_digits b k (n / b)) (digit_of (n % b) ∷ [])
      ∙ ap (λ (m : ℕ). b * m + value (digit_of (n % b))) (based_back value e k (n / b) (rest_lt b k n p h))
      ∙ ap (λ (d : ℕ). b * (n / b) + d) (e (n % b) (mod-lt n p))
      ∙ div-add-mod n b

-- ---- one digit

is_digit_lem : (d : ℕ) → d < 10 → is_digit (digit_of d) ≡ true
is_digit_lem d h =
    subst (λ (b : ℕ). is_digit b ≡ true) (digit_low d (omega arith))
    (rw (le-leb 48 (48 + d) (omega arith), le-leb (48 + d) 57 (omega arith)))

digit_value : (d : ℕ) → d < 10 → digit_of d - 48 ≡ d
digit_value d h = subst (λ (b : ℕ). b - 48 ≡ d) (digit_low d (omega arith)) (omega arith)

nibble-value : (d : ℕ) → d < 16 → nibble (digit_of d) ≡ d
nibble-value d h = ⊎_elim low high (compare_le d 9)
  where
    low : d ≤ 9 → nibble (digit_of d) ≡ d
    low g = sym (nibble-digit (digit_of d) (is_digit_lem d (omega arith))) ∙ digit_value d (omega arith)

    no_digit : 9 < d → is_digit (87 + d) ≡ false
    no_digit g = rw (le-leb 48 (87 + d) (omega arith), lt-leb (87 + d) 57 (omega arith))

    high : 9 < d → nibble (digit_of d) ≡ d
    high g =
        ap nibble (sym (digit_high d g))
        ∙ sym (nibble-lower (87 + d) (no_digit g) (rw (le-leb 97 (87 + d) (omega arith), le-leb (87 + d) 102 (omega arith))))
        ∙ omega arith

is_hex_lem : (d : ℕ) → d < 16 → is_hex (digit_of d) ≡ true
is_hex_lem d h = rw (nibble-value d h, le-leb d 15 (omega arith))

-- ---- how many digits a number has in decimal

length_zero : (n : ℕ) → decimal_length 0 n ≡ 1
unfolding decimal_length
length_zero n = refl

length_some : (k n : ℕ) → 1 ≤ decimal_length k n
length_some zero n = omega (arith, length_zero n)
length_some (suc k) n =
    ⊎_elim (λ g. omega (arith, length_last (suc k) n g)) (λ g. omega (arith, length_more k n g)) (compare_le n 9)

length_most : (k j n : ℕ) → n < 10 ^ suc j → decimal_length k n ≤ suc j
length_most zero j n h = omega (arith, length_zero n)
length_most (suc k) zero n h = omega (arith, length_last (suc k) n (omega arith))
length_most (suc k) (suc j) n h =
    ⊎_elim (λ g. omega (arith, length_last (suc k) n g))
    (λ g. omega (arith, length_more k n g, length_most k j (n / 10) (rest_lt 10 (suc j) n (omega arith) h)))
    (compare_le n 9)

-- they are all of its digits
length_all : (k n : ℕ) → n < 10 ^ suc k → n < 10 ^ decimal_length k n
length_all zero n h = subst (λ (l : ℕ). n < 10 ^ l) (sym (length_zero n)) h
length_all (suc k) n h =
    ⊎_elim (λ g. subst (λ (l : ℕ). n < 10 ^ l) (sym (length_last (suc k) n g)) (omega arith))
    (λ g.
    subst (λ (l : ℕ). n < 10 ^ l) (sym (length_more k n g))
    (whole_lt 10 _ n (omega arith) (length_all k (n / 10) (rest_lt 10 (suc k) n (omega arith) h))))
    (compare_le n 9)

lead_one : (n : ℕ) → 0 < n → n ≤ 9 → 48 < get_or (last_digits 10 1 n) 0 0
unfolding last_digits
lead_one n p h = subst (λ (d : ℕ). 48 < d) (digit_low (n % 10) (omega arith)) (omega arith)

lead_more : (l n : ℕ) → 1 ≤ l → 48 < get_or (last_digits 10 l (n / 10)) 0 0 → 48 < get_or (last_digits 10 (suc l) n) 0 0
unfolding last_digits
lead_more l n p h =
    let ds = last_digits 10 l (n / 10) in
    subst (λ (d : ℕ). 48 < d)
    (sym (get_or-append ds (digit_of (n % 10) ∷ []) 0 0 (omega (arith, length_digits 10 l (n / 10))))) h

-- the first of them is not 0
leads : (k n : ℕ) → 0 < n → n < 10 ^ suc k → 48 < get_or (last_digits 10 (decimal_length k n) n) 0 0
leads zero n p h = subst (λ (l : ℕ). 48 < get_or (last_digits 10 l n) 0 0) (sym (length_zero n)) (lead_one n p (omega arith))
leads (suc k) n p h =
    ⊎_elim (λ g. subst (λ (l : ℕ). 48 < get_or (last_digits 10 l n) 0 0) (sym (length_last (suc k) n g)) (lead_one n p g))
    (λ g.
    subst (λ (l : ℕ). 48 < get_or (last_digits 10 l n) 0 0) (sym (length_more k n g))
    (lead_more _ n (length_some k (n / 10)) (leads k (n / 10) (omega arith) (rest_lt 10 (suc k) n (omega arith) h))))
    (compare_le n 9)

-- A number in decimal is a digit at least.
pub length-decimal_some : (n : ℕ) → 1 ≤ length (decimal n)
unfolding decimal
length-decimal_some n = omega (arith, length_digits 10 (decimal_length 19 n) n, length_some 19 n)

-- A number below 10 to the k is k digits at most.
pub length-decimal : (k n : ℕ) → 0 < k → n < 10 ^ k → length (decimal n) ≤ k
unfolding decimal
length-decimal zero n p h = absurd (omega arith)
length-decimal (suc k) n p h = omega (arith, length_digits 10 (decimal_length 19 n) n, length_most 19 k n h)

-- A number up to 9 is one digit.
pub length-decimal_1 : (n : ℕ) → n ≤ 9 → length (decimal n) ≡ 1
length-decimal_1 n h = omega (arith, length-decimal 1 n (omega arith) (omega arith), length-decimal_some n)

-- A number up to 99 is two digits at most.
pub length-decimal_2 : (n : ℕ) → n ≤ 99 → length (decimal n) ≤ 2
length-decimal_2 n h = length-decimal 2 n (omega arith) (omega arith)

-- A number up to 9999 is four digits at most.
pub length-decimal_4 : (n : ℕ) → n ≤ 9999 → length (decimal n) ≤ 4
length-decimal_4 n h = length-decimal 4 n (omega arith) (omega arith)

-- ---- small numbers

-- the digits in front of the end of a line
digits-front : (ds t : List ℕ) → all is_digit ds ≡ true → digits (ds ++ (10 ∷ t)) ≡ length ds
unfolding digits all
digits-front [] t e = refl
digits-front (b ∷ ds) t e = let z = both (is_digit b) (all is_digit ds) e in rw (z.0, digits-front ds t z.1)

lead_front : (ds t : List ℕ) → 48 < get_or ds 0 0 → 48 < get_or (ds ++ t) 0 0
lead_front [] t h = absurd (omega arith)
lead_front (d ∷ ds) t h = h

-- they are a small number
front-small : (ds t : List ℕ) → 1 ≤ length ds → length ds ≤ 9 → (length ds ≡ 1) ⊎ (48 < get_or ds 0 0)
    → is_small (length ds) (ds ++ t) ≡ true
front-small ds t g h (inl e) = sym (small_one (length ds) (ds ++ t) e)
front-small ds t g h (inr l) =
    let k : eqb (get_or (ds ++ t) 0 0) 48 ≡ false = ne_eqb (get_or (ds ++ t) 0 0) 48 (λ e. omega (arith, lead_front ds t l)) in
    rw (le-leb 1 (length ds) g, le-leb (length ds) 9 h, k, or_true (eqb (length ds) 1))

small-front : (ds t : List ℕ) → all is_digit ds ≡ true → is_small (length ds) (ds ++ (10 ∷ t)) ≡ true
    → small (ds ++ (10 ∷ t)) ≡ got (decimal_of ds) (10 ∷ t)
unfolding small
small-front ds t e f = rw (digits-front ds t e, f, take-append_seam ds (10 ∷ t), drop-append_seam ds (10 ∷ t))

-- A number of at most nine digits, written in decimal in front of the end of a line, reads back.
pub decimal_back : (n : ℕ) (t : List ℕ) → n ≤ 999999999 → small (decimal n ++ (10 ∷ t)) ≡ got n (10 ∷ t)
unfolding decimal
decimal_back n t h =
    let l = decimal_length 19 n in
    let ds = last_digits 10 l n in
    let first : (n ≤ 0) ⊎ (0 < n) → (length ds ≡ 1) ⊎ (48 < get_or ds 0 0) =
    ⊎_elim (λ z. inl (length_digits 10 l n ∙ length_last 19 n (omega arith))) (λ p. inr (leads 19 n p (omega arith))) in
    small-front ds t (digits-pass 10 (omega arith) is_digit is_digit_lem l n)
    (front-small ds (10 ∷ t) (length-decimal_some n) (length-decimal 9 n (omega arith) (omega arith)) (first (compare_le n 0)))
    ∙ ap (λ (m : ℕ). got m (10 ∷ t)) (based_back 10 (omega arith) (λ b. b - 48) digit_value l n (length_all 19 n (omega arith)))

-- ---- doubles

-- A double is sixteen digits.
pub length-hexadecimal : (x : Float) → length (hexadecimal x) ≡ 16
unfolding hexadecimal
length-hexadecimal x = length_digits 16 16 (to_bits binary64 x)

-- sixteen digits in front of any text
double-front : (ds t : List ℕ) → length ds ≡ 16 → all is_hex ds ≡ true → double (ds ++ t) ≡ got (double_of (hex_of ds)) t
unfolding double
double-front ds t e f =
    let l : leb 16 (length (ds ++ t)) ≡ true = le-leb 16 (length (ds ++ t)) (omega (arith, length-append ds t)) in
    rw (l, take_at ds t 16 e, drop_at ds t 16 e, f)

-- the bits of a double that is no NaN
bits_back : (x : Float) → T (fits binary64 x) → T (is_number x) → double_of (to_bits binary64 x) ≡ x
bits_back x f h =
    let e = of_bits-to_bits binary64 x f in
    sym (double_number (to_bits binary64 x) (nan_bits_is binary64 (to_bits binary64 x) ∙ ap is_nan e ∙ is_false (is_nan x) h)) ∙ e

-- A double that is no NaN, written in hexadecimal in front of any text, reads back.
pub hexadecimal_back : (x : Float) (t : List ℕ) → T (fits binary64 x) → T (is_number x)
    → double (hexadecimal x ++ t) ≡ got x t
unfolding hexadecimal
hexadecimal_back x t f h =
    let n = to_bits binary64 x in
    let b : hex_of (last_digits 16 16 n) ≡ n = based_back 16 (omega arith) nibble nibble-value 16 n (to_bits-lt binary64 x f) in
    double-front (last_digits 16 16 n) t (length-hexadecimal x) (digits-pass 16 (omega arith) is_hex is_hex_lem 16 n)
    ∙ ap (λ (y : Float). got y t) (ap double_of b ∙ bits_back x f h)

-- What is read as a double, if anything is, is one.
abbrev Held : Read Float → Type 0
Held bad = Unit
Held (got x t) = T (fits binary64 x)

double_of-fits : (b : ℕ) → T (fits binary64 (double_of b))
unfolding double_of
double_of-fits b = cond-fits binary64 (nan_bits binary64 b) nan (of_bits binary64 b) (nan-fits binary64) (of_bits-fits binary64 b)

all_held : (t : List ℕ) → Held (double t)
unfolding double
all_held t = by (is_double t)
  where
    by : (b : Bool) → Held (cond b (got (double_of (hex_of (take 16 t))) (drop 16 t)) bad)
    by true = double_of-fits (hex_of (take 16 t))
    by false = tt

-- What is read as a double is one.
pub double-fits : (t rest : List ℕ) (x : Float) → double t ≡ got x rest → T (fits binary64 x)
double-fits t rest x e = subst Held e (all_held t)
