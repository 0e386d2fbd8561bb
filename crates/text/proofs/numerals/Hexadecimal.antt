-- Laws of doubles in a text: of hexadecimal digits, and of the double that sixteen of them are. Assumes nothing.
use mathlib.Core.Path.{◌≡◌, refl, sym, ap, ◌∙◌}
use mathlib.Core.Bool.{Bool, true, false, cond, not, ◌&&◌}
use mathlib.Core.List.{List, [], ◌∷◌}
use Prim.Native.Nat.{ℕ, ◌-◌, ◌/◌, ◌%◌, ◌≤◌, ◌<◌}
use native.Mathlib.Omega.{arith}
use lib.ListN.{length, take, drop, get_or}
use lib.Dec.{leb}
use lib.Ieee.{Float, nan, binary64, nan_bits, of_bits}
use borrow.Author.Tests.{leb-true, le-leb, lt-leb, eqb-true, eq-eqb, ne_eqb}
use Rattle.std.specs.List.{list_all}
use Rattle.lists.specs.Lists.{all}
use Rattle.lists.proofs.Fold.{all_get_or}
use Rattle.text.specs.Bytes.{bad, got}
use Rattle.text.specs.Numerals.{is_digit, is_hex, hex_of, nibble, double_of, double}

-- ---- hexadecimal digits

pub nibble-digit : (b : ℕ) → is_digit b ≡ true → b - 48 ≡ nibble b
unfolding nibble
nibble-digit b e = rw e

pub nibble-lower : (b : ℕ) → is_digit b ≡ false → leb 97 b && leb b 102 ≡ true → b - 87 ≡ nibble b
unfolding nibble
nibble-lower b e f = rw (e, f)

pub hex_known : (l : List ℕ) (i : ℕ) → all is_hex l ≡ true → i < length l → nibble (get_or l i 0) ≤ 15
hex_known l i e g = leb-true _ 15 (all_get_or is_hex l i 0 e g)

-- what the code asks of all of them is what the definition asks
pub all_hex : (l : List ℕ) → list_all is_hex l ≡ all is_hex l
unfolding all
all_hex [] = refl
all_hex (b ∷ l) = ap (λ (s : Bool). is_hex b && s) (all_hex l)

-- ---- the double of some bits

both-pass : (p q : Bool) → p ≡ true → q ≡ false → p && not q ≡ true
both-pass p q e f = rw (e, f)

one_fails : (p q : Bool) → (p ≡ true → q ≡ true) → p && not q ≡ false
one_fails true q h = ap not (h refl)
one_fails false q h = refl

pub nan_bits_yes : (b : ℕ) → 9218868437227405312 < b % 9223372036854775808 → nan_bits binary64 b ≡ true
unfolding nan_bits
nan_bits_yes b h =
    let e : b % 9223372036854775808 / 4503599627370496 ≡ 2047 = omega arith in
    both-pass _ _ (eq-eqb _ 2047 e) (ne_eqb (b % 4503599627370496) 0 (λ z. omega arith))

pub no_nan_bits : (b : ℕ) → b % 9223372036854775808 ≤ 9218868437227405312 → nan_bits binary64 b ≡ false
unfolding nan_bits
no_nan_bits b h =
    let last : b % 9223372036854775808 / 4503599627370496 ≡ 2047 → b % 4503599627370496 ≡ 0 = λ e. omega arith in
    one_fails _ _
    (λ e. eq-eqb (b % 4503599627370496) 0 (last (eqb-true (b % 9223372036854775808 / 4503599627370496) 2047 e)))

pub double_nan : (b : ℕ) → nan_bits binary64 b ≡ true → nan ≡ double_of b
unfolding double_of
double_nan b e = rw e

pub double_number : (b : ℕ) → nan_bits binary64 b ≡ false → of_bits binary64 b ≡ double_of b
unfolding double_of
double_number b e = rw e

-- ---- a double in a text

-- the text is too short
pub double_short : (t : List ℕ) → length t < 16 → double t ≡ bad
unfolding double
double_short t h = rw (lt-leb 16 (length t) h)

module _ (t digits left : List ℕ) (h : 16 ≤ length t) (F : digits ≡ take 16 t) (B : left ≡ drop 16 t) (r : Bool)
    (R : r ≡ list_all is_hex digits) where
  same : r ≡ all is_hex digits
  same = R ∙ all_hex digits

  split : double t ≡ cond r (got (double_of (hex_of digits)) left) bad
  unfolding double
  split = rw (le-leb 16 (length t) h, ← F, ← B, ← same)

  -- these are no sixteen digits
  pub double_none : r ≡ false → bad ≡ double t
  double_none e = sym (split ∙ ap (λ (q : Bool). cond q (got (double_of (hex_of digits)) left) bad) e)

  -- they are
  pub double_digits : r ≡ true → all is_hex digits ≡ true
  double_digits e = sym same ∙ e

  pub double_got : r ≡ true → (x : Float) → x ≡ double_of (hex_of digits) → got x left ≡ double t
  double_got e x f =
      ap (λ (y : Float). got y left) f
      ∙ sym (split ∙ ap (λ (q : Bool). cond q (got (double_of (hex_of digits)) left) bad) e)
