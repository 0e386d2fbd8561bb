-- Laws of small numbers in a text: of the digits that it begins with, and of the number that they are.
-- Assumes nothing.
use mathlib.Core.Path.{◌≡◌, refl, sym, ap, ◌∙◌, subst}
use mathlib.Core.Bool.{Bool, true, false, cond, ◌&&◌}
use mathlib.Core.List.{List, [], ◌∷◌}
use Prim.Native.Nat.{ℕ, suc, ◌+◌, ◌≤◌, ◌<◌}
use native.Mathlib.Omega.{arith}
use lib.ListN.{length, take, drop, get_or}
use lib.Dec.{T, leb}
use borrow.Author.Tests.{leb-true}
use Rattle.std.specs.List.{prefix_len}
use Rattle.std.specs.Char.{is_ascii_digit}
use Rattle.std.proofs.lemmas.List.Sums.{prefix_len-le-length}
use Rattle.lists.specs.Lists.{all}
use Rattle.lists.proofs.Fold.{all_get_or}
use Rattle.text.specs.Numerals.{is_digit, is_small, digits, decimal_of, small}
use Rattle.text.specs.Bytes.{bad, got}

-- ---- tests

-- both sides of a true `&&` are
pub both : (a b : Bool) → a && b ≡ true → (a ≡ true) × (b ≡ true)
both true b e = (refl, e)
both false b e = absurd (subst T (sym e) tt)

-- a byte in a range
pub low_of : (a b c : ℕ) → leb a b && leb b c ≡ true → a ≤ b
low_of a b c e = leb-true a b (both (leb a b) (leb b c) e).0

high_of : (a b c : ℕ) → leb a b && leb b c ≡ true → b ≤ c
high_of a b c e = leb-true b c (both (leb a b) (leb b c) e).1

-- ---- how many digits a text begins with

-- they are what the code counts
digits_leading : (t : List ℕ) → prefix_len is_ascii_digit t ≡ digits t
unfolding digits
digits_leading [] = refl
digits_leading (b ∷ t) =
    let more : 1 + prefix_len is_ascii_digit t ≡ suc (digits t) = omega (arith, digits_leading t) in
    ap (λ (n : ℕ). cond (is_digit b) n 0) more

-- they are digits
digits_all : (t : List ℕ) → all is_digit (take (digits t) t) ≡ true
unfolding digits all
digits_all [] = refl
digits_all (b ∷ t) = by (is_digit b) refl (digits_all t)
  where
    by : (p : Bool) → is_digit b ≡ p → all is_digit (take (digits t) t) ≡ true
        → all is_digit (take (cond p (suc (digits t)) 0) (b ∷ t)) ≡ true
    by true e h = rw (e, h)
    by false e h = refl

-- n of its bytes are counted as digits
pub digits_counted : (t : List ℕ) (n : ℕ) → n ≡ prefix_len is_ascii_digit t
    → (n ≡ digits t) × (n ≤ length t) × (all is_digit (take n t) ≡ true)
digits_counted t n N =
    let f : n ≡ digits t = N ∙ digits_leading t in (
      f,
      omega (arith, N, prefix_len-le-length is_ascii_digit t),
      ap (λ (k : ℕ). all is_digit (take k t)) f ∙ digits_all t,
    )

-- ---- the number that digits are

-- a digit among digits
pub digit-between : (l : List ℕ) (i : ℕ) → all is_digit l ≡ true → i < length l
    → (48 ≤ get_or l i 0) × (get_or l i 0 ≤ 57)
digit-between l i e g = let t = all_get_or is_digit l i 0 e g in (low_of 48 _ 57 t, high_of 48 _ 57 t)

-- ---- small numbers

-- one digit
pub small_one : (n : ℕ) (t : List ℕ) → n ≡ 1 → true ≡ is_small n t
small_one n t e = rw e

pub small-bad : (t : List ℕ) (n : ℕ) → n ≡ digits t → is_small n t ≡ false → small t ≡ bad
unfolding small
small-bad t n e f = rw (← e, f)

pub small-got : (t : List ℕ) (n v : ℕ) → n ≡ digits t → is_small n t ≡ true → v ≡ decimal_of (take n t)
    → small t ≡ got v (drop n t)
unfolding small
small-got t n v e f g = rw (← e, f, g)
