-- The scope: "Small numbers are decimal without leading zeros;
-- doubles are the 16 hexadecimal digits of their bits, either case."
-- How they are read, and how they are written. Definitions only.
use Rattle.std.specs.Prelude.{ℕ, zero, suc, ◌+◌, ◌-◌, ◌*◌, ◌/◌, ◌%◌, Bool, cond, not, ◌&&◌, ◌||◌, List, [], ◌∷◌, ◌++◌, length, take, drop, get_or, leb, eqb, Float}
use Rattle.std.specs.Float.{nan, binary64}
use Rattle.std.specs.Float.Ieee.{nan_bits, of_bits, to_bits}
use Rattle.lists.specs.Lists.{all, foldl}
use Rattle.text.specs.Bytes.{Read, bad, got}

-- The number that some digits are in a base, where `value` is what one digit counts.
unfoldable pub in_base : ℕ → (ℕ → ℕ) → List ℕ → ℕ
in_base base value ds = foldl (λ n b. base * n + value b) 0 ds

-- ---- small numbers

-- The byte is from 0 to 9.
abbrev pub is_digit : ℕ → Bool
is_digit b = leb 48 b && leb b 57

-- How many digits a text begins with.
unfoldable pub digits : List ℕ → ℕ
digits [] = 0
digits (b ∷ t) = let n = digits t in cond (is_digit b) (suc n) 0

-- The number that some digits are.
abbrev pub decimal_of : List ℕ → ℕ
decimal_of ds = in_base 10 (λ b. b - 48) ds

-- So many digits are a small number: one to nine, and no leading zero.
abbrev pub is_small : ℕ → List ℕ → Bool
is_small n t = leb 1 n && leb n 9 && (eqb n 1 || not (eqb (get_or t 0 0) 48))

-- A small number: all the digits that the text begins with.
unfoldable pub small : List ℕ → Read ℕ
small t = let n = digits t in cond (is_small n t) (got (decimal_of (take n t)) (drop n t)) bad

-- ---- doubles

-- The value of a hexadecimal digit of either case, and 16 for any other byte.
unfoldable pub nibble : ℕ → ℕ
nibble b =
    cond (is_digit b) (b - 48)
    (cond (leb 97 b && leb b 102) (b - 87)
    (cond (leb 65 b && leb b 70) (b - 55) 16))

-- The byte is a hexadecimal digit.
abbrev pub is_hex : ℕ → Bool
is_hex b = leb (nibble b) 15

-- The number that some hexadecimal digits are.
abbrev pub hex_of : List ℕ → ℕ
hex_of ds = in_base 16 nibble ds

-- The double of these bits. There is one NaN, whatever its bits are.
unfoldable pub double_of : ℕ → Float
double_of b = cond (nan_bits binary64 b) nan (of_bits binary64 b)

-- A text begins with sixteen hexadecimal digits.
abbrev pub is_double : List ℕ → Bool
is_double t = leb 16 (length t) && all is_hex (take 16 t)

-- A double: sixteen hexadecimal digits.
unfoldable pub double : List ℕ → Read Float
double t = cond (is_double t) (got (double_of (hex_of (take 16 t))) (drop 16 t)) bad

-- ---- how they are written

-- A number below 10 or 16 as a digit of lower case.
abbrev pub digit_of : ℕ → ℕ
digit_of n = cond (leb n 9) (48 + n) (87 + n)

-- The last k digits of n in the base b.
unfoldable pub last_digits : ℕ → ℕ → ℕ → List ℕ
last_digits b zero n = []
last_digits b (suc k) n = last_digits b k (n / b) ++ (digit_of (n % b) ∷ [])

-- How many digits n has in decimal, where it has at most k + 1.
unfoldable pub decimal_length : ℕ → ℕ → ℕ
decimal_length zero n = 1
decimal_length (suc k) n = let l = decimal_length k (n / 10) in cond (leb n 9) 1 (suc l)

-- A number of at most 20 digits in decimal.
unfoldable pub decimal : ℕ → List ℕ
decimal n = last_digits 10 (decimal_length 19 n) n

-- A double as the sixteen hexadecimal digits of its bits.
unfoldable pub hexadecimal : Float → List ℕ
hexadecimal x = last_digits 16 16 (to_bits binary64 x)
