-- Whole numbers of any length as bytes, the lowest first (request E13). Definitions only.
use Rattle.std.specs.Prelude.{ℕ, ◌+◌, ◌-◌, ◌*◌, ◌^◌, ◌≤◌, ◌<◌, ◌≡◌, List, [], ◌∷◌, length, get_or}
use Rattle.math.specs.Digits.{size_of}

-- The number that some bytes are, the lowest first.
unfoldable pub number : List ℕ → ℕ
number [] = 0
number (b ∷ l) = b + 256 * number l

-- Each of them is a byte.
abbrev pub AllBytes : List ℕ → Type 0
AllBytes l = (i : ℕ) → i < length l → get_or l i 0 < 256

-- The bytes m are l with x added from byte `at` on; what does not fit is lost.
pub record Added (l : List ℕ) (at x : ℕ) (m : List ℕ) : Type 0 where
  pub long : length m ≡ length l
  pub lost : ℕ
  pub sum : number m + lost * 256 ^ length l ≡ number l + x * 256 ^ at

-- The bytes m are l with x taken away from byte `at` on; what is missing is borrowed from beyond the last byte.
pub record Taken (l : List ℕ) (at x : ℕ) (m : List ℕ) : Type 0 where
  pub long : length m ≡ length l
  pub lost : ℕ
  pub rest : number l + lost * 256 ^ length l ≡ number m + x * 256 ^ at

-- The bytes m are l with n more, or with n less, but for whole multiples of what they can hold.
pub record Plus (l : List ℕ) (n : ℕ) (m : List ℕ) : Type 0 where
  pub long : length m ≡ length l
  pub lost : ℕ
  pub sum : number m + lost * 256 ^ length l ≡ number l + n

pub record Less (l : List ℕ) (n : ℕ) (m : List ℕ) : Type 0 where
  pub long : length m ≡ length l
  pub lost : ℕ
  pub rest : number l + lost * 256 ^ length l ≡ number m + n

-- The bytes m are l with a double more whose bit pattern is b, in units of 2^-1074: its size is added or, behind a sign, taken away.
pub record More (l : List ℕ) (b : ℕ) (m : List ℕ) : Type 0 where
  pub plain : b < 0x8000_0000_0000_0000 → Plus l (size_of b) m
  pub signed : 0x8000_0000_0000_0000 ≤ b → Less l (size_of (b - 0x8000_0000_0000_0000)) m

-- With a double less.
pub record Fewer (l : List ℕ) (b : ℕ) (m : List ℕ) : Type 0 where
  pub plain : b < 0x8000_0000_0000_0000 → Less l (size_of b) m
  pub signed : 0x8000_0000_0000_0000 ≤ b → Plus l (size_of (b - 0x8000_0000_0000_0000)) m
