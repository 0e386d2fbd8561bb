-- The size of a finite double, read off its bit pattern without the sign: so many binary digits, moved up so far, in units of 2 ^ -1074. And how two whole numbers compare, which only
-- src/digits.rt needs. Definitions only.
use Rattle.std.specs.Prelude.{ℕ, ◌+◌, ◌-◌, ◌*◌, ◌/◌, ◌%◌, ◌^◌, ◌<◌, ◌≡◌, Bool, cond, ◌&&◌, leb, ltb, ℤ}
use Rattle.std.specs.Float.{fin, binary64}
use Rattle.std.specs.Float.Ieee.{low, to_bits}
use Rattle.exact.specs.Rational.{ℚ, ◌÷◌, signed}
use Rattle.math.specs.Values.{value}

-- the digits, with the leading one that a pattern from 2 ^ 52 on leaves out
unfoldable pub digits_of : ℕ → ℕ
digits_of b = cond (ltb b 0x10_0000_0000_0000) b (b % 0x10_0000_0000_0000 + 0x10_0000_0000_0000)

-- how far they are moved up
unfoldable pub shift_of : ℕ → ℕ
shift_of b = cond (ltb b 0x10_0000_0000_0000) 0 (b / 0x10_0000_0000_0000 - 1)

-- the size, in units of 2 ^ -1074
abbrev pub size_of : ℕ → ℕ
size_of b = digits_of b * 2 ^ shift_of b

-- the size as a number
abbrev pub size_q : ℕ → ℚ
size_q b = size_of b ÷ 2 ^ low binary64

-- what the bit pattern of a finite double says: behind the highest bit, which is its sign, stand its size's bits
pub record Reading (s : Bool) (m : ℕ) (e : ℤ) : Type 0 where
  pub bits : ℕ
  pub below : bits < 0x7ff0_0000_0000_0000
  pub at : to_bits binary64 (fin s m e) ≡ cond s 0x8000_0000_0000_0000 0 + bits
  pub size : value (fin s m e) ≡ signed s (size_q bits)

-- ---- how two whole numbers compare

-- a lies below b, or, where more is asked, above it
abbrev pub is_past : ℕ → ℕ → Bool → Bool
is_past a b more = cond more (ltb b a) (ltb a b)

-- up is off, or one less
abbrev pub is_near : ℕ → ℕ → Bool
is_near up off = leb up off && ltb off (up + 2)

-- the pattern of a number that is neither zero nor infinite
abbrev pub is_ordinary : ℕ → Bool
is_ordinary b = ltb 0 (b % 0x8000_0000_0000_0000) && ltb (b % 0x8000_0000_0000_0000) 0x7ff0_0000_0000_0000
