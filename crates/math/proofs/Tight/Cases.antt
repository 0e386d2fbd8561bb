-- Cases of revision 2 in a table, with one proposition for all its rows, proved by computation. Bounds are given by their bits; a zero counts as either. Assumes nothing.
use mathlib.Core.Path.{◌≡◌, refl}
use mathlib.Core.Bool.{Bool, true, ◌&&◌}
use mathlib.Core.List.{[], List, ◌∷◌}
use Prim.Native.Nat.{ℕ}
use lib.Ieee.{binary64, round, sum, add, mul, div, neg, of_bits, to_bits, lt, le, eq, size, span, climb, units, odd, of_fields, is_nan}
use Rattle.exact.specs.Rational.{ℚ, mk, ◌+ℚ◌, ◌*ℚ◌, -ℚ◌, invℚ, ◌÷◌, nonneg, lift₂}
use Rattle.math.specs.Neighbours.{next_up, next_down}
use Rattle.math.specs.Picks.{min_f}
use Rattle.math.specs.Values.{value}
use Rattle.math.specs.Scalars.{is_same, value_or, absent}
use Rattle.math.specs.declared.scalars.Scalar.{Scalar}
use Rattle.math.specs.Directed.{exceeds, lower, sum_down, product_down, quotient_down}
use Rattle.math.specs.Tight.{tight, add_t, sub_t, mul_t, low_of, div_t, quotient, four_fifths_t}

-- an interval by the bits of its bounds
abbrev from : ℕ → ℕ → Scalar
from a b = record { lo = of_bits binary64 a; hi = of_bits binary64 b }

pub data Operation : Type 0 where
  plus minus times over : Operation

abbrev result : Operation → Scalar → Scalar → Scalar
result plus x y = tight.add x y
result minus x y = tight.sub x y
result times x y = tight.mul x y
result over x y = value_or (tight.div x y) absent

pub record Row : Type 0 where
  pub op : Operation
  pub left : Scalar
  pub right : Scalar
  pub expected : Scalar

abbrev right : Row → Bool
right r = is_same (result r.op r.left r.right) r.expected

abbrev All : List Row → Bool
All [] = true
All (r ∷ l) = right r && All l

abbrev table : List Row
table =
    -- 1 + 1 is 2
    record { op = plus; left = from 0x3ff0_0000_0000_0000 0x3ff0_0000_0000_0000; right = from 0x3ff0_0000_0000_0000 0x3ff0_0000_0000_0000; expected = from 0x4000_0000_0000_0000 0x4000_0000_0000_0000 }
    -- 0.1 + 0.2 lies between two doubles, and rounding to the nearest took the upper one
    ∷ record { op = plus; left = from 0x3fb9_9999_9999_999a 0x3fb9_9999_9999_999a; right = from 0x3fc9_9999_9999_999a 0x3fc9_9999_9999_999a; expected = from 0x3fd3_3333_3333_3333 0x3fd3_3333_3333_3334 }
    -- the greatest double twice: the lower bound comes back from the infinity
    ∷ record { op = plus; left = from 0x7fef_ffff_ffff_ffff 0x7fef_ffff_ffff_ffff; right = from 0x7fef_ffff_ffff_ffff 0x7fef_ffff_ffff_ffff; expected = from 0x7fef_ffff_ffff_ffff 0x7ff0_0000_0000_0000 }
    -- all up to 1, and 1 to 2
    ∷ record { op = plus; left = from 0xfff0_0000_0000_0000 0x3ff0_0000_0000_0000; right = from 0x3ff0_0000_0000_0000 0x4000_0000_0000_0000; expected = from 0xfff0_0000_0000_0000 0x4008_0000_0000_0000 }
    -- 1 - 1 is 0
    ∷ record { op = minus; left = from 0x3ff0_0000_0000_0000 0x3ff0_0000_0000_0000; right = from 0x3ff0_0000_0000_0000 0x3ff0_0000_0000_0000; expected = from 0 0 }
    -- the whole line less the whole line
    ∷ record { op = minus; left = from 0xfff0_0000_0000_0000 0x7ff0_0000_0000_0000; right = from 0xfff0_0000_0000_0000 0x7ff0_0000_0000_0000; expected = from 0xfff0_0000_0000_0000 0x7ff0_0000_0000_0000 }
    -- zero times zero
    ∷ record { op = times; left = from 0 0; right = from 0 0; expected = from 0 0 }
    -- the whole line times zero
    ∷ record { op = times; left = from 0xfff0_0000_0000_0000 0x7ff0_0000_0000_0000; right = from 0 0; expected = from 0 0 }
    -- what is not negative, times 0 to 1
    ∷ record { op = times; left = from 0 0x7ff0_0000_0000_0000; right = from 0 0x3ff0_0000_0000_0000; expected = from 0 0x7ff0_0000_0000_0000 }
    -- what is at least 2, times what is at most -1
    ∷ record { op = times; left = from 0x4000_0000_0000_0000 0x7ff0_0000_0000_0000; right = from 0xfff0_0000_0000_0000 0xbff0_0000_0000_0000; expected = from 0xfff0_0000_0000_0000 0xc000_0000_0000_0000 }
    -- 0.1 times -0.1 lies between two doubles, and rounding to the nearest took the lower one
    ∷ record { op = times; left = from 0x3fb9_9999_9999_999a 0x3fb9_9999_9999_999a; right = from 0xbfb9_9999_9999_999a 0xbfb9_9999_9999_999a; expected = from 0xbf84_7ae1_47ae_147c 0xbf84_7ae1_47ae_147b }
    -- the least positive double squared
    ∷ record { op = times; left = from 1 1; right = from 1 1; expected = from 0 1 }
    -- -1 to 2 times -3 to 4
    ∷ record { op = times; left = from 0xbff0_0000_0000_0000 0x4000_0000_0000_0000; right = from 0xc008_0000_0000_0000 0x4010_0000_0000_0000; expected = from 0xc018_0000_0000_0000 0x4020_0000_0000_0000 }
    -- 1 / 3
    ∷ record { op = over; left = from 0x3ff0_0000_0000_0000 0x3ff0_0000_0000_0000; right = from 0x4008_0000_0000_0000 0x4008_0000_0000_0000; expected = from 0x3fd5_5555_5555_5555 0x3fd5_5555_5555_5556 }
    -- 1 to 2 over -4 to -1
    ∷ record { op = over; left = from 0x3ff0_0000_0000_0000 0x4000_0000_0000_0000; right = from 0xc010_0000_0000_0000 0xbff0_0000_0000_0000; expected = from 0xc000_0000_0000_0000 0xbfd0_0000_0000_0000 }
    -- 1 over all that is at least 1
    ∷ record { op = over; left = from 0x3ff0_0000_0000_0000 0x3ff0_0000_0000_0000; right = from 0x3ff0_0000_0000_0000 0x7ff0_0000_0000_0000; expected = from 0 0x3ff0_0000_0000_0000 }
    -- what is at most -1, over 2 to 4
    ∷ record { op = over; left = from 0xfff0_0000_0000_0000 0xbff0_0000_0000_0000; right = from 0x4000_0000_0000_0000 0x4010_0000_0000_0000; expected = from 0xfff0_0000_0000_0000 0xbfd0_0000_0000_0000 }
    -- 0 to 1 over 1 to 2: the dividend may hold zero
    ∷ record { op = over; left = from 0 0x3ff0_0000_0000_0000; right = from 0x3ff0_0000_0000_0000 0x4000_0000_0000_0000; expected = from 0 0x3ff0_0000_0000_0000 }
    ∷ []

-- 4 / 5 lies between two doubles
abbrev fifths : Bool
fifths = is_same tight.four_fifths (from 0x3fe9_9999_9999_9999 0x3fe9_9999_9999_999a)

pub all_right : (All table && fifths) ≡ true
unfolding add_t sub_t mul_t low_of div_t quotient four_fifths_t sum_down product_down quotient_down lower exceeds add sum mul div round size span climb units odd neg le lt eq of_bits to_bits of_fields next_down next_up min_f is_nan value_or value ℚ mk ◌+ℚ◌ ◌*ℚ◌ -ℚ◌ invℚ ◌÷◌ nonneg lift₂
all_right = refl
