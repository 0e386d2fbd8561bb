-- The neighbouring doubles, through the bit patterns. Definitions only.
use Rattle.std.specs.Prelude.{zero, suc, ◌+◌, ◌-◌, true, false, Float}
use Rattle.std.specs.Float.{nan, inf, fin, binary64}
use Rattle.std.specs.Float.Ieee.{to_bits, of_bits, neg}

-- next_up: the least double above x. A NaN and the positive infinity stay. From either zero it is the least positive double, whose pattern is 1. Above zero the pattern
-- goes one up, and below zero one down, since a pattern below zero is its magnitude's with the sign bit set.
unfoldable pub next_up : Float → Float
next_up nan = nan
next_up (inf false) = inf false
next_up (inf true) = of_bits binary64 (to_bits binary64 (inf true) - 1)
next_up (fin s zero e) = of_bits binary64 1
next_up (fin false (suc m) e) = of_bits binary64 (to_bits binary64 (fin false (suc m) e) + 1)
next_up (fin true (suc m) e) = of_bits binary64 (to_bits binary64 (fin true (suc m) e) - 1)

-- next_down: the greatest double below x.
unfoldable pub next_down : Float → Float
next_down x = neg (next_up (neg x))
