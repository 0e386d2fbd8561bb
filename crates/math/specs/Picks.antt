-- The lesser and the greater of two doubles, as Rust's `f64::min` and `f64::max`: a NaN is passed over where the other is a number. Rust leaves open which of two zeros it gives;
-- here it is the first of two equal operands. Definitions only.
use Rattle.std.specs.Prelude.{cond, Float}
use Rattle.std.specs.Float.Ieee.{is_nan, lt}

-- by one comparison: the first where a NaN is compared
abbrev pub lesser_f : Float → Float → Float
lesser_f a b = cond (lt b a) b a

abbrev pub greater_f : Float → Float → Float
greater_f a b = cond (lt a b) b a

-- `f64::min` and `f64::max`
unfoldable pub min_f : Float → Float → Float
min_f a b = cond (is_nan a) b (lesser_f a b)

unfoldable pub max_f : Float → Float → Float
max_f a b = cond (is_nan a) b (greater_f a b)
