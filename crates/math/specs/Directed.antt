-- A bound rounded toward its own side, made from the number rounded to the nearest: it moves outward by one double, and only where rounding left it inside the exact number (E8). So the
-- sum, the product and the quotient of two bounds as a lower and as an upper bound. Definitions only. proofs/Tight/Greatest.antt shows that a lower bound is the greatest double that is
-- at most the exact number. That is IEEE 754's roundTowardNegative (4.3.2), and for an upper bound roundTowardPositive, but for the sign of a zero.
use Rattle.std.specs.Prelude.{Bool, true, false, cond, not, ◌&&◌, ◌||◌, zero, suc, Float}
use Rattle.std.specs.Float.{nan, inf, fin, binary64}
use Rattle.std.specs.Float.Ieee.{add, mul, div, neg}
use Rattle.exact.specs.Rational.{ℚ, ◌+ℚ◌, ◌*ℚ◌, ◌-ℚ◌, invℚ, nonneg}
use Rattle.math.specs.Neighbours.{next_down}
use Rattle.math.specs.RootLaws.{is_finite}
use Rattle.math.specs.Scalars.{zero_f}
use Rattle.math.specs.Values.{value}

-- ---- one number

-- r lies above v; a NaN lies nowhere
unfoldable pub exceeds : Float → ℚ → Bool
exceeds nan v = false
exceeds (inf s) v = not s
exceeds (fin s m e) v = not (nonneg (v -ℚ value (fin s m e)))

-- the lower bound of v, where r is v rounded to the nearest: r, or the double before it where r lies above v
unfoldable pub lower : Float → ℚ → Float
lower r v = cond (exceeds r v) (next_down r) r

-- a zero, of either sign
abbrev pub is_zero : Float → Bool
is_zero nan = false
is_zero (inf s) = false
is_zero (fin s zero e) = true
is_zero (fin s (suc m) e) = false

-- an infinity, of either sign
abbrev pub is_infinite : Float → Bool
is_infinite nan = false
is_infinite (inf s) = true
is_infinite (fin s m e) = false

-- ---- the lower bound of a sum, a product, a quotient

-- a sum with an infinity is IEEE 754's
unfoldable pub sum_down : Float → Float → Float
sum_down x y = let r = add binary64 x y in cond (is_finite x && is_finite y) (lower r (value x +ℚ value y)) r

-- zero times an infinity, which stands for an unbounded operand, is zero (E8); any other product with an infinity is IEEE 754's
unfoldable pub product_down : Float → Float → Float
product_down x y =
    let r = mul binary64 x y in
    cond (is_finite x && is_finite y) (lower r (value x *ℚ value y)) (cond ((is_zero x && is_infinite y) || (is_infinite x && is_zero y)) zero_f r)

-- a quotient with an infinity is IEEE 754's, and so is one by zero, which no interval asks for
unfoldable pub quotient_down : Float → Float → Float
quotient_down x y = let r = div binary64 x y in cond (is_finite x && is_finite y && not (is_zero y)) (lower r (value x *ℚ invℚ (value y))) r

-- ---- the upper bound is the mirror image

-- x + y is -(-x + -y)
abbrev pub sum_up : Float → Float → Float
sum_up x y = neg (sum_down (neg x) (neg y))

-- x y is -(-x y)
abbrev pub product_up : Float → Float → Float
product_up x y = neg (product_down (neg x) y)

-- x / y is -(-x / y)
abbrev pub quotient_up : Float → Float → Float
quotient_up x y = neg (quotient_down (neg x) y)
