-- Revision 2's arithmetic: the tightest sum, difference, product and quotient of two intervals, and the tightest bounds of 4 / 5, as IEEE 1788 has them (E8). Definitions only.
use Rattle.std.specs.Prelude.{false, cond, pos, Float}
use Rattle.std.specs.Float.{fin}
use Rattle.std.specs.Float.Ieee.{neg, le}
use Rattle.math.specs.Picks.{min_f}
use Rattle.math.specs.Scalars.{Arithmetic, zero_f, has_zero}
use Rattle.math.specs.declared.scalars.Scalar.{Scalar}
use Rattle.math.specs.Divided.{Divided}
use Rattle.std.specs.Prelude.{Some, None}
use Rattle.math.specs.Directed.{sum_down, sum_up, product_down, quotient_down, quotient_up}

-- ---- sum and difference

-- x + y
unfoldable pub add_t : Scalar → Scalar → Scalar
add_t x y = record { lo = sum_down x.lo y.lo; hi = sum_up x.hi y.hi }

-- x - y
unfoldable pub sub_t : Scalar → Scalar → Scalar
sub_t x y = record { lo = sum_down x.lo (neg y.hi); hi = sum_up x.hi (neg y.lo) }

-- ---- the product: which two bounds have the least product goes by the signs

-- the lower bound of [a, b] times [c, d]: c is not below zero; d is not above it; neither, and a is not below zero; b is not above it; both hold zero between their bounds
unfoldable pub low_of : Float → Float → Float → Float → Float
low_of a b c d =
    cond (le zero_f c) (product_down a (cond (le zero_f a) c d))
    (cond (le d zero_f) (product_down b (cond (le zero_f b) c d))
    (cond (le zero_f a) (product_down b c)
    (cond (le b zero_f) (product_down a d) (min_f (product_down a d) (product_down b c)))))

-- x y; its upper bound is the lower one of -x y, mirrored
unfoldable pub mul_t : Scalar → Scalar → Scalar
mul_t x y = record { lo = low_of x.lo x.hi y.lo y.hi; hi = neg (low_of (neg x.hi) (neg x.lo) y.lo y.hi) }

-- ---- the quotient by what does not hold zero

-- the lower bound of a / y for all y in [c, d], which lies above zero
abbrev pub over : Float → Float → Float → Float
over a c d = quotient_down a (cond (le zero_f a) d c)

-- x / y, for a y above zero; for one below it -x / -y
unfoldable pub quotient : Scalar → Scalar → Scalar
quotient x y =
    cond (le zero_f y.lo)
    (record { lo = over x.lo y.lo y.hi; hi = neg (over (neg x.hi) y.lo y.hi) })
    (record { lo = over (neg x.hi) (neg y.hi) (neg y.lo); hi = neg (over x.lo (neg y.hi) (neg y.lo)) })

-- an error where the divisor holds zero
unfoldable pub div_t : Scalar → Scalar → Divided
div_t x y = cond (has_zero y) None (Some (quotient x y))

-- ---- 4 / 5

-- 4 = 1 * 2 ^ 2
abbrev four : Float
four = fin false 1 (pos 2)

-- 5 = 5 * 2 ^ 0
abbrev five : Float
five = fin false 5 (pos 0)

-- the doubles next to 4 / 5
unfoldable pub four_fifths_t : Scalar
four_fifths_t = record { lo = quotient_down four five; hi = quotient_up four five }

-- all of them
abbrev pub tight : Arithmetic
tight = record { add = add_t; sub = sub_t; mul = mul_t; div = div_t; four_fifths = four_fifths_t }
