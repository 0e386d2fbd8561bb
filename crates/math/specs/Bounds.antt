-- Bounds of revision 1 that are not widened yet, and divisors that are at hand. Definitions only.
use Rattle.std.specs.Prelude.{true, false, cond}
use Rattle.std.specs.Float.{inf, binary64}
use Rattle.std.specs.Float.Ieee.{sub}
use Rattle.math.specs.Picks.{lesser_f, greater_f, min_f, max_f}
use Rattle.math.specs.Scalars.{ENTIRE, has_zero, widened, corners, mul_s, inverse_s}
use Rattle.math.specs.declared.scalars.Scalar.{Scalar}
use Rattle.math.specs.declared.bounds.Bounds.{Bounds}
use Rattle.math.specs.declared.bounds.Divisor.{Divisor}

-- the interval that the bounds give once each is moved outward by one double
unfoldable pub widen_b : Bounds → Scalar
widen_b b = widened b.lo b.hi

-- the whole line, which widening leaves as it is
abbrev pub whole_b : Bounds
whole_b = record { lo = inf true; hi = inf false }

-- x - y; the product before it is widened is `corners x y`
unfoldable pub difference_b : Scalar → Scalar → Bounds
difference_b x y = record { lo = sub binary64 x.lo y.hi; hi = sub binary64 x.hi y.lo }

-- from the lesser lo to the greater hi, a NaN passed over
unfoldable pub join_b : Bounds → Bounds → Bounds
join_b a b = record { lo = min_f a.lo b.lo; hi = max_f a.hi b.hi }

-- the same by one comparison each
unfoldable pub pick_b : Bounds → Bounds → Bounds
pick_b a b = record { lo = lesser_f a.lo b.lo; hi = greater_f a.hi b.hi }

-- ---- quotients by a divisor whose widened reciprocal is at hand

-- the divisor w, with its widened reciprocal
unfoldable pub divisor_of : Scalar → Divisor
divisor_of w = record { value = w; inverse = inverse_s w }

-- x over d, whatever its reciprocal is: the whole line where d holds zero
unfoldable pub over_s : Scalar → Divisor → Scalar
over_s x d = cond (has_zero d.value) ENTIRE (mul_s x d.inverse)

-- the same before it is widened
unfoldable pub over_b : Scalar → Divisor → Bounds
over_b x d = cond (has_zero d.value) whole_b (corners x d.inverse)
