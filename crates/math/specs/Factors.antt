-- What `between` gives, and what it and `times` test before they take the short way: factors that keep the order of what they multiply. No public function's promise names
-- these tests. Definitions only.
use Rattle.std.specs.Prelude.{Bool, false, cond, ◌&&◌, ◌≡◌}
use Rattle.std.specs.Float.{inf}
use Rattle.std.specs.Float.Ieee.{lt, le, is_nan}
use Rattle.math.specs.Scalars.{Arithmetic, zero_f, ONE, mul_s, intersect_s, same_operands, via_delta}
use Rattle.math.specs.Bounds.{widen_b}
use Rattle.math.specs.declared.bounds.Bounds.{Bounds}
use Rattle.math.specs.declared.scalars.Scalar.{Scalar}
use Rattle.math.specs.declared.revision.Fraction.{Fraction}

-- the bounds of t are in order, above zero and finite
abbrev pub is_factor : Scalar → Bool
is_factor t = lt zero_f t.lo && le t.lo t.hi && lt t.hi (inf false)

-- the bounds of x are in order, and no NaN
abbrev pub in_order : Scalar → Bool
in_order x = le x.lo x.hi

-- t and u are factors, and a, b and d are in order
abbrev pub all_in_order : Scalar → Scalar → Scalar → Scalar → Scalar → Bool
all_in_order t u a b d = is_factor t && is_factor u && in_order a && in_order b && in_order d

-- Bounds c that are no NaN, and widened the product of x and y in revision 1.
pub record Corners (x y : Scalar) (c : Bounds) : Type 0 where
  pub low : is_nan c.lo ≡ false
  pub high : is_nan c.hi ≡ false
  pub widened : widen_b c ≡ mul_s x y

-- ---- interpolate, for a fraction that is at hand

-- the fraction alpha, with 1 - alpha
unfoldable pub fraction_of : Arithmetic → Scalar → Fraction
fraction_of ar alpha = record { alpha = alpha; beta = ar.sub ONE alpha }

-- what a + alpha (b - a) and beta a + alpha b have in common, whatever beta is
unfoldable pub both_ways : Arithmetic → Scalar → Scalar → Fraction → Scalar
both_ways ar a b f = intersect_s (via_delta ar a b f.alpha) (ar.add (ar.mul f.beta a) (ar.mul f.alpha b))

-- `interpolate_s` with beta for 1 - alpha
unfoldable pub between_s : Arithmetic → Scalar → Scalar → Fraction → Scalar
between_s ar a b f = cond (same_operands a b f.alpha) a (both_ways ar a b f)
