-- The scope's values for each case of an answer that is an enum: of a division. Definitions only.
use Rattle.std.specs.Prelude.{ℕ, ◌≡◌, Bool, true, false, cond, eqb}
use Rattle.std.proofs.Math.Option.{Option, none, some}
use Rattle.math.specs.declared.scalars.Scalar.{Scalar}
use Rattle.math.specs.Divided.{Divided}
use Rattle.std.specs.Prelude.{Some, None}
use Rattle.math.specs.Scalars.{has_zero, mul_s, inverse_s, widened, ratio_of, from_ratio}
use Rattle.math.specs.Tight.{quotient}
use Rattle.math.specs.Revision.{arithmetic}

-- The answer of a division: the quotient, or an error.
abbrev pub quotient_of : Divided → Option Scalar
quotient_of (Some x) = some x
quotient_of None = none

-- The quotient by what does not hold zero: the tightest in revision 2, and in revision 1 the product with the widened reciprocal.
unfoldable pub quotient_in : Bool → Scalar → Scalar → Scalar
quotient_in true x y = quotient x y
quotient_in false x y = mul_s x (inverse_s y)

-- What `div` promises of its answer r: it is the definition's, and on paper an error where the divisor holds zero,
-- else the quotient of the revision.
pub record Divides (second : Bool) (x y : Scalar) (r : Divided) : Type 0 where
  pub result : r ≡ (arithmetic second).div x y
  pub paper : quotient_of r ≡ cond (has_zero y) none (some (quotient_in second x y))

-- What `from_ratio` promises of its answer r: it is the definition's, and on paper an error where the denominator is 0,
-- else the widened quotient.
pub record IsRatio (n d : ℕ) (r : Divided) : Type 0 where
  pub result : r ≡ from_ratio n d
  pub paper : quotient_of r ≡ cond (eqb d 0) none (some (widened (ratio_of n d) (ratio_of n d)))
