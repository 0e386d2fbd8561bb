-- What a clip gives. Definitions only.
use Rattle.std.specs.Prelude.{Option}
use Rattle.math.specs.declared.scalars.Scalar.{Scalar}

-- where the zeros of a spline can lie: over an interval of its parameter, or nowhere, which is none
abbrev pub Hat : Type 0
Hat = Option Scalar
