-- What a division gives. Definitions only.
use Rattle.std.specs.Prelude.{Option}
use Rattle.math.specs.declared.scalars.Scalar.{Scalar}

-- an interval, or none where the divisor holds zero
abbrev pub Divided : Type 0
Divided = Option Scalar
