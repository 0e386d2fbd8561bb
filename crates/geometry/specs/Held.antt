-- How the code holds the abscissae of a piece. Definitions only.
use Rattle.std.specs.Prelude.{List, Option}
use Rattle.math.specs.declared.scalars.Scalar.{Scalar}

-- an array, or none
abbrev pub Abscissae : Type 0
Abscissae = Option (List Scalar)
