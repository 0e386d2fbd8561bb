-- The sum and the mean behind an abscissa, and how the code holds the abscissae: in an array. Definitions only.
use Rattle.std.specs.Prelude.{List, replicate, Float}
use Rattle.std.proofs.Math.Option.{Option, none, some}
use Rattle.lists.specs.Lists.{put, foldl}
use Rattle.math.specs.declared.scalars.Scalar.{Scalar}
use Rattle.math.specs.Scalars.{Arithmetic, ZERO, ENTIRE, sharp, value_or}
use Rattle.geometry.specs.Held.{Abscissae}
use Rattle.std.specs.Prelude.{Some, None}

-- The sum of some knots, one after the other, from s on.
abbrev pub summed : Arithmetic → Scalar → List Float → Scalar
summed ar s knots = foldl (λ s u. ar.add s (sharp u)) s knots

-- The sum of some knots over n: their mean, where n is their number.
unfoldable pub mean_over : Arithmetic → List Float → Scalar → Scalar
mean_over ar knots n = value_or (ar.div (summed ar ZERO knots) n) ENTIRE

-- How the abscissae stand in an array: from the front on, with zeros behind them.
unfoldable pub held : Option (List Scalar) → Abscissae
held none = None
held (some ξ) = Some (put (replicate 32 ZERO) 0 ξ)
