-- `next_up` equals its definition: a NaN stays.
use mathlib.Core.Path.{sym, ◌∙◌}
use Rattle.math.proofs.Doubles.Steps.{nan_stays}
use Rattle.math.proofs.floats.next_up.Goals as goal

pub returns-then-is_nan : goal.returns-then-is_nan
returns-then-is_nan c = (nan_stays c.args.x (sym c.is_nan.ensures.value ∙ c.if-is_nan.true)).0
