-- `is_clear` is true only where the contract of the search leaves no hit.
use mathlib.Core.Path.{refl}
use Rattle.clear.proofs.Laws.{other, clear, unclear}
use Rattle.clear.proofs.is_clear.Goals as goal

pub returns-in-Nothing : goal.returns-in-Nothing
returns-in-Nothing c = clear _ _ _ _ c.curve_could_contain-found.ensures _ c.in-Nothing.is

pub returns-in_default : goal.returns-in_default
returns-in_default c = unclear _ _ _ _ c.curve_could_contain-found.ensures _ refl (other _ c.in_default.not-Nothing)
