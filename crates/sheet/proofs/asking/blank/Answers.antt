-- `blank` gives a sheet of zeros, which is kept over no question.
use mathlib.Core.Path.{refl}
use Rattle.sheet.proofs.asking.Keeping.{kept_empty}
use Rattle.sheet.proofs.asking.blank.Goals as goal

pub returns : goal.returns
returns c = (refl, kept_empty)
