-- `count_at` equals its definition: the word, read as a whole number.
use mathlib.Core.Path.{refl}
use Rattle.geometry.specs.Slots.{count_at}
use Rattle.geometry.proofs.slots.count_at.Goals as goal

pub returns : goal.returns
unfolding count_at
returns c = refl
