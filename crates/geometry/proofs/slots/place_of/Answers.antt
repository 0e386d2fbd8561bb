-- `place_of` equals its definition: no sum and no product comes near the largest usize.
use Rattle.geometry.proofs.slots.Counts.{code-place}
use Rattle.geometry.proofs.slots.place_of.Goals as goal

pub returns : goal.returns
returns c = let k = c.args in code-place k.s k.base k.i
