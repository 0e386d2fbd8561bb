-- `set_scalar` writes the two bounds side by side.
use Rattle.geometry.proofs.Lists.Copies.{set_two}
use Rattle.geometry.proofs.vector.set_scalar.Goals as goal

pub returns : goal.returns
returns c = set_two c.args.words.now c.args.i _ _ c.requires
