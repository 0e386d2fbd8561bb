-- `copy` writes what stood at a.
use mathlib.Core.Path.{◌∙◌}
use Rattle.geometry.proofs.Lists.Copies.{copied}
use Rattle.geometry.proofs.slots.copy.Goals as goal

pub returns : goal.returns
returns c =
    let g = c.args in
    c.copy_within.ensures.after ∙ copied g.work.now g.a g.b g.w c.requires.1
