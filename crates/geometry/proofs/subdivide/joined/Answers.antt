-- `joined` equals its definition: something was reported before, or nothing.
use mathlib.Core.Path.{sym, ap, ◌∙◌}
use Rattle.model.specs.Hat.{Hat}
use Rattle.model.specs.Subdivide.{joined}
use Rattle.geometry.specs.State.{found_of}
use Rattle.geometry.proofs.subdivide.joined.Goals as goal

pub returns-in-Some : goal.returns-in-Some
unfolding joined
returns-in-Some c = c.union.ensures ∙ sym (ap (λ (f : Hat). joined (found_of f) c.args.t) c.in-Some.is)

pub returns-in-None : goal.returns-in-None
unfolding joined
returns-in-None c = sym (ap (λ (f : Hat). joined (found_of f) c.args.t) c.in-None.is)
