-- `completed` equals its definition: nothing was reported, or something.
use mathlib.Core.Path.{sym, ap, ◌∙◌}
use Rattle.model.specs.Hat.{Hat}
use Rattle.model.specs.Subdivide.{complete}
use Rattle.model.specs.declared.contains.Found.TheVariants.{Enclosed}
use Rattle.geometry.specs.State.{found_of}
use Rattle.geometry.proofs.contains.completed.Goals as goal

pub returns-in-None : goal.returns-in-None
unfolding complete
returns-in-None c = sym (ap (λ (f : Hat). complete (found_of f) c.args.v) c.in-None.is)

pub returns-in-Some : goal.returns-in-Some
unfolding complete
returns-in-Some c =
    let v = c.args.v in
    (λ i. Enclosed (c.positive_zero-lo.ensures i) (c.positive_zero-hi.ensures i) v) ∙ sym (ap (λ (f : Hat). complete (found_of f) v) c.in-Some.is)
