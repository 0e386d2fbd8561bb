-- `end` equals its definition, by the two cases of the slope.
use mathlib.Core.Path.{sym, ap, ◌∙◌}
use Rattle.math.specs.Revision.{arithmetic}
use Rattle.geometry.specs.Zeros.{zeros_of}
use Rattle.geometry.proofs.zeros.end.Goals as goal

pub returns-in-Some : goal.returns-in-Some
unfolding zeros_of
returns-in-Some ty c =
    let l = c.args.l in
    c.sloped_zeros.ensures ∙ sym (ap (zeros_of (arithmetic ty.R.Revision.second) l.x0 l.y0 l.last l.band) c.in-Some.is)

pub returns-in-None : goal.returns-in-None
unfolding zeros_of
returns-in-None ty c =
    let l = c.args.l in
    c.level_zeros.ensures ∙ sym (ap (zeros_of (arithmetic ty.R.Revision.second) l.x0 l.y0 l.last l.band) c.in-None.is)
