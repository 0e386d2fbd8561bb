-- `narrowed` equals its definition, by the two cases of the zeros and by its test.
use mathlib.Core.Path.{◌∙◌}
use Rattle.geometry.proofs.visits.Clips.{narrowed-yes, narrowed-no, narrowed_none}
use Rattle.geometry.proofs.visits.narrowed.Goals as goal

pub returns-in_err-z : goal.returns-in_err-z
returns-in_err-z c = c.from_residual.ensures ∙ narrowed_none c.args.hat _ c.in_err-z.was

pub returns-then-could_be_equal : goal.returns-then-could_be_equal
returns-then-could_be_equal c =
    narrowed-yes c.args.hat _ _ _ _ c.in_ok-z.was c.could_be_equal.ensures c.intersect.ensures c.if-could_be_equal.true

pub returns : goal.returns
returns c =
    narrowed-no c.args.hat _ _ _ c.in_ok-z.was c.could_be_equal.ensures c.if-could_be_equal.false
