-- `in_domain` equals its definition: both tests, the second where the first passed.
use Rattle.math.proofs.Bools.{and_yes, and_no}
use Rattle.model.specs.NurbCurve.{in_domain}
use Rattle.geometry.proofs.nurb_curve.in_domain.Goals as goal

pub returns-then-a-t : goal.returns-then-a-t
unfolding in_domain
returns-then-a-t c = and_yes _ _ c.if-a-t.true

pub returns-else-a-t : goal.returns-else-a-t
unfolding in_domain
returns-else-a-t c = and_no _ _ c.if-a-t.false
