-- `restricts` equals its definition: three tests, made from the last on.
use mathlib.Core.Path.{sym, ◌∙◌}
use Prim.Native.Nat.{suc}
use lib.Ieee.{lt}
use Rattle.math.specs.Scalars.{sharp, width_s}
use Rattle.math.specs.Revision.{arithmetic}
use Rattle.model.specs.Layout.{points_of}
use Rattle.model.specs.NurbCurve.{domain}
use Rattle.model.specs.FatLine.{extent, restricts}
use Rattle.geometry.proofs.fat_line.Sizes.{third_failed, middle_failed, first_last}
use Rattle.geometry.proofs.fat_line.restricts.Goals as goal

pub returns-then-not-reaches_in : goal.returns-then-not-reaches_in
unfolding restricts
returns-then-not-reaches_in ty c =
    let a = c.args in
    third_failed (lt a.carried (extent a.p.dim (points_of (suc a.p.dim) a.p.count a.p.words.now))) (lt (width_s a.hat) ((arithmetic ty.R.Revision.second).mul (sharp (width_s (domain a.a a.b))) (arithmetic ty.R.Revision.second).four_fifths).lo) _
    (sym c.reaches_in.ensures ∙ c.if-not-reaches_in.true)

pub returns-then-not-narrow : goal.returns-then-not-narrow
unfolding restricts
returns-then-not-narrow ty c =
    let a = c.args in
    middle_failed (lt a.carried (extent a.p.dim (points_of (suc a.p.dim) a.p.count a.p.words.now))) _ _ (sym c.narrow.ensures ∙ c.if-not-narrow.true)

pub returns : goal.returns
unfolding restricts
returns ty c =
    c.exceeds.ensures ∙ first_last _ _ _ (sym c.narrow.ensures ∙ c.if-not-narrow.false) (sym c.reaches_in.ensures ∙ c.if-not-reaches_in.false)
