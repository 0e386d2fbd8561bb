-- `restriction` equals its definition: three tests, each made where those before it passed.
use mathlib.Core.Path.{sym, ◌∙◌}
use lib.Ieee.{lt}
use Rattle.model.specs.FatLine.{restricts}
use Rattle.geometry.proofs.fat_line.Sizes.{first_failed_lem, second_failed, both-passed}
use Rattle.geometry.proofs.fat_line.restriction.Goals as goal

pub returns-then-not-carried-size : goal.returns-then-not-carried-size
unfolding restricts
returns-then-not-carried-size ty c = let a = c.args in first_failed_lem (lt a.carried a.size) _ _ c.if-not-carried-size.true

pub returns-then-not-narrow : goal.returns-then-not-narrow
unfolding restricts
returns-then-not-narrow ty c =
    let a = c.args in
    second_failed (lt a.carried a.size) _ _ c.if-not-carried-size.false (sym c.narrow.ensures ∙ c.if-not-narrow.true)

pub returns : goal.returns
unfolding restricts
returns ty c =
    let a = c.args in
    c.reaches_in.ensures ∙ both-passed (lt a.carried a.size) _ _ c.if-not-carried-size.false (sym c.narrow.ensures ∙ c.if-not-narrow.false)
