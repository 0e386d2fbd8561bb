-- `revision_refusal` equals its definition: 16 where the check fails.
use mathlib.Core.Path.{sym, ◌∙◌}
use Rattle.model.specs.Call.{revision_fits, revision_refusal}
use Rattle.model.proofs.Checks.{none_left, pass, fail}
use Rattle.geometry.proofs.call.revision_refusal.Goals as goal

pub returns-then-not-revision_fits : goal.returns-then-not-revision_fits
unfolding revision_refusal
returns-then-not-revision_fits c = sym (fail _ 16 revision_fits _ (sym c.revision_fits.ensures ∙ c.if-not-revision_fits.true))

pub returns : goal.returns
unfolding revision_refusal
returns c = sym (pass _ 16 revision_fits _ (sym c.revision_fits.ensures ∙ c.if-not-revision_fits.false) ∙ none_left _ 17)
