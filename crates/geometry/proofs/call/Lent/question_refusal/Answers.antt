-- `question_refusal` equals its definition: 16, then the number of the curve, then 9.
use mathlib.Core.Path.{sym, ◌∙◌}
use Rattle.model.specs.Call.{nodes_fit, question_refusal}
use Rattle.model.proofs.Numbers.{some_number, handed}
use Rattle.model.proofs.Checks.{none_left, pass, fail, else_left, else_taken}
use Rattle.geometry.proofs.call.Lent.question_refusal.Goals as goal

pub returns-in_err-revision_refusal : goal.returns-in_err-revision_refusal
unfolding question_refusal
returns-in_err-revision_refusal c =
    let e = c.in_err-revision_refusal.ensures in
    let some = some_number _ in
    handed _ _ c.from_residual.ensures.1 ∙ e ∙ sym (else_taken _ _ (λ z. some (e ∙ z)))

pub returns-in_err-curve_refusal : goal.returns-in_err-curve_refusal
unfolding question_refusal
returns-in_err-curve_refusal c =
    let e = c.in_err-curve_refusal.ensures in
    let some = some_number _ in
    handed _ _ c.from_residual-in_err-curve_refusal.ensures.1 ∙ e
    ∙ sym (else_left _ _ (sym c.in_ok-revision_refusal.ensures) ∙ else_taken _ _ (λ z. some (e ∙ z)))

pub returns-then-not-nodes_fit : goal.returns-then-not-nodes_fit
unfolding question_refusal
returns-then-not-nodes_fit c =
    sym (else_left _ _ (sym c.in_ok-revision_refusal.ensures) ∙ else_left _ _ (sym c.in_ok-curve_refusal.ensures)
    ∙ fail _ 9 nodes_fit _ (sym c.nodes_fit.ensures ∙ c.if-not-nodes_fit.true))

pub returns : goal.returns
unfolding question_refusal
returns c =
    sym (else_left _ _ (sym c.in_ok-revision_refusal.ensures) ∙ else_left _ _ (sym c.in_ok-curve_refusal.ensures)
    ∙ pass _ 9 nodes_fit _ (sym c.nodes_fit.ensures ∙ c.if-not-nodes_fit.false) ∙ none_left _ 10)
