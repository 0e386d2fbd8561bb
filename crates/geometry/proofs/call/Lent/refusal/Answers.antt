-- `refusal` equals its definition: the number of the question, then 10.
use mathlib.Core.Path.{◌≡◌, sym, subst, ◌∙◌}
use Prim.Native.Nat.{ℕ, ◌≤◌, ◌<◌}
use borrow.Author.Tests.{le-leb, lt-leb}
use lib.Ieee.Bits.{is_true}
use Rattle.model.specs.Call.{area_fits, stated, stated_words, question_refusal, refusal}
use Rattle.model.proofs.Numbers.{some_number, handed}
use Rattle.model.proofs.Checks.{none_left, pass, fail, else_left, else_taken, question-passes, question-sizes, stated-words}
use Rattle.geometry.specs.declared.call.Lent.{Lent}
use Rattle.geometry.specs.Call.{curve_in, call_in}
use Rattle.geometry.proofs.call.Lent.refusal.Goals as goal

pub returns-in_err-question_refusal : goal.returns-in_err-question_refusal
unfolding refusal
returns-in_err-question_refusal c =
    let e = c.in_err-question_refusal.ensures in
    let some = some_number _ in
    handed _ _ c.from_residual.ensures.1 ∙ e ∙ sym (else_taken _ _ (λ z. some (e ∙ z)))

-- The stated words are those of the scope, where the question has passed.
words : (q : Lent) (n w : ℕ) → question_refusal q.rev (curve_in q) q.point_box.now q.resolution q.nodes ≡ 0
    → w ≡ stated_words q.dim q.degree q.count q.nodes → w ≡ stated (call_in q n)
unfolding stated
words q n w p e =
    e ∙ stated-words _ _ _ _ (question-sizes _ _ _ _ _ p) (is_true _ (question-passes _ _ _ _ _ p).nodes-few)

pub returns-then-stated_words-work_len : goal.returns-then-stated_words-work_len
unfolding area_fits refusal
returns-then-stated_words-work_len c =
    let n = c.args.work_len in
    let p = sym c.in_ok-question_refusal.ensures in
    let w = words c.args.self n _ p c.stated_words.ensures in
    sym (else_left _ _ p ∙ fail _ 10 area_fits _ (lt-leb _ _ (subst (λ (m : ℕ). n < m) w c.if-stated_words-work_len.true)))

pub returns : goal.returns
unfolding area_fits refusal
returns c =
    let n = c.args.work_len in
    let p = sym c.in_ok-question_refusal.ensures in
    let w = words c.args.self n _ p c.stated_words.ensures in
    sym (else_left _ _ p ∙ pass _ 10 area_fits _ (le-leb _ _ (subst (λ (m : ℕ). m ≤ n) w c.if-stated_words-work_len.false)) ∙ none_left _ 11)
