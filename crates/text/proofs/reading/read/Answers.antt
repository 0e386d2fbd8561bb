-- `read` equals its definition: the line of the revision is bad, or refused, or the rest says it.
use mathlib.Core.Path.{refl}
use Rattle.model.proofs.Numbers.{some_number}
use Rattle.text.proofs.reading.Cases.{handed_on, revision-bad, revision-refused, revision-named}
use Rattle.text.proofs.reading.read.Goals as goal

pub returns-in_default : goal.returns-in_default
returns-in_default c = revision-bad _ _ c.revision.ensures c.in_default.is

pub returns-in_err-revision_refusal : goal.returns-in_err-revision_refusal
returns-in_err-revision_refusal c =
    let some = some_number _ in
    rw (handed_on _ _ c.from_residual.ensures.1)
    (revision-refused _ _ c.revision.ensures _ _ c.in-Some.is _ c.in_err-revision_refusal.ensures some)

pub returns : goal.returns
returns c =
    revision-named _ _ c.revision.ensures _ _ c.in-Some.is _ c.read_sizes.new.lines c.read_sizes.result
    c.in_ok-revision_refusal.ensures refl c.read_sizes.ensures
