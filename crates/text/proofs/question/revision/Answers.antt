-- `revision` reads its line where the text begins with its key, and else gives 1.
use mathlib.Core.Path.{ap, ◌∙◌}
use mathlib.Core.Bool.{not}
use Rattle.text.specs.Bytes.{bytes}
use Rattle.text.proofs.question.Heads.{revision_none, revision-read}
use Rattle.text.proofs.question.revision.Goals as goal

pub returns-then-is_none : goal.returns-then-is_none
unfolding bytes
returns-then-is_none c =
    revision_none c.args.text _ c.word.ensures (c.is_none.ensures ∙ ap not c.if-is_none.true)

pub returns : goal.returns
unfolding bytes
returns c =
    revision-read c.args.text _ c.word.ensures (c.is_none.ensures ∙ ap not c.if-is_none.false)
    c.small_line.result c.small_line.ensures
