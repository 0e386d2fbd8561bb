-- `word` takes a word off.
use Rattle.text.proofs.question.Words.{word_stripped}
use Rattle.text.proofs.question.word.Goals as goal

pub returns : goal.returns
returns c = word_stripped c.args.w.now c.args.rest.now _ c.strip_prefix.ensures.cases
