-- What an answer is on paper, or a refusal by a number. Definitions only.
use Rattle.std.specs.Prelude.{Result, Ok, Err}
use Rattle.model.specs.Paper.{Paper, paper}
use Rattle.model.specs.declared.contains.Found.{Found}
use Rattle.text.specs.Printable.{numbered_paper}
use Rattle.text.specs.declared.answer.Numbered.{Numbered}

-- of either
abbrev pub paper_in : Result Found Numbered → Paper
paper_in (Ok f) = paper f
paper_in (Err r) = numbered_paper r.number r.counts
