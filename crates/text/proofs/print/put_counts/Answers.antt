-- `put_counts` writes the lines of the counts that the answer has.
use Rattle.model.specs.Paper.{paper}
use Rattle.text.proofs.print.Writing.{counts-of}
use Rattle.text.proofs.print.put_counts.Goals as goal

pub returns : goal.returns
returns c =
    let w = c.put_counted.ensures in
    (counts-of (paper c.args.f) _ _ c.counts.ensures c.pending_of.ensures w.0, w.1)
