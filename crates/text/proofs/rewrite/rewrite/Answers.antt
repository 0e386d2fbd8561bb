-- `rewrite` equals its definition: the text is refused when it is read, or its question says what is given.
use Rattle.text.proofs.reading.Cases.{handed_on}
use Rattle.text.proofs.rewrite.Cases.{rewrites_refused, rewrites_asked, within}
use Rattle.text.proofs.rewrite.rewrite.Goals as goal

pub returns-in_err-asked : goal.returns-in_err-asked
returns-in_err-asked c =
    let g = c.args in
    rw (handed_on _ _ c.from_residual.ensures.1)
    (record { rewrites = rewrites_refused g.text.now g.out.now _ c.in_err-asked.ensures; within = tt })

pub returns : goal.returns
returns c =
    let g = c.args in
    let q = c.in_ok-asked.ensures in
    let all = rewrites_asked g.text.now g.out.now _ _ _ _ c.rewrite_lines.result q c.rewrite_lines.ensures in
    record { rewrites = all; within = within _ _ _ c.rewrite_lines.result all }
