-- `sizes` reads the three lines, one behind the other.
use mathlib.Core.Path.{sym}
use Rattle.text.proofs.question.Heads.{sizes_none, sizes_one, sizes_two, sizes-three}
use Rattle.text.specs.Bytes.{bytes}
use Rattle.text.proofs.question.sizes.Goals as goal

pub returns-in_err-dim : goal.returns-in_err-dim
unfolding bytes
returns-in_err-dim c =
    rw c.from_residual.ensures (sym (sizes_none c.args.rest.now _ c.small_line.ensures c.in_err-dim.was))

pub returns-in_err-degree : goal.returns-in_err-degree
unfolding bytes
returns-in_err-degree c =
    rw c.from_residual-in_err-degree.ensures
    (sym
    (sizes_one c.args.rest.now _ c.small_line.ensures _ _ c.in_ok-dim.was
    _ c.small_line-2.ensures c.in_err-degree.was))

pub returns-in_err-count : goal.returns-in_err-count
unfolding bytes
returns-in_err-count c =
    rw c.from_residual-in_err-count.ensures
    (sym
    (sizes_two c.args.rest.now _ c.small_line.ensures _ _ c.in_ok-dim.was
    _ c.small_line-2.ensures _ _ c.in_ok-degree.was _ c.small_line-3.ensures c.in_err-count.was))

pub returns : goal.returns
unfolding bytes
returns c =
    sym
    (sizes-three c.args.rest.now _ c.small_line.ensures _ _ c.in_ok-dim.was
    _ c.small_line-2.ensures _ _ c.in_ok-degree.was _ c.small_line-3.ensures _ _ c.in_ok-count.was)
