-- `root::normal` meets its contract: root/Shift.antt says how far the digits move.
use Rattle.math.proofs.root.Shift.{enough, moved}
use Rattle.math.proofs.root.normal.Goals as goal

pub overflow_sub-up : goal.overflow_sub-up
overflow_sub-up c = enough c.args.m0 c.requires.0 c.requires.1

pub returns : goal.returns
returns c = moved c.args.m0 c.args.a0 c.from.result c.requires.0 c.requires.1 c.requires.2 c.from.ensures
