-- `keep_left` sets the count: the knots and the points that are kept stand where they should.
use Rattle.geometry.proofs.slots.Counts.{count_readable, few-points}
use Rattle.geometry.proofs.slots.Moves.{kept_left}
use native.Mathlib.Omega.{arith}
use Rattle.geometry.proofs.slots.keep_left.Goals as goal

pub set_count-requires : goal.set_count-requires
set_count-requires c =
    ((count_readable c.args.s c.args.work.now c.args.base c.requires.0).0, omega (arith, c.requires.1, few-points c.args.s _ c.requires.0.inside.sized c.requires.0.room))

pub returns : goal.returns
returns c = kept_left c.args.s c.args.work.now c.args.base c.args.at c.requires.0 c.requires.1 _ c.set_count.ensures
