-- `polygon_zeros` equals the definition: each turn takes in one point more.
use Rattle.std.proofs.Common.{arith, length}
use Rattle.math.specs.Revision.{arithmetic}
use Rattle.math.proofs.Bools.{yes}
use Rattle.geometry.specs.Zeros.{paired}
use Rattle.geometry.proofs.zeros.Polygon.{as_many, not-empty, line_first, line_turn, line_done}
use Rattle.geometry.proofs.zeros.polygon_zeros.Goals as goal

pub loop-i-init : goal.loop-i-init
loop-i-init ty c =
    let xs = c.args.xi.now in
    let ys = c.args.d.now in
    let p = yes (paired (length xs) (length ys)) c.requires in
    (omega arith, line_first (arithmetic ty.R.Revision.second) xs ys _ (as_many (length xs) (length ys) p) c.begin-l.ensures)

pub loop-i-preserved : goal.loop-i-preserved
loop-i-preserved ty c =
    let i = c.loop-i.invariant in
    (omega arith, line_turn (arithmetic ty.R.Revision.second) c.args.xi.now c.args.d.now c.loop-i.i c.loop-i.l _ i.0 i.1 c.take-l.ensures)

pub returns : goal.returns
returns ty c =
    let xs = c.args.xi.now in
    let ys = c.args.d.now in
    let p = yes (paired (length xs) (length ys)) c.requires in
    line_done (arithmetic ty.R.Revision.second) xs ys c.loop-i.i c.loop-i.l _ (as_many (length xs) (length ys) p) (omega (arith, not-empty (length xs) (length ys) p)) c.loop-i.invariant.1 c.end.ensures
