-- `insert_times` equals its definition. Invariant: what is left to insert makes of the piece that is there what all of it makes of the first.
use Rattle.math.specs.Revision.{arithmetic}
use Rattle.geometry.proofs.knot_insertion.Times.{after_none, after_turn, after_all, span_in_bounds}
use native.Mathlib.Omega.{arith}
use Rattle.geometry.proofs.knot_insertion.insert_times.Goals as goal

pub loop-init : goal.loop-init
loop-init ty c = after_none (arithmetic ty.R.Revision.second) c.args.s c.args.work.now c.args.base c.args.t c.args.times c.requires.0

pub insert_once-requires : goal.insert_once-requires
insert_once-requires ty c =
    let a = c.loop.invariant in
    let b = span_in_bounds c.args.s c.loop.work c.args.base _ c.args.t a.held (omega (arith, a.count, c.requires.1)) c.span_in-k.ensures in
    (a.held, b.0, b.1, omega (arith, a.count, c.requires.2))

pub loop-preserved : goal.loop-preserved
loop-preserved ty c =
    after_turn (arithmetic ty.R.Revision.second) c.args.s c.args.work.now c.args.base c.args.t c.args.times c.loop.counter c.span_in-k.result c.loop.work _ c.requires.0 c.loop.invariant c.loop-test.true c.requires.1 c.requires.2 c.span_in-k.ensures c.insert_once.ensures

pub returns : goal.returns
returns ty c =
    let k = c.args in
    after_all (arithmetic ty.R.Revision.second) k.s k.work.now k.base k.t k.times c.loop.counter c.loop.work c.loop.invariant (omega (arith, c.loop.invariant.within))
