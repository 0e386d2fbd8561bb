-- `from_first` writes what its definition has: each turn how far one more abscissa lies from the first, behind the others.
use mathlib.Core.Path.{refl, sym, ◌∙◌}
use native.Mathlib.Omega.{arith}
use lib.ListN.{set, length-set}
use Rattle.lists.proofs.Put.{put-nil}
use Rattle.lists.proofs.Loop.{put-tab}
use Rattle.math.specs.Revision.{arithmetic}
use Rattle.geometry.proofs.fat_line.Zeros.{from_first_at, from_first_done}
use Rattle.geometry.proofs.fat_line.from_first.Goals as goal

pub loop-i-init : goal.loop-i-init
loop-i-init ty c = (refl, sym (put-nil c.args.dx.now 0))

pub loop-i-preserved : goal.loop-i-preserved
loop-i-preserved ty c =
    let a = c.args in
    let i = c.loop-i.i in
    let f = from_first_at (arithmetic ty.R.Revision.second) a.xi.now in
    (simp length-set c.loop-i.invariant.0, (λ k. set (c.loop-i.invariant.1 k) i (c.sub.ensures k)) ∙ put-tab a.dx.now 0 i i f (omega arith) (omega (arith, c.loop-i-test.true)))

pub returns : goal.returns
returns ty c =
    let a = c.args in
    from_first_done (arithmetic ty.R.Revision.second) a.xi.now a.dx.now c.loop-i.dx c.loop-i.i c.requires.1 (omega arith) c.loop-i.invariant.1
