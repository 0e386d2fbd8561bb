-- `next_row` equals its definition. Invariant: the points behind number i are points between.
use mathlib.Core.Path.{refl, ◌∙◌}
use Prim.Native.Nat.{suc}
use Rattle.math.specs.Revision.{arithmetic}
use Rattle.geometry.specs.Slots.{between_at}
use Rattle.geometry.proofs.slots.Counts.{place-within}
use Rattle.geometry.proofs.knot_insertion.Blends.{makes_none, makes_turn, between-made}
use native.Mathlib.Omega.{arith}
use Rattle.geometry.proofs.knot_insertion.next_row.Goals as goal

pub loop-i-init : goal.loop-i-init
loop-i-init ty c =
    let g = c.args in
    (omega arith, refl, makes_none g.s g.base (λ l j. between_at (arithmetic ty.R.Revision.second) g.s l g.base g.alpha j) (between-made (arithmetic ty.R.Revision.second) g.s g.base g.alpha) g.work.now g.s.degree)

pub loop-i-preserved : goal.loop-i-preserved
loop-i-preserved ty c =
    let l = c.loop-i in
    let g = c.args in (
      omega arith,
      c.between_point.auto.work ∙ l.invariant.1,
      makes_turn g.s g.base (λ l j. between_at (arithmetic ty.R.Revision.second) g.s l g.base g.alpha j) (between-made (arithmetic ty.R.Revision.second) g.s g.base g.alpha) g.work.now g.s.degree l.i l.work _ (omega arith) (omega arith)
          (place-within g.s g.work.now g.base (suc g.s.degree) c.requires.0 (omega arith)) l.invariant.2 c.between_point.ensures,
    )
