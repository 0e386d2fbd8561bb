-- `load` writes the numbers of the points, the knots and the count.
use Rattle.geometry.proofs.slots.Moves.{load_fits, loaded}
use native.Mathlib.Omega.{arith}
use Rattle.geometry.proofs.slots.load.Goals as goal

pub write-requires : goal.write-requires
write-requires c =
    let g = c.args in
    (load_fits g.s g.work.now g.knots.now g.points.now g.base _ c.requires.0 c.requires.1 c.requires.2 c.place_of-from.ensures).0

pub write-requires-2 : goal.write-requires-2
write-requires-2 c =
    let g = c.args in
    omega (arith, c.knots_from.ensures, c.write.auto.work, (load_fits g.s g.work.now g.knots.now g.points.now g.base _ c.requires.0 c.requires.1 c.requires.2 c.place_of-from.ensures).1)

pub set_count-requires : goal.set_count-requires
set_count-requires c =
    let g = c.args in (
      omega (arith, c.write-2.auto.work, c.write.auto.work, (load_fits g.s g.work.now g.knots.now g.points.now g.base _ c.requires.0 c.requires.1 c.requires.2 c.place_of-from.ensures).2),
      omega (arith, c.requires.0.sized.count),
    )

pub returns : goal.returns
returns c =
    let g = c.args in
    loaded g.s g.work.now g.knots.now g.points.now g.base c.requires.0 c.requires.1 c.requires.2 _ _ _ _ _ c.place_of-from.ensures c.knots_from.ensures c.write.ensures c.write-2.ensures c.set_count.ensures
