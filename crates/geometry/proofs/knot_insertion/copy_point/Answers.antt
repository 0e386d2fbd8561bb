-- `copy_point` copies the words of one point.
use Rattle.geometry.proofs.knot_insertion.Triangle.{copied-fits, copied_done}
use native.Mathlib.Omega.{arith}
use Rattle.geometry.proofs.knot_insertion.copy_point.Goals as goal

pub copy-requires : goal.copy-requires
copy-requires c =
    let g = c.args in
    let f = copied-fits g.s g.work.now g.base g.i g.j c.requires.0 c.requires.1 c.requires.2 _ _ c.place_of-a.ensures c.place_of-b.ensures in
    (f.0, omega (arith, f.0, f.1))

pub returns : goal.returns
returns c =
    let g = c.args in
    copied_done g.s g.work.now g.base g.i g.j c.requires.0 c.requires.1 c.requires.2 _ _ c.place_of-a.ensures c.place_of-b.ensures _ c.copy.ensures
