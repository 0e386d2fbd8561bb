-- `between_point` equals its definition: the point between two neighbouring points, in the place of the upper one, in either revision.
use Rattle.math.specs.Revision.{arithmetic}
use Rattle.geometry.proofs.vector.Between.{clear_of}
use Rattle.geometry.proofs.knot_insertion.Triangle.{between-fits, between_done}
use native.Mathlib.Omega.{arith}
use Rattle.geometry.proofs.knot_insertion.between_point.Goals as goal

pub interpolate-requires : goal.interpolate-requires
interpolate-requires ty c =
    let g = c.args in
    let f = between-fits g.s g.work.now g.base g.j g.alpha c.requires.0 c.requires.1 _ _ c.place_of-a.ensures c.place_of-b.ensures in
    record { d_in_bounds = (omega (arith, f.0, f.1), omega (arith, f.0, f.1), omega (arith, f.0, f.1)); fact = (clear_of _ _ _ (λ h. omega (arith, h, f.0)), clear_of _ _ _ (λ h. omega (arith, h, f.0))) }

pub returns : goal.returns
returns ty c =
    let g = c.args in
    between_done g.s g.work.now g.base g.j g.alpha c.requires.0 c.requires.1 _ _ c.place_of-a.ensures c.place_of-b.ensures (arithmetic ty.R.Revision.second) _ c.interpolate.ensures
