-- `blend_point` equals its definition: alpha from the slot's knots, and the blend of two neighbouring points.
use Rattle.math.specs.Revision.{arithmetic}
use Rattle.geometry.proofs.knot_insertion.Insert.{knots-within, blend-fits, blend_done}
use native.Mathlib.Omega.{arith}
use Rattle.geometry.proofs.knot_insertion.blend_point.Goals as goal

pub slice_bounds-alpha_at-end : goal.slice_bounds-alpha_at-end
slice_bounds-alpha_at-end ty c = omega (arith, c.knots_from-from.ensures, knots-within c.args.s c.args.work.now c.args.base c.args.n c.requires.0 c.requires.2)

pub blend_into-requires : goal.blend_into-requires
blend_into-requires ty c =
    blend-fits c.args.s c.args.work.now c.args.base c.args.n c.args.j c.args.t c.requires.0 c.requires.1 c.requires.2 _ _ c.place_of-a.ensures c.place_of-b.ensures

pub returns : goal.returns
returns ty c =
    blend_done c.args.s c.args.work.now c.args.base c.args.n c.args.j c.args.t c.requires.0 c.requires.1 c.requires.2 _ _ c.place_of-a.ensures c.place_of-b.ensures (arithmetic ty.R.Revision.second) _ _ _ c.knots_from-from.ensures c.alpha_at-alpha.ensures c.blend_into.ensures
