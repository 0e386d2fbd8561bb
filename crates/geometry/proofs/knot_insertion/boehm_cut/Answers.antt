-- `boehm_cut` equals its definition: the insertions that are missing, and the first place of t.
use Rattle.math.specs.Revision.{arithmetic}
use Rattle.geometry.proofs.knot_insertion.Cuts.{boehm_held, boehm_cut_lem}
use Rattle.geometry.proofs.knot_insertion.boehm_cut.Goals as goal

pub position_in-requires : goal.position_in-requires
position_in-requires ty c =
    let g = c.args in
    boehm_held (arithmetic ty.R.Revision.second) g.s g.work.now _ g.base g.t c.requires.0 c.requires.1 c.requires.2 _ c.missing_in-times.ensures c.insert_times.ensures

pub returns : goal.returns
returns ty c =
    let g = c.args in
    boehm_cut_lem (arithmetic ty.R.Revision.second) g.s g.work.now _ g.base g.t c.requires.0 c.requires.1 c.requires.2 _ c.missing_in-times.ensures c.insert_times.ensures _ c.position_in.ensures
