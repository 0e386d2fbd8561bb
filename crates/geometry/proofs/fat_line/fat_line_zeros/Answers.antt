-- `fat_line_zeros` equals its definition: the slope is what its calls ensure, and each of its two answers is that of the definition for it.
use mathlib.Core.Path.{ap, ◌∙◌}
use native.Mathlib.Omega.{arith}
use lib.ListN.{length}
use Rattle.math.specs.Revision.{arithmetic}
use Rattle.geometry.proofs.fat_line.Zeros.{from_first_long, zeros-level, zeros_sloped}
use Rattle.geometry.proofs.fat_line.fat_line_zeros.Goals as goal

pub bounds-dx-d : goal.bounds-dx-d
bounds-dx-d ty c =
    omega (arith, ap length c.requires.dx_value ∙ from_first_long (arithmetic ty.R.Revision.second) c.args.xi.now, c.requires.lengths.0, c.requires.lengths.1)

pub band-requires : goal.band-requires
band-requires ty c =
    (c.requires.lengths.0, ap length c.requires.dx_value ∙ from_first_long (arithmetic ty.R.Revision.second) c.args.xi.now ∙ c.requires.lengths.1)

pub returns-in-Some : goal.returns-in-Some
returns-in-Some ty c =
    let a = c.args in
    zeros_sloped (arithmetic ty.R.Revision.second) a.xi.now a.dx.now a.d.now c.sub.result c.div.result c.requires.lengths.0 c.requires.lengths.1 c.requires.dx_value c.sub.ensures c.div.ensures.result
    _ _ _ c.in-Some.is c.band.ensures c.sloped_zeros.ensures

pub returns-in-None : goal.returns-in-None
returns-in-None ty c =
    let a = c.args in
    zeros-level (arithmetic ty.R.Revision.second) a.xi.now a.dx.now a.d.now c.sub.result c.div.result c.requires.lengths.0 c.requires.lengths.1 c.requires.dx_value c.sub.ensures c.div.ensures.result
    _ _ c.in-None.is c.unions.ensures c.level_zeros.ensures
