-- `abscissa` is the mean of a window. Invariant: what was summed and what is left of the window make the sum.
use mathlib.Core.Path.{◌≡◌}
use lib.ListN.{drop}
use Rattle.math.specs.Revision.{arithmetic}
use Rattle.math.specs.Scalars.{ZERO}
use Rattle.geometry.specs.Abscissae.{summed}
use Rattle.geometry.proofs.fat_line.abscissa.Given as goal

abbrev pub invariant-loop-u : goal.invariant-loop-u
invariant-loop-u ty l =
    let ar = arithmetic ty.R.Revision.second in
    summed ar l.sum (drop l.u-index l.w) ≡ summed ar ZERO l.w
