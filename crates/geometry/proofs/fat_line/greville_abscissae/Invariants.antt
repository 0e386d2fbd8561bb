-- `greville_abscissae` equals its definition: each turn writes the mean of one more window behind the others.
use mathlib.Core.Path.{◌≡◌}
use lib.ListN.{length}
use Rattle.lists.specs.Lists.{put, tab}
use Rattle.math.specs.Revision.{arithmetic}
use Rattle.model.specs.FatLine.{window, abscissa}
use Rattle.geometry.proofs.fat_line.greville_abscissae.Given as goal

abbrev pub invariant-loop-i : goal.invariant-loop-i
invariant-loop-i ty l = (length l.xi ≡ 32) × (l.xi ≡ put l.initial.xi 0 (tab l.i (λ j. abscissa (arithmetic ty.R.Revision.second) l.degree (window l.degree l.knots j))))
