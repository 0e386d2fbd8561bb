-- `from_first` writes what its definition has: each turn how far one more abscissa lies from the first, behind the others.
use mathlib.Core.Path.{◌≡◌}
use lib.ListN.{length}
use Rattle.lists.specs.Lists.{put, tab}
use Rattle.math.specs.Revision.{arithmetic}
use Rattle.geometry.proofs.fat_line.Zeros.{from_first_at}
use Rattle.geometry.proofs.fat_line.from_first.Given as goal

abbrev pub invariant-loop-i : goal.invariant-loop-i
invariant-loop-i ty l = (length l.dx ≡ length l.initial.dx) × (l.dx ≡ put l.initial.dx 0 (tab l.i (from_first_at (arithmetic ty.R.Revision.second) l.xi)))
