-- `box_width` equals its definition. The invariant: the widest of the first k intervals.
use mathlib.Core.Path.{◌≡◌}
use Rattle.geometry.proofs.fat_line.Sizes.{widest_of}
use Rattle.geometry.proofs.fat_line.box_width.Given as goal

abbrev pub invariant-loop-k : goal.invariant-loop-k
invariant-loop-k l = l.best ≡ widest_of l.point_box l.k
