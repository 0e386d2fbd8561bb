-- `carried_width` equals its definition. The invariant: the widest of the first i points.
use mathlib.Core.Path.{◌≡◌}
use Rattle.geometry.proofs.fat_line.Sizes.{carried_of}
use Rattle.geometry.proofs.fat_line.carried_width.Given as goal

abbrev pub invariant-loop-i : goal.invariant-loop-i
invariant-loop-i l = l.best ≡ carried_of l.p.dim l.p.words.now l.i
