-- `write` writes all of the source. Invariant: its first i words stand there.
use mathlib.Core.Path.{◌≡◌}
use lib.Ieee.{nan}
use lib.ListN.{length, get_or}
use Rattle.lists.specs.Lists.{put, tab}
use Rattle.geometry.proofs.slots.write.Given as goal

abbrev pub invariant-loop-i : goal.invariant-loop-i
invariant-loop-i l = (length l.work ≡ length l.initial.work) × (l.work ≡ put l.initial.work l.a (tab l.i (λ j. get_or l.source j nan)))
