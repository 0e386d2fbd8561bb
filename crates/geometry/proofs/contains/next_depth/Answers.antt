-- `next_depth` reads the last word of the first slot.
use mathlib.Core.Path.{◌≡◌}
use native.Mathlib.Omega.{arith}
use Rattle.geometry.specs.Ring.{base_of}
use Rattle.geometry.proofs.slots.Ring.{base_is}
use Rattle.geometry.proofs.slots.Depth.{depth-room, depth-reads}
use Rattle.geometry.proofs.contains.next_depth.Goals as goal

-- the first slot
base : (c : goal.After-slot_base) → c.slot_base.result ≡ base_of c.args.s c.args.q.head
base c = let a = c.args in base_is a.s a.w c.requires.waits.1 a.q.head _ c.slot_base.ensures

pub depth_at-requires : goal.depth_at-requires
depth_at-requires c =
    let a = c.args in
    record { w_nonzero = depth-room a.s _ a.w _ c.requires.waits.1 (base c) a.work.now c.requires.waits.0.held.inside; t = depth-reads a.s _ a.w _ c.requires.waits.1 (base c) a.work.now c.requires.waits.0 (omega (arith, c.requires.head_bound)) }
