-- `visit_next` is the visit of the first slot, with the two slots behind the last.
use Prim.Native.Nat.{◌+◌}
use native.Mathlib.Omega.{arith}
use Rattle.math.specs.Revision.{arithmetic}
use Rattle.geometry.specs.State.{asked_of}
use Rattle.model.specs.Contains.{visit}
use Rattle.geometry.proofs.slots.Ring.{base_is}
use Rattle.geometry.proofs.subdivide.State.{slot_is, slot_in, turn_asks, turn_inside, turn_gives}
use Rattle.geometry.proofs.contains.visit_next.Goals as goal

-- ---- the three slots are those of the ring

pub slot_base-a-requires : goal.slot_base-a-requires
slot_base-a-requires ty c =
    let a = c.args in
    omega (arith, slot_in a.s a.work.now a.slots a.q.head a.q.pending a.w c.requires.ring.0 c.requires.ring.1 c.requires.ring.2 c.requires.slots_bound.1 a.q.pending _ (omega (arith, c.requires.ring.2)) c.wrap.ensures)

pub slot_base-b-requires : goal.slot_base-b-requires
slot_base-b-requires ty c =
    let a = c.args in
    omega (arith, slot_in a.s a.work.now a.slots a.q.head a.q.pending a.w c.requires.ring.0 c.requires.ring.1 c.requires.ring.2 c.requires.slots_bound.1 (a.q.pending + 1) _ (omega (arith, c.requires.ring.2)) c.wrap-2.ensures)

pub visit-o-requires : goal.visit-o-requires
visit-o-requires ty c =
    let a = c.args in
    let first_slot = slot_is a.s a.work.now a.slots a.q.head a.q.pending a.w c.requires.ring.0 c.requires.ring.1 c.requires.ring.2 c.requires.slots_bound.1 a.q.pending _ _ c.wrap.ensures c.slot_base-a.ensures in
    let second-slot = slot_is a.s a.work.now a.slots a.q.head a.q.pending a.w c.requires.ring.0 c.requires.ring.1 c.requires.ring.2 c.requires.slots_bound.1 (a.q.pending + 1) _ _ c.wrap-2.ensures c.slot_base-b.ensures in
    let head-slot = base_is a.s a.w c.requires.slots_bound.1 a.q.head _ c.slot_base.ensures in
    let r = turn_asks a.s a.work.now a.slots a.q.head a.q.pending a.w c.requires.ring.0 c.requires.ring.1 c.requires.ring.2 c.requires.slots_bound.1 _ _ _
    head-slot first_slot second-slot (arithmetic ty.R.Revision.second) _ c.requires.fit.0 c.requires.fit.1 in
    record { held = r.0; inside = r.1 }

-- ---- what it hands on gets its depth

pub set_depths-requires : goal.set_depths-requires
set_depths-requires ty c =
    let a = c.args in
    let first_slot = slot_is a.s a.work.now a.slots a.q.head a.q.pending a.w c.requires.ring.0 c.requires.ring.1 c.requires.ring.2 c.requires.slots_bound.1 a.q.pending _ _ c.wrap.ensures c.slot_base-a.ensures in
    let second-slot = slot_is a.s a.work.now a.slots a.q.head a.q.pending a.w c.requires.ring.0 c.requires.ring.1 c.requires.ring.2 c.requires.slots_bound.1 (a.q.pending + 1) _ _ c.wrap-2.ensures c.slot_base-b.ensures in
    let head-slot = base_is a.s a.w c.requires.slots_bound.1 a.q.head _ c.slot_base.ensures in
    let in_both = turn_inside a.s a.work.now a.slots a.q.head a.q.pending a.w c.requires.ring.0 c.requires.ring.1 c.requires.ring.2 c.requires.slots_bound.1 _ _ _
    head-slot first_slot second-slot (visit (arithmetic ty.R.Revision.second) (asked_of a.s a.point_box.now a.resolution 0)) _ _ c.visit-o.ensures in
    (in_both.0, in_both.1, c.requires.slots_bound.1, c.requires.slots_bound.2)

pub returns : goal.returns
returns ty c =
    let a = c.args in
    let first_slot = slot_is a.s a.work.now a.slots a.q.head a.q.pending a.w c.requires.ring.0 c.requires.ring.1 c.requires.ring.2 c.requires.slots_bound.1 a.q.pending _ _ c.wrap.ensures c.slot_base-a.ensures in
    let second-slot = slot_is a.s a.work.now a.slots a.q.head a.q.pending a.w c.requires.ring.0 c.requires.ring.1 c.requires.ring.2 c.requires.slots_bound.1 (a.q.pending + 1) _ _ c.wrap-2.ensures c.slot_base-b.ensures in
    let head-slot = base_is a.s a.w c.requires.slots_bound.1 a.q.head _ c.slot_base.ensures in
    turn_gives a.s a.work.now a.slots a.q.head a.q.pending a.w c.requires.ring.0 c.requires.ring.1 c.requires.ring.2 c.requires.slots_bound.1 _ _ _
    head-slot first_slot second-slot (visit (arithmetic ty.R.Revision.second) (asked_of a.s a.point_box.now a.resolution 0)) _ _ c.visit-o.ensures a.d _ c.set_depths.ensures
