-- `search_ring` equals its definition: what is left to search from where it stands is what was to search from the start.
use Prim.Native.Nat.{ℕ, ◌<◌}
use native.Mathlib.Omega.{arith}
use lib.Ieee.{Float}
use mathlib.Core.List.{List}
use mathlib.Core.Bool.{Bool}
use mathlib.Core.Path.{sym, ◌∙◌}
use Rattle.math.specs.Revision.{arithmetic}
use Rattle.model.specs.NurbCurve.{Piece}
use Rattle.geometry.specs.State.{asked_of, Begins, Going}
use Rattle.geometry.specs.declared.slots.Shape.{Shape}
use Rattle.geometry.specs.declared.subdivide.Search.{Search}
use Rattle.model.proofs.Cuts.{OneOrTwo, visit-cuts}
use Rattle.geometry.proofs.contains.Search.{cuts-few, going_start, going_none, going-spent, Ready, ready, comes}
use Rattle.geometry.proofs.contains.search_ring.Invariants.{seeing}
use Rattle.geometry.proofs.contains.search_ring.Goals as goal

few : (second : Bool) (s : Shape) (box : List Float) (resolution : Float) (nodes : ℕ) (c : Piece) → OneOrTwo (seeing second s box resolution nodes c)
few second s box resolution nodes = visit-cuts (arithmetic second) (asked_of s box resolution nodes)

-- A piece waits, and a visit is left for it.
asks : (second : Bool) (s : Shape) (box : List Float) (resolution : Float) (nodes : ℕ) (work₀ work : List Float) (q : Search)
    → Begins (arithmetic second) s (asked_of s box resolution nodes) work₀
    → Going (seeing second s box resolution nodes) nodes s work₀ work q → 0 < q.pending → q.counts.visited < nodes → Ready (arithmetic second) nodes s work q
asks second s box resolution nodes work₀ work q b g waits more = ready (arithmetic second) s box resolution nodes work₀ b work q g waits more

-- ---- before the loop
pub loop-q-init : goal.loop-q-init
loop-q-init ty c =
    let g = c.args in
    going_start (seeing ty.R.Revision.second g.s g.point_box.now g.resolution g.nodes) (few ty.R.Revision.second g.s g.point_box.now g.resolution g.nodes) g.nodes g.s g.work.now c.requires.begins.ring c.requires.begins.whole

-- ---- no visit is left
pub returns-then-v-nodes : goal.returns-then-v-nodes
returns-then-v-nodes ty c =
    let g = c.args in
    let l = c.loop-q in record {
      found = going-spent (seeing ty.R.Revision.second g.s g.point_box.now g.resolution g.nodes) (few ty.R.Revision.second g.s g.point_box.now g.resolution g.nodes) g.nodes g.s g.work.now l.work l.q l.invariant (omega arith) (omega arith);
      rest = l.invariant.rest;
    }

-- ---- a visit
pub next_depth-d-requires : goal.next_depth-d-requires
next_depth-d-requires ty c =
    let g = c.args in
    let l = c.loop-q in
    let waits : 0 < l.q.pending = omega (arith, c.loop-q-test.true) in
    let more : l.q.counts.visited < g.nodes = omega (arith, c.if-v-nodes.false, l.invariant.within) in
    let a = asks ty.R.Revision.second g.s g.point_box.now g.resolution g.nodes g.work.now l.work l.q c.requires.begins l.invariant waits more in
    record { waits = (a.waits, c.slot_words-w.ensures); head_bound = a.deep }

pub visit_next-o-requires : goal.visit_next-o-requires
visit_next-o-requires ty c =
    let g = c.args in
    let l = c.loop-q in
    let waits : 0 < l.q.pending = omega (arith, c.loop-q-test.true) in
    let more : l.q.counts.visited < g.nodes = omega (arith, c.if-v-nodes.false, l.invariant.within) in
    let a = asks ty.R.Revision.second g.s g.point_box.now g.resolution g.nodes g.work.now l.work l.q c.requires.begins l.invariant waits more in
    record { ring = (l.invariant.ring, waits, a.room); slots_bound = (omega (arith, c.requires.begins.few), c.slot_words-w.ensures, omega (arith, c.next_depth-d.ensures, a.deep)); fit = (a.fit, c.requires.dim_in_bounds) }

pub after_visit-q-requires : goal.after_visit-q-requires
after_visit-q-requires ty c =
    let g = c.args in
    let l = c.loop-q in
    let waits : 0 < l.q.pending = omega (arith, c.loop-q-test.true) in
    let more : l.q.counts.visited < g.nodes = omega (arith, c.if-v-nodes.false, l.invariant.within) in
    let a = asks ty.R.Revision.second g.s g.point_box.now g.resolution g.nodes g.work.now l.work l.q c.requires.begins l.invariant waits more in
    let i = l.invariant in
    record {
      head_lt_slots = (i.ring.start, waits, omega (arith, a.room), omega (arith, c.requires.begins.few));
      visited_bound = (omega (arith, i.within, c.requires.begins.few), omega (arith, a.cuts), cuts-few (arithmetic ty.R.Revision.second) _ g.s _ _ _ _ _ _ _ c.visit_next-o.ensures);
    }

pub returns-then-has_bad_weight : goal.returns-then-has_bad_weight
returns-then-has_bad_weight ty c =
    let g = c.args in
    let l = c.loop-q in
    let waits : 0 < l.q.pending = omega (arith, c.loop-q-test.true) in
    let more : l.q.counts.visited < g.nodes = omega (arith, c.if-v-nodes.false, l.invariant.within) in
    let r = comes (arithmetic ty.R.Revision.second) g.s g.point_box.now g.resolution g.nodes g.work.now c.requires.begins l.work l.q l.invariant waits more
    _ _ _ _ c.visit_next-o.auto.work c.next_depth-d.ensures c.visit_next-o.ensures c.after_visit-q.ensures in
    record { found = r.bad (sym c.has_bad_weight.ensures ∙ c.if-has_bad_weight.true); rest = r.rest }

pub loop-q-preserved : goal.loop-q-preserved
loop-q-preserved ty c =
    let g = c.args in
    let l = c.loop-q in
    let waits : 0 < l.q.pending = omega (arith, c.loop-q-test.true) in
    let more : l.q.counts.visited < g.nodes = omega (arith, c.if-v-nodes.false, l.invariant.within) in
    let r = comes (arithmetic ty.R.Revision.second) g.s g.point_box.now g.resolution g.nodes g.work.now c.requires.begins l.work l.q l.invariant waits more
    _ _ _ _ c.visit_next-o.auto.work c.next_depth-d.ensures c.visit_next-o.ensures c.after_visit-q.ensures in
    r.on (sym c.has_bad_weight.ensures ∙ c.if-has_bad_weight.false)

pub returns : goal.returns
returns ty c =
    let g = c.args in
    let l = c.loop-q in record {
      found = going_none (seeing ty.R.Revision.second g.s g.point_box.now g.resolution g.nodes) (few ty.R.Revision.second g.s g.point_box.now g.resolution g.nodes) g.nodes g.s g.work.now l.work l.q l.invariant _ (omega arith) c.completed.ensures;
      rest = l.invariant.rest;
    }
