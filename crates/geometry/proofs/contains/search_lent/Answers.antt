-- `search_lent` equals its definition: a box that misses, or the search from the whole curve in the first slot; then the stated words are cleared.
use mathlib.Core.Path.{refl, ◌∙◌}
use native.Mathlib.Omega.{arith}
use lib.ListN.{length}
use lib.Ieee.{of_bits}
use Rattle.math.proofs.Laws.{encloses}
use Rattle.math.specs.Revision.{arithmetic}
use Rattle.model.specs.Aabb.{could_meet}
use Rattle.model.specs.Layout.{scalars_of}
use Rattle.geometry.specs.Call.{call_in}
use Rattle.model.proofs.Sound.Accepted.{sizes}
use Rattle.geometry.proofs.contains.Lent.{words_in, first_slot, door_asks, box_long, area_left, missed, loaded-room, begins, placed-behind, answers}
use Rattle.geometry.proofs.contains.search_lent.Goals as goal

pub polygon-requires : goal.polygon-requires
polygon-requires ty c =
    let asked = call_in c.args.q (length c.args.work.now) in
    let d = door_asks asked c.requires.0 c.args.work.now refl in
    (d.0, d.2, d.3)

pub curve_could_meet_aabb-requires : goal.curve_could_meet_aabb-requires
curve_could_meet_aabb-requires ty c =
    let asked = call_in c.args.q (length c.args.work.now) in
    let d = door_asks asked c.requires.0 c.args.work.now refl in
    (omega (arith, d.1, c.polygon.ensures.1), omega (arith, d.4, c.polygon.ensures.0))

pub fill-requires : goal.fill-requires
fill-requires ty c =
    let asked = call_in c.args.q (length c.args.work.now) in
    omega (arith, words_in asked c.requires.0 c.args.work.now refl _ c.stated_words-words.ensures c.args.work.now refl)

pub returns-then-not-curve_could_meet_aabb : goal.returns-then-not-curve_could_meet_aabb
unfolding of_bits
returns-then-not-curve_could_meet_aabb ty c =
    let met = c.curve_could_meet_aabb.ensures ∙ (λ i. could_meet (arithmetic ty.R.Revision.second) (c.polygon.ensures.0 i) c.args.q.degree (c.polygon.ensures.2 i) (scalars_of (c.polygon.ensures.0 i) c.args.q.point_box.now)) in
    let asked = call_in c.args.q (length c.args.work.now) in
    let area = c.args.work.now in record {
      result = missed asked c.requires.0 area refl (arithmetic ty.R.Revision.second) _ met c.if-not-curve_could_meet_aabb.true;
      memory = area_left asked c.requires.0 area refl _ c.stated_words-words.ensures area _ refl c.fill.ensures;
    }

pub load-requires : goal.load-requires
load-requires ty c =
    let asked = call_in c.args.q (length c.args.work.now) in
    (first_slot asked c.requires.0 c.args.work.now refl, (sizes asked c.requires.0).knots, (sizes asked c.requires.0).points)

pub slot_words-requires : goal.slot_words-requires
slot_words-requires ty c =
    let asked = call_in c.args.q (length c.args.work.now) in
    let z = (first_slot asked c.requires.0 c.args.work.now refl).sized in
    (z.dim, (z.degree, z.count))

pub set_depth-requires : goal.set_depth-requires
set_depth-requires ty c =
    let asked = call_in c.args.q (length c.args.work.now) in
    let room = loaded-room asked c.requires.0 c.args.work.now refl c.requires.1 _ c.load.ensures _ c.slot_words.ensures in
    (room.0, room.1, omega arith)

pub search_ring-r-requires : goal.search_ring-r-requires
search_ring-r-requires ty c =
    let asked = call_in c.args.q (length c.args.work.now) in
    record { begins = begins asked c.requires.0 c.args.work.now refl c.requires.1 _ c.load.ensures _ c.slot_words.ensures _ c.set_depth.ensures (arithmetic ty.R.Revision.second) (encloses ty.R.Revision.second); dim_in_bounds = box_long asked c.requires.0 c.args.work.now refl }

pub fill-requires-2 : goal.fill-requires-2
fill-requires-2 ty c =
    let asked = call_in c.args.q (length c.args.work.now) in
    omega (arith, words_in asked c.requires.0 c.args.work.now refl _ c.stated_words-words.ensures c.search_ring-r.new.work (c.search_ring-r.auto.work ∙ c.set_depth.auto.work ∙ c.load.auto.work))

pub returns : goal.returns
unfolding of_bits
returns ty c =
    let met = c.curve_could_meet_aabb.ensures ∙ (λ i. could_meet (arithmetic ty.R.Revision.second) (c.polygon.ensures.0 i) c.args.q.degree (c.polygon.ensures.2 i) (scalars_of (c.polygon.ensures.0 i) c.args.q.point_box.now)) in
    let asked = call_in c.args.q (length c.args.work.now) in
    let area = c.args.work.now in
    let r = c.search_ring-r.ensures in record {
      result = answers asked c.requires.0 area refl c.requires.1 _ c.load.ensures _ c.slot_words.ensures _ c.set_depth.ensures (arithmetic ty.R.Revision.second) _ _ met c.if-not-curve_could_meet_aabb.false r.found;
      memory = area_left asked c.requires.0 area refl _ c.stated_words-words.ensures _ _ (r.rest ∙ placed-behind asked c.requires.0 area refl c.requires.1 _ c.load.ensures _ c.slot_words.ensures _ c.set_depth.ensures) c.fill-2.ensures;
    }
