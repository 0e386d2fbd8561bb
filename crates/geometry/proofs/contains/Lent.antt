-- What a call gives and leaves: a refused one; and an accepted one, whose search begins with the curve in the first slot. Leans on Enclosure.antt, and on the laws of slots and of the search.
use mathlib.Core.Path.{◌≡◌, refl, sym, ap, ◌∙◌, subst}
use mathlib.Core.Bool.{Bool, true, false}
use mathlib.Core.List.{List, [], ◌∷◌}
use Prim.Native.Nat.{ℕ, zero, suc, ◌+◌, ◌-◌, ◌*◌, ◌≤◌, ◌<◌}
use native.Mathlib.Nat.{mul_assoc, zero-mul}
use native.Mathlib.Omega.{arith}
use lib.Dec.{eqb}
use lib.ListN.{length, drop, replicate}
use lib.Ieee.{Float}
use Rattle.lists.specs.Lists.{put, cleared}
use Rattle.lists.proofs.Loop.{cleared-put, cleared_same}
use Rattle.lists.proofs.Ring.{wrapped-head}
use Rattle.math.specs.Scalars.{Arithmetic, zero_f}
use Rattle.math.specs.Encloses.{Encloses}
use Rattle.math.proofs.Bools.{pick_yes, pick_no}
use Rattle.model.specs.NurbCurve.{Piece}
use Rattle.model.specs.Layout.{area_words}
use Rattle.model.specs.Aabb.{could_meet}
use Rattle.model.specs.Subdivide.{no_counts, advance, answered}
use Rattle.model.specs.Contains.{visit, begun, could_contain}
use Rattle.model.specs.Call.{Call, as_piece, box_of, question, refusal, stated, stated_words, arithmetic_of, searched_by, searched, area_by, area_after}
use Rattle.model.specs.Enclosure.{Doubles, Accepted, HitsEnclosed, BoundsInDomain, BoundsPositiveZero, BoundsInOrder}
use Rattle.model.specs.Paper.{paper}
use Rattle.model.specs.Promise.{Answers}
use Rattle.geometry.specs.Call.{Searches}
use Rattle.geometry.specs.Slots.{words_of, word, piece_at, placed, Fits, Inside, Held, DepthIs, Waits}
use Rattle.geometry.specs.Ring.{ring_base, Ring}
use Rattle.geometry.specs.State.{AllFit, Begins}
use Rattle.model.specs.Numbers.{number_of, refusal_of}
use Rattle.model.specs.declared.refusal.Refusal.{Refusal}
use Rattle.model.specs.declared.contains.Found.{Found}
use Rattle.model.specs.declared.contains.Found.TheVariants.{Nothing, Refused}
use Rattle.model.proofs.Numbers.{some_number, refusal-of-number}
use Rattle.model.proofs.Checks.{stated_is}
use Rattle.model.proofs.Sound.Accepted.{Sizes, sizes}
use Rattle.geometry.proofs.Lists.Numbers.{length-points, wide-points}
use Rattle.geometry.proofs.slots.Counts.{inside_of}
use Rattle.geometry.proofs.slots.Piece.{length-placed, piece-placed, held-placed}
use Rattle.geometry.proofs.slots.Depth.{depth_back, waits_by, depth_is, depth-room, deepened, deep_long, deep_is, deep-held, deep-piece, deep_outside}
use Rattle.geometry.proofs.slots.Ring.{beside_placed, beside-behind}
use Rattle.model.proofs.Enclosure.{revision_enclosure}
use Rattle.model.proofs.Debug.Call.{debug-says}
use Rattle.geometry.proofs.contains.Fit.{shape_of, all_fit}

-- ---- the promises of a call

-- A call that is refused gives its number, and writes nothing.
pub refused : (c : Call) (area : List Float) (e : Refusal) → number_of e ≡ refusal c → Answers c area area (Refused e no_counts)
unfolding searched searched_by area_after area_by
refused c area e h = record {
  result = result;
  paper = ap paper result;
  memory = untouched (number_of e) (some_number e) ∙ ap (area_by c area) h;
  encloses = λ _ never. absurd never;
  within = tt;
  zeros = tt;
  order = tt;
  debug = debug-says c _ (λ acc. absurd (some_number e (h ∙ acc))) result;
}
  where
    told : (n : ℕ) → (n ≡ 0 → ⊥) → Refused (refusal_of n) no_counts ≡ searched_by (arithmetic_of c) c n
    told zero k = absurd (k refl)
    told (suc n) k = refl

    untouched : (n : ℕ) → (n ≡ 0 → ⊥) → area ≡ area_by c area n
    untouched zero k = absurd (k refl)
    untouched (suc n) k = refl

    result : Refused e no_counts ≡ searched_by (arithmetic_of c) c (refusal c)
    result =
        ap (λ (x : Refusal). Refused x no_counts) (sym (refusal-of-number e)) ∙ told (number_of e) (some_number e)
        ∙ ap (searched_by (arithmetic_of c) c) h

-- Any other is searched, and its answer keeps demand 3.
pub answered_by_lem : (c : Call) (before after : List Float) (r : Found) → Doubles c → Searches (arithmetic_of c) c before after r → Answers c before after r
answered_by_lem c before after r d h = record {
  result = h.result;
  paper = ap paper h.result;
  memory = h.memory;
  encloses = subst (HitsEnclosed c) (sym h.result) ((revision_enclosure (eqb c.rev 2)).hits c d);
  within = subst (BoundsInDomain c.curve) (sym h.result) ((revision_enclosure (eqb c.rev 2)).bounds c d);
  zeros = subst BoundsPositiveZero (sym h.result) ((revision_enclosure (eqb c.rev 2)).zeros c);
  order = subst BoundsInOrder (sym h.result) ((revision_enclosure (eqb c.rev 2)).order c d);
  debug = debug-says c r (λ _. d) h.result;
}

-- ---- a call that is accepted

module _ (c : Call) (acc : Accepted c) (area : List Float) (long : length area ≡ c.work_len) where
  z : Sizes c
  z = sizes c acc

  -- ---- the words

  module _ (w : ℕ) (W : w ≡ stated_words c.curve.dim c.curve.degree c.curve.count c.nodes) where
    pub words_are : w ≡ stated c
    words_are = W ∙ stated_is c acc

    pub words_in : (m : List Float) → length m ≡ length area → w ≤ length m
    words_in m e = omega (arith, words_are, z.area, long, e)

  ring_in : area_words c.curve.dim c.curve.degree c.curve.count c.nodes ≤ length area
  ring_in = unfold stated in omega (arith, z.area, long)

  pub first_slot : Inside (record { dim = c.curve.dim; degree = c.curve.degree; count = c.curve.count }) area 0
  first_slot = record { sized = record { dim = z.dim; degree = z.degree; count = z.count }; within = omega (arith, ring_in) }

  -- ---- what is asked

  pub points_long : length c.curve.points ≡ 2 * suc c.curve.dim * c.curve.count
  points_long = z.points

  pub box_long : 2 * c.curve.dim ≤ length c.box
  box_long = omega (arith, z.box)

  pub door_asks : (c.curve.dim ≤ 3) × (1 ≤ c.curve.count) × (c.curve.count ≤ 32) × (2 * (suc c.curve.dim * c.curve.count) ≤ length c.curve.points) × (2 * c.curve.dim ≤ length c.box)
  door_asks = (z.dim, omega (arith, z.room), z.count, omega (arith, z.points, mul_assoc 2 (suc c.curve.dim) c.curve.count), box_long)

  -- ---- a box that misses

  module _ (w : ℕ) (W : w ≡ stated_words c.curve.dim c.curve.degree c.curve.count c.nodes) where
    -- the stated words are cleared, where the words behind them are as they were
    pub area_left : (l m : List Float) → drop (area_words c.curve.dim c.curve.degree c.curve.count c.nodes) l ≡ drop (area_words c.curve.dim c.curve.degree c.curve.count c.nodes) area
        → m ≡ put l 0 (replicate w zero_f) → m ≡ area_after c area
    unfolding area_after area_by
    area_left l m e M =
        M ∙ cleared-put l w zero_f ∙ ap (λ (k : ℕ). cleared l k zero_f) (words_are w W)
        ∙ cleared_same l area (stated c) zero_f behind ∙ sym (ap (area_by c area) acc)
      where
        behind : drop (stated c) l ≡ drop (stated c) area
        behind = unfold stated in e

  pub missed : (ar : Arithmetic) (b : Bool) → b ≡ could_meet ar c.curve.dim c.curve.degree (as_piece c.curve).points (box_of c) → b ≡ false → Nothing no_counts ≡ searched ar c
  unfolding searched searched_by could_contain
  missed ar b B e = pick_no _ _ _ (sym B ∙ e) ∙ sym (ap (searched_by ar c) acc)

  -- ---- a search

  module _ (d : Doubles c) where
    fits : Fits (shape_of c d acc) (as_piece c.curve)
    fits =
        let n : length (as_piece c.curve).points ≡ c.curve.count = length-points (suc c.curve.dim) c.curve.count c.curve.points in
        record { knots = omega (arith, z.knots, n); points = omega (arith, n); wide = wide-points (suc c.curve.dim) c.curve.count c.curve.points }

    -- the first slot holds the curve, and then its depth, which is 0
    module _ (l : List Float) (L : l ≡ placed (shape_of c d acc) area 0 (as_piece c.curve)) where
      loaded_long : length l ≡ length area
      loaded_long = ap length L ∙ length-placed (shape_of c d acc) area 0 first_slot (as_piece c.curve) fits

      loaded-slot : Inside (shape_of c d acc) l 0
      loaded-slot = inside_of (shape_of c d acc) area l 0 loaded_long first_slot

      loaded-held : Held (shape_of c d acc) l 0
      loaded-held = subst (λ (m : List Float). Held (shape_of c d acc) m 0) (sym L) (held-placed (shape_of c d acc) area 0 first_slot (as_piece c.curve) fits)

      pub loaded-room : (w : ℕ) → w ≡ words_of (shape_of c d acc) → (0 < w) × (0 + w ≤ length l)
      loaded-room w W = depth-room (shape_of c d acc) 0 w 0 W refl l loaded-slot

      module _ (w : ℕ) (W : w ≡ words_of (shape_of c d acc)) (m : List Float) (M : m ≡ put l (0 + (w - 1)) (word 0 ∷ [])) where
        deepens : m ≡ deepened (shape_of c d acc) l 0 0 loaded-slot
        deepens = M ∙ ap (λ (i : ℕ). put l i (word 0 ∷ [])) (depth_is (shape_of c d acc) 0 w 0 W refl)

        piece : piece_at (shape_of c d acc) m 0 ≡ as_piece c.curve
        piece =
            ap (λ (k : List Float). piece_at (shape_of c d acc) k 0) deepens
            ∙ deep-piece (shape_of c d acc) l 0 0 loaded-slot loaded-held
            ∙ ap (λ (k : List Float). piece_at (shape_of c d acc) k 0) L
            ∙ piece-placed (shape_of c d acc) area 0 first_slot (as_piece c.curve) fits

        held : Held (shape_of c d acc) m 0
        held = subst (λ (k : List Float). Held (shape_of c d acc) k 0) (sym deepens) (deep-held (shape_of c d acc) l 0 0 loaded-slot loaded-held)

        deep : DepthIs (shape_of c d acc) m 0 0
        deep = subst (λ (k : List Float). DepthIs (shape_of c d acc) k 0 0) (sym deepens) (deep_is (shape_of c d acc) l 0 0 loaded-slot)

        ready_long : length m ≡ length area
        ready_long = ap length deepens ∙ deep_long (shape_of c d acc) l 0 0 loaded-slot ∙ loaded_long

        ring : Ring (shape_of c d acc) m (c.nodes + 3) 0 1
        ring = record {
          sized = first_slot.sized;
          fits = omega (arith, ring_in, ready_long);
          start = omega arith;
          full = omega arith;
          waits = λ j h. subst (Waits (shape_of c d acc) m) (sym (at j h)) (waits_by (shape_of c d acc) m 0 0 held deep (omega arith));
        }
          where
            at : (j : ℕ) → j < 1 → ring_base (shape_of c d acc) (c.nodes + 3) 0 j ≡ 0
            at zero h = ap (λ (k : ℕ). k * words_of (shape_of c d acc)) (wrapped-head (c.nodes + 3) 0 (omega arith)) ∙ zero-mul (words_of (shape_of c d acc))
            at (suc j) h = absurd (omega arith)

        pub begins : (ar : Arithmetic) → Encloses ar → Begins ar (shape_of c d acc) (question c) m
        begins ar E = record {
          ring = ring;
          whole = depth_back (shape_of c d acc) m 0 0 deep (omega arith);
          few = z.nodes;
          fits = λ k. subst (λ (p : Piece). AllFit ar (shape_of c d acc) (advance (visit ar (question c)) c.nodes k (begun p))) (sym piece) (all_fit c d acc ar E k);
        }

        -- what is behind the stated words is as it was
        pub placed-behind : drop (area_words c.curve.dim c.curve.degree c.curve.count c.nodes) m ≡ drop (area_words c.curve.dim c.curve.degree c.curve.count c.nodes) area
        placed-behind =
            let words : ℕ = area_words c.curve.dim c.curve.degree c.curve.count c.nodes in
            ap (drop words) deepens
            ∙ beside-behind (shape_of c d acc) 0 0 l _ (deep_outside (shape_of c d acc) l 0 0 loaded-slot) words (omega arith) (omega arith)
            ∙ ap (drop words) L
            ∙ beside-behind (shape_of c d acc) 0 0 area _ (beside_placed (shape_of c d acc) 0 area (as_piece c.curve) first_slot fits) words (omega arith) (omega arith)

        pub answers : (ar : Arithmetic) (b : Bool) (r : Found) → b ≡ could_meet ar c.curve.dim c.curve.degree (as_piece c.curve).points (box_of c) → b ≡ true
            → r ≡ answered (advance (visit ar (question c)) c.nodes c.nodes (begun (piece_at (shape_of c d acc) m 0))) → r ≡ searched ar c
        unfolding searched searched_by could_contain
        answers ar b r B e R =
            R ∙ ap (λ (p : Piece). answered (advance (visit ar (question c)) c.nodes c.nodes (begun p))) piece
            ∙ pick_yes _ _ _ (sym B ∙ e) ∙ sym (ap (searched_by ar c) acc)
