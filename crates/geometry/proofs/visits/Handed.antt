-- What a visit leaves: the pieces that it hands on stand in their slots, and its outcome is that of the definition. Leans on the laws of the plan.
use mathlib.Core.Path.{◌≡◌, refl, sym, ap, ◌∙◌, subst}
use mathlib.Core.Bool.{Bool, true, false, cond, ◌&&◌}
use mathlib.Core.List.{List}
use Prim.Native.Nat.{ℕ, zero, suc, ◌≤◌}
use native.Mathlib.Omega.{arith}
use lib.ListN.{length}
use lib.Ieee.{Float}
use Rattle.math.specs.declared.scalars.Scalar.{Scalar}
use Rattle.math.specs.Scalars.{Arithmetic}
use Rattle.math.proofs.Bools.{yes, no, pick_yes, pick_no}
use Rattle.model.specs.NurbCurve.{Piece, start, end, domain, weights_positive, mid_parameter}
use Rattle.model.specs.Split.{Halves, uncut, both, split_mid, Restricted, restrict}
use Rattle.model.specs.Aabb.{aabb, could_overlap}
use Rattle.model.specs.FatLine.{greville}
use Rattle.model.specs.Subdivide.{Question, Visit, restricted, halved, bad_weight, reported}
use Rattle.model.specs.Contains.{hand_on, hand_both, visit}
use Rattle.geometry.specs.Slots.{piece_at, Held, HoldingBoth, was_cut, SplitAt, RestrictAt}
use Rattle.geometry.specs.Ring.{Beside}
use Rattle.geometry.specs.State.{outcome_of, Visited}
use Rattle.geometry.specs.Plan.{plan_clip, planned, carried_out}
use Rattle.geometry.specs.declared.slots.Shape.{Shape}
use Rattle.geometry.specs.declared.subdivide.Outcome.{Outcome}
use Rattle.geometry.specs.declared.subdivide.Outcome.TheVariants.{Dropped, Reported, Halved, BadWeight}
use Rattle.geometry.specs.declared.subdivide.Outcome.TheVariants as outcome
use Rattle.geometry.specs.declared.visits.Plan.{Plan}
use Rattle.geometry.specs.declared.visits.Plan.TheVariants.{Skip, Report, Restrict, Halve}
use Rattle.geometry.proofs.slots.Ring.{beside-refl}
use Rattle.geometry.proofs.visits.Plans.{visit_plan}

-- ---- a piece that was cut down

module _ (ar : Arithmetic) (s : Shape) (l m : List Float) (a : ℕ) (hat : Scalar) (c : Piece) (n : ℕ) (r : RestrictAt ar s l m a hat.lo hat.hi c n) (long : length m ≡ length l) (w : Bool)
    (W : w ≡ weights_positive s.dim (piece_at s m a).points) (b : ℕ) where
  -- What is left of it.
  abbrev left : Restricted
  left = restrict ar s.degree hat.lo hat.hi c

  tested : w ≡ weights_positive s.dim (restrict ar s.degree hat.lo hat.hi c).piece.points
  tested = W ∙ ap (λ (x : Piece). weights_positive s.dim x.points) r.held.piece

  one_slot : Beside s a b l m
  one_slot = record { long = long; same = λ x v f g. r.others x v f }

  pub handed-on : w ≡ true → Visited (hand_on s.dim (restrict ar s.degree hat.lo hat.hi c)) s a b l m (outcome.Restricted n)
  unfolding hand_on outcome_of
  handed-on e = record { is = (λ i. restricted (r.cuts i) (r.held.piece i)) ∙ pick_yes _ _ _ (sym tested ∙ e); beside = one_slot; holding = r.held.held }

  pub handed-bad : w ≡ false → Visited (hand_on s.dim (restrict ar s.degree hat.lo hat.hi c)) s a b l m BadWeight
  unfolding hand_on outcome_of
  handed-bad e = record { is = pick_no _ _ _ (sym tested ∙ e); beside = one_slot; holding = tt }

-- ---- two halves

module _ (s : Shape) (m : List Float) (a b : ℕ) (hat : Scalar) where
  no-halves : (z : Halves) → false ≡ was_cut z → reported hat ≡ hand_both s.dim hat z
  unfolding was_cut hand_both
  no-halves uncut e = refl
  no-halves (both x y) e = absurd (no true (sym e) tt)

  holds_both : (z : Halves) → true ≡ was_cut z → HoldingBoth s m a b z → Held s m a × Held s m b
  unfolding was_cut
  holds_both uncut e h = absurd (yes false (sym e))
  holds_both (both x y) e h = (h.0.held, h.1.held)

  module _ (u v : Bool) (U : u ≡ weights_positive s.dim (piece_at s m a).points) (V' : v ≡ weights_positive s.dim (piece_at s m b).points) where
    both_tests : (x y : Piece) → piece_at s m a ≡ x → piece_at s m b ≡ y → (u && v) ≡ (weights_positive s.dim x.points && weights_positive s.dim y.points)
    both_tests x y e f =
        let g : u ≡ weights_positive s.dim x.points = U ∙ ap (λ (p : Piece). weights_positive s.dim p.points) e in
        let h : v ≡ weights_positive s.dim y.points = V' ∙ ap (λ (p : Piece). weights_positive s.dim p.points) f in
        λ i. g i && h i

    two_halves : (z : Halves) → true ≡ was_cut z → HoldingBoth s m a b z → (u && v) ≡ true → halved (piece_at s m a) (piece_at s m b) ≡ hand_both s.dim hat z
    unfolding was_cut hand_both
    two_halves uncut e h t = absurd (yes false (sym e))
    two_halves (both x y) e h t = (λ i. halved (h.0.piece i) (h.1.piece i)) ∙ pick_yes _ _ _ (sym (both_tests x y h.0.piece h.1.piece) ∙ t)

    bad-half : (z : Halves) → true ≡ was_cut z → HoldingBoth s m a b z → (u && v) ≡ false → bad_weight ≡ hand_both s.dim hat z
    unfolding was_cut hand_both
    bad-half uncut e h t = absurd (yes false (sym e))
    bad-half (both x y) e h t = pick_no _ _ _ (sym (both_tests x y h.0.piece h.1.piece) ∙ t)

module _ (ar : Arithmetic) (s : Shape) (l m : List Float) (a b : ℕ) (hat : Scalar) (c : Piece) (r : Bool) (h : SplitAt ar s l m a b (mid_parameter ar (start s.degree c) (end c)) c r) (long : length m ≡ length l) where
  two_slots : Beside s a b l m
  two_slots = record { long = long; same = λ x v f g. h.others x v f g }

  pub both_none : r ≡ false → Visited (hand_both s.dim hat (split_mid ar s.degree c)) s a b l m (Reported hat)
  unfolding split_mid outcome_of
  both_none e = record { is = no-halves s m a b hat _ (sym e ∙ h.cut); beside = two_slots; holding = tt }

  module _ (e : r ≡ true) where
    pub both-held : Held s m a × Held s m b
    both-held = holds_both s m a b hat _ (sym e ∙ h.cut) h.halves

    module _ (u : Bool) (U : u ≡ weights_positive s.dim (piece_at s m a).points) where
      pub both-bad_first : u ≡ false → Visited (hand_both s.dim hat (split_mid ar s.degree c)) s a b l m BadWeight
      unfolding split_mid outcome_of
      both-bad_first f = record { is = bad-half s m a b hat u _ U refl _ (sym e ∙ h.cut) h.halves (ap (λ (x : Bool). x && weights_positive s.dim (piece_at s m b).points) f); beside = two_slots; holding = tt }

      module _ (first : u ≡ true) (v : Bool) (V' : v ≡ weights_positive s.dim (piece_at s m b).points) where
        pub both-bad_second : v ≡ false → Visited (hand_both s.dim hat (split_mid ar s.degree c)) s a b l m BadWeight
        unfolding split_mid outcome_of
        both-bad_second f = record { is = bad-half s m a b hat u v U V' _ (sym e ∙ h.cut) h.halves (λ i. first i && f i); beside = two_slots; holding = tt }

        pub both_done : v ≡ true → Visited (hand_both s.dim hat (split_mid ar s.degree c)) s a b l m Halved
        unfolding split_mid outcome_of
        both_done f = record { is = two_halves s m a b hat u v U V' _ (sym e ∙ h.cut) h.halves (λ i. first i && f i); beside = two_slots; holding = both-held }

-- ---- the visit

module _ (ar : Arithmetic) (q : Question) (c : Piece) (z : Plan) (Z : z ≡ planned ar q.dim q.degree q.box q.resolution c) where
  does : (y : Plan) → z ≡ y → carried_out ar q c y ≡ visit ar q c
  does y e = ap (carried_out ar q c) (sym e ∙ Z) ∙ sym (visit_plan ar q c)

  module _ (s : Shape) (a b : ℕ) (l m : List Float) (o : Outcome) where
    pub see-restrict : (hat : Scalar) → z ≡ Restrict hat → Visited (hand_on q.dim (restrict ar q.degree hat.lo hat.hi c)) s a b l m o → Visited (visit ar q c) s a b l m o
    unfolding carried_out
    see-restrict hat e h = subst (λ (v : Visit). Visited v s a b l m o) (does (Restrict hat) e) h

    pub see-halve : (hat : Scalar) → z ≡ Halve hat → Visited (hand_both q.dim hat (split_mid ar q.degree c)) s a b l m o → Visited (visit ar q c) s a b l m o
    unfolding carried_out
    see-halve hat e h = subst (λ (v : Visit). Visited v s a b l m o) (does (Halve hat) e) h

  module _ (s : Shape) (a b : ℕ) (l : List Float) where
    pub see-skip : z ≡ Skip → Visited (visit ar q c) s a b l l Dropped
    unfolding carried_out outcome_of
    see-skip e = record { is = does Skip e; beside = beside-refl s a b l; holding = tt }

    pub see_report : (t : Scalar) → z ≡ Report t → Visited (visit ar q c) s a b l l (Reported t)
    unfolding carried_out outcome_of
    see_report t e = record { is = does (Report t) e; beside = beside-refl s a b l; holding = tt }

-- ---- degree 0 is never cut down

abbrev is_restrict : Plan → Bool
is_restrict Skip = false
is_restrict (Report t) = false
is_restrict (Restrict t) = true
is_restrict (Halve t) = false

flat_plan : (ar : Arithmetic) (dim : ℕ) (box : List Scalar) (resolution : Float) (c : Piece) → is_restrict (planned ar dim zero box resolution c) ≡ false
unfolding planned plan_clip greville
flat_plan ar dim box resolution c = by (could_overlap (aabb ar dim c.points) box) (Report (domain (start zero c) (end c))) refl
  where
    by : (x : Bool) (r : Plan) → is_restrict r ≡ false → is_restrict (cond x r Skip) ≡ false
    by true r e = e
    by false r e = refl

pub steep : (ar : Arithmetic) (dim p : ℕ) (box : List Scalar) (resolution : Float) (c : Piece) (z : Plan) (hat : Scalar) → z ≡ planned ar dim p box resolution c → z ≡ Restrict hat → 1 ≤ p
steep ar dim (suc p) box resolution c z hat Z e = omega arith
steep ar dim zero box resolution c z hat Z e = absurd (yes false (sym (flat_plan ar dim box resolution c) ∙ ap is_restrict (sym Z ∙ e)))
