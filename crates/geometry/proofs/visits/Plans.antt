-- Laws of the plan of a visit: a visit does what its plan says, and each answer of the code is that of the definition. Assumes nothing.
use mathlib.Core.Path.{◌≡◌, refl, sym, ap, ◌∙◌}
use mathlib.Core.Bool.{Bool, true, false, cond}
use mathlib.Core.List.{List}
use mathlib.Core.Option.{Option, none, some}
use Prim.Native.Nat.{ℕ, suc}
use lib.ListN.{length, get_or}
use lib.Ieee.{Float, nan}
use Rattle.math.specs.declared.scalars.Scalar.{Scalar}
use Rattle.math.specs.Scalars.{Arithmetic}
use Rattle.math.proofs.Bools.{pick_yes, pick_no}
use Rattle.model.specs.Vector.{Vector}
use Rattle.model.specs.NurbCurve.{Piece, start, end, domain}
use Rattle.model.specs.Aabb.{aabb, could_overlap}
use Rattle.model.specs.FatLine.{greville, extent, restricts, halves}
use Rattle.model.specs.Layout.{points_of}
use Rattle.model.specs.Subdivide.{Question, Visit, dropped}
use Rattle.model.specs.Split.{restrict}
use Rattle.model.specs.Contains.{clip, carried, hand_on, shrink, clipped, visit}
use Rattle.geometry.specs.Plan.{plan_hat, plan_shrink, plan_clip, planned, carried_out}
use Rattle.model.specs.Hat.{Hat}
use Rattle.std.specs.Prelude.{Some, None}
use Rattle.geometry.specs.declared.visits.Plan.{Plan}
use Rattle.geometry.specs.declared.visits.Plan.TheVariants.{Skip, Report, Restrict, Halve}
use Rattle.geometry.proofs.Lists.Numbers.{length-points}

-- ---- a visit does what its plan says

module _ (ar : Arithmetic) (q : Question) (c : Piece) where
  choice : (b : Bool) (x y : Plan) → carried_out ar q c (cond b x y) ≡ cond b (carried_out ar q c x) (carried_out ar q c y)
  choice true x y = refl
  choice false x y = refl

  shrink_plan : (h : Hat) → carried_out ar q c (plan_shrink ar q.dim q.degree q.box q.resolution c h) ≡ shrink ar q c h
  unfolding plan_shrink plan_hat shrink carried_out
  shrink_plan None = refl
  shrink_plan (Some hat) =
      let p = q.degree in
      let size = extent q.dim c.points in
      let w = carried q.dim q.box c.points in
      let R = restricts ar (start p c) (end c) hat size w in
      let H = halves (start p c) (end c) size w q.resolution in
      choice R (Restrict hat) (cond H (Halve hat) (Report hat)) ∙ ap (cond R (hand_on q.dim (restrict ar p hat.lo hat.hi c))) (choice H (Halve hat) (Report hat))

  clip_plan : (g : Option (List Scalar)) → carried_out ar q c (plan_clip ar q.dim q.degree q.box q.resolution c g) ≡ clipped ar q c g
  unfolding plan_clip clipped carried_out
  clip_plan none = refl
  clip_plan (some ξ) = shrink_plan (clip ar q.dim c.points ξ (domain (start q.degree c) (end c)) 0 q.box)

  -- THE VISIT IS ITS PLAN CARRIED OUT
  pub visit_plan : visit ar q c ≡ carried_out ar q c (planned ar q.dim q.degree q.box q.resolution c)
  unfolding visit planned carried_out
  visit_plan =
      let B = could_overlap (aabb ar q.dim c.points) q.box in
      let g = greville ar q.degree (length c.points) c.knots in
      sym (choice B (plan_clip ar q.dim q.degree q.box q.resolution c g) Skip ∙ ap (λ (v : Visit). cond B v dropped) (clip_plan g))

-- a visit does not look at the nodes
pub visit-nodes : (ar : Arithmetic) (dim p : ℕ) (box : List Scalar) (resolution : Float) (n m : ℕ) (c : Piece)
    → visit ar (record { dim = dim; degree = p; box = box; resolution = resolution; nodes = n }) c ≡ visit ar (record { dim = dim; degree = p; box = box; resolution = resolution; nodes = m }) c
visit-nodes ar dim p box resolution n m c =
    visit_plan ar (record { dim = dim; degree = p; box = box; resolution = resolution; nodes = n }) c
    ∙ same (planned ar dim p box resolution c)
    ∙ sym (visit_plan ar (record { dim = dim; degree = p; box = box; resolution = resolution; nodes = m }) c)
  where
    same : (z : Plan) → carried_out ar (record { dim = dim; degree = p; box = box; resolution = resolution; nodes = n }) c z ≡ carried_out ar (record { dim = dim; degree = p; box = box; resolution = resolution; nodes = m }) c z
    same z = by z
      where
        by : (z : Plan) → carried_out ar (record { dim = dim; degree = p; box = box; resolution = resolution; nodes = n }) c z ≡ carried_out ar (record { dim = dim; degree = p; box = box; resolution = resolution; nodes = m }) c z
        by Skip = unfold carried_out in refl
        by (Report t) = unfold carried_out in refl
        by (Restrict t) = unfold carried_out in refl
        by (Halve t) = unfold carried_out in refl

-- ---- with a hat

module _ (ar : Arithmetic) (dim : ℕ) (box : List Scalar) (resolution a b w : Float) (points : List Vector) (hat : Scalar) (r : Bool) (W : w ≡ carried dim box points) (R : r ≡ restricts ar a b hat (extent dim points) w) where
  cuts : r ≡ restricts ar a b hat (extent dim points) (carried dim box points)
  cuts = R ∙ ap (restricts ar a b hat (extent dim points)) W

  pub hat_restrict : r ≡ true → Restrict hat ≡ plan_hat ar dim box resolution a b points hat
  unfolding plan_hat
  hat_restrict e = pick_yes _ _ _ (sym cuts ∙ e)

  module _ (h : Bool) (no : r ≡ false) (H : h ≡ halves a b (extent dim points) w resolution) where
    splits : h ≡ halves a b (extent dim points) (carried dim box points) resolution
    splits = H ∙ ap (λ (v : Float). halves a b (extent dim points) v resolution) W

    pub hat_halve : h ≡ true → Halve hat ≡ plan_hat ar dim box resolution a b points hat
    unfolding plan_hat
    hat_halve e = pick_yes _ _ _ (sym splits ∙ e) ∙ pick_no _ _ _ (sym cuts ∙ no)

    pub hat_report : h ≡ false → Report hat ≡ plan_hat ar dim box resolution a b points hat
    unfolding plan_hat
    hat_report e = pick_no _ _ _ (sym splits ∙ e) ∙ pick_no _ _ _ (sym cuts ∙ no)

-- ---- with abscissae

module _ (ar : Arithmetic) (dim p n : ℕ) (box : List Scalar) (resolution : Float) (knots points : List Float) where
  -- The piece.
  abbrev pub piece_by : Piece
  piece_by = record { knots = knots; points = points_of (suc dim) n points }

  ends : get_or knots n nan ≡ end piece_by
  ends = ap (λ (m : ℕ). get_or knots m nan) (sym (length-points (suc dim) n points))

  -- without abscissae
  pub clip_report : (d : Scalar) → greville ar p n knots ≡ none → d ≡ domain (get_or knots p nan) (get_or knots n nan) → Report d ≡ plan_clip ar dim p box resolution piece_by (greville ar p n knots)
  unfolding plan_clip
  clip_report d G D = ap (λ (v : Scalar). Report v) (D ∙ ap (domain (get_or knots p nan)) ends) ∙ sym (ap (plan_clip ar dim p box resolution piece_by) G)

  -- with them
  module _ (ξ : List Scalar) (h : Hat) (G : greville ar p n knots ≡ some ξ)
      (H : h ≡ clip ar dim (points_of (suc dim) n points) ξ (domain (get_or knots p nan) (get_or knots n nan)) 0 box) where
    opened : plan_shrink ar dim p box resolution piece_by h ≡ plan_clip ar dim p box resolution piece_by (greville ar p n knots)
    unfolding plan_clip
    opened =
        ap (plan_shrink ar dim p box resolution piece_by)
        (H ∙ (λ i. clip ar dim (points_of (suc dim) n points) ξ (domain (get_or knots p nan) (ends i)) 0 box))
        ∙ sym (ap (plan_clip ar dim p box resolution piece_by) G)

    pub clip-skip : h ≡ None → Skip ≡ plan_clip ar dim p box resolution piece_by (greville ar p n knots)
    unfolding plan_shrink
    clip-skip e = ap (plan_shrink ar dim p box resolution piece_by) (sym e) ∙ opened

    pub clip-go : (hat : Scalar) (r : Plan) → h ≡ Some hat → r ≡ plan_hat ar dim box resolution (get_or knots p nan) (get_or knots n nan) (points_of (suc dim) n points) hat
        → r ≡ plan_clip ar dim p box resolution piece_by (greville ar p n knots)
    unfolding plan_shrink
    clip-go hat r e R = R ∙ ap (λ (b : Float). plan_hat ar dim box resolution (get_or knots p nan) b (points_of (suc dim) n points) hat) ends ∙ ap (plan_shrink ar dim p box resolution piece_by) (sym e) ∙ opened

  -- ---- the whole

  pub plan_skip : (t : Bool) → t ≡ could_overlap (aabb ar dim (points_of (suc dim) n points)) box → t ≡ false → Skip ≡ planned ar dim p box resolution piece_by
  unfolding planned
  plan_skip t T e = pick_no _ _ _ (sym T ∙ e)

  pub plan_go : (t : Bool) (r : Plan) → t ≡ could_overlap (aabb ar dim (points_of (suc dim) n points)) box → t ≡ true → r ≡ plan_clip ar dim p box resolution piece_by (greville ar p n knots)
      → r ≡ planned ar dim p box resolution piece_by
  unfolding planned
  plan_go t r T e R =
      R ∙ ap (λ (m : ℕ). plan_clip ar dim p box resolution piece_by (greville ar p m knots)) (sym (length-points (suc dim) n points)) ∙ pick_yes _ _ _ (sym T ∙ e)
