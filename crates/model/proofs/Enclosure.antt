-- DEMAND 3, and the order of the bounds: `enclosure` for every arithmetic that encloses, and `revision_enclosure` for either revision. Of the curve on paper: `one_span`. Assumes nothing.
use mathlib.Core.Path.{◌≡◌, refl, sym, ap, ◌∙◌, subst}
use mathlib.Core.Logic.{inl}
use mathlib.Core.List.{List, []}
use mathlib.Core.Bool.{Bool, true, false, ◌&&◌}
use mathlib.Core.Option.{Option, none}
use Prim.Native.Nat.{ℕ, zero, suc, ◌+◌, ◌*◌, ◌≤◌, ◌<◌}
use native.Mathlib.Omega.{arith}
use lib.Dec.{T, eqb, eqb→eq}
use lib.IntN.{ℤ, pos}
use lib.ListN.{length, get_or}
use lib.Ieee.{Float, nan, inf, fin, lt, le, eq, fits}
use Rattle.exact.specs.Rational.{ℚ, ◌≤ℚ◌, ◌<ℚ◌}
use Rattle.exact.specs.Spline.{Sorted, On}
use Rattle.exact.proofs.Order.{le_refl, lt→le}
use Rattle.exact.proofs.Splines.Accept.{good-counted}
use Rattle.exact.proofs.Splines.Drawn.{span-domain, span_one, span_some, traced_on}
use Rattle.lists.proofs.Tab.{length-tab, get_or-tab}
use Rattle.math.specs.declared.scalars.Scalar.{Scalar}
use Rattle.math.specs.Scalars.{Arithmetic, absent, zero_f, union_s}
use Rattle.math.specs.Values.{value, Below, Above, Holds, Proper}
use Rattle.math.specs.Revision.{arithmetic}
use Rattle.math.specs.Encloses.{Encloses}
use Rattle.math.proofs.Bools.{and_i, and_l, never, pick, taken}
use Rattle.math.proofs.Doubles.Values.{eq→value}
use Rattle.math.proofs.Intervals.Tests.{union_left, union_right}
use Rattle.math.proofs.Intervals.Proper.{union_proper}
use Rattle.math.proofs.Tight.Revisions.{encloses}
use Rattle.model.specs.Vector.{Vector, coordinate}
use Rattle.model.specs.NurbCurve.{Piece, knot, point, start, end, domain}
use Rattle.model.specs.Aabb.{could_meet, aabb, could_overlap}
use Rattle.model.specs.FatLine.{greville}
use Rattle.model.specs.Subdivide.{no_counts, Question, dropped, positive_zero, Step, going, over, advance, Visit, reported, restricted, halved, bad_weight}
use Rattle.model.specs.Contains.{clipped, visit, begun, could_contain}
use Rattle.model.specs.Layout.{scalar_at, point_at, points_of}
use Rattle.model.specs.Call.{Call, as_piece, box_of, question, refusal, searched, searched_by}
use Rattle.model.specs.Enclosure.{OneSpan, HitAt, Doubles, Accepted, Completes, BoundsHold, NotOutside, BoundsInDomain, NoNegativeZero, BoundsPositiveZero, BoundsInOrder, Enclosure, PieceOf, OnlyWeights, PiecesKept, Pieces}
use Rattle.model.specs.declared.contains.Found.{Found}
use Rattle.model.specs.declared.contains.Found.TheVariants.{Nothing, Enclosed, Spent, Refused}
use Rattle.model.proofs.Every.{every_at, every-imp}
use Rattle.model.proofs.Sound.Base.{values, Known, Knots, Carries, Lined}
use Rattle.model.proofs.Sound.Known.{le_known, le_value, eq_known}
use Rattle.model.proofs.Sound.Search.{Right, Hit, Fine, Kept, Stands, stands, answers, lives, answers-hit}
use Rattle.model.proofs.Sound.Visits.{Lies, Inner, inner-union, within-inner, Ok, visit_fine, visit_kept}
use Rattle.model.proofs.Sound.Visit.Within.{domain-within}
use Rattle.model.proofs.Sound.Visit.Box.{box_overlaps}
use Rattle.model.proofs.Sound.Visit.Clip.{domain_holds}
use Rattle.model.proofs.Sound.Visit.Door.{Bounded, door}
use Rattle.model.proofs.Sound.Accepted.{Checked, checked, good, sorted, wide}
use Rattle.model.proofs.Proper.Blend.{known_proper}
use Rattle.model.proofs.Proper.Visit.{Well, domain_proper, visit_well}
use Rattle.model.proofs.Proper.Lent.{curve-held, box-bounded as boxes-bounded, asked}

-- ---- a bound without its negative zero is the same number
zero_known : Known zero_f
zero_known = record { double = unfold fits in tt; moderate = unfold le lt eq in tt }

-- what rests on the value alone, and a NaN does not have
plain-keeps : (P : Float → Type 0) → (P nan → ⊥) → ((s : Bool) (m : ℕ) (e : ℤ) → value (fin s m e) ≡ value zero_f → P (fin s m e) → P zero_f) → (x : Float) → P x → P (positive_zero x)
unfolding positive_zero
plain-keeps P none_has move x h = pick P (eq x zero_f) zero_f x (same x h) (λ _. h)
  where
    same : (x : Float) → P x → T (eq x zero_f) → P zero_f
    same nan k e = absurd (none_has k)
    same (inf s) k e = unfold eq in absurd e
    same (fin s m w) k e = move s m w (eq→value s m w false 0 (pos 0) e) k

plain_low : (x : Float) (t : ℚ) → Below x t → Below (positive_zero x) t
plain_low x t = plain-keeps (λ z. Below z t) (λ k. k) (λ _ _ _ v k. subst (λ (z : ℚ). z ≤ℚ t) v k) x

plain_high : (x : Float) (t : ℚ) → Above x t → Above (positive_zero x) t
plain_high x t = plain-keeps (λ z. Above z t) (λ k. k) (λ _ _ _ v k. subst (λ (z : ℚ). t ≤ℚ z) v k) x

plain-lies : (l u : Float) (x : Float) → Known l → Known u → Lies (value l) (value u) x → NotOutside l u (positive_zero x)
unfolding positive_zero
plain-lies l u x kl ku h = pick (λ (z : Float). NotOutside l u z) (eq x zero_f) zero_f x
    (λ e. let v = eq_known x zero_f h.known zero_known e in inside zero_f zero_known (subst (λ (z : ℚ). value l ≤ℚ z) v h.from) (subst (λ (z : ℚ). z ≤ℚ value u) v h.upto))
    (λ _. inside x h.known h.from h.upto)
  where
    inside : (z : Float) → Known z → value l ≤ℚ value z → value z ≤ℚ value u → NotOutside l u z
    inside z k f g = and_i (le l z) (le z u) (le_known l z kl k f) (le_known z u k ku g)

plain_known : (x : Float) → Known x → Known (positive_zero x) × (value (positive_zero x) ≡ value x)
unfolding positive_zero
plain_known x k = pick (λ (z : Float). Known z × (value z ≡ value x)) (eq x zero_f) zero_f x (λ e. (zero_known, sym (eq_known x zero_f k zero_known e))) (λ _. (k, refl))

plain-order : (l h : Float) → Known l → Known h → T (le l h) → T (lt (inf true) (positive_zero l) && le (positive_zero l) (positive_zero h) && lt (positive_zero h) (inf false))
plain-order l h kl kh o =
    let x = plain_known l kl in
    let y = plain_known h kh in
    and_i (lt (inf true) (positive_zero l) && le (positive_zero l) (positive_zero h)) (lt (positive_zero h) (inf false))
    (and_i (lt (inf true) (positive_zero l)) (le (positive_zero l) (positive_zero h)) (known_proper (positive_zero l) x.0).high
    (le_known (positive_zero l) (positive_zero h) x.0 y.0 (subst (λ (z : ℚ). z ≤ℚ value (positive_zero h)) (sym x.1) (subst (λ (z : ℚ). value l ≤ℚ z) (sym y.1) (le_value l h kl kh o)))))
    (known_proper (positive_zero h) y.0).low

plain_zero : (x : Float) → NoNegativeZero (positive_zero x)
unfolding positive_zero
plain_zero x = pick NoNegativeZero (eq x zero_f) zero_f x (λ _ _. refl) (λ n e. absurd (never (eq x zero_f) n e))

-- ---- the curve that is lent
points_long : (c : Call) → length (as_piece c.curve).points ≡ c.curve.count
unfolding points_of
points_long c = length-tab c.curve.count (λ i. point_at (suc c.curve.dim) c.curve.points i)

-- interval k of point i
interval : (c : Call) (k i : ℕ) → k < suc c.curve.dim → i < c.curve.count → coordinate (point (as_piece c.curve).points i) k ≡ scalar_at c.curve.points (suc c.curve.dim * i + k)
unfolding points_of point_at
interval c k i kd ic =
    ap (λ (v : Vector). coordinate v k) (get_or-tab c.curve.count (λ i. point_at (suc c.curve.dim) c.curve.points i) i [] ic)
    ∙ get_or-tab (suc c.curve.dim) (λ k. scalar_at c.curve.points (suc c.curve.dim * i + k)) k absent kd

side : (c : Call) (k : ℕ) → k < c.curve.dim → get_or (box_of c) k absent ≡ scalar_at c.box k
side c k h = get_or-tab c.curve.dim (λ k. scalar_at c.box k) k absent h

-- ---- an answer that is right, whatever is asked of its reports, is refused only by 11
pub only-weights : (In : Scalar → Type 0) (r : Found) → Right In r → OnlyWeights r
only-weights In (Nothing v) h = tt
only-weights In (Enclosed lo hi v) h = tt
only-weights In (Spent m v) h = tt
only-weights In (Refused e v) h = h

-- ---- an accepted call
module _ (c : Call) (d : Doubles c) (acc : Accepted c) where
  abbrev p : ℕ
  p = c.curve.degree

  abbrev n : ℕ
  n = c.curve.count

  ch : Checked c
  ch = checked c d acc

  pub first : Known (start c.curve.degree (as_piece c.curve))
  first = ch.known p (omega (arith, ch.long))

  last_is : end (as_piece c.curve) ≡ knot c.curve.knots c.curve.count
  last_is = ap (λ (m : ℕ). knot c.curve.knots m) (points_long c)

  pub final : Known (end (as_piece c.curve))
  final = subst Known (sym last_is) (ch.known n (omega (arith, ch.long, ch.room)))

  rising : Sorted (values c.curve.knots) (c.curve.count + c.curve.degree)
  rising = sorted p n c.curve.knots ch.long ch.room ch.known ch.valid

  nonempty : values c.curve.knots c.curve.degree <ℚ values c.curve.knots c.curve.count
  nonempty = wide p n c.curve.knots ch.long ch.room ch.known ch.valid

  whole_lined : Lined c.curve.degree (length (as_piece c.curve).points) c.curve.knots
  whole_lined = subst (λ (m : ℕ). Lined p m c.curve.knots) (sym (points_long c)) (record { long = ch.long; known = ch.known; sorted = rising; room = ch.room })

  pub whole-ok : 1 ≤ c.curve.degree → Ok c.curve.dim c.curve.degree c.curve.count (value (start c.curve.degree (as_piece c.curve))) (value (end (as_piece c.curve))) (as_piece c.curve)
  whole-ok one = record {
    knots = subst (λ (m : ℕ). Knots p m c.curve.knots) (sym (points_long c)) (record { long = ch.long; known = ch.known; good = good p n c.curve.knots ch.long ch.room ch.known ch.valid one });
    small = omega (arith, points_long c);
    from = le_refl (value (start p (as_piece c.curve)));
    upto = le_refl (value (end (as_piece c.curve)));
    weights = ch.weights;
  }

  -- ---- each parameter of the domain has exactly one span, and no other has any
  pub one_span : OneSpan c
  one_span = record {
    some = λ t. span_some p n (values c.curve.knots) t rising nonempty;
    one = λ t. span_one p n (values c.curve.knots) t rising;
    domain = λ t. span-domain p n (values c.curve.knots) t rising;
  }

  -- ---- an exact hit is one of the piece that the search begins with
  carries : (t : ℚ) (h : HitAt c t) → Carries (suc c.curve.dim) c.curve.degree t h.passes.last (as_piece c.curve)
  carries t h = record {
    exact = h.controls;
    inside = record { at = λ k i kd ic. subst (λ (s : Scalar). Holds s (h.controls k i)) (sym (interval c k i kd (subst (λ (m : ℕ). i < m) (points_long c) ic))) (h.chosen.inside k i kd (subst (λ (m : ℕ). i < m) (points_long c) ic)) };
    on = subst (λ (m : ℕ). On p m (values c.curve.knots) h.controls t h.passes.last) (sym (points_long c)) (traced_on p n (values c.curve.knots) h.controls t h.passes.last h.passes.rounds);
  }

  box_holds : (t : ℚ) (h : HitAt c t) (k : ℕ) → k < c.curve.dim → Holds (get_or (box_of c) k absent) (h.place k)
  box_holds t h k kd = subst (λ (s : Scalar). Holds s (h.place k)) (sym (side c k kd)) (h.in_box.inside k kd)

  box-bounded : (k : ℕ) → k < c.curve.dim → Bounded (get_or (box_of c) k absent)
  box-bounded k kd = every_at Bounded (box_of c) k absent (boxes-bounded c d acc) (omega (arith, (asked c d acc).long))

  -- ---- the search
  module _ (ar : Arithmetic) (E : Encloses ar) where
    abbrev a : ℚ
    a = value (start c.curve.degree (as_piece c.curve))

    abbrev b : ℚ
    b = value (end (as_piece c.curve))

    abbrev q : Question
    q = question c

    -- degree 0: every piece is the curve, and it is dropped or reported whole
    none_of : c.curve.degree ≡ 0 → greville ar c.curve.degree (length (as_piece c.curve).points) c.curve.knots ≡ none
    none_of e = ap (λ (m : ℕ). greville ar m (length (as_piece c.curve).points) c.curve.knots) e ∙ (unfold greville in refl)

    -- what is reported has the property In, where it is one of the whole domain, and of a union if it is one of both
    module _ (In : Scalar → Type 0) (whole : In (domain (start c.curve.degree (as_piece c.curve)) (end (as_piece c.curve)))) where
      pub flat_fine : c.curve.degree ≡ 0 → (s : Piece) → s ≡ as_piece c.curve → Fine In (λ s. s ≡ as_piece c.curve) (visit ar (question c) s)
      unfolding visit clipped
      flat_fine z s e = subst (λ (r : Piece). Fine In (λ s. s ≡ as_piece c.curve) (visit ar q r)) (sym e)
          (pick (Fine In (λ s. s ≡ as_piece c.curve)) (could_overlap (aabb ar c.curve.dim (as_piece c.curve).points) (box_of c)) (clipped ar q (as_piece c.curve) (greville ar p (length (as_piece c.curve).points) c.curve.knots)) dropped
          (λ _. subst (λ (g : Option (List Scalar)). Fine In (λ s. s ≡ as_piece c.curve) (clipped ar q (as_piece c.curve) g)) (sym (none_of z)) whole) (λ _. tt))

      -- a search whose visits are fine gives an answer that is right
      right_by : ((s t : Scalar) → In s → In t → In (union_s s t)) → (Good : Piece → Type 0) → Good (as_piece c.curve) → ((s : Piece) → Good s → Fine In Good (visit ar (question c) s)) → Right In (could_contain ar (question c) (as_piece c.curve))
      unfolding could_contain
      right_by join Good w f = pick (Right In) (could_meet ar c.curve.dim p (as_piece c.curve).points (box_of c)) _ (Nothing no_counts)
          (λ _. answers (visit ar q) c.nodes In Good join f (advance (visit ar q) c.nodes c.nodes (begun (as_piece c.curve)))
          (stands (visit ar q) c.nodes In Good join f c.nodes (begun (as_piece c.curve)) (record { pieces = (w, tt); inside = tt }))) (λ _. tt)

    -- a report lies in the domain, and is in order
    abbrev pub Told : Scalar → Type 0
    Told s = Inner (value (start c.curve.degree (as_piece c.curve))) (value (end (as_piece c.curve))) s × Proper s

    whole-inner : Inner (value (start c.curve.degree (as_piece c.curve))) (value (end (as_piece c.curve))) (domain (start c.curve.degree (as_piece c.curve)) (end (as_piece c.curve)))
    whole-inner = within-inner a b (start p (as_piece c.curve)) (end (as_piece c.curve)) (domain (start p (as_piece c.curve)) (end (as_piece c.curve))) first final (le_refl a) (le_refl b) (domain-within (start p (as_piece c.curve)) (end (as_piece c.curve)) first final ordered)
      where
        ordered : T (le (start c.curve.degree (as_piece c.curve)) (end (as_piece c.curve)))
        ordered =
            le_known (start p (as_piece c.curve)) (end (as_piece c.curve)) first final
            (subst (λ (x : Float). value (start p (as_piece c.curve)) ≤ℚ value x) (sym last_is) (lt→le nonempty))

    pub whole-told : Told (domain (start c.curve.degree (as_piece c.curve)) (end (as_piece c.curve)))
    whole-told = (whole-inner, domain_proper (start p (as_piece c.curve)) (end (as_piece c.curve)) first final)

    pub told-union : (s t : Scalar) → Told s → Told t → Told (union_s s t)
    told-union s t h k = (inner-union a b s t h.0 k.0, union_proper s t h.1 k.1)

    right : Right Told (could_contain ar (question c) (as_piece c.curve))
    right = go c.curve.degree refl
      where
        go : (m : ℕ) → c.curve.degree ≡ m → Right Told (could_contain ar (question c) (as_piece c.curve))
        go zero e = right_by Told whole-told told-union (λ s. s ≡ as_piece c.curve) refl (flat_fine Told whole-told e)
        go (suc m) e = right_by Told whole-told told-union (Well c.curve.dim p n a b) (whole-ok (omega (arith, e)), curve-held c d acc) (visit_well ar E q (asked c d acc) n a b)

    -- ---- a search that loses nothing finds the hit
    module _ (t : ℚ) (h : HitAt c t) where
      abbrev At : Scalar → Type 0
      At s = Holds s t

      long : length (box_of c) ≡ c.curve.dim
      long = (asked c d acc).long

      hit_by : (Good Has : Piece → Type 0) → Good (as_piece c.curve) → Has (as_piece c.curve)
          → ((s : Piece) → Good s → Fine (Inner (value (start c.curve.degree (as_piece c.curve))) (value (end (as_piece c.curve)))) Good (visit ar (question c) s))
          → ((s : Piece) → Good s → Has s → Kept (λ s. Holds s t) Has (visit ar (question c) s))
          → T (could_meet ar c.curve.dim c.curve.degree (as_piece c.curve).points (box_of c)) → Hit (λ s. Holds s t) (could_contain ar (question c) (as_piece c.curve))
      unfolding could_contain
      hit_by Good Has w g f k m = taken (Hit At) (could_meet ar c.curve.dim p (as_piece c.curve).points (box_of c)) _ (Nothing no_counts) m
          (answers-hit (visit ar q) c.nodes (Inner a b) Good (inner-union a b) f At Has lefts rights k (advance (visit ar q) c.nodes c.nodes (begun (as_piece c.curve)))
          (lives (visit ar q) c.nodes (Inner a b) Good (inner-union a b) f At Has lefts rights k c.nodes (begun (as_piece c.curve)) (record { pieces = (w, tt); inside = tt }) (inl (inl g))))
        where
          lefts : (s u : Scalar) → Holds s t → Holds (union_s s u) t
          lefts s u e = union_left s u t e

          rights : (s u : Scalar) → Holds u t → Holds (union_s s u) t
          rights s u e = union_right s u t e

      -- degree 0: the box holds the point, and the whole domain is reported
      overlaps : T (could_overlap (aabb ar c.curve.dim (as_piece c.curve).points) (box_of c))
      overlaps = box_overlaps ar E c.curve.dim p (as_piece c.curve) whole_lined ch.weights t h.passes.last (carries t h) (box_of c) long h.place (box_holds t h) h.passes.quotients

      flat_kept : c.curve.degree ≡ 0 → (s : Piece) → s ≡ as_piece c.curve → s ≡ as_piece c.curve → Kept (λ s. Holds s t) (λ s. s ≡ as_piece c.curve) (visit ar (question c) s)
      unfolding visit clipped
      flat_kept z s e _ = subst (λ (r : Piece). Kept At (λ s. s ≡ as_piece c.curve) (visit ar q r)) (sym e)
          (taken (Kept At (λ s. s ≡ as_piece c.curve)) (could_overlap (aabb ar c.curve.dim (as_piece c.curve).points) (box_of c)) _ dropped overlaps
          (subst (λ (g : Option (List Scalar)). Kept At (λ s. s ≡ as_piece c.curve) (clipped ar q (as_piece c.curve) g)) (sym (none_of z)) (domain_holds c.curve.dim p (as_piece c.curve) whole_lined t h.passes.last (carries t h))))

      flat-meets : c.curve.degree ≡ 0 → T (could_meet ar c.curve.dim c.curve.degree (as_piece c.curve).points (box_of c))
      unfolding could_meet
      flat-meets z = and_i (could_overlap (aabb ar c.curve.dim (as_piece c.curve).points) (box_of c)) _ overlaps
          (pick T (eqb c.curve.degree 1 && eqb (length (as_piece c.curve).points) 2) _ true (λ one. absurd (omega (arith, z, eqb→eq c.curve.degree 1 (and_l (eqb c.curve.degree 1) (eqb (length (as_piece c.curve).points) 2) one)))) (λ _. tt))

      kept : 1 ≤ c.curve.degree → (s : Piece) → Ok c.curve.dim c.curve.degree c.curve.count (value (start c.curve.degree (as_piece c.curve))) (value (end (as_piece c.curve))) s
          → Carries (suc c.curve.dim) c.curve.degree t h.passes.last s → Kept (λ s. Holds s t) (Carries (suc c.curve.dim) c.curve.degree t h.passes.last) (visit ar (question c) s)
      kept one = visit_kept ar E q n a b one ch.low_degree long t h.passes.last h.place (box_holds t h) h.passes.quotients

      meets : 1 ≤ c.curve.degree → T (could_meet ar c.curve.dim c.curve.degree (as_piece c.curve).points (box_of c))
      meets one = let w = whole-ok one in door ar E c.curve.dim p (as_piece c.curve) w.knots w.weights t h.passes.last (carries t h) (box_of c) long h.place (box_holds t h) h.passes.quotients box-bounded

      hit : Hit (λ s. Holds s t) (could_contain ar (question c) (as_piece c.curve))
      hit = go c.curve.degree refl
        where
          go : (m : ℕ) → c.curve.degree ≡ m → Hit (λ s. Holds s t) (could_contain ar (question c) (as_piece c.curve))
          go zero e = hit_by (λ s. s ≡ as_piece c.curve) (λ s. s ≡ as_piece c.curve) refl refl (flat_fine (Inner a b) whole-inner e) (flat_kept e) (flat-meets e)
          go (suc m) e = let one : 1 ≤ c.curve.degree = omega (arith, e) in hit_by (Ok c.curve.dim p n a b) (Carries (suc c.curve.dim) p t h.passes.last) (whole-ok one) (carries t h) (visit_fine ar E q n a b) (kept one) (meets one)

    -- ---- what the answers say
    bounds_right : (r : Found) → Right Told r → BoundsInDomain c.curve r
    bounds_right (Nothing v) h = tt
    bounds_right (Enclosed lo hi v) h =
        let at = plain-lies (start p (as_piece c.curve)) (end (as_piece c.curve)) in
        let i = h.1.0.0 in
        (subst (NotOutside (start p (as_piece c.curve)) (end (as_piece c.curve))) (sym h.1.1.0) (at h.0.lo first final i.low), subst (NotOutside (start p (as_piece c.curve)) (end (as_piece c.curve))) (sym h.1.1.1) (at h.0.hi first final i.high))
    bounds_right (Spent m v) h = tt
    bounds_right (Refused e v) h = tt

    order_right : (r : Found) → Right Told r → BoundsInOrder r
    order_right (Nothing v) h = tt
    order_right (Enclosed lo hi v) h =
        let i = h.1.0.0 in
        subst (λ (l : Float). T (lt (inf true) l && le l hi && lt hi (inf false))) (sym h.1.1.0)
        (subst (λ (u : Float). T (lt (inf true) (positive_zero h.0.lo) && le (positive_zero h.0.lo) u && lt u (inf false))) (sym h.1.1.1) (plain-order h.0.lo h.0.hi i.low.known i.high.known h.1.0.1.order))
    order_right (Spent m v) h = tt
    order_right (Refused e v) h = tt

    bounds-hit : (t : ℚ) (r : Found) → Hit (λ s. Holds s t) r → Completes r → BoundsHold r t
    bounds-hit t (Nothing v) h k = h
    bounds-hit t (Enclosed lo hi v) h k = record { low = subst (λ (z : Float). Below z t) (sym h.1.1.0) (plain_low h.0.lo t h.1.0.low); high = subst (λ (z : Float). Above z t) (sym h.1.1.1) (plain_high h.0.hi t h.1.0.high) }
    bounds-hit t (Spent m v) h k = k
    bounds-hit t (Refused e v) h k = k

    -- ---- the pieces
    ok-piece : (s : Piece) → Ok c.curve.dim c.curve.degree c.curve.count (value (start c.curve.degree (as_piece c.curve))) (value (end (as_piece c.curve))) s → PieceOf c s
    ok-piece s k = record { long = omega (arith, k.knots.long); knots = good-counted p (length s.points) (values s.knots) k.knots.good; small = k.small; weights = k.weights }

    pieces : 1 ≤ c.curve.degree → (k : ℕ) → PiecesKept c (advance (visit ar (question c)) c.nodes k (begun (as_piece c.curve)))
    pieces one k =
        go (advance (visit ar q) c.nodes k (begun (as_piece c.curve)))
        (stands (visit ar q) c.nodes (Inner a b) Good (inner-union a b) (visit_fine ar E q n a b) k (begun (as_piece c.curve)) (record { pieces = (whole-ok one, tt); inside = tt }))
      where
        Good : Piece → Type 0
        Good s = Ok c.curve.dim c.curve.degree c.curve.count (value (start c.curve.degree (as_piece c.curve))) (value (end (as_piece c.curve))) s

        go : (z : Step) → Stands (visit ar q) c.nodes (Inner a b) Good (inner-union a b) (visit_fine ar E q n a b) z → PiecesKept c z
        go (going s) h = every-imp (λ w. Good w.piece) (λ w. PieceOf c w.piece) (λ w k. ok-piece w.piece k) s.queue h.pieces
        go (over r) h = only-weights _ r h

-- ---- whatever the arithmetic and the curve, bounds are given out plain
plain-bounds : (r : Found) → Right (λ _. Unit {0}) r → BoundsPositiveZero r
plain-bounds (Nothing v) h = tt
plain-bounds (Enclosed lo hi v) h = (subst NoNegativeZero (sym h.1.1.0) (plain_zero h.0.lo), subst NoNegativeZero (sym h.1.1.1) (plain_zero h.0.hi))
plain-bounds (Spent m v) h = tt
plain-bounds (Refused e v) h = tt

any_fine : (w : Visit) → Fine (λ _. Unit {0}) (λ _. Unit {0}) w
any_fine dropped = tt
any_fine (reported t) = tt
any_fine (restricted m s) = tt
any_fine (halved l r) = (tt, tt)
any_fine bad_weight = tt

pub plain-search : (ar : Arithmetic) (q : Question) (s : Piece) → Right (λ _. Unit {0}) (could_contain ar q s)
unfolding could_contain
plain-search ar q s = pick (Right (λ _. Unit {0})) (could_meet ar q.dim q.degree s.points q.box) _ (Nothing no_counts)
    (λ _. answers (visit ar q) q.nodes (λ _. Unit {0}) (λ _. Unit {0}) (λ _ _ _ _. tt) (λ r _. any_fine (visit ar q r)) (advance (visit ar q) q.nodes q.nodes (begun s))
    (stands (visit ar q) q.nodes (λ _. Unit {0}) (λ _. Unit {0}) (λ _ _ _ _. tt) (λ r _. any_fine (visit ar q r)) q.nodes (begun s) (record { pieces = (tt, tt); inside = tt }))) (λ _. tt)

-- ---- a call that is refused has no bounds; else the search says
pub enclosure : (ar : Arithmetic) → Encloses ar → Enclosure ar
unfolding searched searched_by
enclosure ar E = record {
  hits = λ c d acc k t h. let e = ap (searched_by ar c) acc in subst (λ (r : Found). BoundsHold r t) (sym e) (bounds-hit c d acc ar E t (could_contain ar (question c) (as_piece c.curve)) (hit c d acc ar E t h) (subst Completes e k));
  bounds = λ c d. by c d (refusal c) refl;
  zeros = λ c. plain_by c (refusal c);
  order = λ c d. order-by c d (refusal c) refl;
}
  where
    order-by : (c : Call) → Doubles c → (m : ℕ) → refusal c ≡ m → BoundsInOrder (searched_by ar c m)
    order-by c d zero e = order_right c d e ar E (could_contain ar (question c) (as_piece c.curve)) (right c d e ar E)
    order-by c d (suc m) e = tt

    by : (c : Call) → Doubles c → (m : ℕ) → refusal c ≡ m → BoundsInDomain c.curve (searched_by ar c m)
    by c d zero e = bounds_right c d e ar E (could_contain ar (question c) (as_piece c.curve)) (right c d e ar E)
    by c d (suc m) e = tt

    plain_by : (c : Call) (m : ℕ) → BoundsPositiveZero (searched_by ar c m)
    plain_by c zero = plain-bounds (could_contain ar (question c) (as_piece c.curve)) (plain-search ar (question c) (as_piece c.curve))
    plain_by c (suc m) = tt

pub pieces_kept : (ar : Arithmetic) → Encloses ar → Pieces ar
pieces_kept ar E = record { kept = λ c d acc one k. pieces c d acc ar E one k }

-- ---- EITHER REVISION
pub revision_enclosure : (second : Bool) → Enclosure (arithmetic second)
revision_enclosure second = enclosure (arithmetic second) (encloses second)

pub revision-pieces : (second : Bool) → Pieces (arithmetic second)
revision-pieces second = pieces_kept (arithmetic second) (encloses second)
