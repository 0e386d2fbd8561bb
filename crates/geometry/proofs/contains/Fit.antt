-- Every piece that the search of an accepted call comes to can be visited. Leans on Enclosure.antt.
use mathlib.Core.Path.{◌≡◌, refl, sym, ap, ◌∙◌, subst}
use mathlib.Core.List.{List}
use mathlib.Core.Option.{Option, none}
use Prim.Native.Nat.{ℕ, zero, suc, ◌≤◌}
use native.Mathlib.Omega.{arith}
use lib.ListN.{length}
use Rattle.exact.specs.Rational.{ℚ}
use Rattle.math.specs.declared.scalars.Scalar.{Scalar}
use Rattle.math.specs.Scalars.{Arithmetic}
use Rattle.math.specs.Values.{value}
use Rattle.math.specs.Encloses.{Encloses}
use Rattle.math.proofs.Bools.{pick}
use Rattle.model.specs.NurbCurve.{Piece, start, end}
use Rattle.model.specs.Aabb.{aabb, could_overlap}
use Rattle.model.specs.FatLine.{greville}
use Rattle.model.specs.Subdivide.{Question, dropped, Step, going, over, advance}
use Rattle.model.specs.Contains.{clipped, visit, begun}
use Rattle.model.specs.Call.{Call, as_piece, question}
use Rattle.model.specs.Enclosure.{Doubles, Accepted}
use Rattle.geometry.specs.Slots.{within, Whole, Fit}
use Rattle.geometry.specs.State.{AllFit}
use Rattle.geometry.specs.declared.slots.Shape.{Shape}
use Rattle.model.proofs.Every.{every-imp}
use Rattle.model.proofs.Sound.Search.{Fine, Stands, stands}
use Rattle.model.proofs.Sound.Accepted.{checked}
use Rattle.model.proofs.Sound.Restrict.{Sub, sub_self, from-sub, strict}
use Rattle.model.proofs.Sound.Visits.{Inner, inner-union, Ok, visit_fine}
use Rattle.model.proofs.Enclosure.{whole-ok}
use Rattle.geometry.proofs.Lists.Numbers.{length-points}

-- ---- degree 0: no piece is handed on

module _ (ar : Arithmetic) (q : Question) (Ok : Piece → Type 0) (flat : q.degree ≡ 0) where
  -- Any report will do.
  abbrev Any : Scalar → Type 0
  Any t = Unit {0}

  clipped-flat : (c : Piece) → Fine (λ t. Unit {0}) Ok (clipped ar q c (greville ar q.degree (length c.points) c.knots))
  unfolding clipped
  clipped-flat c = subst (λ (g : Option (List Scalar)). Fine Any Ok (clipped ar q c g)) (sym none_of) tt
    where
      none_of : greville ar q.degree (length c.points) c.knots ≡ none
      none_of = ap (λ (m : ℕ). greville ar m (length c.points) c.knots) flat ∙ (unfold greville in refl)

  visit-flat : (c : Piece) → Ok c → Fine (λ t. Unit {0}) Ok (visit ar q c)
  unfolding visit
  visit-flat c k = pick (Fine Any Ok) (could_overlap (aabb ar q.dim c.points) q.box) _ dropped (λ _. clipped-flat c) (λ _. tt)

-- ---- an accepted call

module _ (c : Call) (d : Doubles c) (acc : Accepted c) where
  -- The sizes of its pieces.
  abbrev pub shape_of : Shape
  shape_of = record { dim = c.curve.dim; degree = c.curve.degree; count = c.curve.count }

  -- The ends of its domain.
  abbrev a : ℚ
  a = value (start c.curve.degree (as_piece c.curve))

  abbrev b : ℚ
  b = value (end (as_piece c.curve))

  -- a piece of an accepted one can be cut
  sub-whole : (s r : Piece) → length s.points ≤ c.curve.count → Sub c.curve.degree s r → Whole shape_of r
  sub-whole s r n h = record { enough = h.knots.good.room; bounded = omega (arith, n, h.small) }

  module _ (ar : Arithmetic) (E : Encloses ar) where
    ok-fit : (s : Piece) → Ok c.curve.dim c.curve.degree c.curve.count a b s → Fit ar shape_of s
    ok-fit s k = record {
      whole = sub-whole s s k.small (sub_self c.curve.degree s k.knots);
      again = λ _ t f. sub-whole s _ k.small (from-sub ar E c.curve.degree s t k.knots (within c.curve.degree s t) (strict c.curve.degree s t k.knots f));
    }

    whole-fit : c.curve.degree ≡ 0 → Fit ar shape_of (as_piece c.curve)
    whole-fit z =
        let e : length (as_piece c.curve).points ≡ c.curve.count = length-points (suc c.curve.dim) c.curve.count c.curve.points in
        record { whole = record { enough = omega (arith, e, (checked c d acc).room); bounded = omega (arith, e) }; again = λ one. absurd (omega (arith, z, one)) }

    -- EVERY PIECE CAN BE VISITED
    pub all_fit : (k : ℕ) → AllFit ar shape_of (advance (visit ar (question c)) c.nodes k (begun (as_piece c.curve)))
    all_fit k = go c.curve.degree refl
      where
        go : (m : ℕ) → c.curve.degree ≡ m → AllFit ar shape_of (advance (visit ar (question c)) c.nodes k (begun (as_piece c.curve)))
        go (suc m) e =
            by (advance (visit ar (question c)) c.nodes k (begun (as_piece c.curve)))
            (stands (visit ar (question c)) c.nodes (Inner a b) (Ok c.curve.dim c.curve.degree c.curve.count a b) (inner-union a b) (visit_fine ar E (question c) c.curve.count a b) k (begun (as_piece c.curve))
            (record { pieces = (whole-ok c d acc (omega (arith, e)), tt); inside = tt }))
          where
            by : (z : Step) → Stands (visit ar (question c)) c.nodes (Inner a b) (Ok c.curve.dim c.curve.degree c.curve.count a b) (inner-union a b) (visit_fine ar E (question c) c.curve.count a b) z → AllFit ar shape_of z
            by (going s) h = every-imp (λ w. Ok c.curve.dim c.curve.degree c.curve.count a b w.piece) (λ w. Fit ar shape_of w.piece) (λ w k. ok-fit w.piece k) s.queue h.pieces
            by (over r) h = tt
        go zero e =
            by (advance (visit ar (question c)) c.nodes k (begun (as_piece c.curve)))
            (stands (visit ar (question c)) c.nodes (λ t. Unit {0}) (Fit ar shape_of) (λ s t h g. tt) (visit-flat ar (question c) (Fit ar shape_of) e) k (begun (as_piece c.curve)) (record { pieces = (whole-fit e, tt); inside = tt }))
          where
            by : (z : Step) → Stands (visit ar (question c)) c.nodes (λ t. Unit {0}) (Fit ar shape_of) (λ s t h g. tt) (visit-flat ar (question c) (Fit ar shape_of) e) z → AllFit ar shape_of z
            by (going s) h = h.pieces
            by (over r) h = tt
