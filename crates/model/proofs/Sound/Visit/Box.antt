-- The box of a piece that carries a point of the box that is asked for overlaps that box. Assumes nothing.
use mathlib.Core.Path.{◌≡◌, sym, ◌∙◌, subst}
use mathlib.Core.List.{List, [], ◌∷◌, map}
use Prim.Native.Nat.{ℕ, zero, suc, ◌≤◌, ◌<◌}
use native.Mathlib.Omega.{arith}
use lib.Dec.{T}
use lib.ListN.{length, get_or, length-map}
use Rattle.exact.specs.Rational.{ℚ, ◌*ℚ◌, 0ℚ, invℚ, ◌<ℚ◌}
use Rattle.exact.proofs.Splines.Visit.{on-box}
use Rattle.lists.proofs.Each.{get_or_map}
use Rattle.lists.specs.Lists.{tab}
use Rattle.lists.proofs.Tab.{length-tab, get_or-tab}
use Rattle.math.specs.declared.scalars.Scalar.{Scalar}
use Rattle.math.specs.Scalars.{Arithmetic, absent, could_be_equal}
use Rattle.math.specs.Values.{Holds}
use Rattle.math.specs.Encloses.{Encloses}
use Rattle.math.proofs.Bools.{and_i}
use Rattle.model.specs.Vector.{Vector, coordinate}
use Rattle.model.specs.NurbCurve.{Piece, point, weights_positive}
use Rattle.model.specs.Aabb.{unions, place, aabb, could_overlap}
use Rattle.model.proofs.Sound.Base.{values, Lined, Carries}
use Rattle.model.proofs.Sound.Visit.Hulls.{could_equal, unions-between}
use Rattle.model.proofs.Sound.Visit.Weights.{heavy_at, heavy-pos, place_holds}

-- two boxes with a common point overlap
pub overlap : (xs ys : List Scalar) (q : ℕ → ℚ) → length xs ≡ length ys → ((k : ℕ) → k < length xs → Holds (get_or xs k absent) (q k))
    → ((k : ℕ) → k < length xs → Holds (get_or ys k absent) (q k))
    → T (could_overlap xs ys)
unfolding could_overlap
overlap [] ys q e f g = tt
overlap (x ∷ xs) [] q e f g = tt
overlap (x ∷ xs) (y ∷ ys) q e f g =
    and_i (could_be_equal x y) (could_overlap xs ys) (could_equal x y (q zero) (f zero (omega arith)) (g zero (omega arith)))
    (overlap xs ys (λ k. q (suc k)) (omega arith) (λ k l. f (suc k) (omega arith)) (λ k l. g (suc k) (omega arith)))

module _ (ar : Arithmetic) (E : Encloses ar) (dim p : ℕ) (c : Piece) (K : Lined p (length c.points) c.knots) (w : T (weights_positive dim c.points)) (t : ℚ) (v : ℕ → ℚ) (h : Carries (suc dim) p t v c) where
  n≥1 : 1 ≤ length c.points
  n≥1 = omega (arith, K.room)

  pub weight-pos : (i : ℕ) → i < length c.points → 0ℚ <ℚ h.exact dim i
  weight-pos i l = heavy-pos (coordinate (point c.points i) dim) (h.exact dim i) (heavy_at dim c.points w i l) (h.inside.at dim i (omega arith) l)

  -- one axis
  axis-place : (k : ℕ) → k < dim → (x : ℚ) → v k *ℚ invℚ (v dim) ≡ x → Holds (unions (map (λ (q : Vector). place ar dim k q) c.points)) x
  axis-place k kd x e =
      unions-between (map (λ (q : Vector). place ar dim k q) c.points) (length c.points) (λ i. h.exact k i *ℚ invℚ (h.exact dim i)) x (length-map c.points _) n≥1 each
      (λ a b f. on-box p (length c.points) (values c.knots) K.sorted h.exact t v h.on dim weight-pos k x e a b f)
    where
      each : (i : ℕ) → i < length c.points → Holds (get_or (map (λ (q : Vector). place ar dim k q) c.points) i absent) (h.exact k i *ℚ invℚ (h.exact dim i))
      each i l = subst (λ (s : Scalar). Holds s (h.exact k i *ℚ invℚ (h.exact dim i))) (sym (get_or_map (λ (q : Vector). place ar dim k q) c.points i [] absent l))
          (place_holds ar E dim k (point c.points i) _ _ (heavy_at dim c.points w i l) (h.inside.at k i (omega arith) l) (h.inside.at dim i (omega arith) l))

  -- THE BOX
  pub box_overlaps : (box : List Scalar) → length box ≡ dim → (q : ℕ → ℚ) → ((k : ℕ) → k < dim → Holds (get_or box k absent) (q k)) → ((k : ℕ) → k < dim → v k *ℚ invℚ (v dim) ≡ q k)
      → T (could_overlap (aabb ar dim c.points) box)
  unfolding aabb
  box_overlaps box long q bq vq = overlap (tab dim f) box q (size ∙ sym long)
      (λ k l. subst (λ (s : Scalar). Holds s (q k)) (sym (get_or-tab dim f k absent (in-dim k l))) (axis-place k (in-dim k l) (q k) (vq k (in-dim k l))))
      (λ k l. bq k (in-dim k l))
    where
      f : ℕ → Scalar
      f k = unions (map (λ (q : Vector). place ar dim k q) c.points)

      size : length (tab dim f) ≡ dim
      size = length-tab dim f

      in-dim : (k : ℕ) → k < length (tab dim f) → k < dim
      in-dim k l = subst (λ (z : ℕ). k < z) size l
