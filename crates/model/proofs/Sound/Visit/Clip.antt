-- The clip of a piece that carries a point of the box at t leaves a hat, and the hat holds t. Assumes nothing.
use mathlib.Core.Path.{◌≡◌, refl, sym, subst}
use mathlib.Core.List.{List, [], ◌∷◌}
use mathlib.Core.Option.{some}
use Prim.Native.Nat.{ℕ, zero, suc, ◌+◌, ◌≤◌, ◌<◌}
use native.Mathlib.Omega.{arith}
use lib.Dec.{T}
use lib.ListN.{length, get_or, length-map}
use Rattle.exact.specs.Rational.{ℚ, ◌*ℚ◌, ◌-ℚ◌, 0ℚ, invℚ, ◌<ℚ◌}
use Rattle.exact.specs.Hull.{In, ξ}
use Rattle.exact.proofs.Splines.Visit.{on-domain, on-range, on-band, on_line}
use Rattle.lists.proofs.Each.{get_or_map}
use Rattle.math.specs.declared.scalars.Scalar.{Scalar}
use Rattle.math.specs.Scalars.{Arithmetic, absent, could_be_equal, intersect_s}
use Rattle.math.specs.Values.{Holds}
use Rattle.math.specs.Encloses.{Encloses}
use Rattle.math.proofs.Intervals.Tests.{union_left, union_right, intersect_holds}
use Rattle.model.specs.Vector.{Vector, coordinate}
use Rattle.model.specs.NurbCurve.{Piece, point, start, end, domain, weights_positive}
use Rattle.model.specs.FatLine.{greville, fat_line_zeros}
use Rattle.model.specs.Contains.{axis, narrowed, clip}
use Rattle.model.specs.Hat.{Hat}
use Rattle.std.specs.Prelude.{Some, None}
use Rattle.model.proofs.Sound.Base.{values, Knots, Inside, Carries, Lined, lined}
use Rattle.model.proofs.Sound.Known.{sharp_known}
use Rattle.model.proofs.Sound.Visit.Hulls.{holds_between, could_equal}
use Rattle.model.proofs.Sound.Visit.Weights.{heavy_at, less_holds}
use Rattle.model.proofs.Sound.Visit.Box.{weight-pos}
use Rattle.model.proofs.Sound.Visit.Greville.{Abscissae, greville_holds}
use Rattle.model.proofs.Sound.Visit.Zeros.{Found, found-over, passes, Crosses, zeros-found}

-- ---- one axis
module _ (ar : Arithmetic) (E : Encloses ar) (dim : ℕ) (ps : List Vector) (w : T (weights_positive dim ps)) (C : ℕ → ℕ → ℚ) (I : Inside (suc dim) ps C) (k : ℕ) (kd : k < dim) (e : Scalar) (q : ℚ) (h : Holds e q) where
  abbrev less : Vector → Scalar
  less v = ar.sub (coordinate v k) (ar.mul e (coordinate v dim))

  pub axis_long : length (axis ar dim k e ps) ≡ length ps
  unfolding axis
  axis_long = length-map ps less

  -- the intervals hold the exact differences
  pub axis_holds : (i : ℕ) → i < length ps → Holds (get_or (axis ar dim k e ps) i absent) (C k i -ℚ q *ℚ C dim i)
  unfolding axis
  axis_holds i l = subst (λ (s : Scalar). Holds s (C k i -ℚ q *ℚ C dim i)) (sym (get_or_map less ps i [] absent l))
      (less_holds ar E (coordinate (point ps i) k) e (coordinate (point ps i) dim) _ q _ (heavy_at dim ps w i l) (I.at k i (omega arith) l) h (I.at dim i (omega arith) l))

-- ---- one step
narrowed-found : (hat : Scalar) (z : Hat) (t : ℚ) → Holds hat t → Found z t → Found (narrowed hat z) t
unfolding narrowed
narrowed-found hat None t h f = f
narrowed-found hat (Some z) t h f = passes (could_be_equal z hat) (Some (intersect_s hat z)) t (could_equal z hat t f h) (intersect_holds hat z t h f)

module _ (ar : Arithmetic) (dim : ℕ) (ps : List Vector) (ξs : List Scalar) (t : ℚ) (q : ℕ → ℚ)
    (f : (k : ℕ) (e : Scalar) → k < dim → Holds e (q k) → Found (fat_line_zeros ar ξs (axis ar dim k e ps)) t) where
  steps : (es : List Scalar) (k : ℕ) (hat : Scalar) → k + length es ≤ dim → ((j : ℕ) → j < length es → Holds (get_or es j absent) (q (k + j))) → Holds hat t
      → Found (clip ar dim ps ξs hat k es) t
  unfolding clip
  steps [] k hat l b h = h
  steps (e ∷ es) k hat l b h =
      go (narrowed hat (fat_line_zeros ar ξs (axis ar dim k e ps))) (narrowed-found hat _ t h (f k e (omega arith) (subst (λ (z : ℕ). Holds e (q z)) here (b zero (omega arith)))))
      (λ g. steps es (suc k) g (omega arith) (λ j m. subst (λ (z : ℕ). Holds (get_or es j absent) (q z)) (next j) (b (suc j) (omega arith))))
    where
      here : k + zero ≡ k
      here = omega arith

      next : (j : ℕ) → k + suc j ≡ suc k + j
      next j = omega arith

      go : (r : Hat) → Found r t → ((g : Scalar) → Holds g t → Found (clip ar dim ps ξs g (suc k) es) t) → Found (elim r [ None ↦ None | Some h ↦ clip ar dim ps ξs h (suc k) es ]) t
      go None y rec = absurd y
      go (Some g) y rec = rec g y

-- ---- the domain holds t
module _ (dim p : ℕ) (c : Piece) (K : Lined p (length c.points) c.knots) (t : ℚ) (v : ℕ → ℚ) (h : Carries (suc dim) p t v c) where
  pub domain_holds : Holds (domain (start p c) (end c)) t
  unfolding domain
  domain_holds =
      holds_between _ (values c.knots p) t (values c.knots (length c.points)) (union_left _ _ _ (sharp_known (start p c) (K.known p (omega (arith, K.long, K.room)))))
      (union_right _ _ _ (sharp_known (end c) (K.known (length c.points) (omega (arith, K.long))))) inside.from inside.upto
    where
      inside : In (values c.knots p) (values c.knots (length c.points)) t
      inside = on-domain p (length c.points) (values c.knots) K.sorted h.exact t v h.on

-- ---- the piece
module _ (ar : Arithmetic) (E : Encloses ar) (dim p : ℕ) (c : Piece) (K : Knots p (length c.points) c.knots) (w : T (weights_positive dim c.points)) (t : ℚ) (v : ℕ → ℚ) (h : Carries (suc dim) p t v c) where
  abbrev n : ℕ
  n = length c.points

  module _ (1≤p : 1 ≤ p) (k : ℕ) (x : ℚ) (vx : v k *ℚ invℚ (v dim) ≡ x) where
    abbrev diff : ℕ → ℚ
    diff i = h.exact k i -ℚ x *ℚ h.exact dim i

    -- the axis less x times the weight is zero at t
    crosses : Crosses (length c.points) (ξ p (values c.knots)) (λ i. h.exact k i -ℚ x *ℚ h.exact dim i) t
    crosses = record {
      range = λ a b f. on-range p n (values c.knots) K.good.sorted h.exact t v h.on dim pos k x vx diff (λ i _. refl) a b f;
      band = λ s lo hi f. on-band p n (values c.knots) K.good.sorted h.exact t v h.on dim pos k x vx diff (λ i _. refl) 1≤p s lo hi f;
      line = λ s a b ne es f g. on_line p n (values c.knots) K.good.sorted h.exact t v h.on dim pos k x vx diff (λ i _. refl) 1≤p s a b ne es f g;
    }
      where
        pos : (i : ℕ) → i < length c.points → 0ℚ <ℚ h.exact dim i
        pos = weight-pos ar E dim p c (lined p n c.knots K) w t v h

  -- THE CLIP
  pub clip-found : 1 ≤ p → p ≤ 7 → (ξs : List Scalar) → greville ar p (length c.points) c.knots ≡ some ξs
      → (box : List Scalar) → length box ≡ dim → (q : ℕ → ℚ) → ((k : ℕ) → k < dim → Holds (get_or box k absent) (q k)) → ((k : ℕ) → k < dim → v k *ℚ invℚ (v dim) ≡ q k)
      → (hat : Scalar) × (clip ar dim c.points ξs (domain (start p c) (end c)) 0 box ≡ Some hat) × Holds hat t
  clip-found 1≤p p≤7 ξs eg box long q bq vq = found-over _ t (steps ar dim c.points ξs t q zeros box 0 (domain (start p c) (end c)) (omega arith) (λ j l. at j l) (domain_holds dim p c (lined p n c.knots K) t v h))
    where
      A : Abscissae p (length c.points) c.knots ξs
      A = greville_holds ar E p n c.knots ξs 1≤p p≤7 K eg

      zeros : (k : ℕ) (e : Scalar) → k < dim → Holds e (q k) → Found (fat_line_zeros ar ξs (axis ar dim k e c.points)) t
      zeros k e kd he =
          zeros-found ar E n (omega (arith, K.good.room)) ξs (axis ar dim k e c.points) A.long (axis_long ar E dim c.points w h.exact h.inside k kd e (q k) he)
          (ξ p (values c.knots)) (diff 1≤p k (q k) (vq k kd)) A.at
          (axis_holds ar E dim c.points w h.exact h.inside k kd e (q k) he) t (crosses 1≤p k (q k) (vq k kd))

      at : (j : ℕ) → j < length box → Holds (get_or box j absent) (q (0 + j))
      at j l = subst (λ (z : ℕ). Holds (get_or box j absent) (q z)) (eq j) (bq j (omega arith))
        where
          eq : (j : ℕ) → j ≡ 0 + j
          eq j = omega arith
