-- The test before the search passes a piece that carries a point of the box: its box overlaps, and where it is a segment the segment's share at that point is left over. Assumes nothing.
use mathlib.Core.Path.{◌≡◌, refl, sym, ◌∙◌, subst}
use mathlib.Core.List.{List, [], ◌∷◌}
use mathlib.Core.Bool.{Bool, true, false, ◌&&◌}
use Prim.Native.Nat.{ℕ, zero, suc, ◌+◌, ◌≤◌, ◌<◌}
use native.Mathlib.Omega.{arith}
use lib.Dec.{T, eqb, eqb→eq}
use lib.ListN.{length, get_or}
use Rattle.exact.specs.Rational.{ℚ, ◌+ℚ◌, ◌*ℚ◌, ◌-ℚ◌, 0ℚ, 1ℚ, invℚ, ◌<ℚ◌}
use Rattle.exact.specs.Spline.{On}
use Rattle.exact.specs.Hull.{In, β}
use Rattle.exact.proofs.Splines.Visit.{straight, β_in, confine}
use Rattle.math.specs.declared.scalars.Scalar.{Scalar}
use Rattle.math.specs.Divided.{Divided}
use Rattle.std.specs.Prelude.{Some, None}
use Rattle.math.specs.Scalars.{Arithmetic, sharp, absent, ZERO, ONE, could_be_equal, union_s, intersect_s}
use Rattle.math.specs.Values.{value, Holds}
use Rattle.math.specs.Encloses.{Encloses}
use Rattle.math.proofs.Bools.{and_i, and_l, and_r, pick}
use Rattle.math.proofs.Intervals.Tests.{union_left, union_right, intersect_holds, zero_holds, one_holds}
use Rattle.model.specs.Vector.{Vector}
use Rattle.model.specs.NurbCurve.{Piece, point, weights_positive}
use Rattle.model.specs.Aabb.{place, aabb, could_overlap, along_by, along, meets, could_meet}
use Rattle.model.specs.Hat.{Hat}
use Rattle.model.proofs.Sound.Base.{values, Known, Knots, Carries, lined}
use Rattle.model.proofs.Sound.Known.{sharp_known, low_value, high_value}
use Rattle.model.proofs.Sound.Visit.Hulls.{holds_between, could_equal, two_ends}
use Rattle.model.proofs.Sound.Visit.Weights.{heavy_at, place_holds}
use Rattle.model.proofs.Sound.Visit.Box.{weight-pos, box_overlaps}
use Rattle.model.proofs.Sound.Visit.Zeros.{divisor}

-- ---- an interval with known bounds
pub record Bounded (s : Scalar) : Type 0 where
  pub from : Known s.lo
  pub upto : Known s.hi

pub bounded_in : (e : Scalar) (q : ℚ) → Bounded e → Holds e q → In (value e.lo) (value e.hi) q
bounded_in e q k h = record { from = low_value e.lo q k.from h.low; upto = high_value e.hi q k.upto h.high }

-- ---- one axis: a hat that holds x, if there is one
abbrev Allows : Hat → ℚ → Type 0
Allows None x = Unit {0}
Allows (Some z) x = Holds z x

module _ (ar : Arithmetic) (E : Encloses ar) where
  -- x is the share at which the segment from A to B passes q
  along_allows : (e a b : Scalar) (A B x q : ℚ) → Bounded e → Holds e q → Holds a A → Holds b B → q ≡ A +ℚ x *ℚ (B -ℚ A) → Allows (along ar e a b) x
  unfolding along
  along_allows e a b A B x q ke he ha hb eq = go (ar.div (ar.sub (sharp e.lo) a) d) (ar.div (ar.sub (sharp e.hi) a) d) refl refl
    where
      d : Scalar
      d = ar.sub b a

      D : Holds (ar.sub b a) (B -ℚ A)
      D = E.sub_holds b a B A hb ha

      go : (s t : Divided) → ar.div (ar.sub (sharp e.lo) a) (ar.sub b a) ≡ s → ar.div (ar.sub (sharp e.hi) a) (ar.sub b a) ≡ t → Allows (along_by s t) x
      go None t es et = unfold along_by in tt
      go (Some s) None es et = unfold along_by in tt
      go (Some s) (Some t) es et = unfold along_by in
          two_ends (union_s s t) ((value e.lo -ℚ A) *ℚ invℚ (B -ℚ A)) ((value e.hi -ℚ A) *ℚ invℚ (B -ℚ A)) x
          (union_left s t _ (E.div_holds _ d s _ _ es (E.sub_holds (sharp e.lo) a _ A (sharp_known e.lo ke.from) ha) D))
          (union_right s t _ (E.div_holds _ d t _ _ et (E.sub_holds (sharp e.hi) a _ A (sharp_known e.hi ke.upto) ha) D))
          (λ m M f g. confine A (B -ℚ A) x q (value e.lo) (value e.hi) m M (divisor ar E _ d s (B -ℚ A) es D) eq (bounded_in e q ke he) f g)

  -- ---- all axes
  module _ (dim : ℕ) (a b : Vector) (x : ℚ) (q : ℕ → ℚ) (f : (k : ℕ) (e : Scalar) → k < dim → Bounded e → Holds e (q k) → Allows (along ar e (place ar dim k a) (place ar dim k b)) x) where
    walk : (es : List Scalar) (k : ℕ) (range : Scalar) → k + length es ≤ dim → ((j : ℕ) → j < length es → Bounded (get_or es j absent))
        → ((j : ℕ) → j < length es → Holds (get_or es j absent) (q (k + j)))
        → Holds range x → T (meets ar dim a b range k es)
    unfolding meets
    walk [] k range l ke he h = tt
    walk (e ∷ es) k range l ke he h =
        go (along ar e (place ar dim k a) (place ar dim k b)) (f k e (omega arith) (ke zero (omega arith)) (subst (λ (z : ℕ). Holds e (q z)) here (he zero (omega arith))))
        (λ g. walk es (suc k) g (omega arith) (λ j m. ke (suc j) (omega arith)) (λ j m. subst (λ (z : ℕ). Holds (get_or es j absent) (q z)) (next j) (he (suc j) (omega arith))))
      where
        here : k + zero ≡ k
        here = omega arith

        next : (j : ℕ) → k + suc j ≡ suc k + j
        next j = omega arith

        left : (t : Scalar) (y : Bool) → T y → T (meets ar dim a b (intersect_s t range) (suc k) es) → T (elim y [ true ↦ meets ar dim a b (intersect_s t range) (suc k) es | false ↦ false ])
        left t true y m = m
        left t false y m = y

        go : (r : Hat) → Allows r x → ((g : Scalar) → Holds g x → T (meets ar dim a b g (suc k) es))
            → T (elim r [ None ↦ meets ar dim a b range (suc k) es | Some t ↦ elim (could_be_equal t range) [ true ↦ meets ar dim a b (intersect_s t range) (suc k) es | false ↦ false ] ])
        go None y rec = rec range h
        go (Some t) y rec = left t (could_be_equal t range) (could_equal t range x y h) (rec (intersect_s t range) (intersect_holds t range x y h))

-- ---- the piece
module _ (ar : Arithmetic) (E : Encloses ar) (dim p : ℕ) (c : Piece) (K : Knots p (length c.points) c.knots) (w : T (weights_positive dim c.points)) (t : ℚ) (v : ℕ → ℚ) (h : Carries (suc dim) p t v c)
    (box : List Scalar) (long : length box ≡ dim) (q : ℕ → ℚ) (bq : (k : ℕ) → k < dim → Holds (get_or box k absent) (q k)) (vq : (k : ℕ) → k < dim → v k *ℚ invℚ (v dim) ≡ q k)
    (kb : (k : ℕ) → k < dim → Bounded (get_or box k absent)) where
  -- a segment
  module _ (p1 : p ≡ 1) (n2 : length c.points ≡ 2) where
    abbrev C : ℕ → ℕ → ℚ
    C = h.exact

    abbrev u : ℕ → ℚ
    u = values c.knots

    on : On 1 2 (values c.knots) h.exact t v
    on = subst (λ (z : ℕ). On 1 z (values c.knots) h.exact t v) n2 (subst (λ (z : ℕ). On z (length c.points) (values c.knots) h.exact t v) p1 h.on)

    pos : (i : ℕ) → i < 2 → 0ℚ <ℚ h.exact dim i
    pos i l = weight-pos ar E dim p c (lined p (length c.points) c.knots K) w t v h i (omega arith)

    spot : (k i : ℕ) → k < dim → i < 2 → Holds (place ar dim k (point c.points i)) (h.exact k i *ℚ invℚ (h.exact dim i))
    spot k i kd l =
        place_holds ar E dim k (point c.points i) _ _ (heavy_at dim c.points w i (omega arith)) (h.inside.at k i (omega arith) (omega arith))
        (h.inside.at dim i (omega arith) (omega arith))

    share : In 0ℚ 1ℚ (β (values c.knots) h.exact t dim)
    share = β_in u C t v on dim (pos 0 (omega arith)) (pos 1 (omega arith))

    segment : T (meets ar dim (point c.points 0) (point c.points 1) (union_s ZERO ONE) 0 box)
    segment = walk ar E dim (point c.points 0) (point c.points 1) (β u C t dim) q
        (λ k e kd ke he. along_allows ar E e _ _ (C k 0 *ℚ invℚ (C dim 0)) (C k 1 *ℚ invℚ (C dim 1)) (β u C t dim) (q k) ke he (spot k 0 kd (omega arith)) (spot k 1 kd (omega arith))
        (sym (vq k kd) ∙ straight u C t v on dim (pos 0 (omega arith)) (pos 1 (omega arith)) k))
        box 0 (union_s ZERO ONE) (omega arith) (λ j l. kb j (omega arith)) (λ j l. subst (λ (z : ℕ). Holds (get_or box j absent) (q z)) (eq j) (bq j (omega arith)))
        (holds_between (union_s ZERO ONE) 0ℚ (β u C t dim) 1ℚ (union_left ZERO ONE 0ℚ zero_holds) (union_right ZERO ONE 1ℚ one_holds) share.from share.upto)
      where
        eq : (j : ℕ) → j ≡ 0 + j
        eq j = omega arith

  -- THE DOOR
  pub door : T (could_meet ar dim p c.points box)
  unfolding could_meet
  door = and_i (could_overlap (aabb ar dim c.points) box) _ (box_overlaps ar E dim p c (lined p (length c.points) c.knots K) w t v h box long q bq vq)
      (pick T (eqb p 1 && eqb (length c.points) 2) (meets ar dim (point c.points 0) (point c.points 1) (union_s ZERO ONE) 0 box) true
      (λ y. segment (eqb→eq p 1 (and_l (eqb p 1) (eqb (length c.points) 2) y)) (eqb→eq (length c.points) 2 (and_r (eqb p 1) (eqb (length c.points) 2) y)))
      (λ _. tt))
