-- The box of a piece, and the test before the search: no test of an interval fires. Where the Rust panics over a weight, the search refuses by 11. Assumes nothing.
use mathlib.Core.Path.{◌≡◌, refl, sym, ap}
use mathlib.Core.Bool.{Bool, true, false, cond, ◌&&◌}
use mathlib.Core.List.{List, [], ◌∷◌, map}
use Prim.Native.Nat.{ℕ, suc, ◌+◌, ◌≤◌, ◌<◌}
use native.Mathlib.Omega.{arith}
use lib.Dec.{T, eqb, eqb→eq}
use lib.ListN.{length}
use Rattle.math.specs.declared.scalars.Scalar.{Scalar}
use Rattle.math.specs.Divided.{Divided}
use Rattle.std.specs.Prelude.{Some, None}
use Rattle.math.specs.Scalars.{geop, sharp, ZERO, ONE, ENTIRE, could_be_equal, has_zero, union_s, intersect_s, sub_s, div_s, mul_s, inverse_s}
use Rattle.math.specs.Values.{Proper}
use Rattle.math.proofs.Bools.{pick, and_r}
use Rattle.math.proofs.Intervals.Instance.{geop_encloses}
use Rattle.math.proofs.Intervals.Proper.{geop_in_order, zero_proper, one_proper, entire_proper, union_proper, intersect_proper, quotient_proper}
use Rattle.model.specs.Vector.{Vector, coordinate}
use Rattle.model.specs.NurbCurve.{point, weights_positive}
use Rattle.model.specs.Aabb.{unions, place, aabb, could_overlap, along_by, along, meets, could_meet}
use Rattle.model.specs.Enclosure.{Every}
use Rattle.model.specs.Hat.{Hat}
use Rattle.model.specs.Tested as tested
use Rattle.model.specs.Tested.{Tested, fine, ◌>>=◌}
use Rattle.model.specs.Debug as debug
use Rattle.model.proofs.Every.{every_map, every_at}
use Rattle.model.proofs.Sound.Visit.Keeps.{OfHat}
use Rattle.model.proofs.Sound.Visit.Door.{Bounded}
use Rattle.model.proofs.Proper.Blend.{Solid, coordinate_proper, known_proper}
use Rattle.model.proofs.Proper.Weights.{weights_same}
use Rattle.model.proofs.Debug.Ops.{sub_fine, div_fine, union_fine, intersect_fine}
use Rattle.model.proofs.Debug.Lists.{tab_fine, map_fine, fold_fine}
use Rattle.model.proofs.Debug.Insert.{known_fine}

pub unions_fine : (l : List Scalar) → Every Proper l → debug.unions l ≡ fine (unions l)
unfolding debug.unions unions
unions_fine [] S = refl
unions_fine (x ∷ xs) S = fold_fine Proper Proper tested.union union_s union_fine union_proper x xs S.0 S.1

-- a divisor that holds zero
fails : (x y : Scalar) → has_zero y ≡ true → div_s x y ≡ None
unfolding div_s
fails x y h = ap (λ (b : Bool). cond b None (Some (mul_s x (inverse_s y)))) h

module _ (dim : ℕ) where
  -- ---- the box
  place_proper : (k : ℕ) (q : Vector) → k < dim → Solid dim q → Proper (place geop dim k q)
  unfolding place
  place_proper k q h S = quotient_proper geop geop_encloses (coordinate q k) (coordinate q dim) ENTIRE (coordinate_proper dim q k S (omega arith)) (coordinate_proper dim q dim S (omega arith)) entire_proper

  place_fine : (k : ℕ) (q : Vector) → k < dim → Solid dim q → debug.place dim k q ≡ fine (place geop dim k q)
  unfolding debug.place place
  place_fine k q h S = rw (div_fine (coordinate q k) (coordinate q dim) (coordinate_proper dim q k S (omega arith)) (coordinate_proper dim q dim S (omega arith))) refl

  pub aabb_fine : (points : List Vector) → Every (Solid dim) points → debug.aabb dim points ≡ fine (aabb geop dim points)
  unfolding debug.aabb aabb
  aabb_fine points S = tab_fine dim (λ k. tested.map (λ q. debug.place dim k q) points >>= λ l. debug.unions l) (λ k. unions (map (λ q. place geop dim k q) points)) one
    where
      one : (k : ℕ) → k < dim → (tested.map (λ q. debug.place dim k q) points >>= λ l. debug.unions l) ≡ fine (unions (map (λ q. place geop dim k q) points))
      one k h = rw (map_fine (Solid dim) (λ q. debug.place dim k q) (λ q. place geop dim k q) (λ q s. place_fine k q h s) points S)
          (unions_fine (map (λ q. place geop dim k q) points) (every_map (Solid dim) Proper (λ q. place geop dim k q) (λ q s. place_proper k q h s) points S))

  before_solid : (points : List Vector) → Every (Solid dim) points → Every (Solid dim) (debug.before dim points)
  unfolding debug.before
  before_solid [] S = tt
  before_solid (q ∷ qs) S = pick (Every (Solid dim)) (has_zero (coordinate q dim)) [] (q ∷ debug.before dim qs) (λ _. tt) (λ _. (S.0, before_solid qs S.1))

  pub boxed_fine : (points : List Vector) → Every (Solid dim) points → debug.boxed dim points ≡ fine (weights_positive dim points)
  unfolding debug.boxed
  boxed_fine points S = rw (aabb_fine (debug.before dim points) (before_solid points S)) (ap fine (sym (weights_same dim points S)))

  -- ---- the segment
  module _ (e a b : Scalar) (B : Bounded e) (A : Proper a) (C : Proper b) where
    abbrev d : Scalar
    d = sub_s b a

    abbrev first : Divided
    first = div_s (sub_s (sharp e.lo) a) (sub_s b a)

    abbrev second : Divided
    second = div_s (sub_s (sharp e.hi) a) (sub_s b a)

    moved : Proper (sub_s b a)
    moved = geop_in_order.sub_proper b a C A

    from-lo : Proper (sub_s (sharp e.lo) a)
    from-lo = geop_in_order.sub_proper (sharp e.lo) a (known_proper e.lo B.from) A

    from-hi : Proper (sub_s (sharp e.hi) a)
    from-hi = geop_in_order.sub_proper (sharp e.hi) a (known_proper e.hi B.upto) A

    by_kept : (s t : Divided) → first ≡ s → second ≡ t → OfHat Proper (along_by s t)
    unfolding along_by
    by_kept None t p q = tt
    by_kept (Some s) None p q = tt
    by_kept (Some s) (Some t) p q = union_proper s t (geop_in_order.div_proper (sub_s (sharp e.lo) a) d s from-lo moved p) (geop_in_order.div_proper (sub_s (sharp e.hi) a) d t from-hi moved q)

    along_kept : OfHat Proper (along geop e a b)
    unfolding along
    along_kept = by_kept first second refl refl

    by_fine : (s t : Divided) → first ≡ s → second ≡ t → debug.along_by s t ≡ fine (along_by s t)
    unfolding debug.along_by along_by
    by_fine None t p q = refl
    by_fine (Some s) None p q = refl
    by_fine (Some s) (Some t) p q = rw (union_fine s t (geop_in_order.div_proper (sub_s (sharp e.lo) a) d s from-lo moved p) (geop_in_order.div_proper (sub_s (sharp e.hi) a) d t from-hi moved q)) refl

    along_fine : debug.along e a b ≡ fine (along geop e a b)
    unfolding debug.along along along_by
    along_fine = rw (sub_fine b a C A) (go (has_zero d) refl)
      where
        go : (z : Bool) → has_zero d ≡ z
            → cond z (fine None) (tested.sharp e.lo >>= λ u. tested.sub u a >>= λ m. tested.div m d >>= λ s. tested.sharp e.hi >>= λ v. tested.sub v a >>= λ n. tested.div n d >>= λ t. debug.along_by s t)
            ≡ fine (along_by first second)
        go true h = rw (fails (sub_s (sharp e.lo) a) d h) refl
        go false h = rw (
          known_fine e.lo B.from,
          sub_fine (sharp e.lo) a (known_proper e.lo B.from) A,
          div_fine (sub_s (sharp e.lo) a) d from-lo moved,
          known_fine e.hi B.upto,
          sub_fine (sharp e.hi) a (known_proper e.hi B.upto) A,
          div_fine (sub_s (sharp e.hi) a) d from-hi moved,
        ) (by_fine first second refl refl)

  module _ (a b : Vector) (A : Solid dim a) (B : Solid dim b) where
    meets_fine : (es : List Scalar) (k : ℕ) (range : Scalar) → k + length es ≤ dim → Every Bounded es → Proper range → debug.meets dim a b range k es ≡ fine (meets geop dim a b range k es)
    unfolding debug.meets meets
    meets_fine [] k range l E R = refl
    meets_fine (e ∷ es) k range l E R =
        let x = place_proper k a (omega arith) A in
        let y = place_proper k b (omega arith) B in
        rw (place_fine k a (omega arith) A, place_fine k b (omega arith) B, along_fine e (place geop dim k a) (place geop dim k b) E.0 x y)
        (go (along geop e (place geop dim k a) (place geop dim k b)) (along_kept e (place geop dim k a) (place geop dim k b) E.0 x y) (λ r S. meets_fine es (suc k) r (omega arith) E.1 S))
      where
        Rest : Type 0
        Rest = (r : Scalar) → Proper r → debug.meets dim a b r (suc k) es ≡ fine (meets geop dim a b r (suc k) es)

        on : (t : Scalar) → Proper t → Rest → (z : Bool)
            → ◌≡◌ {A = Tested Bool} (elim z [ true ↦ (tested.intersect t range >>= λ r. debug.meets dim a b r (suc k) es) | false ↦ fine false ]) (fine (elim z [ true ↦ meets geop dim a b (intersect_s t range) (suc k) es | false ↦ false ]))
        on t S rest true = rw (intersect_fine t range) (rest (intersect_s t range) (intersect_proper t range S R))
        on t S rest false = refl

        go : (h : Hat) → OfHat Proper h → Rest
            → ◌≡◌ {A = Tested Bool} (elim h [ None ↦ debug.meets dim a b range (suc k) es | Some t ↦ elim (could_be_equal t range) [ true ↦ (tested.intersect t range >>= λ r. debug.meets dim a b r (suc k) es) | false ↦ fine false ] ])
            (fine (elim h [ None ↦ meets geop dim a b range (suc k) es | Some t ↦ elim (could_be_equal t range) [ true ↦ meets geop dim a b (intersect_s t range) (suc k) es | false ↦ false ] ]))
        go None S rest = rest range R
        go (Some t) S rest = on t S rest (could_be_equal t range)

  -- THE DOOR
  pub door_fine : (p : ℕ) (points : List Vector) (box : List Scalar) → Every (Solid dim) points → length box ≡ dim → Every Bounded box → debug.could_meet dim p points box ≡ fine (could_meet geop dim p points box)
  unfolding debug.could_meet could_meet
  door_fine p points box S long E = rw (aabb_fine points S)
      (go (could_overlap (aabb geop dim points) box) (eqb p 1 && eqb (length points) 2) (λ t. segment (eqb→eq (length points) 2 (and_r (eqb p 1) (eqb (length points) 2) t))))
    where
      a : Vector
      a = point points 0

      b : Vector
      b = point points 1

      segment : length points ≡ 2 → (tested.union ZERO ONE >>= λ r. debug.meets dim a b r 0 box) ≡ fine (meets geop dim a b (union_s ZERO ONE) 0 box)
      segment two = rw (union_fine ZERO ONE zero_proper one_proper)
          (meets_fine a b (every_at (Solid dim) points 0 [] S (omega (arith, two))) (every_at (Solid dim) points 1 [] S (omega (arith, two))) box 0 (union_s ZERO ONE) (omega (arith, long)) E (union_proper ZERO ONE zero_proper one_proper))

      go : (o t : Bool) → (T t → (tested.union ZERO ONE >>= λ r. debug.meets dim a b r 0 box) ≡ fine (meets geop dim a b (union_s ZERO ONE) 0 box))
          → cond o (cond t (tested.union ZERO ONE >>= λ r. debug.meets dim a b r 0 box) (fine true)) (fine false) ≡ fine (o && cond t (meets geop dim a b (union_s ZERO ONE) 0 box) true)
      go true true h = h tt
      go true false h = refl
      go false t h = refl
