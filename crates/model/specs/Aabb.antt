-- aabb.rs: the box of a piece, and the test before the search. Definitions only.
use Rattle.std.specs.Prelude.{ℕ, suc, Bool, true, false, cond, ◌&&◌, List, [], ◌∷◌, map, length, eqb}
use Rattle.lists.specs.Lists.{tab, foldl}
use Rattle.math.specs.declared.scalars.Scalar.{Scalar}
use Rattle.math.specs.Divided.{Divided}
use Rattle.std.specs.Prelude.{Some, None}
use Rattle.math.specs.Scalars.{Arithmetic, sharp, ZERO, ONE, ENTIRE, could_be_equal, union_s, intersect_s, value_or}
use Rattle.model.specs.Vector.{Vector, coordinate}
use Rattle.model.specs.NurbCurve.{point}
use Rattle.model.specs.Hat.{Hat}

-- The union of some intervals, from the first on.
unfoldable pub unions : List Scalar → Scalar
unions [] = ENTIRE
unions (x ∷ xs) = foldl union_s x xs

-- Coordinate k divided by the weight. The weight is above zero, so this never fails.
unfoldable pub place : Arithmetic → ℕ → ℕ → Vector → Scalar
place ar dim k q = value_or (ar.div (coordinate q k) (coordinate q dim)) ENTIRE

-- compute_aabb: in each axis, the union over the points.
unfoldable pub aabb : Arithmetic → ℕ → List Vector → List Scalar
aabb ar dim points = tab dim (λ k. unions (map (λ q. place ar dim k q) points))

-- aabb_could_overlap, aabb_could_contain: the two boxes could meet in every axis.
unfoldable pub could_overlap : List Scalar → List Scalar → Bool
could_overlap [] b = true
could_overlap (x ∷ xs) [] = true
could_overlap (x ∷ xs) (y ∷ ys) = could_be_equal x y && could_overlap xs ys

-- ---- a straight segment, in each axis from a to b

-- The union of both quotients; nothing is said where they fail.
unfoldable pub along_by : Divided → Divided → Hat
along_by None t = None
along_by (Some s) None = None
along_by (Some s) (Some t) = Some (union_s s t)

-- Where along the segment the axis lies in e; `None` where the segment may not move along this axis, which then confines nothing.
unfoldable pub along : Arithmetic → Scalar → Scalar → Scalar → Hat
along ar e a b =
    let d = ar.sub b a in
    along_by (ar.div (ar.sub (sharp e.lo) a) d) (ar.div (ar.sub (sharp e.hi) a) d)

-- The axes from number k on leave something of the range.
unfoldable pub meets : Arithmetic → ℕ → Vector → Vector → Scalar → ℕ → List Scalar → Bool
meets ar dim a b range k [] = true
meets ar dim a b range k (e ∷ es) =
    elim (along ar e (place ar dim k a) (place ar dim k b)) [
      | None ↦ meets ar dim a b range (suc k) es
      | Some t ↦ elim (could_be_equal t range) [ true ↦ meets ar dim a b (intersect_s t range) (suc k) es | false ↦ false ]
    ]

-- curve_could_meet_aabb: the boxes overlap, and where the curve is a straight segment the segment itself meets the box.
unfoldable pub could_meet : Arithmetic → ℕ → ℕ → List Vector → List Scalar → Bool
could_meet ar dim p points box =
    let segment = meets ar dim (point points 0) (point points 1) (union_s ZERO ONE) 0 box in
    could_overlap (aabb ar dim points) box && cond (eqb p 1 && eqb (length points) 2) segment true
