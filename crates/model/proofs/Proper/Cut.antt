-- Cuts: where the points of a piece are in order, so are those of both parts. Assumes nothing.
use mathlib.Core.Path.{◌≡◌, refl, subst}
use mathlib.Core.Bool.{Bool, true, false, ◌&&◌}
use mathlib.Core.List.{List, [], ◌∷◌, map, reverse}
use Prim.Native.Nat.{ℕ, zero, suc, ◌+◌, ◌-◌, ◌≤◌, ◌<◌}
use native.Mathlib.Omega.{arith}
use lib.Dec.{T, eqb}
use lib.ListN.{length, get_or}
use lib.Ieee.{Float}
use Rattle.exact.specs.Rational.{0ℚ, ◌<ℚ◌}
use Rattle.exact.specs.Cut.{Grouped}
use Rattle.exact.proofs.Splines.Group.{group-find}
use Rattle.lists.specs.Lists.{last_d}
use Rattle.math.specs.declared.scalars.Scalar.{Scalar}
use Rattle.math.specs.Divided.{Divided}
use Rattle.std.specs.Prelude.{Some, None}
use Rattle.math.specs.Scalars.{Arithmetic, sharp}
use Rattle.math.specs.Values.{value}
use Rattle.math.specs.Encloses.{Encloses}
use Rattle.math.proofs.Bools.{and_r}
use Rattle.model.specs.Vector.{Vector, interpolate_v}
use Rattle.model.specs.NurbCurve.{Piece, knot}
use Rattle.model.specs.KnotInsertion.{is_bezier, level, triangle, sides, bezier_cut, multiplicity, boehm_cut, cut_by, full_cut, insert_times}
use Rattle.model.specs.Enclosure.{Every}
use Rattle.model.proofs.Sound.Base.{values, Known, Knots}
use Rattle.model.proofs.Sound.Grow.{Grown, grown_none}
use Rattle.model.proofs.Sound.Triangle.{length-level}
use Rattle.model.proofs.Sound.Cut.{bezier_count}
use Rattle.model.proofs.Sound.Restrict.{Strict}
use Rattle.model.proofs.Every.{every_append, every_map, every-reverse, every_at, every-zip}
use Rattle.model.proofs.Proper.Blend.{Solid, Gentle, vector_solid, fraction_gentle}
use Rattle.model.proofs.Proper.Insert.{times_solid}

-- ---- x strictly inside the domain of a piece
module _ (p : ℕ) (x : Float) (c : Piece) (K : Knots p (length c.points) c.knots) (i : Strict p c x) where
  pub grouped : Grouped (length c.points + p) (values c.knots) (value x)
  grouped = group-find (length c.points + p) (values c.knots) (value x) K.good.sorted

  -- no insertion was made yet
  pub ungrown : Grown 0 p (length c.points) (values c.knots) (λ _ _. 0ℚ) x grouped.m grouped.s zero c
  ungrown = grown_none 0 p c (λ _ _. 0ℚ) x grouped.m grouped.s (K) (record { at = λ a i h. absurd (omega arith) }) grouped.group

  -- and where the piece is one Bezier span
  module _ (single : T (is_bezier p (length c.points) c.knots)) where
    pub full : length c.points ≡ suc p
    full = bezier_count p (length c.points) c.knots K.long K.known single

    pub known_a : Known (knot c.knots p)
    known_a = K.known p (omega (arith, K.long))

    pub known_b : Known (knot c.knots (suc p))
    known_b = K.known (suc p) (omega (arith, K.long, full))

    pub before_b : value x <ℚ values c.knots (suc p)
    before_b = subst (λ (z : ℕ). value x <ℚ values c.knots z) full i.upto

-- a row of the triangle: it has points, and they are in order
pub record RowSolid (dim : ℕ) (row : List Vector) : Type 0 where
  pub some : 0 < length row
  pub each : Every (Solid dim) row

module _ (ar : Arithmetic) (E : Encloses ar) (dim : ℕ) where
  -- ---- the triangle
  module _ (α : Scalar) (g : Gentle ar E α) where
    pub level_solid : (row : List Vector) → Every (Solid dim) row → Every (Solid dim) (level ar α row)
    unfolding level
    level_solid [] S = tt
    level_solid (q ∷ qs) S = every-zip (Solid dim) (Solid dim) (Solid dim) (λ a b. interpolate_v ar a b α) (λ a b A B. vector_solid ar E α g dim a b A B) (q ∷ qs) qs S S.1

    triangle-rows : (n : ℕ) (row : List Vector) → n ≤ length row → Every (Solid dim) row → Every (RowSolid dim) (triangle ar α n row)
    unfolding triangle
    triangle-rows zero row h S = tt
    triangle-rows (suc n) row h S = (record { some = omega arith; each = S }, triangle-rows n (level ar α row) (omega (arith, length-level ar α row)) (level_solid row S))

    sides_solid : (rows : List (List Vector)) → Every (RowSolid dim) rows → Every (Solid dim) (sides rows)
    unfolding sides
    sides_solid rows F = every_append (Solid dim) (map (λ row. get_or row 0 []) rows) (reverse (map (λ row. last_d row []) rows))
        (every_map (RowSolid dim) (Solid dim) (λ row. get_or row 0 []) (λ row f. every_at (Solid dim) row 0 [] f.each f.some) rows F)
        (every-reverse (Solid dim) (map (λ row. last_d row []) rows)
        (every_map (RowSolid dim) (Solid dim) (λ row. last_d row []) (λ row f. every_at (Solid dim) row (length row - 1) [] f.each (omega (arith, f.some))) rows F))

    bezier_solid : (p : ℕ) (x : Float) (c : Piece) → length c.points ≡ suc p → Every (Solid dim) c.points → Every (Solid dim) (bezier_cut ar p x α c).piece.points
    unfolding bezier_cut
    bezier_solid p x c full S = sides_solid (triangle ar α (suc p) c.points) (triangle-rows (suc p) c.points (omega (arith, full)) S)

  module _ (p : ℕ) (x : Float) (c : Piece) (K : Knots p (length c.points) c.knots) (i : Strict p c x) (S : Every (Solid dim) c.points) where
    inserted_solid : (j : ℕ) → Every (Solid dim) (insert_times ar p x j c).points
    inserted_solid j =
        let g = grouped p x c K i in
        times_solid ar E dim p (length c.points) (values c.knots) (λ _ _. 0ℚ) x g.m g.s K.good i.known i.from i.upto j zero c (ungrown p x c K i) S

    boehm_solid : Every (Solid dim) (boehm_cut ar p x c).piece.points
    unfolding boehm_cut
    boehm_solid = inserted_solid (suc p - multiplicity x c.knots)

    abbrev along : Divided
    along = ar.div (ar.sub (sharp x) (sharp (knot c.knots p))) (ar.sub (sharp (knot c.knots (suc p))) (sharp (knot c.knots p)))

    -- THE CUT
    pub cut_solid : Every (Solid dim) (full_cut ar p x c).piece.points
    unfolding full_cut cut_by
    cut_solid = go (eqb (multiplicity x c.knots) 0 && is_bezier p (length c.points) c.knots) along refl (and_r (eqb (multiplicity x c.knots) 0) (is_bezier p (length c.points) c.knots))
      where
        go : (z : Bool) (r : Divided) → along ≡ r → (T z → T (is_bezier p (length c.points) c.knots)) → Every (Solid dim) (cut_by ar p x c z r).piece.points
        go false r e h = boehm_solid
        go true None e h = boehm_solid
        go true (Some α) e h =
            let ka = known_a p x c K i (h tt) in
            bezier_solid α (fraction_gentle ar E (knot c.knots p) x (knot c.knots (suc p)) ka i.known (known_b p x c K i (h tt)) i.from (before_b p x c K i (h tt)) α e) p x c (full p x c K i (h tt)) S
