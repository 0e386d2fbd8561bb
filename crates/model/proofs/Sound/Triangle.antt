-- The triangle that cuts a Bezier span: its sides hold the control values of the two parts, and the knots beside them are the parts' own. Assumes nothing.
use mathlib.Core.Path.{◌≡◌, refl, sym, ap, ap₂, ◌∙◌, subst}
use mathlib.Core.List.{List, [], ◌∷◌, ◌++◌, map, reverse}
use Prim.Native.Nat.{ℕ, zero, suc, ◌+◌, ◌-◌, ◌≤◌, ◌<◌}
use native.Mathlib.Nat.{lt_of_not-le}
use native.Mathlib.Decide.{dec_le}
use native.Mathlib.Omega.{arith}
use lib.ListN.{length, get_or, take, drop, replicate, length-append, length-drop, length-map, length-replicate, length-reverse, get_or-replicate, get_or-append}
use lib.Seq.{get_or-take, get_or-drop, get_or-append-add, length-take-le}
use lib.Ieee.{Float, nan}
use Rattle.exact.specs.Rational.{ℚ, lerp, ratio, ◌<ℚ◌}
use Rattle.exact.specs.Cut.{Good}
use Rattle.exact.specs.Bezier.{Bezier, tri, near_side, far_side}
use Rattle.exact.proofs.Splines.Bezier.{bezier_good}
use Rattle.lists.proofs.Each.{get_or_map, get_or_reverse, get_or_zip, length-zip}
use Rattle.lists.specs.Lists.{last_d}
use Rattle.math.specs.declared.scalars.Scalar.{Scalar}
use Rattle.std.specs.Prelude.{Some}
use Rattle.math.specs.Scalars.{Arithmetic, sharp}
use Rattle.math.specs.Values.{value, Holds}
use Rattle.math.specs.Encloses.{Encloses}
use Rattle.model.specs.Vector.{Vector, coordinate, interpolate_v}
use Rattle.model.specs.NurbCurve.{knot, point}
use Rattle.model.specs.KnotInsertion.{level, triangle, sides, bezier_knots}
use Rattle.model.proofs.Sound.Base.{values, Known, Inside}
use Rattle.model.proofs.Sound.Blend.{between_holds}
use Rattle.model.proofs.Sound.Parts.{Part}

-- ---- rows of the triangle
module _ (ar : Arithmetic) (α : Scalar) where
  pub length-level : (row : List Vector) → length (level ar α row) ≡ length row - 1
  unfolding level
  length-level [] = omega arith
  length-level (q ∷ qs) = length-zip (λ a b. interpolate_v ar a b α) (q ∷ qs) qs (omega arith) ∙ nat
    where
      nat : length qs ≡ suc (length qs) - 1
      nat = omega arith

  point-level : (row : List Vector) (j : ℕ) → suc j < length row → point (level ar α row) j ≡ interpolate_v ar (point row j) (point row (suc j)) α
  unfolding level
  point-level [] j h = absurd (omega arith)
  point-level (q ∷ qs) j h = get_or_zip (λ a b. interpolate_v ar a b α) (q ∷ qs) qs j [] [] [] (omega arith) (omega arith)

  pub length-triangle : (n : ℕ) (row : List Vector) → length (triangle ar α n row) ≡ n
  unfolding triangle
  length-triangle zero row = refl
  length-triangle (suc n) row = ap suc (length-triangle n (level ar α row))

-- ---- the sides: the first points of the rows, and the last points from the last row to the first
pub length-sides : (rows : List (List Vector)) → length (sides rows) ≡ length rows + length rows
unfolding sides
length-sides rows = length-append (map (λ row. get_or row 0 []) rows) (reverse (map (λ row. last_d row []) rows))
    ∙ ap₂ ◌+◌ (length-map rows (λ row. get_or row 0 [])) (length-reverse (map (λ row. last_d row []) rows) ∙ length-map rows (λ row. last_d row []))

side-near : (rows : List (List Vector)) (i : ℕ) → i < length rows → point (sides rows) i ≡ point (get_or rows i []) 0
unfolding sides
side-near rows i h =
    get_or-append (map (λ row. get_or row 0 []) rows) (reverse (map (λ row. last_d row []) rows)) [] i (subst (λ (k : ℕ). i < k) (sym (length-map rows (λ row. get_or row 0 []))) h)
    ∙ get_or_map (λ row. get_or row 0 []) rows i [] [] h

side-far : (rows : List (List Vector)) (i : ℕ) → i < length rows → point (sides rows) (length rows + i) ≡ last_d (get_or rows (length rows - suc i) []) []
unfolding sides
side-far rows i h =
    ap (λ (k : ℕ). get_or (map (λ row. get_or row 0 []) rows ++ reverse lasts) (k + i) []) (sym (length-map rows (λ row. get_or row 0 [])))
    ∙ get_or-append-add (map (λ row. get_or row 0 []) rows) (reverse lasts) i []
    ∙ get_or_reverse lasts i [] (subst (λ (k : ℕ). i < k) (sym same) h)
    ∙ ap (λ (k : ℕ). get_or lasts (k - suc i) []) same
    ∙ get_or_map (λ row. last_d row []) rows (length rows - suc i) [] [] (omega arith)
  where
    lasts : List Vector
    lasts = map (λ row. last_d row []) rows

    same : length (map (λ row. last_d row []) rows) ≡ length rows
    same = length-map rows (λ row. last_d row [])

-- ---- what the rows hold
module _ (ar : Arithmetic) (E : Encloses ar) (D : ℕ) (C : ℕ → ℕ → ℚ) (a x b : Float) (ka : Known a) (kx : Known x) (kb : Known b) (ax : value a <ℚ value x) (xb : value x <ℚ value b)
    (α : Scalar) (e : ar.div (ar.sub (sharp x) (sharp a)) (ar.sub (sharp b) (sharp a)) ≡ Some α) where
  abbrev ρ : ℚ
  ρ = ratio (value x) (value a) (value b)

  -- row r of the triangle over C, of m points
  record Row (r m : ℕ) (row : List Vector) : Type 0 where
    long : length row ≡ m
    holds : (k j : ℕ) → k < D → j < m → Holds (coordinate (point row j) k) (tri (ratio (value x) (value a) (value b)) r (C k) j)

  row-cast : {r r' m m' : ℕ} {row : List Vector} → r ≡ r' → m ≡ m' → Row r m row → Row r' m' row
  row-cast {r} {r'} {m} {m'} {row} h k w = subst (λ (z : ℕ). Row r' z row) k (subst (λ (z : ℕ). Row z m row) h w)

  row_first : (points : List Vector) → Inside D points C → Row zero (length points) points
  unfolding tri
  row_first points I = record { long = refl; holds = λ k j kD h. I.at k j kD h }

  row_next : (r m : ℕ) (row : List Vector) → Row r (suc m) row → Row (suc r) m (level ar α row)
  unfolding tri
  row_next r m row w = record {
    long = length-level ar α row ∙ nat w.long;
    holds = λ k j kD h. subst (λ (q : Vector). Holds (coordinate q k) (lerp ρ (tri ρ r (C k) j) (tri ρ r (C k) (suc j)))) (sym (point-level ar α row j (omega (arith, w.long))))
        (between_holds ar E a x b ka kx kb ax xb α e (point row j) (point row (suc j)) k _ _ (w.holds k j kD (omega arith)) (w.holds k (suc j) kD (omega arith)));
  }
    where
      nat : length row ≡ suc m → length row - 1 ≡ m
      nat h = omega arith

  row_of : (n r m i : ℕ) (row : List Vector) → Row r m row → n ≤ m → i < n → Row (r + i) (m - i) (get_or (triangle ar α n row) i [])
  unfolding triangle
  row_of zero r m i row w h l = absurd (omega arith)
  row_of (suc n) r zero i row w h l = absurd (omega arith)
  row_of (suc n) r (suc m) zero row w h l = row-cast (omega arith) (omega arith) w
  row_of (suc n) r (suc m) (suc i) row w h l = row-cast (omega arith) (omega arith) (row_of n (suc r) m i (level ar α row) (row_next r m row w) (omega arith) (omega arith))

  -- ---- what the sides hold
  module _ (p : ℕ) (points : List Vector) (full : length points ≡ suc p) (I : Inside D points C) where
    abbrev rows : List (List Vector)
    rows = triangle ar α (suc p) points

    row_at : (i : ℕ) → i ≤ p → Row i (suc p - i) (get_or (triangle ar α (suc p) points) i [])
    row_at i h = row-cast (omega arith) refl (row_of (suc p) zero (suc p) i points (row-cast refl full (row_first points I)) (omega arith) (omega arith))

    pub near_holds : (k i : ℕ) → k < D → i ≤ p → Holds (coordinate (point (sides (triangle ar α (suc p) points)) i) k) (near_side (ratio (value x) (value a) (value b)) (C k) i)
    near_holds k i kD h =
        subst (λ (q : Vector). Holds (coordinate q k) (near_side ρ (C k) i)) (sym (side-near rows i (omega (arith, length-triangle ar α (suc p) points))))
        ((row_at i h).holds k zero kD (omega arith))

    pub far_holds : (k i : ℕ) → k < D → i ≤ p → Holds (coordinate (point (sides (triangle ar α (suc p) points)) (suc p + i)) k) (far_side (ratio (value x) (value a) (value b)) p (C k) i)
    far_holds k i kD h = subst (λ (q : Vector). Holds (coordinate q k) (far_side ρ p (C k) i)) (sym there) ((row_at (p - i) (omega arith)).holds k i kD (omega arith))
      where
        L : length (triangle ar α (suc p) points) ≡ suc p
        L = length-triangle ar α (suc p) points

        ix : length (get_or (triangle ar α (suc p) points) (p - i) []) - 1 ≡ i
        ix = omega (arith, (row_at (p - i) (omega arith)).long)

        back : length (triangle ar α (suc p) points) - suc i ≡ p - i
        back = omega (arith, L)

        there : point (sides (triangle ar α (suc p) points)) (suc p + i) ≡ point (get_or (triangle ar α (suc p) points) (p - i) []) i
        there =
            ap (λ (z : ℕ). point (sides rows) (z + i)) (sym L) ∙ side-far rows i (omega (arith, L)) ∙ ap (λ (z : ℕ). last_d (get_or rows z []) []) back ∙ ap (point (get_or rows (p - i) [])) ix

-- ---- the knots: a, x and b, p + 1 times each
module _ (p : ℕ) (a x b : Float) where
  length_bezier : length (bezier_knots p a x b) ≡ suc p + (suc p + suc p)
  unfolding bezier_knots
  length_bezier = length-append (replicate (suc p) a) (replicate (suc p) x ++ replicate (suc p) b)
      ∙ ap₂ ◌+◌ (length-replicate (suc p) a) (length-append (replicate (suc p) x) (replicate (suc p) b) ∙ ap₂ ◌+◌ (length-replicate (suc p) x) (length-replicate (suc p) b))

  knot_a : (i : ℕ) → i ≤ p → knot (bezier_knots p a x b) i ≡ a
  unfolding bezier_knots
  knot_a i h =
      get_or-append (replicate (suc p) a) (replicate (suc p) x ++ replicate (suc p) b) nan i (subst (λ (z : ℕ). i < z) (sym (length-replicate (suc p) a)) (omega arith))
      ∙ get_or-replicate (suc p) i a nan (omega arith)

  behind_a : (j : ℕ) → knot (bezier_knots p a x b) (suc p + j) ≡ get_or (replicate (suc p) x ++ replicate (suc p) b) j nan
  unfolding bezier_knots
  behind_a j =
      ap (λ (z : ℕ). get_or (replicate (suc p) a ++ (replicate (suc p) x ++ replicate (suc p) b)) (z + j) nan) (sym (length-replicate (suc p) a))
      ∙ get_or-append-add (replicate (suc p) a) (replicate (suc p) x ++ replicate (suc p) b) j nan

  knot_x : (i : ℕ) → i ≤ p → knot (bezier_knots p a x b) (suc p + i) ≡ x
  knot_x i h =
      behind_a i ∙ get_or-append (replicate (suc p) x) (replicate (suc p) b) nan i (subst (λ (z : ℕ). i < z) (sym (length-replicate (suc p) x)) (omega arith))
      ∙ get_or-replicate (suc p) i x nan (omega arith)

  knot_b : (i : ℕ) → i ≤ p → knot (bezier_knots p a x b) (suc p + (suc p + i)) ≡ b
  knot_b i h = behind_a (suc p + i) ∙ ap (λ (z : ℕ). get_or (replicate (suc p) x ++ replicate (suc p) b) (z + i) nan) (sym (length-replicate (suc p) x))
      ∙ get_or-append-add (replicate (suc p) x) (replicate (suc p) b) i nan ∙ get_or-replicate (suc p) i b nan (omega arith)

-- the knots of a Bezier span from a to b
pub record Two (p : ℕ) (a b : Float) (ks : List Float) : Type 0 where
  pub long : length ks ≡ suc p + suc p
  pub first : (i : ℕ) → i ≤ p → knot ks i ≡ a
  pub second : (i : ℕ) → i ≤ p → knot ks (suc p + i) ≡ b

pub left_two : (p : ℕ) (a x b : Float) → Two p a x (take (suc p + suc p) (bezier_knots p a x b))
left_two p a x b = record {
  long = length-take-le (suc p + suc p) (bezier_knots p a x b) (omega (arith, length_bezier p a x b));
  first = λ i h. get_or-take (suc p + suc p) (bezier_knots p a x b) i nan (omega arith) ∙ knot_a p a x b i h;
  second = λ i h. get_or-take (suc p + suc p) (bezier_knots p a x b) (suc p + i) nan (omega arith) ∙ knot_x p a x b i h;
}

pub right_two : (p : ℕ) (a x b : Float) → Two p x b (drop (suc p) (bezier_knots p a x b))
right_two p a x b = record {
  long = omega (arith, length-drop (suc p) (bezier_knots p a x b), length_bezier p a x b);
  first = λ i h. get_or-drop (suc p) (bezier_knots p a x b) i nan ∙ knot_x p a x b i h;
  second = λ i h. get_or-drop (suc p) (bezier_knots p a x b) (suc p + i) nan ∙ knot_b p a x b i h;
}

module _ (p : ℕ) (a b : Float) (ks : List Float) (w : Two p a b ks) where
  behind : (i : ℕ) → p < i → i ≤ suc p + p → knot ks i ≡ b
  behind i h l = ap (knot ks) ix ∙ w.second (i - suc p) (omega arith)
    where
      ix : i ≡ suc p + (i - suc p)
      ix = omega arith

  pub two_bezier : Bezier p (values ks) (value a) (value b)
  two_bezier = record { start = λ i h. ap value (w.first i h); stop = λ i h l. ap value (behind i h l) }

  two_known : Known a → Known b → (i : ℕ) → i < length ks → Known (knot ks i)
  two_known ka kb i h = go (dec_le i p)
    where
      go : Dec (i ≤ p) → Known (knot ks i)
      go (yes m) = subst Known (sym (w.first i m)) ka
      go (no m) = subst Known (sym (behind i (lt_of_not-le m) (omega (arith, w.long)))) kb

  -- with p + 1 points they are a part
  pub two_part : (N : ℕ) (ps : List Vector) → suc p ≤ N → length ps ≡ suc p → Known a → Known b → value a <ℚ value b → Part p N (value a) (value b) (record { knots = ks; points = ps })
  two_part N ps sm l ka kb ab = record {
    knots = record {
      long = omega (arith, w.long, l);
      known = two_known ka kb;
      good = subst (λ (z : ℕ). Good p z (values ks)) (sym l) (bezier_good p (values ks) (value a) (value b) ab two_bezier);
    };
    small = omega (arith, l);
    from = two_bezier.start p (omega arith);
    upto = ap (values ks) l ∙ two_bezier.stop (suc p) (omega arith) (omega arith);
  }
