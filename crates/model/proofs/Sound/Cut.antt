-- The cut at x, by the triangle where the piece is a Bezier span and else by insertion: its two parts are accepted pieces that together hold what the piece held. Assumes nothing.
use mathlib.Core.Path.{◌≡◌, refl, sym, ap, ◌∙◌, subst}
use mathlib.Core.List.{List, []}
use mathlib.Core.Bool.{Bool, true, false, ◌&&◌}
use Prim.Native.Nat.{ℕ, suc, ◌+◌, ◌-◌, ◌≤◌, ◌<◌}
use native.Mathlib.Omega.{arith}
use lib.Dec.{T, eqb, eqb→eq}
use lib.ListN.{length, get_or, take, drop, length-drop}
use lib.Seq.{get_or-take, get_or-drop, length-take-le}
use lib.Ieee.Bits.{is_true}
use lib.Ieee.{Float, nan, eq}
use Rattle.exact.specs.Rational.{ℚ, ratio, ◌<ℚ◌}
use Rattle.exact.specs.Spline.{On}
use Rattle.exact.specs.Bezier.{Bezier, near_side, far_side}
use Rattle.exact.proofs.Splines.Bezier.{bezier_left, bezier_right}
use Rattle.lists.specs.Lists.{all}
use Rattle.lists.proofs.Fold.{all_get_or}
use Rattle.math.specs.declared.scalars.Scalar.{Scalar}
use Rattle.math.specs.Divided.{Divided}
use Rattle.std.specs.Prelude.{Some, None}
use Rattle.math.specs.Scalars.{Arithmetic, sharp}
use Rattle.math.specs.Values.{value, Holds}
use Rattle.math.specs.Encloses.{Encloses}
use Rattle.math.proofs.Bools.{and_l, and_r}
use Rattle.model.specs.Vector.{Vector, coordinate}
use Rattle.model.specs.NurbCurve.{Piece, knot}
use Rattle.model.specs.KnotInsertion.{triangle, sides, bezier_knots, is_bezier, multiplicity, bezier_cut, cut_by, full_cut, left_of, right_of}
use Rattle.model.proofs.Sound.Base.{values, Known, Knots, Inside}
use Rattle.model.proofs.Sound.Known.{eq_known}
use Rattle.model.proofs.Sound.Parts.{Parts, Keeps}
use Rattle.model.proofs.Sound.Boehm.{boehm_parts, boehm_keeps}
use Rattle.model.proofs.Sound.Triangle.{near_holds, far_holds, length-sides, length-triangle, left_two, right_two, two_bezier, two_part}

-- THE CUT BY THE TRIANGLE, of a Bezier span from knot p to knot p + 1
module _ (ar : Arithmetic) (E : Encloses ar) (D p : ℕ) (x : Float) (c : Piece) (C : ℕ → ℕ → ℚ) (K : Knots p (length c.points) c.knots) (I : Inside D c.points C) (kx : Known x) (full : length c.points ≡ suc p)
    (ax : values c.knots p <ℚ value x) (xb : value x <ℚ values c.knots (suc p)) (α : Scalar)
    (e : ar.div (ar.sub (sharp x) (sharp (knot c.knots p))) (ar.sub (sharp (knot c.knots (suc p))) (sharp (knot c.knots p))) ≡ Some α) where
  abbrev a : Float
  a = knot c.knots p

  abbrev b : Float
  b = knot c.knots (suc p)

  abbrev ρ : ℚ
  ρ = ratio (value x) (value (knot c.knots p)) (value (knot c.knots (suc p)))

  ka : Known (knot c.knots p)
  ka = K.known p (omega (arith, K.long))

  kb : Known (knot c.knots (suc p))
  kb = K.known (suc p) (omega (arith, K.long, full))

  abbrev ps : List Vector
  ps = sides (triangle ar α (suc p) c.points)

  length_both : length (sides (triangle ar α (suc p) c.points)) ≡ suc p + suc p
  length_both = length-sides (triangle ar α (suc p) c.points) ∙ ap (λ (z : ℕ). z + z) (length-triangle ar α (suc p) c.points)

  length_left : length (take (suc p) (sides (triangle ar α (suc p) c.points))) ≡ suc p
  length_left = length-take-le (suc p) ps (omega (arith, length_both))

  length_right : length (drop (suc p) (sides (triangle ar α (suc p) c.points))) ≡ suc p
  length_right = omega (arith, length-drop (suc p) ps, length_both)

  pub bezier_parts : Parts p (length c.points) (values c.knots p) (value x) (values c.knots (suc p)) (left_of p (bezier_cut ar p x α c)) (right_of (bezier_cut ar p x α c))
  unfolding bezier_cut
  bezier_parts = record {
    one = two_part p a x (take (suc p + suc p) (bezier_knots p a x b)) (left_two p a x b) (length c.points) (take (suc p) ps) (omega (arith, full)) length_left ka kx ax;
    two = two_part p x b (drop (suc p) (bezier_knots p a x b)) (right_two p a x b) (length c.points) (drop (suc p) ps) (omega (arith, full)) length_right kx kb xb;
  }

  pub bezier_keeps : Bezier p (values c.knots) (values c.knots p) (values c.knots (suc p)) → (t : ℚ) (v : ℕ → ℚ) → On p (length c.points) (values c.knots) C t v
      → Keeps D p t v (value x) (left_of p (bezier_cut ar p x α c)) (right_of (bezier_cut ar p x α c))
  unfolding bezier_cut
  bezier_keeps B t v o = record {
    left = λ tx. record {
      exact = λ k i. near_side ρ (C k) i;
      inside = record {
        at = λ k i kD h. subst (λ (q : Vector). Holds (coordinate q k) (near_side ρ (C k) i)) (sym (get_or-take (suc p) ps i [] (omega (arith, length_left))))
            (near_holds ar E D C a x b ka kx kb ax xb α e p c.points full I k i kD (omega (arith, length_left)));
      };
      on = subst (λ (z : ℕ). On p z (values (take (suc p + suc p) (bezier_knots p a x b))) (λ k i. near_side ρ (C k) i) t v) (sym length_left)
          (bezier_left p (values c.knots) (values (take (suc p + suc p) (bezier_knots p a x b))) C _ (value a) (value b) (value x) t v ax xb B (two_bezier p a x _ (left_two p a x b)) (λ _ _ _. refl) tx whole);
    };
    right = λ xt. record {
      exact = λ k i. far_side ρ p (C k) i;
      inside = record {
        at = λ k i kD h. subst (λ (q : Vector). Holds (coordinate q k) (far_side ρ p (C k) i)) (sym (get_or-drop (suc p) ps i []))
            (far_holds ar E D C a x b ka kx kb ax xb α e p c.points full I k i kD (omega (arith, length_right)));
      };
      on = subst (λ (z : ℕ). On p z (values (drop (suc p) (bezier_knots p a x b))) (λ k i. far_side ρ p (C k) i) t v) (sym length_right)
          (bezier_right p (values c.knots) (values (drop (suc p) (bezier_knots p a x b))) C _ (value a) (value b) (value x) t v ax xb B (two_bezier p x b _ (right_two p a x b)) (λ _ _ _. refl) xt whole);
    };
  }
    where
      whole : On p (suc p) (values c.knots) C t v
      whole = subst (λ (z : ℕ). On p z (values c.knots) C t v) full o

-- ---- what the test for a Bezier span says of known knots
module _ (p n : ℕ) (ks : List Float) (long : length ks ≡ suc (n + p)) (known : (i : ℕ) → i < length ks → Known (knot ks i)) (single : T (is_bezier p n ks)) where
  abbrev first : Bool
  first = all (λ u. eq u (knot ks 0)) (take (suc p) ks)

  abbrev second : Bool
  second = all (λ u. eq u (knot ks (suc p))) (drop (suc p) ks)

  passed : T (eqb n (suc p) && all (λ u. eq u (knot ks 0)) (take (suc p) ks) && all (λ u. eq u (knot ks (suc p))) (drop (suc p) ks))
  unfolding is_bezier
  passed = single

  pub bezier_count : n ≡ suc p
  bezier_count = eqb→eq n (suc p) (and_l (eqb n (suc p)) first (and_l (eqb n (suc p) && first) second passed))

  near : (i : ℕ) → i ≤ p → values ks i ≡ values ks 0
  near i h = eq_known (knot ks i) (knot ks 0) (known i (omega arith)) (known 0 (omega arith)) (subst T (ap (λ (u : Float). eq u (knot ks 0)) (get_or-take (suc p) ks i nan (omega arith))) each)
    where
      each : T (eq (get_or (take (suc p) ks) i nan) (knot ks 0))
      each =
          subst T
          (sym (all_get_or (λ u. eq u (knot ks 0)) (take (suc p) ks) i nan (is_true first (and_r (eqb n (suc p)) first (and_l (eqb n (suc p) && first) second passed))) (omega (arith, length-take-le (suc p) ks (omega arith))))) tt

  far : (j : ℕ) → j ≤ p → values ks (suc p + j) ≡ values ks (suc p)
  far j h =
      eq_known (knot ks (suc p + j)) (knot ks (suc p)) (known (suc p + j) (omega (arith, bezier_count))) (known (suc p) (omega (arith, bezier_count)))
      (subst T (ap (λ (u : Float). eq u (knot ks (suc p))) (get_or-drop (suc p) ks j nan)) each)
    where
      each : T (eq (get_or (drop (suc p) ks) j nan) (knot ks (suc p)))
      each =
          subst T
          (sym (all_get_or (λ u. eq u (knot ks (suc p))) (drop (suc p) ks) j nan (is_true second (and_r (eqb n (suc p) && first) second passed)) (omega (arith, length-drop (suc p) ks, bezier_count)))) tt

  pub bezier_span : Bezier p (values ks) (values ks p) (values ks (suc p))
  bezier_span = record { start = λ i h. near i h ∙ sym (near p (omega arith)); stop = λ i h l. ap (values ks) (ix i h) ∙ far (i - suc p) (omega arith) }
    where
      ix : (i : ℕ) → p < i → i ≡ suc p + (i - suc p)
      ix i h = omega arith

-- THE CUT
module _ (ar : Arithmetic) (E : Encloses ar) (D p : ℕ) (x : Float) (c : Piece) (C : ℕ → ℕ → ℚ) (K : Knots p (length c.points) c.knots) (I : Inside D c.points C) (kx : Known x)
    (px : values c.knots p <ℚ value x) (xn : value x <ℚ values c.knots (length c.points)) where
  abbrev n : ℕ
  n = length c.points

  abbrev u : ℕ → ℚ
  u = values c.knots

  -- how far x lies from knot p to knot p + 1
  abbrev along : Divided
  along = ar.div (ar.sub (sharp x) (sharp (knot c.knots p))) (ar.sub (sharp (knot c.knots (suc p))) (sharp (knot c.knots p)))

  module _ (single : T (is_bezier p (length c.points) c.knots)) where
    full : length c.points ≡ suc p
    full = bezier_count p n c.knots K.long K.known single

    xb : value x <ℚ values c.knots (suc p)
    xb = subst (λ (z : ℕ). value x <ℚ u z) full xn

    triangle-parts : (α : Scalar) → along ≡ Some α → Parts p n (u p) (value x) (u n) (left_of p (bezier_cut ar p x α c)) (right_of (bezier_cut ar p x α c))
    triangle-parts α e =
        subst (λ (z : ℕ). Parts p n (u p) (value x) (u z) (left_of p (bezier_cut ar p x α c)) (right_of (bezier_cut ar p x α c))) (sym full) (bezier_parts ar E D p x c C K I kx full px xb α e)

    triangle-keeps : (α : Scalar) → along ≡ Some α → (t : ℚ) (v : ℕ → ℚ) → On p n u C t v → Keeps D p t v (value x) (left_of p (bezier_cut ar p x α c)) (right_of (bezier_cut ar p x α c))
    triangle-keeps α e = bezier_keeps ar E D p x c C K I kx full px xb α e (bezier_span p n c.knots K.long K.known single)

  parts_by : (z : Bool) (r : Divided) → (T z → T (is_bezier p n c.knots)) → along ≡ r → Parts p n (u p) (value x) (u n) (left_of p (cut_by ar p x c z r)) (right_of (cut_by ar p x c z r))
  unfolding cut_by
  parts_by true (Some α) single e = triangle-parts (single tt) α e
  parts_by true None single e = boehm_parts ar E D p x c C K I kx px xn
  parts_by false r single e = boehm_parts ar E D p x c C K I kx px xn

  keeps_by : (z : Bool) (r : Divided) → (T z → T (is_bezier p n c.knots)) → along ≡ r → (t : ℚ) (v : ℕ → ℚ) → On p n u C t v
      → Keeps D p t v (value x) (left_of p (cut_by ar p x c z r)) (right_of (cut_by ar p x c z r))
  unfolding cut_by
  keeps_by true (Some α) single e = triangle-keeps (single tt) α e
  keeps_by true None single e = boehm_keeps ar E D p x c C K I kx px xn
  keeps_by false r single e = boehm_keeps ar E D p x c C K I kx px xn

  -- the test that the cut makes
  abbrev test : Bool
  test = eqb (multiplicity x c.knots) 0 && is_bezier p (length c.points) c.knots

  pub cut_parts : Parts p (length c.points) (values c.knots p) (value x) (values c.knots (length c.points)) (left_of p (full_cut ar p x c)) (right_of (full_cut ar p x c))
  unfolding full_cut
  cut_parts = parts_by test along (and_r (eqb (multiplicity x c.knots) 0) (is_bezier p n c.knots)) refl

  pub cut_keeps : (t : ℚ) (v : ℕ → ℚ) → On p (length c.points) (values c.knots) C t v → Keeps D p t v (value x) (left_of p (full_cut ar p x c)) (right_of (full_cut ar p x c))
  unfolding full_cut
  cut_keeps = keeps_by test along (and_r (eqb (multiplicity x c.knots) 0) (is_bezier p n c.knots)) refl
