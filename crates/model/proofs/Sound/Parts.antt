-- What the parts of a cut owe, and that a piece in which x occurs degree + 1 times falls into such parts. Assumes nothing.
use mathlib.Core.Path.{◌≡◌, refl, sym, ap, ◌∙◌, subst}
use mathlib.Core.List.{List, []}
use Prim.Native.Nat.{ℕ, suc, ◌+◌, ◌-◌, ◌≤◌, ◌<◌}
use native.Mathlib.Omega.{arith}
use lib.ListN.{length, take, drop, length-drop}
use lib.Seq.{get_or-take, get_or-drop, length-take-le}
use lib.Ieee.{Float, nan}
use Rattle.exact.specs.Rational.{ℚ, ◌≤ℚ◌, ◌<ℚ◌}
use Rattle.exact.specs.Spline.{shut, On}
use Rattle.exact.specs.Cut.{Good, shift}
use Rattle.exact.proofs.Splines.Boor.{lt_cast, le_cast}
use Rattle.exact.proofs.Splines.On.{side_cong}
use Rattle.exact.proofs.Splines.Cut.{good_left, good_right, cut_left, cut_right, count_left, count_right, ends_left, ends_right}
use Rattle.math.specs.Values.{value, Holds}
use Rattle.model.specs.Vector.{Vector, coordinate}
use Rattle.model.specs.NurbCurve.{Piece}
use Rattle.model.proofs.Sound.Base.{values, Known, Knots, Carries}
use Rattle.model.proofs.Sound.Grow.{Grown}

-- ---- what a part of a piece owes: accepted knots, no more points, and its domain's ends
pub record Part (p N : ℕ) (a b : ℚ) (c : Piece) : Type 0 where
  pub knots : Knots p (length c.points) c.knots
  pub small : length c.points ≤ N
  pub from : values c.knots p ≡ a
  pub upto : values c.knots (length c.points) ≡ b

-- the two parts of a cut at x
pub record Parts (p N : ℕ) (a x b : ℚ) (l r : Piece) : Type 0 where
  pub one : Part p N a x l
  pub two : Part p N x b r

-- and what they hold of a piece that passes v at t
pub record Keeps (D p : ℕ) (t : ℚ) (v : ℕ → ℚ) (x : ℚ) (l r : Piece) : Type 0 where
  pub left : t ≤ℚ x → Carries D p t v l
  pub right : x ≤ℚ t → Carries D p t v r

-- ---- only the knots 0 to n + p count
pub good_cong : (p n : ℕ) (u v : ℕ → ℚ) → ((i : ℕ) → i ≤ n + p → u i ≡ v i) → Good p n u → Good p n v
good_cong p n u v e g = record {
  sorted = record { up = λ i j h k. le_cast (e i (omega arith)) (e j k) (g.sorted.up i j h k) };
  room = g.room;
  span = lt_cast (e p (omega arith)) (e n (omega arith)) g.span;
  thin = record { apart = λ i h a b. lt_cast (e i (omega arith)) (e (i + p) (omega arith)) (g.thin.apart i h (lt_cast (sym (e p (omega arith))) (sym (e i (omega arith))) a) (lt_cast (sym (e i (omega arith))) (sym (e n (omega arith))) b)) };
  loose = λ i h. lt_cast (e i (omega arith)) (e (suc (i + p)) (omega arith)) (g.loose i h);
}

-- ---- the two parts of a list of knots and points
module _ (D p n : ℕ) (u : ℕ → ℚ) (C : ℕ → ℕ → ℚ) (x : Float) (m s e : ℕ) (z : Piece) (good : Good p n u) (r : Grown D p n u C x m s e z) (se : s + e ≡ suc p) (px : u p <ℚ value x) (xn : value x <ℚ u n) where
  abbrev ks : List Float
  ks = z.knots

  abbrev ps : List Vector
  ps = z.points

  lefts : (p < m) × (m ≤ n)
  lefts = count_left p n u C (value x) m s e (length ps) (values ks) r.exact good r.raised se px xn

  rights : (p < length ps - m) × (length ps - m ≤ n)
  rights = count_right p n u C (value x) m s e (length ps) (values ks) r.exact good r.raised se px xn

  pub m<n' : m < length z.points
  m<n' = omega (arith, rights.0)

  len_l : length (take m ps) ≡ m
  len_l = length-take-le m ps (omega (arith, m<n'))

  len_r : length (drop m ps) ≡ length ps - m
  len_r = length-drop m ps

  left_values : (i : ℕ) → i ≤ m + p → values ks i ≡ values (take (m + suc p) ks) i
  left_values i h = ap value (sym (get_or-take (m + suc p) ks i nan (omega arith)))

  right_values : (i : ℕ) → shift m (values ks) i ≡ values (drop m ks) i
  unfolding shift
  right_values i = ap value (sym (get_or-drop m ks i nan))

  left_part : Part p n (u p) (value x) (record { knots = take (m + suc p) z.knots; points = take m z.points })
  left_part = record {
    knots = record {
      long = length-take-le (m + suc p) ks (omega (arith, m<n', r.long)) ∙ nat;
      known = λ i h. subst Known (sym (get_or-take (m + suc p) ks i nan (omega (arith, length-take-le (m + suc p) ks (omega (arith, m<n', r.long)))))) (r.known i (omega (arith, length-take-le (m + suc p) ks (omega (arith, m<n', r.long)), m<n', r.long)));
      good = subst (λ (k : ℕ). Good p k (values (take (m + suc p) ks))) (sym len_l) (good_cong p m (values ks) (values (take (m + suc p) ks)) left_values (good_left p n u C (value x) m s e (length ps) (values ks) r.exact good r.raised se px xn));
    };
    small = omega (arith, len_l, lefts.1);
    from = sym (left_values p (omega arith)) ∙ ends.0;
    upto = ap (values (take (m + suc p) ks)) len_l ∙ sym (left_values m (omega arith)) ∙ ends.1;
  }
    where
      nat : m + suc p ≡ suc (length (take m ps) + p)
      nat = omega (arith, len_l)

      ends : (values ks p ≡ u p) × (values ks m ≡ value x)
      ends = ends_left p n u C (value x) m s e (length ps) (values ks) r.exact good r.raised se px xn

  right_part : Part p n (value x) (u n) (record { knots = drop m z.knots; points = drop m z.points })
  right_part = record {
    knots = record {
      long = length-drop m ks ∙ nat;
      known = λ i h. subst Known (sym (get_or-drop m ks i nan)) (r.known (m + i) (omega (arith, length-drop m ks)));
      good = subst (λ (k : ℕ). Good p k (values (drop m ks))) (sym len_r) (good_cong p (length ps - m) (shift m (values ks)) (values (drop m ks)) (λ i _. right_values i) (good_right p n u C (value x) m s e (length ps) (values ks) r.exact good r.raised se px xn));
    };
    small = omega (arith, len_r, rights.1);
    from = sym (right_values p) ∙ ends.0;
    upto = ap (values (drop m ks)) len_r ∙ sym (right_values (length ps - m)) ∙ ends.1;
  }
    where
      nat : length ks - m ≡ suc (length (drop m ps) + p)
      nat = omega (arith, len_r, r.long, m<n')

      ends : (shift m (values ks) p ≡ value x) × (shift m (values ks) (length ps - m) ≡ u n)
      ends = ends_right p n u C (value x) m s e (length ps) (values ks) r.exact good r.raised se px xn

  pub severed : Parts p n (u p) (value x) (u n) (record { knots = take (m + suc p) z.knots; points = take m z.points }) (record { knots = drop m z.knots; points = drop m z.points })
  severed = record { one = left_part; two = right_part }

  pub severed_keeps : (t : ℚ) (v : ℕ → ℚ) → On p n u C t v
      → Keeps D p t v (value x) (record { knots = take (m + suc p) z.knots; points = take m z.points }) (record { knots = drop m z.knots; points = drop m z.points })
  severed_keeps t v o = record {
    left = λ tx. record {
      exact = r.exact;
      inside = record { at = λ a i aD h. subst (λ (q : Vector). Holds (coordinate q a) (r.exact a i)) (sym (get_or-take m ps i [] (omega (arith, len_l)))) (r.inside.at a i aD (omega (arith, len_l, m<n'))) };
      on = subst (λ (k : ℕ). On p k (values (take (m + suc p) ks)) r.exact t v) (sym len_l) (side_cong shut p m (values ks) (values (take (m + suc p) ks)) r.exact r.exact t v left_values (λ _ _ _. refl) (cut_left p n u C (value x) m s e (length ps) (values ks) r.exact good r.raised se px xn t v tx o));
    };
    right = λ xt. record {
      exact = λ a. shift m (r.exact a);
      inside = record { at = λ a i aD h. unfold shift in subst (λ (q : Vector). Holds (coordinate q a) (r.exact a (m + i))) (sym (get_or-drop m ps i [])) (r.inside.at a (m + i) aD (omega (arith, len_r))) };
      on = subst (λ (k : ℕ). On p k (values (drop m ks)) (λ a. shift m (r.exact a)) t v) (sym len_r) (side_cong shut p (length ps - m) (shift m (values ks)) (values (drop m ks)) (λ a. shift m (r.exact a)) (λ a. shift m (r.exact a)) t v (λ i _. right_values i) (λ _ _ _. refl) (cut_right p n u C (value x) m s e (length ps) (values ks) r.exact good r.raised se px xn t v xt o));
    };
  }
