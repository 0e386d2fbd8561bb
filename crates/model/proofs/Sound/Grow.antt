-- Inserting x again and again: the knots stay known and in order, and the points hold control values of the same curve. Assumes nothing.
use mathlib.Core.Path.{◌≡◌, refl, sym, ap, ◌∙◌, subst}
use mathlib.Core.List.{List}
use Prim.Native.Nat.{ℕ, zero, suc, ◌+◌, ◌-◌, ◌≤◌, ◌<◌}
use native.Mathlib.Omega.{arith}
use lib.ListN.{length}
use lib.Ieee.{Float}
use Rattle.exact.specs.Rational.{ℚ, ◌≤ℚ◌, ◌<ℚ◌}
use Rattle.exact.specs.Spline.{Sorted}
use Rattle.exact.specs.Insertion.{knots, ctrls}
use Rattle.exact.specs.Cut.{Good, Group, Raised}
use Rattle.exact.proofs.Order.{lt→le}
use Rattle.exact.proofs.Splines.Boor.{lt_cast}
use Rattle.exact.proofs.Splines.Group.{group_p, group_n}
use Rattle.exact.proofs.Splines.Raise.{raised_zero, raised-insert}
use Rattle.math.specs.Scalars.{Arithmetic}
use Rattle.math.specs.Values.{value}
use Rattle.math.specs.Encloses.{Encloses}
use Rattle.model.specs.Vector.{Vector}
use Rattle.model.specs.NurbCurve.{Piece, knot}
use Rattle.model.specs.KnotInsertion.{insertion_span, highest, insert_once, insert_times, knots_with}
use Rattle.model.proofs.Sound.Base.{values, Known, Knots, Inside}
use Rattle.model.proofs.Sound.Insert.{Falls, falls, values-with, known_with, length-knots, length-points, once_inside}

-- c is what e insertions of x leave of n points with the knots u and the control values C, where x stood s times from knot m on
pub record Grown (D p n : ℕ) (u : ℕ → ℚ) (C : ℕ → ℕ → ℚ) (x : Float) (m s e : ℕ) (c : Piece) : Type 0 where
  pub exact : ℕ → ℕ → ℚ
  pub inside : Inside D c.points exact
  pub raised : Raised p n u C (value x) m s e (length c.points) (values c.knots) exact
  pub long : length c.knots ≡ suc (length c.points + p)
  pub known : (i : ℕ) → i < length c.knots → Known (knot c.knots i)

pub grown_none : (D p : ℕ) (c : Piece) (C : ℕ → ℕ → ℚ) (x : Float) (m s : ℕ) → Knots p (length c.points) c.knots → Inside D c.points C
    → Group (length c.points + p) (values c.knots) (value x) m s
    → Grown D p (length c.points) (values c.knots) C x m s zero c
grown_none D p c C x m s K I g = record { exact = C; inside = I; raised = raised_zero p (length c.points) (values c.knots) C (value x) m s K.good.sorted g; long = K.long; known = K.known }

-- x lies in span k of a piece, so that it may be inserted there
pub record InSpan (p k : ℕ) (x : Float) (c : Piece) : Type 0 where
  pub from : p ≤ k
  pub upto : k < length c.points
  pub long : length c.knots ≡ suc (length c.points + p)
  pub known_x : Known x
  pub known : (i : ℕ) → i < length c.knots → Known (knot c.knots i)
  pub sorted : Sorted (values c.knots) (length c.points + p)
  pub after : values c.knots k ≤ℚ value x
  pub before : value x <ℚ values c.knots (suc k)

-- the span that is searched for is such a one
pub grown-span : (D p n : ℕ) (u : ℕ → ℚ) (C : ℕ → ℕ → ℚ) (x : Float) (m s : ℕ) → Good p n u → Known x → u p <ℚ value x → value x <ℚ u n
    → (e : ℕ) (c : Piece) → Grown D p n u C x m s e c → InSpan p (insertion_span p (length c.points) c.knots x) x c
unfolding insertion_span
grown-span D p n u C x m s good kx px xn e c r = record {
  from = f.from;
  upto = omega (arith, f.upto, p<n);
  long = r.long;
  known_x = kx;
  known = r.known;
  sorted = r.raised.sorted;
  after = f.after;
  before = f.before;
}
  where
    p<n : p < length c.points
    p<n = omega (arith, good.room, r.raised.count)

    first : values c.knots p ≡ u p
    first = r.raised.low p (group_p (n + p) u (value x) m s p r.raised.first (omega arith) px)

    last : values c.knots (p + (length c.points - p)) ≡ u n
    last = ap (values c.knots) (ix r.raised.count p<n) ∙ r.raised.high n (group_n (n + p) u (value x) m s n r.raised.first xn)
      where
        ix : length c.points ≡ n + e → p < length c.points → p + (length c.points - p) ≡ n + e
        ix c l = omega arith

    f : Falls c.knots p x (length c.points - p) (highest c.knots x p (length c.points - p))
    f = falls c.knots p x (length c.points - p) kx (λ i h. r.known i (omega (arith, r.long, p<n))) (lt→le (lt_cast (sym first) refl px)) (lt_cast refl (sym last) xn)

module _ (ar : Arithmetic) (E : Encloses ar) (D p n : ℕ) (u : ℕ → ℚ) (C : ℕ → ℕ → ℚ) (x : Float) (m s : ℕ) (good : Good p n u) (kx : Known x) (px : u p <ℚ value x) (xn : value x <ℚ u n) where
  -- one more
  pub grown-once : (e : ℕ) (c : Piece) → Grown D p n u C x m s e c → Grown D p n u C x m s (suc e) (insert_once ar p (insertion_span p (length c.points) c.knots x) x c)
  unfolding insert_once
  grown-once e c r = record {
    exact = λ a. ctrls p (values ks) (r.exact a) (value x) k;
    inside = once_inside ar E D p k x ks ps r.exact f.from f.upto r.long kx r.known r.raised.sorted f.after f.before r.inside;
    raised =
        subst (λ (z : ℕ). Raised p n u C (value x) m s (suc e) z (values (knots_with k x ks)) (λ a. ctrls p (values ks) (r.exact a) (value x) k))
        (sym (length-points ar p k x ks ps f.from f.upto))
        (subst (λ (z : ℕ → ℚ). Raised p n u C (value x) m s (suc e) (suc (length ps)) z (λ a. ctrls p (values ks) (r.exact a) (value x) k)) (sym same)
        (raised-insert p n u C (value x) m s e (length ps) (values ks) r.exact k r.raised (omega (arith, f.upto)) f.after f.before));
    long = omega (arith, length-knots k x ks kl, r.long, length-points ar p k x ks ps f.from f.upto);
    known = known_with k x ks kl kx r.known;
  }
    where
      ks : List Float
      ks = c.knots

      ps : List Vector
      ps = c.points

      k : ℕ
      k = insertion_span p (length c.points) c.knots x

      f : InSpan p (insertion_span p (length c.points) c.knots x) x c
      f = grown-span D p n u C x m s good kx px xn e c r

      kl : insertion_span p (length c.points) c.knots x < length c.knots
      kl = omega (arith, f.upto, r.long)

      same : values (knots_with (insertion_span p (length c.points) c.knots x) x c.knots) ≡ knots (values c.knots) (value x) (insertion_span p (length c.points) c.knots x)
      same = λ j i. values-with (insertion_span p (length c.points) c.knots x) x c.knots kl i j

  -- and as many as are asked for
  pub grown-times : (j e : ℕ) (c : Piece) → Grown D p n u C x m s e c → Grown D p n u C x m s (e + j) (insert_times ar p x j c)
  unfolding insert_times
  grown-times zero e c r = subst (λ (z : ℕ). Grown D p n u C x m s z c) (ix e) r
    where
      ix : (e : ℕ) → e ≡ e + zero
      ix e = omega arith
  grown-times (suc j) e c r =
      subst (λ (z : ℕ). Grown D p n u C x m s z (insert_times ar p x j (insert_once ar p (insertion_span p (length c.points) c.knots x) x c))) (ix e j)
      (grown-times j (suc e) _ (grown-once e c r))
    where
      ix : (e j : ℕ) → suc e + j ≡ e + suc j
      ix e j = omega arith
