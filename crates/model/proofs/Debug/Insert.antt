-- Points between points, and insertions: no test fires. Assumes nothing.
use mathlib.Core.Path.{◌≡◌, refl, sym, subst}
use mathlib.Core.Bool.{Bool, true, false, cond, ◌||◌}
use mathlib.Core.List.{List, []}
use Prim.Native.Nat.{ℕ, zero, suc, ◌+◌, ◌-◌, ◌<◌}
use native.Mathlib.Omega.{arith}
use lib.ListN.{length}
use lib.Ieee.{Float, eq}
use Rattle.exact.specs.Rational.{ℚ, ◌≤ℚ◌, ◌<ℚ◌}
use Rattle.exact.specs.Cut.{Good}
use Rattle.math.specs.declared.scalars.Scalar.{Scalar}
use Rattle.math.specs.Divided.{Divided}
use Rattle.std.specs.Prelude.{Some, None}
use Rattle.math.specs.Scalars.{geop, sharp, ZERO, ONE, is_same, has_zero, could_be_equal, value_or, sub_s, mul_s, inverse_s, div_s, interpolate_s}
use Rattle.math.specs.Values.{value, Proper}
use Rattle.math.proofs.Intervals.Instance.{geop_encloses}
use Rattle.math.proofs.Intervals.Proper.{geop_in_order}
use Rattle.model.specs.Vector.{Vector, interpolate_v}
use Rattle.model.specs.NurbCurve.{Piece, knot, point}
use Rattle.model.specs.KnotInsertion.{alpha, blend, points_with, insert_once, insertion_span, insert_times}
use Rattle.model.specs.Enclosure.{Every}
use Rattle.model.specs.Tested as tested
use Rattle.model.specs.Tested.{fine, ◌>>=◌}
use Rattle.model.specs.Debug as debug
use Rattle.model.proofs.Every.{every_at}
use Rattle.model.proofs.Sound.Base.{Known}
use Rattle.model.proofs.Sound.Grow.{Grown, InSpan, grown-span, grown-once}
use Rattle.model.proofs.Proper.Blend.{Solid, Gentle, gentle_proper, Fraction, none_of, some_of, known_number, known_proper, fraction, not_last, strictly, alpha_gentle}
use Rattle.model.proofs.Proper.Insert.{knot_low, knot_high, once_solid}
use Rattle.model.proofs.Debug.Ops.{sharp_fine, sub_fine, div_fine, interpolate_fine}
use Rattle.model.proofs.Debug.Lists.{tab_fine, zip_fine}

pub known_fine : (x : Float) → Known x → tested.sharp x ≡ fine (sharp x)
known_fine x k = sharp_fine x (known_number x k)

-- the difference of two knots
pub known_sub : (x y : Float) → Known x → Known y → Proper (sub_s (sharp x) (sharp y))
known_sub x y kx ky = geop_in_order.sub_proper (sharp x) (sharp y) (known_proper x kx) (known_proper y ky)

pub vector_fine : (α : Scalar) → Gentle geop geop_encloses α → (a b : Vector) → Every Proper a → Every Proper b → debug.interpolate_v a b α ≡ fine (interpolate_v geop a b α)
unfolding debug.interpolate_v interpolate_v
vector_fine α g a b A B =
    zip_fine Proper Proper (λ x y. tested.interpolate x y α) (λ x y. interpolate_s geop x y α)
    (λ x y X Y. interpolate_fine x y α X Y (gentle_proper geop geop_encloses α g) (g.tame x y)) a b A B

-- a division that succeeds has a divisor without zero
no_zero : (x y f : Scalar) → div_s x y ≡ Some f → has_zero y ≡ false
unfolding div_s
no_zero x y f e = go (has_zero y) refl e
  where
    go : (z : Bool) → has_zero y ≡ z → cond z None (Some (mul_s x (inverse_s y))) ≡ Some f → has_zero y ≡ false
    go false h e = h
    go true h e = absurd (apart e)
      where
        IsValue : Divided → Type 0
        IsValue (Some c) = Unit {0}
        IsValue None = ⊥

        apart : None ≡ Some f → ⊥
        apart e = subst IsValue (sym e) tt

-- ---- the fraction: t is at knot a or after it, and before knot b
module _ (p : ℕ) (ks : List Float) (t : Float) (i : ℕ) (ka : Known (knot ks i)) (kt : Known t) (kb : Known (knot ks (i + p))) (at : value (knot ks i) ≤ℚ value t)
    (tb : value t <ℚ value (knot ks (i + p))) where
  abbrev a : Float
  a = knot ks i

  abbrev b : Float
  b = knot ks (i + p)

  alpha_fine : debug.alpha p ks t i ≡ fine (alpha geop p ks t i)
  unfolding debug.alpha alpha
  alpha_fine = rw (known_fine b kb, known_fine a ka, sub_fine (sharp b) (sharp a) (known_proper b kb) (known_proper a ka)) (go (eq a t) (eq b t) refl refl)
    where
      d : Scalar
      d = sub_s (sharp b) (sharp a)

      go : (x y : Bool) → eq a t ≡ x → eq b t ≡ y
          → cond x (fine ZERO) (cond (y || could_be_equal d ZERO) (fine ONE) (tested.sharp t >>= λ u. fine (sharp a) >>= λ v. tested.sub u v >>= λ n. tested.div n d >>= λ q. fine (value_or q ONE)))
          ≡ fine (cond x ZERO (cond y ONE (value_or (div_s (sub_s (sharp t) (sharp a)) d) ONE)))
      go true y e g = refl
      go false true e g = absurd (not_last geop geop_encloses p ks t i ka kt kb at tb g)
      go false false e g =
          let f = fraction geop geop_encloses a t b ka kt kb (strictly geop geop_encloses p ks t i ka kt kb at tb e) tb in
          rw (no_zero (sub_s (sharp t) (sharp a)) d f.0 f.1, known_fine t kt, sub_fine (sharp t) (sharp a) (known_proper t kt) (known_proper a ka), div_fine (sub_s (sharp t) (sharp a)) d (known_sub t a kt ka) (known_sub b a kb ka)) refl

  -- THE BLEND
  blend_fine : (dim : ℕ) (A B : Vector) → Solid dim A → Solid dim B → (debug.alpha p ks t i >>= λ α. debug.blend α A B) ≡ fine (blend geop (alpha geop p ks t i) A B)
  unfolding debug.blend blend
  blend_fine dim A B SA SB = rw alpha_fine (by (alpha geop p ks t i) (alpha_gentle geop geop_encloses p ks t i ka kt kb at tb))
    where
      by : (α : Scalar) → Fraction geop geop_encloses α
          → cond (is_same α ZERO) (fine A) (cond (is_same α ONE) (fine B) (debug.interpolate_v A B α)) ≡ fine (cond (is_same α ZERO) A (cond (is_same α ONE) B (interpolate_v geop A B α)))
      by α (none_of e) = subst (λ (z : Scalar). cond (is_same z ZERO) (fine A) (cond (is_same z ONE) (fine B) (debug.interpolate_v A B z)) ≡ fine (cond (is_same z ZERO) A (cond (is_same z ONE) B (interpolate_v geop A B z))))
          (sym e) (unfold eq in refl)
      by α (some_of g) = go (is_same α ZERO) (is_same α ONE)
        where
          go : (x y : Bool) → cond x (fine A) (cond y (fine B) (debug.interpolate_v A B α)) ≡ fine (cond x A (cond y B (interpolate_v geop A B α)))
          go true y = refl
          go false true = refl
          go false false = vector_fine α g A B SA.all SB.all

-- ---- one insertion, in the span k that holds t
module _ (dim p k : ℕ) (t : Float) (c : Piece) (f : InSpan p k t c) (S : Every (Solid dim) c.points) where
  abbrev ps : List Vector
  ps = c.points

  new_fine : (j : ℕ) → j < p
      → (debug.alpha p c.knots t (suc (k - p + j)) >>= λ α. debug.blend α (point c.points (k - p + j)) (point c.points (suc (k - p + j))))
      ≡ fine (blend geop (alpha geop p c.knots t (suc (k - p + j))) (point c.points (k - p + j)) (point c.points (suc (k - p + j))))
  new_fine j h = blend_fine p c.knots t (suc (k - p + j)) (f.known (suc (k - p + j)) (omega (arith, f.from, f.upto, f.long))) f.known_x (f.known (suc (k - p + j) + p) (omega (arith, f.from, f.upto, f.long)))
      (knot_low p k t c f j h) (knot_high p k t c f j h) dim (point ps (k - p + j)) (point ps (suc (k - p + j)))
      (every_at (Solid dim) ps (k - p + j) [] S (omega (arith, f.from, f.upto))) (every_at (Solid dim) ps (suc (k - p + j)) [] S (omega (arith, f.from, f.upto)))

  once_fine : debug.insert_once p k t c ≡ fine (insert_once geop p k t c)
  unfolding debug.insert_once debug.points_with insert_once points_with
  once_fine = rw (tab_fine p (λ j. debug.alpha p c.knots t (suc (k - p + j)) >>= λ α. debug.blend α (point ps (k - p + j)) (point ps (suc (k - p + j))))
      (λ j. blend geop (alpha geop p c.knots t (suc (k - p + j))) (point ps (k - p + j)) (point ps (suc (k - p + j)))) new_fine) refl

-- ---- as many as are asked for
pub times_fine : (dim p n : ℕ) (u : ℕ → ℚ) (C : ℕ → ℕ → ℚ) (x : Float) (m s : ℕ) → Good p n u → Known x → u p <ℚ value x → value x <ℚ u n
    → (j e : ℕ) (c : Piece) → Grown 0 p n u C x m s e c → Every (Solid dim) c.points → debug.insert_times p x j c ≡ fine (insert_times geop p x j c)
unfolding debug.insert_times insert_times
times_fine dim p n u C x m s good kx px xn zero e c r S = refl
times_fine dim p n u C x m s good kx px xn (suc j) e c r S =
    let k = insertion_span p (length c.points) c.knots x in
    let f = grown-span 0 p n u C x m s good kx px xn e c r in
    rw (once_fine dim p k x c f S)
    (times_fine dim p n u C x m s good kx px xn j (suc e) (insert_once geop p k x c) (grown-once geop geop_encloses 0 p n u C x m s good kx px xn e c r) (once_solid geop geop_encloses dim p k x c f S))
