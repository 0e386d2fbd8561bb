-- One insertion of t: the span that is found holds t, the new knots are the old ones with t among them, and the new points hold the new exact control values. Assumes nothing.
use mathlib.Core.Path.{◌≡◌, refl, sym, ap, ap₂, ◌∙◌, subst}
use mathlib.Core.List.{List, [], ◌∷◌, ◌++◌}
use mathlib.Core.Logic.{inl, inr}
use mathlib.Core.Bool.{Bool, true, false, not, cond}
use Prim.Native.Nat.{ℕ, zero, suc, pred, ◌+◌, ◌-◌, ◌≤◌, ◌<◌}
use native.Mathlib.Nat.{lt_of_not-le}
use native.Mathlib.Decide.{dec_le}
use native.Mathlib.Omega.{arith}
use lib.Dec.{T}
use lib.ListN.{length, get_or, take, drop, length-append, length-drop, get_or-append}
use lib.Seq.{get_or-take, get_or-drop, get_or-append-add, length-take-le}
use lib.Ieee.{Float, nan, lt}
use Rattle.exact.specs.Rational.{ℚ, lerp, ratio, ◌≤ℚ◌, ◌<ℚ◌, lt→not_le}
use Rattle.exact.specs.Spline.{Sorted, round}
use Rattle.exact.specs.Insertion.{pick, knots, ctrls}
use Rattle.exact.proofs.Order.{le_trans, lt_le_trans}
use Rattle.lists.specs.Lists.{tab}
use Rattle.lists.proofs.Tab.{length-tab, get_or-tab}
use Rattle.math.specs.Scalars.{Arithmetic}
use Rattle.math.specs.Values.{value, Holds}
use Rattle.math.specs.Encloses.{Encloses}
use Rattle.math.proofs.Bools.{and_l, and_i, decide}
use Rattle.model.specs.Vector.{Vector, coordinate}
use Rattle.model.specs.NurbCurve.{knot, point}
use Rattle.model.specs.KnotInsertion.{holds_at, highest, alpha, blend, knots_with, points_with}
use Rattle.model.proofs.Sound.Base.{values, Known, Inside}
use Rattle.model.proofs.Sound.Known.{lt_known, not_lt_known, lt_value}
use Rattle.model.proofs.Sound.Blend.{blend_holds}

-- ---- the span
pub record Falls (ks : List Float) (p : ℕ) (t : Float) (d k : ℕ) : Type 0 where
  pub from : p ≤ k
  pub upto : k < p + d
  pub after : value (knot ks k) ≤ℚ value t
  pub before : value t <ℚ value (knot ks (suc k))

-- the span that `highest` finds, among known knots, holds t
pub falls : (ks : List Float) (p : ℕ) (t : Float) (d : ℕ) → Known t → ((i : ℕ) → i ≤ p + d → Known (knot ks i)) → value (knot ks p) ≤ℚ value t → value t <ℚ value (knot ks (p + d))
    → Falls ks p t d (highest ks t p d)
unfolding highest
falls ks p t zero kt kn a b = absurd (lt→not_le (subst (λ (z : ℕ). value t <ℚ value (knot ks z)) (ix p) b) a)
  where
    ix : (p : ℕ) → p + zero ≡ p
    ix p = omega arith
falls ks p t (suc d) kt kn a b = go (falls ks p t d kt (λ i h. kn i (omega arith)) a) (holds_at ks t (p + d)) refl
  where
    top : value t <ℚ value (knot ks (suc (p + d)))
    top = subst (λ (z : ℕ). value t <ℚ value (knot ks z)) (ix p d) b
      where
        ix : (p d : ℕ) → p + suc d ≡ suc (p + d)
        ix p d = omega arith

    k0 : Known (knot ks (p + d))
    k0 = kn (p + d) (omega arith)

    k1 : Known (knot ks (suc (p + d)))
    k1 = kn (suc (p + d)) (omega arith)

    go : (value t <ℚ value (knot ks (p + d)) → Falls ks p t d (highest ks t p d)) → (z : Bool) → holds_at ks t (p + d) ≡ z → Falls ks p t (suc d) (cond z (p + d) (highest ks t p d))
    go rec true e = record {
      from = omega arith;
      upto = omega arith;
      after = not_lt_known t (knot ks (p + d)) kt k0 (and_l (not (lt t (knot ks (p + d)))) (lt t (knot ks (suc (p + d)))) (subst T (sym e) tt));
      before = top;
    }
    go rec false e = more (rec under)
      where
        under : value t <ℚ value (knot ks (p + d))
        under = elim (decide (lt t (knot ks (p + d)))) [
          | inl h ↦ lt_value t (knot ks (p + d)) kt k0 h
          | inr h ↦ absurd (subst T e (and_i (not (lt t (knot ks (p + d)))) (lt t (knot ks (suc (p + d)))) h (lt_known t (knot ks (suc (p + d))) kt k1 top)))
        ]

        more : Falls ks p t d (highest ks t p d) → Falls ks p t (suc d) (highest ks t p d)
        more f = record { from = f.from; upto = omega (arith, f.upto); after = f.after; before = f.before }

-- ---- the new knots
module _ (k : ℕ) (t : Float) (ks : List Float) (h : k < length ks) where
  pub knot_low : (i : ℕ) → i ≤ k → knot (knots_with k t ks) i ≡ knot ks i
  unfolding knots_with
  knot_low i l =
      get_or-append (take (suc k) ks) (t ∷ drop (suc k) ks) nan i (subst (λ (z : ℕ). i < z) (sym (length-take-le (suc k) ks h)) (omega arith)) ∙ get_or-take (suc k) ks i nan (omega arith)

  behind : (j : ℕ) → knot (knots_with k t ks) (suc k + j) ≡ get_or (t ∷ drop (suc k) ks) j nan
  unfolding knots_with
  behind j = ap (λ (z : ℕ). get_or (take (suc k) ks ++ (t ∷ drop (suc k) ks)) (z + j) nan) (sym (length-take-le (suc k) ks h)) ∙ get_or-append-add (take (suc k) ks) (t ∷ drop (suc k) ks) j nan

  pub knot-new : knot (knots_with k t ks) (suc k) ≡ t
  knot-new = ap (knot (knots_with k t ks)) ix ∙ behind zero
    where
      ix : suc k ≡ suc k + zero
      ix = omega arith

  pub knot_high : (i : ℕ) → k < i → knot (knots_with k t ks) (suc i) ≡ knot ks i
  knot_high i l = ap (knot (knots_with k t ks)) ix₁ ∙ behind (suc (i - suc k)) ∙ get_or-drop (suc k) ks (i - suc k) nan ∙ ap (knot ks) ix₂
    where
      ix₁ : suc i ≡ suc k + suc (i - suc k)
      ix₁ = omega arith

      ix₂ : suc k + (i - suc k) ≡ i
      ix₂ = omega arith

  pub length-knots : length (knots_with k t ks) ≡ suc (length ks)
  unfolding knots_with
  length-knots = length-append (take (suc k) ks) (t ∷ drop (suc k) ks) ∙ ap₂ (λ (x y : ℕ). x + suc y) (length-take-le (suc k) ks h) (length-drop (suc k) ks) ∙ nat
    where
      nat : suc k + suc (length ks - suc k) ≡ suc (length ks)
      nat = omega arith

  -- their numbers are those of the exact insertion
  pub values-with : (i : ℕ) → values (knots_with k t ks) i ≡ knots (values ks) (value t) k i
  unfolding knots
  values-with i = go (dec_le i k) (dec_le i (suc k))
    where
      go : (a : Dec (i ≤ k)) (b : Dec (i ≤ suc k)) → values (knots_with k t ks) i ≡ pick a (values ks i) (pick b (value t) (values ks (pred i)))
      go (yes a) b = ap value (knot_low i a)
      go (no a) (yes b) = ap value (ap (knot (knots_with k t ks)) (eq b (lt_of_not-le a)) ∙ knot-new)
        where
          eq : i ≤ suc k → k < i → i ≡ suc k
          eq b a = omega arith
      go (no a) (no b) = ap value (ap (knot (knots_with k t ks)) (eq (lt_of_not-le b)) ∙ knot_high (pred i) (lt (lt_of_not-le b)))
        where
          eq : suc k < i → i ≡ suc (pred i)
          eq b = omega arith

          lt : suc k < i → k < pred i
          lt b = omega arith

  -- and known
  pub known_with : Known t → ((i : ℕ) → i < length ks → Known (knot ks i)) → (i : ℕ) → i < length (knots_with k t ks) → Known (knot (knots_with k t ks) i)
  known_with kt kn i l = go (dec_le i k) (dec_le i (suc k))
    where
      go : Dec (i ≤ k) → Dec (i ≤ suc k) → Known (knot (knots_with k t ks) i)
      go (yes a) b = subst Known (sym (knot_low i a)) (kn i (omega arith))
      go (no a) (yes b) = subst Known (sym (ap (knot (knots_with k t ks)) (eq b (lt_of_not-le a)) ∙ knot-new)) kt
        where
          eq : i ≤ suc k → k < i → i ≡ suc k
          eq b a = omega arith
      go (no a) (no b) =
          subst Known (sym (ap (knot (knots_with k t ks)) (eq (lt_of_not-le b)) ∙ knot_high (pred i) (lt (lt_of_not-le b)))) (kn (pred i) (omega (arith, length-knots, lt_of_not-le b)))
        where
          eq : suc k < i → i ≡ suc (pred i)
          eq b = omega arith

          lt : suc k < i → k < pred i
          lt b = omega arith

-- ---- the new points
module _ (ar : Arithmetic) (p k : ℕ) (t : Float) (ks : List Float) (ps : List Vector) (pk : p ≤ k) (kn : k < length ps) where
  abbrev mixed : ℕ → Vector
  mixed j = blend ar (alpha ar p ks t (suc (k - p + j))) (point ps (k - p + j)) (point ps (suc (k - p + j)))

  first : length (take (suc k - p) ps) ≡ suc k - p
  first = length-take-le (suc k - p) ps (omega arith)

  pub length-points : length (points_with ar p k t ks ps) ≡ suc (length ps)
  unfolding points_with
  length-points =
      length-append (take (suc k - p) ps) (tab p mixed ++ drop k ps) ∙ ap₂ ◌+◌ first (length-append (tab p mixed) (drop k ps) ∙ ap₂ ◌+◌ (length-tab p mixed) (length-drop k ps)) ∙ nat
    where
      nat : suc k - p + (p + (length ps - k)) ≡ suc (length ps)
      nat = omega arith

  pub point_low : (i : ℕ) → i + p ≤ k → point (points_with ar p k t ks ps) i ≡ point ps i
  unfolding points_with
  point_low i h = get_or-append (take (suc k - p) ps) (tab p mixed ++ drop k ps) [] i (subst (λ (z : ℕ). i < z) (sym first) (omega arith)) ∙ get_or-take (suc k - p) ps i [] (omega arith)

  after_first : (j : ℕ) → point (points_with ar p k t ks ps) (suc k - p + j) ≡ get_or (tab p mixed ++ drop k ps) j []
  unfolding points_with
  after_first j = ap (λ (z : ℕ). get_or (take (suc k - p) ps ++ (tab p mixed ++ drop k ps)) (z + j) []) (sym first) ∙ get_or-append-add (take (suc k - p) ps) (tab p mixed ++ drop k ps) j []

  pub point-mid : (i : ℕ) → k < i + p → i ≤ k → point (points_with ar p k t ks ps) i ≡ blend ar (alpha ar p ks t i) (point ps (pred i)) (point ps i)
  point-mid i h l =
      ap (point (points_with ar p k t ks ps)) ix ∙ after_first j
      ∙ get_or-append (tab p mixed) (drop k ps) [] j (subst (λ (z : ℕ). j < z) (sym (length-tab p mixed)) j<p)
      ∙ get_or-tab p mixed j [] j<p
      ∙ ap₂ (λ (x y : ℕ). blend ar (alpha ar p ks t x) (point ps y) (point ps x)) ix₁ ix₂
    where
      j : ℕ
      j = i - (suc k - p)

      j<p : i - (suc k - p) < p
      j<p = omega arith

      ix : i ≡ suc k - p + (i - (suc k - p))
      ix = omega arith

      ix₁ : suc (k - p + (i - (suc k - p))) ≡ i
      ix₁ = omega arith

      ix₂ : k - p + (i - (suc k - p)) ≡ pred i
      ix₂ = omega arith

  pub point_high : (i : ℕ) → k < i → point (points_with ar p k t ks ps) i ≡ point ps (pred i)
  point_high i h =
      ap (point (points_with ar p k t ks ps)) ix ∙ after_first (p + (i - suc k))
      ∙ ap (λ (z : ℕ). get_or (tab p mixed ++ drop k ps) (z + (i - suc k)) []) (sym (length-tab p mixed)) ∙ get_or-append-add (tab p mixed) (drop k ps) (i - suc k) []
      ∙ get_or-drop k ps (i - suc k) [] ∙ ap (point ps) ix₁
    where
      ix : i ≡ suc k - p + (p + (i - suc k))
      ix = omega arith

      ix₁ : k + (i - suc k) ≡ pred i
      ix₁ = omega arith

-- THE INSERTION: exact control values that the points hold become those that the new points hold
module _ (ar : Arithmetic) (E : Encloses ar) (D p k : ℕ) (t : Float) (ks : List Float) (ps : List Vector) (C : ℕ → ℕ → ℚ) (pk : p ≤ k) (kn : k < length ps) (long : length ks ≡ suc (length ps + p))
    (kt : Known t) (known : (i : ℕ) → i < length ks → Known (knot ks i)) (srt : Sorted (values ks) (length ps + p)) (after : values ks k ≤ℚ value t) (before : value t <ℚ values ks (suc k)) where
  mid_holds : (a : ℕ) → Inside D ps C → a < D → (j : ℕ) → k < j + p → j ≤ k → Holds (coordinate (point (points_with ar p k t ks ps) j) a) (round (values ks) p 1 (value t) (C a) (pred j))
  unfolding round
  mid_holds a I aD j l m =
      subst (λ (v : Vector). Holds (coordinate v a) (lerp (ratio (value t) (values ks (pred j + 1)) (values ks (pred j + suc p))) (C a (pred j)) (C a (suc (pred j))))) (sym (point-mid ar p k t ks ps pk kn j l m))
      (subst (λ (q : ℚ). Holds (coordinate (blend ar (alpha ar p ks t j) (point ps (pred j)) (point ps j)) a) q) same
      (blend_holds ar E p ks t j (known j (omega arith)) kt (known (j + p) (omega arith)) (le_trans (srt.up j k m (omega arith)) after) (lt_le_trans before (srt.up (suc k) (j + p) l (omega arith)))
      (point ps (pred j)) (point ps j) a (C a (pred j)) (C a j) (I.at a (pred j) aD (omega arith)) (I.at a j aD (omega arith))))
    where
      i₁ : j ≡ pred j + 1
      i₁ = omega arith

      i₂ : j + p ≡ pred j + suc p
      i₂ = omega arith

      i₃ : j ≡ suc (pred j)
      i₃ = omega arith

      same : lerp (ratio (value t) (values ks j) (values ks (j + p))) (C a (pred j)) (C a j) ≡ lerp (ratio (value t) (values ks (pred j + 1)) (values ks (pred j + suc p))) (C a (pred j)) (C a (suc (pred j)))
      same = λ o. lerp (ratio (value t) (values ks (i₁ o)) (values ks (i₂ o))) (C a (pred j)) (C a (i₃ o))

  pub once_inside : Inside D ps C → Inside D (points_with ar p k t ks ps) (λ a. ctrls p (values ks) (C a) (value t) k)
  unfolding ctrls
  once_inside I = record { at = λ a i aD l. go a aD i (subst (λ (z : ℕ). i < z) (length-points ar p k t ks ps pk kn) l) (dec_le (i + p) k) (dec_le i k) }
    where
      go : (a : ℕ) → a < D → (i : ℕ) → i < suc (length ps) → (x : Dec (i + p ≤ k)) (y : Dec (i ≤ k))
          → Holds (coordinate (point (points_with ar p k t ks ps) i) a) (pick x (C a i) (pick y (round (values ks) p 1 (value t) (C a) (pred i)) (C a (pred i))))
      go a aD i l (yes x) y = subst (λ (v : Vector). Holds (coordinate v a) (C a i)) (sym (point_low ar p k t ks ps pk kn i x)) (I.at a i aD (omega arith))
      go a aD i l (no x) (yes y) = mid_holds a I aD i (lt_of_not-le x) y
      go a aD i l (no x) (no y) =
          subst (λ (v : Vector). Holds (coordinate v a) (C a (pred i))) (sym (point_high ar p k t ks ps pk kn i (lt_of_not-le y))) (I.at a (pred i) aD (small (lt_of_not-le y)))
        where
          small : k < i → pred i < length ps
          small m = omega arith
