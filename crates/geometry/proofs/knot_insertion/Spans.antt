-- The walks over the knots: the highest span that holds t, from the last span down, and how far t lies between two knots. Leans on the definitions alone.
use mathlib.Core.Path.{◌≡◌, sym, ap, ◌∙◌}
use mathlib.Core.Bool.{Bool, true, false, not}
use mathlib.Core.List.{List}
use Prim.Native.Nat.{ℕ, suc, ◌+◌, ◌-◌, ◌<◌}
use native.Mathlib.Omega.{arith}
use native.Mathlib.Numerals.{add-one}
use borrow.Author.Tests.{not-true, not-false, eq-eqb, ne_eqb}
use lib.Dec.{eqb}
use lib.ListN.{length, take, drop, get_or, length-drop}
use lib.Seq.{take_all}
use lib.Ieee.{Float, nan, eq}
use Rattle.lists.specs.Lists.{all}
use Rattle.math.specs.declared.scalars.Scalar.{Scalar}
use Rattle.math.specs.Divided.{Divided}
use Rattle.math.specs.Scalars.{Arithmetic, sharp, ZERO, ONE, value_or}
use Rattle.math.proofs.Bools.{pick_yes, pick_no}
use Rattle.model.specs.NurbCurve.{knot}
use Rattle.model.specs.KnotInsertion.{holds_at, highest, alpha, is_bezier}

module _ (ks : List Float) (t : Float) (p : ℕ) where
  -- the span just below number i holds t
  pub span_here : (i : ℕ) → p < i → holds_at ks t (i - 1) ≡ true → i - 1 ≡ highest ks t p (i - p)
  unfolding highest
  span_here i h e = go (i - 1 - p) (omega arith) (omega arith)
    where
      go : (n : ℕ) → i - p ≡ suc n → i - 1 ≡ p + n → i - 1 ≡ highest ks t p (i - p)
      go n a b = rw (a, ← b, e)

  -- it does not
  pub span-down : (i : ℕ) → p < i → holds_at ks t (i - 1) ≡ false → highest ks t p (i - 1 - p) ≡ highest ks t p (i - p)
  unfolding highest
  span-down i h e = go (i - 1 - p) (omega arith) (omega arith)
    where
      go : (n : ℕ) → i - p ≡ suc n → i - 1 ≡ p + n → highest ks t p n ≡ highest ks t p (i - p)
      go n a b = rw (a, ← b, e)

  -- none is left
  pub span_none : (i : ℕ) → i ≡ p → p ≡ highest ks t p (i - p)
  unfolding highest
  span_none i e = let z : i - p ≡ 0 = omega arith in rw z

-- ---- how far t lies from knot i to knot i + p

module _ (ar : Arithmetic) (p : ℕ) (ks : List Float) (t : Float) (i : ℕ) where
  pub alpha-start : eq (knot ks i) t ≡ true → ZERO ≡ alpha ar p ks t i
  unfolding alpha
  alpha-start e = pick_yes _ _ _ e

  pub alpha_end : eq (knot ks i) t ≡ false → eq (knot ks (i + p)) t ≡ true → ONE ≡ alpha ar p ks t i
  unfolding alpha
  alpha_end e f = pick_yes _ _ _ f ∙ pick_no _ _ _ e

  -- the quotient, as the code comes to it
  pub alpha-between : (fa ft fb x y : Scalar) (r : Divided) → eq (knot ks i) t ≡ false → eq (knot ks (i + p)) t ≡ false → fa ≡ sharp (knot ks i) → ft ≡ sharp t → x ≡ ar.sub ft fa
      → fb ≡ sharp (knot ks (i + p)) → y ≡ ar.sub fb fa → r ≡ ar.div x y → value_or r ONE ≡ alpha ar p ks t i
  unfolding alpha
  alpha-between fa ft fb x y r e f ea et ex eb ey er =
      let u : x ≡ ar.sub (sharp t) (sharp (knot ks i)) = ex ∙ (λ j. ar.sub (et j) (ea j)) in
      let v : y ≡ ar.sub (sharp (knot ks (i + p))) (sharp (knot ks i)) = ey ∙ (λ j. ar.sub (eb j) (ea j)) in
      let q : r ≡ ar.div (ar.sub (sharp t) (sharp (knot ks i))) (ar.sub (sharp (knot ks (i + p))) (sharp (knot ks i))) = er ∙ (λ j. ar.div (u j) (v j)) in
      ap (λ (d : Divided). value_or d ONE) q ∙ pick_no _ _ _ f ∙ pick_no _ _ _ e

-- ---- a Bezier span

module _ (p n : ℕ) (ks : List Float) where
  -- not as many points as it should have
  pub bezier_few : (n ≡ p + 1 → ⊥) → false ≡ is_bezier p n ks
  unfolding is_bezier
  bezier_few h = let e : eqb n (suc p) ≡ false = rw (← add-one p) (ne_eqb n (p + 1) h) in rw e

  module _ (same : n ≡ p + 1) where
    full : eqb n (suc p) ≡ true
    full = eq-eqb n (suc p) (same ∙ add-one p)

    -- its first knots differ
    pub bezier_not : (b : Bool) → b ≡ all (λ u. eq u (get_or ks 0 nan)) (take (p + 1) ks) → not b ≡ true → false ≡ is_bezier p n ks
    unfolding is_bezier
    bezier_not b e h =
        let z : all (λ u. eq u (get_or ks 0 nan)) (take (suc p) ks) ≡ false = ap (λ (m : ℕ). all (λ u. eq u (get_or ks 0 nan)) (take m ks)) (sym (add-one p)) ∙ sym e ∙ not-true b h in
        rw (full, z)

    -- they do not: it turns on the others
    pub bezier_last : (b r : Bool) → b ≡ all (λ u. eq u (get_or ks 0 nan)) (take (p + 1) ks) → not b ≡ false → r ≡ all (λ u. eq u (get_or ks (p + 1) nan)) (take (length ks - (p + 1)) (drop (p + 1) ks)) → r ≡ is_bezier p n ks
    unfolding is_bezier
    bezier_last b r e h f =
        let z : all (λ u. eq u (get_or ks 0 nan)) (take (suc p) ks) ≡ true = ap (λ (m : ℕ). all (λ u. eq u (get_or ks 0 nan)) (take m ks)) (sym (add-one p)) ∙ sym e ∙ not-false b h in
        let y : take (length ks - (p + 1)) (drop (p + 1) ks) ≡ drop (p + 1) ks = take_all (length ks - (p + 1)) (drop (p + 1) ks) (simp length-drop (omega arith)) in
        f ∙ ap (all (λ u. eq u (get_or ks (p + 1) nan))) y ∙ ap (λ (m : ℕ). all (λ u. eq u (get_or ks m nan)) (drop m ks)) (add-one p) ∙ rw (full, z)
