-- Knot insertion keeps the order of the knots, and the curve on every span, closed or open at an end.
use mathlib.Core.Path.{◌≡◌, refl, sym, ◌∙◌, ap, subst}
use mathlib.Core.Logic.{⊎_elim}
use Prim.Native.Nat.{ℕ, zero, suc, pred, ◌+◌, ◌≤◌, ◌<◌}
use native.Mathlib.Nat.{eq-or-lt_of_le, lt_of_not-le}
use native.Mathlib.Decide.{dec_le}
use native.Mathlib.Omega.{arith}
use Rattle.exact.specs.Rational.{ℚ, ◌≤ℚ◌}
use Rattle.exact.specs.Spline.{curve, Sorted, Side, Fit, OnSide}
use Rattle.exact.specs.Insertion.{Inserted, pick, knots, ctrls, Kept}
use Rattle.exact.proofs.Order.{le_trans}
use Rattle.exact.proofs.Splines.Boor.{le_cast}
use Rattle.exact.proofs.Splines.On.{fit-shut, fit-cast, fit-split, sorted-steps, segment_of}
use Rattle.exact.proofs.Splines.Boehm.{boehm_low, boehm_high}

-- ---- the functions do what the relation asks
pub pick_yes : {P A : Type 0} (d : Dec P) (x y : A) → P → pick d x y ≡ x
pick_yes (yes h) x y p = refl
pick_yes (no n) x y p = absurd (n p)

pub pick_no : {P A : Type 0} (d : Dec P) (x y : A) → ¬ P → pick d x y ≡ y
pick_no (yes h) x y n = absurd (n h)
pick_no (no m) x y n = refl

pub inserted : (p : ℕ) (u c : ℕ → ℚ) (x : ℚ) (k : ℕ) → Inserted p u c x k (knots u x k) (ctrls p u c x k)
unfolding knots ctrls
inserted p u c x k = record {
  low_knot = λ i h. pick_yes (dec_le i k) _ _ h;
  new_knot = pick_no (dec_le (suc k) k) _ _ (λ h. absurd-le k h) ∙ pick_yes (dec_le (suc k) (suc k)) _ _ (omega arith);
  high_knot = λ i h. pick_no (dec_le (suc i) k) _ _ (λ m. off k i h m) ∙ pick_no (dec_le (suc i) (suc k)) _ _ (λ m. off' k i h m);
  low_ctrl = λ j h. pick_yes (dec_le (j + p) k) _ _ h;
  mid_ctrl = λ j h m. pick_no (dec_le (suc j + p) k) _ _ (λ n. far j p k h n) ∙ pick_yes (dec_le (suc j) k) _ _ m;
  high_ctrl = λ j h. pick_no (dec_le (suc j + p) k) _ _ (λ n. far' j p k h n) ∙ pick_no (dec_le (suc j) k) _ _ (λ n. off'' j k h n);
}
  where
    absurd-le : (k : ℕ) → suc k ≤ k → ⊥
    absurd-le k h = omega arith

    off : (k i : ℕ) → k < i → suc i ≤ k → ⊥
    off k i h m = omega arith

    off' : (k i : ℕ) → k < i → suc i ≤ suc k → ⊥
    off' k i h m = omega arith

    far : (j p k : ℕ) → k ≤ j + p → suc j + p ≤ k → ⊥
    far j p k h m = omega arith

    far' : (j p k : ℕ) → k ≤ j → suc j + p ≤ k → ⊥
    far' j p k h m = omega arith

    off'' : (j k : ℕ) → k ≤ j → suc j ≤ k → ⊥
    off'' j k h m = omega arith

-- ---- one insertion, of an x between knot k and knot k + 1
module _ (p n : ℕ) (u : ℕ → ℚ) (c : ℕ → ℕ → ℚ) (x : ℚ) (k : ℕ) (srt : Sorted u (n + p)) (kn : k < n + p) (ux : u k ≤ℚ x) (xu : x ≤ℚ u (suc k)) where
  abbrev u' : ℕ → ℚ
  u' = knots u x k

  abbrev c' : ℕ → ℕ → ℚ
  c' a = ctrls p u (c a) x k

  q : (a : ℕ) → Inserted p u (c a) x k u' (c' a)
  q a = inserted p u (c a) x k

  -- the new knots are in order
  step : (i : ℕ) → i < suc n + p → u' i ≤ℚ u' (suc i)
  step i o = elim (dec_le (suc i) k) [
    | yes h ↦ le_cast (sym ((q zero).low_knot i (omega arith))) (sym ((q zero).low_knot (suc i) h)) (srt.up i (suc i) (omega arith) (omega arith))
    | no n ↦ go (lt_of_not-le n)
  ]
    where
      past : k < i → u' i ≤ℚ u' (suc i)
      past h = elim (dec_le i (suc k)) [
        | yes m ↦ le_cast (sym (ap u' (eq₁ m) ∙ (q zero).new_knot)) (sym ((q zero).high_knot i h)) (le_trans xu (srt.up (suc k) i (omega arith) (omega arith)))
        | no m ↦ le_cast (sym (ap u' (eq₂ (lt_of_not-le m)) ∙ (q zero).high_knot (pred i) (lt₂ (lt_of_not-le m)))) (sym ((q zero).high_knot i h)) (srt.up (pred i) i (omega arith) (omega arith))
      ]
        where
          eq₁ : i ≤ suc k → i ≡ suc k
          eq₁ m = omega arith

          eq₂ : suc k < i → i ≡ suc (pred i)
          eq₂ m = omega arith

          lt₂ : suc k < i → k < pred i
          lt₂ m = omega arith

      go : k < suc i → u' i ≤ℚ u' (suc i)
      go h = ⊎_elim (λ (e : k ≡ i). le_cast (sym ((q zero).low_knot i (le-eq e))) (sym (ap (λ (z : ℕ). u' (suc z)) (sym e) ∙ (q zero).new_knot)) (subst (λ (z : ℕ). u z ≤ℚ x) e ux)) past (eq-or-lt_of_le (le_of h))
        where
          le_of : k < suc i → k ≤ i
          le_of h = omega arith

          le-eq : k ≡ i → i ≤ k
          le-eq e = omega arith

  pub sorted' : Sorted (knots u x k) (suc n + p)
  sorted' = sorted-steps u' (suc n + p) step

  low : (s : Side) (t : ℚ) (y : ℕ → ℚ) (m : ℕ) → m + p < n → m + p ≤ k → Fit s (u' (m + p)) (u' (suc (m + p))) t → ((a : ℕ) → curve p u (c a) m t ≡ y a) → OnSide s p (suc n) u' c' t y
  low s t y m o h f e = record {
    place = m;
    inside = omega arith;
    fits = f;
    there = λ a. boehm_low p u (c a) x k u' (c' a) (q a) (λ _. t) (m + p) (segment_of p u' (suc n + p) (m + p) (omega arith) sorted' (fit-shut s _ _ t f).wide) m refl h ∙ e a;
  }

  high : (s : Side) (t : ℚ) (y : ℕ → ℚ) (m : ℕ) → m + p < n → k ≤ m + p → Fit s (u' (suc m + p)) (u' (suc (suc m + p))) t → ((a : ℕ) → curve p u (c a) m t ≡ y a) → OnSide s p (suc n) u' c' t y
  high s t y m o h f e = record {
    place = suc m;
    inside = omega arith;
    fits = f;
    there = λ a. boehm_high p u (c a) x k u' (c' a) (q a) (λ _. t) (suc m + p) (segment_of p u' (suc n + p) (suc m + p) (omega arith) sorted' (fit-shut s _ _ t f).wide) m refl (omega arith) ∙ e a;
  }

  -- a point of the curve is a point of the curve after the insertion, at the same parameter and from the same side
  insertion : (s : Side) (t : ℚ) (y : ℕ → ℚ) → OnSide s p n u c t y → OnSide s p (suc n) u' c' t y
  insertion s t y w = elim (dec_le (suc (w.place + p)) k) [
    | yes h ↦ low s t y w.place w.inside (omega arith) (fit-cast s t (sym ((q zero).low_knot _ (omega arith))) (sym ((q zero).low_knot _ h)) w.fits) w.there
    | no n ↦ ⊎_elim same-knot later (eq-or-lt_of_le (le_of (lt_of_not-le n)))
  ]
    where
      le_of : k < suc (w.place + p) → k ≤ w.place + p
      le_of h = omega arith

      ix : suc (w.place + p) ≡ suc w.place + p
      ix = omega arith

      top : k ≤ w.place + p → u' (suc (suc w.place + p)) ≡ u (suc (w.place + p))
      top h = ap (λ (z : ℕ). u' (suc z)) (sym ix) ∙ (q zero).high_knot (suc (w.place + p)) (omega arith)

      later : k < w.place + p → OnSide s p (suc n) u' c' t y
      later h = high s t y w.place w.inside (omega arith) (fit-cast s t (sym (ap u' (sym ix) ∙ (q zero).high_knot (w.place + p) h)) (sym (top (omega arith))) w.fits) w.there

      same-knot : k ≡ w.place + p → OnSide s p (suc n) u' c' t y
      same-knot e = ⊎_elim
          (λ (f : Fit s (u (w.place + p)) x t). low s t y w.place w.inside (omega arith) (fit-cast s t (sym ((q zero).low_knot _ (omega arith))) (sym (ap (λ (z : ℕ). u' (suc z)) (sym e) ∙ (q zero).new_knot)) f) w.there)
          (λ (f : Fit s x (u (suc (w.place + p))) t). high s t y w.place w.inside (omega arith) (fit-cast s t (sym (ap u' (sym ix ∙ ap suc (sym e)) ∙ (q zero).new_knot)) (sym (top (omega arith))) f) w.there)
          (fit-split s _ _ t x (subst (λ (z : ℕ). u z ≤ℚ x) e ux) (subst (λ (z : ℕ). x ≤ℚ u (suc z)) e xu) w.fits)

  pub insert-keeps : Kept p n u c (suc n) (knots u x k) (λ a. ctrls p u (c a) x k)
  insert-keeps = record { keeps = insertion }

-- ---- to keep is reflexive and transitive
pub kept_refl : (p n : ℕ) (u : ℕ → ℚ) (c : ℕ → ℕ → ℚ) → Kept p n u c n u c
kept_refl p n u c = record { keeps = λ s t y w. w }

pub kept_trans : {p n n' n'' : ℕ} {u u' u'' : ℕ → ℚ} {c c' c'' : ℕ → ℕ → ℚ} → Kept p n u c n' u' c' → Kept p n' u' c' n'' u'' c'' → Kept p n u c n'' u'' c''
kept_trans h k = record { keeps = λ s t y w. k.keeps s t y (h.keeps s t y w) }
