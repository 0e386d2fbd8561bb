-- Continuity: at a knot inside the domain that occurs at most degree times, the span on the left and the span on the right have one value. So the curve with closed
-- spans is the curve on paper. And where the last knots are one value, that curve ends in its last control point.
use mathlib.Core.Path.{◌≡◌, refl, sym, ◌∙◌, ap, subst}
use mathlib.Core.List.{[], ◌∷◌}
use mathlib.Core.Logic.{⊎_elim}
use Prim.Native.Nat.{ℕ, zero, suc, ◌+◌, ◌-◌, ◌≤◌, ◌<◌}
use native.Mathlib.Nat.{lt_of_not-le}
use native.Mathlib.Decide.{dec_le}
use native.Mathlib.Omega.{arith}
use Rattle.solver.proofs.Ring.{by_rep, by_eq, read}
use Rattle.exact.specs.Rational.{ℚ, ◌*ℚ◌, -ℚ◌, ◌-ℚ◌, 1ℚ, invℚ, lerp, ratio, ◌≤ℚ◌, ◌<ℚ◌, lt→not_le}
use Rattle.exact.specs.Spline.{closing, Traced, round, boor, curve, Sorted, left, right, Fit, OnSide, On}
use Rattle.exact.specs.Cut.{Thin}
use Rattle.exact.proofs.Field.{ℚring, *ℚ_comm}
use Rattle.exact.proofs.Order.{le_refl, le_trans, le_antisym, le_or_lt, lt_or_le, lt_le_trans, le_lt_trans, sub-inv}
use Rattle.exact.proofs.Splines.Boor.{lt_cast}
use Rattle.exact.proofs.Splines.On.{Crossing, crossing}
use Rattle.exact.proofs.Splines.Drawn.{drawn-curve, side_traced, end_traced}

-- ---- at a knot that is the parameter itself a round picks one of the two values
lerp_at_0 : (t i x y : ℚ) → lerp ((t -ℚ t) *ℚ i) x y ≡ x
unfolding lerp
lerp_at_0 t i x y = by_rep ℚring (t ∷ i ∷ x ∷ y ∷ []) (search read depth 9) (search read depth 9) tt

lerp_at_1 : (a x y : ℚ) → a ≡ 1ℚ → lerp a x y ≡ y
unfolding lerp
lerp_at_1 a x y e = by_eq ℚring (y -ℚ x) e (by_rep ℚring (a ∷ x ∷ y ∷ []) (search read depth 9) (search read depth 9) tt)

pub ratio-start : (t v x y : ℚ) → lerp (ratio t t v) x y ≡ x
unfolding ratio
ratio-start t v x y = lerp_at_0 t (invℚ (v -ℚ t)) x y

pub ratio_end : (t v x y : ℚ) → v <ℚ t → lerp (ratio t v t) x y ≡ y
unfolding ratio
ratio_end t v x y h = lerp_at_1 ((t -ℚ v) *ℚ invℚ (t -ℚ v)) x y (*ℚ_comm (t -ℚ v) (invℚ (t -ℚ v)) ∙ sub-inv h)

-- ---- the knots m + p + 1 to m + p + s are t
module _ (u : ℕ → ℚ) (p : ℕ) (c : ℕ → ℚ) (t : ℚ) where
  abbrev b : ℕ → ℕ → ℚ
  b = boor u p c (λ _. t)

  pick_left : (r j : ℕ) → u (j + suc r) ≡ t → b (suc r) j ≡ b r j
  unfolding boor round
  pick_left r j e = ap (λ (z : ℚ). lerp (ratio t z (u (j + suc p))) (b r j) (b r (suc j))) e ∙ ratio-start t (u (j + suc p)) (b r j) (b r (suc j))

  pick_right : (r j : ℕ) → u (j + suc p) ≡ t → u (j + suc r) <ℚ t → b (suc r) j ≡ b r (suc j)
  unfolding boor round
  pick_right r j e h = ap (λ (z : ℚ). lerp (ratio t (u (j + suc r)) z) (b r j) (b r (suc j))) e ∙ ratio_end t (u (j + suc r)) (b r j) (b r (suc j)) h

  -- s rounds in a row
  stay : (s q r j : ℕ) → s + r ≡ q → ((i : ℕ) → j + r < i → i ≤ j + q → u i ≡ t) → b q j ≡ b r j
  stay zero q r j e h = ap (λ (z : ℕ). b z j) (eq q r e)
    where
      eq : (q r : ℕ) → zero + r ≡ q → q ≡ r
      eq q r e = omega arith
  stay (suc s) zero r j e h = absurd (off s r e)
    where
      off : (s r : ℕ) → suc s + r ≡ zero → ⊥
      off s r e = omega arith
  stay (suc s) (suc q) r j e h = pick_left q j (h (j + suc q) (omega arith) (omega arith)) ∙ stay s q r j (omega arith) (λ i m n. h i m (omega arith))

  move : (s q r j : ℕ) → s + r ≡ q → u (j + q) <ℚ t → ((i : ℕ) → j + p < i → i ≤ j + p + s → u i ≡ t) → b q j ≡ b r (s + j)
  move zero q r j e k h = (λ i. b (eq q r e i) (eq' j i))
    where
      eq : (q r : ℕ) → zero + r ≡ q → q ≡ r
      eq q r e = omega arith

      eq' : (j : ℕ) → j ≡ zero + j
      eq' j = omega arith
  move (suc s) zero r j e k h = absurd (off s r e)
    where
      off : (s r : ℕ) → suc s + r ≡ zero → ⊥
      off s r e = omega arith
  move (suc s) (suc q) r j e k h =
      pick_right q j (h (j + suc p) (omega arith) (omega arith)) k
      ∙ move s q r (suc j) (omega arith) (subst (λ (z : ℕ). u z <ℚ t) (ix j q) k) (λ i m n. h i (omega arith) (omega arith))
      ∙ ap (b r) (ix' s j)
    where
      ix : (j q : ℕ) → j + suc q ≡ suc j + q
      ix j q = omega arith

      ix' : (s j : ℕ) → s + suc j ≡ suc s + j
      ix' s j = omega arith

  -- the span of place m ends at t, and that of the place s further on begins there: they have one value
  pub smooth : (s m : ℕ) → s ≤ p → u (m + p) <ℚ t → ((i : ℕ) → m + p < i → i ≤ s + m + p → u i ≡ t) → curve p u c m t ≡ curve p u c (s + m) t
  smooth s m h k e = move s p (p - s) m (sum s p h) k (λ i a o. e i a (omega arith))
      ∙ sym (stay s p (p - s) (s + m) (sum s p h) (λ i a o. e i (far s p m i h a) o))
    where
      sum : (s p : ℕ) → s ≤ p → s + (p - s) ≡ p
      sum s p h = omega arith

      far : (s p m i : ℕ) → s ≤ p → s + m + (p - s) < i → m + p < i
      far s p m i h a = omega arith

-- ---- where the knots from number n to n + p - 1 are one value, and knot n - 1 is below it, the curve on paper ends in control point n - 1 (here n is m + p + 1)
pub clamped_end : (p m : ℕ) (u : ℕ → ℚ) (c : ℕ → ℕ → ℚ) → u (m + p) <ℚ u (suc (m + p)) → ((i : ℕ) → m + p < i → i ≤ m + p + p → u i ≡ u (suc (m + p)))
    → Traced p (suc (m + p)) u c (u (suc (m + p))) (λ a. c a (m + p))
unfolding boor
clamped_end p m u c w e = record {
  k = m + p;
  span = closing (record { first = omega arith; last = omega arith; wide = w; stop = refl; here = refl });
  there = λ a. drawn-curve u p (u (suc (m + p))) (c a) m (m + p) refl ∙ move u p (c a) (u (suc (m + p))) p p 0 m (omega arith) w e ∙ ap (c a) last;
}
  where
    last : p + m ≡ m + p
    last = omega arith

-- ---- a knot strictly inside the domain occurs at most degree times
module _ (p n : ℕ) (u : ℕ → ℚ) (srt : Sorted u (n + p)) (thin : Thin p n u) (t : ℚ) where
  agree : (l m : ℕ) → l < m → m + p < n → u (l + p) <ℚ u (suc (l + p)) → t ≤ℚ u (suc (l + p)) → u (m + p) ≤ℚ t → t <ℚ u n → (c : ℕ → ℚ) → curve p u c l t ≡ curve p u c m t
  agree l m h o w up down tn c = smooth u p c t (m - l) l s≤p l<t (λ i a b. eq i a (omega arith)) ∙ ap (λ (z : ℕ). curve p u c z t) (sum l m h)
    where
      sum : (l m : ℕ) → l < m → m - l + l ≡ m
      sum l m h = omega arith

      eq : (i : ℕ) → l + p < i → i ≤ m + p → u i ≡ t
      eq i a b = le_antisym (le_trans (srt.up i (m + p) b (omega arith)) down) (le_trans up (srt.up (suc (l + p)) i a (omega arith)))

      l<t : u (l + p) <ℚ t
      l<t = lt_le_trans w (subst (λ (z : ℚ). z ≤ℚ t) (sym (eq (suc (l + p)) (omega arith) (omega arith))) (le_refl t))

      here : u (suc (l + p)) ≡ t
      here = eq (suc (l + p)) (omega arith) (omega arith)

      p<t : u p <ℚ t
      p<t = le_lt_trans (srt.up p (l + p) (omega arith) (omega arith)) l<t

      next : t <ℚ u (suc (l + p) + p)
      next = lt_cast here refl (thin.apart (suc (l + p)) (omega arith) (lt_cast refl (sym here) p<t) (lt_cast (sym here) refl tn))

      s≤p : m - l ≤ p
      s≤p = elim (dec_le (m - l) p) [
        | yes k ↦ k
        | no k ↦ absurd (lt→not_le next (le_trans (srt.up (suc (l + p) + p) (m + p) (ix (lt_of_not-le k)) (omega arith)) down))
      ]
        where
          ix : p < m - l → suc (l + p) + p ≤ m + p
          ix k = omega arith

  next-knot : (j : ℕ) → suc j + p ≡ suc (j + p)
  next-knot j = omega arith

  -- inside the domain a point of the curve is one from the left: on the span that ends at t or has it inside
  pub from_left : (c : ℕ → ℕ → ℚ) (y : ℕ → ℚ) → u p <ℚ t → t <ℚ u n → On p n u c t y → OnSide left p n u c t y
  unfolding Fit
  from_left c y h k w = ⊎_elim at-knot (λ (m : u (w.place + p) <ℚ t). record { place = w.place; inside = w.inside; fits = record { from = m; upto = w.fits.upto }; there = w.there }) (le_or_lt t (u (w.place + p)))
    where
      Ends : Type 0
      Ends = Crossing (λ j. u (j + p) <ℚ t) (λ j. t ≤ℚ u (j + p)) 0 w.place

      go : Ends → OnSide left p n u c t y
      go e = record {
        place = e.at;
        inside = omega (arith, e.last, w.inside);
        fits = record { from = e.here; upto = reach };
        there = λ a. agree e.at w.place e.last w.inside (lt_le_trans e.here reach) reach w.fits.from k (c a) ∙ w.there a;
      }
        where
          reach : t ≤ℚ u (suc (e.at + p))
          reach = subst (λ (z : ℕ). t ≤ℚ u z) (next-knot e.at) e.next

      at-knot : t ≤ℚ u (w.place + p) → OnSide left p n u c t y
      at-knot m = go (crossing _ _ (λ j. lt_or_le (u (j + p)) t) 0 w.place (omega arith) (subst (λ (z : ℕ). u z <ℚ t) ix h) (λ o. lt→not_le o m))
        where
          ix : p ≡ 0 + p
          ix = omega arith

  -- and before the domain's end one from the right: on the span that begins at t or has it inside
  pub from_right : (c : ℕ → ℕ → ℚ) (y : ℕ → ℚ) → t <ℚ u n → On p n u c t y → OnSide right p n u c t y
  unfolding Fit
  from_right c y k w = ⊎_elim at-knot (λ (m : t <ℚ u (suc (w.place + p))). record { place = w.place; inside = w.inside; fits = record { from = w.fits.from; upto = m }; there = w.there }) (le_or_lt (u (suc (w.place + p))) t)
    where
      Begins : Type 0
      Begins = Crossing (λ j. u (j + p) ≤ℚ t) (λ j. t <ℚ u (j + p)) (suc w.place) (n - p)

      go : Begins → OnSide right p n u c t y
      go e = record {
        place = e.at;
        inside = inside;
        fits = record { from = e.here; upto = subst (λ (z : ℕ). t <ℚ u z) (next-knot e.at) e.next };
        there = λ a. sym (agree w.place e.at e.first inside w.fits.wide w.fits.upto e.here k (c a)) ∙ w.there a;
      }
        where
          inside : e.at + p < n
          inside = omega (arith, e.last)

      at-knot : u (suc (w.place + p)) ≤ℚ t → OnSide right p n u c t y
      at-knot m = go (crossing _ _ (λ j. le_or_lt (u (j + p)) t) (suc w.place) (n - p) (omega (arith, w.inside)) (subst (λ (z : ℕ). u z ≤ℚ t) (sym (next-knot w.place)) m)
          (λ o. lt→not_le k (subst (λ (z : ℕ). u z ≤ℚ t) ix o)))
        where
          ix : n - p + p ≡ n
          ix = omega (arith, w.inside)

  -- the curve with closed spans is the curve on paper
  pub on_traced : (c : ℕ → ℕ → ℚ) (y : ℕ → ℚ) → On p n u c t y → Traced p n u c t y
  on_traced c y w = ⊎_elim (λ (m : t <ℚ u n). side_traced p n u c t y (from_right c y m w)) (λ (m : u n ≤ℚ t). end_traced p n u c t y srt m w) (lt_or_le t (u n))
