-- Boehm's knot insertion keeps the curve, and the whole blossom, on every segment of the new knots.
use mathlib.Core.Path.{◌≡◌, ◌∙◌, ap}
use mathlib.Core.Logic.{⊎_elim}
use Prim.Native.Nat.{ℕ, zero, suc, ◌+◌, ◌≤◌, ◌<◌}
use native.Mathlib.Nat.{eq-or-lt_of_le}
use native.Mathlib.Omega.{arith}
use Rattle.exact.specs.Rational.{ℚ, lerp, ratio, ◌≤ℚ◌, ◌<ℚ◌}
use Rattle.exact.specs.Spline.{round, boor, Segment}
use Rattle.exact.specs.Insertion.{Inserted}
use Rattle.exact.proofs.Order.{le_lt_trans}
use Rattle.exact.proofs.Splines.Boor.{lt_cast, le_cast, lerp_cong, exchange, below, above, spread}

module _ (p : ℕ) (u c : ℕ → ℚ) (x : ℚ) (k : ℕ) (u' c' : ℕ → ℚ) (q : Inserted p u c x k u' c') (τ : ℕ → ℚ) (l : ℕ) (s : Segment p u' l) where
  -- after r rounds the new values at or before the new knot are the old ones, those around it are the old ones after one round more, at x, and those after it
  -- are the old ones one place on
  record Inv (r : ℕ) : Type 0 where
    low : (j : ℕ) → l ≤ j + p → j + r ≤ l → j + p ≤ k → boor u' p c' τ r j ≡ boor u p c τ r j
    mid : (j : ℕ) → l ≤ suc j + p → suc j + r ≤ l → k ≤ j + p → j + r < k → boor u' p c' τ r (suc j) ≡ round u p (suc r) x (boor u p c τ r) j
    high : (j : ℕ) → l ≤ suc j + p → suc j + r ≤ l → k ≤ j + r → boor u' p c' τ r (suc j) ≡ boor u p c τ r j

  new_at : (i : ℕ) → i ≡ suc k → u' i ≡ x
  new_at i e = ap u' e ∙ q.new_knot

  high_at : (i i' : ℕ) → i' ≡ suc i → k < i → u' i' ≡ u i
  high_at i i' e h = ap u' e ∙ q.high_knot i h

  inv_zero : Inv zero
  unfolding boor
  inv_zero = record {
    low = λ j _ _ h. q.low_ctrl j h;
    mid = λ j _ _ h m. q.mid_ctrl j h (omega arith);
    high = λ j _ _ h. q.high_ctrl j (omega arith);
  }

  step_low : (r : ℕ) → suc r ≤ p → Inv r → (j : ℕ) → l ≤ j + p → j + suc r ≤ l → j + p ≤ k → boor u' p c' τ (suc r) j ≡ boor u p c τ (suc r) j
  unfolding boor round
  step_low r rp v j h m n = ⊎_elim at_end inside (eq-or-lt_of_le n)
    where
      inside : j + p < k → boor u' p c' τ (suc r) j ≡ boor u p c τ (suc r) j
      inside e = lerp_cong (τ (suc r)) (q.low_knot (j + suc r) (omega arith)) (q.low_knot (j + suc p) (omega arith)) (v.low j h (omega arith) n) (v.low (suc j) (omega arith) (omega arith) (omega arith))

      at_end : j + p ≡ k → boor u' p c' τ (suc r) j ≡ boor u p c τ (suc r) j
      at_end e =
          let hu : u' (j + suc r) ≡ u (j + suc r) = q.low_knot (j + suc r) (omega arith) in
          let hx : u' (j + suc p) ≡ x = new_at (j + suc p) (omega arith) in
          lerp_cong (τ (suc r)) hu hx (v.low j h (omega arith) n) (v.mid j (omega arith) (omega arith) (omega arith) (omega arith))
          ∙ below (boor u p c τ r j) (boor u p c τ r (suc j)) (τ (suc r)) x (u (j + suc r)) (u (j + suc p)) (lt_cast hu hx (spread s (j + suc r) (j + suc p) m (omega arith) (omega arith)))

  step-mid : (r : ℕ) → suc r ≤ p → Inv r → (j : ℕ) → l ≤ suc j + p → suc j + suc r ≤ l → k ≤ j + p → j + suc r < k → boor u' p c' τ (suc r) (suc j) ≡ round u p (suc (suc r)) x (boor u p c τ (suc r)) j
  unfolding boor round
  step-mid r rp v j h m n o =
      lerp_cong t hb hc (v.mid j (omega arith) (omega arith) n (omega arith)) (v.mid (suc j) (omega arith) (omega arith) (omega arith) (omega arith))
      ∙ exchange (f j) (f (suc j)) (f (suc (suc j))) x t (u (j + suc r)) (u (suc j + suc r)) (u (j + suc p)) (u (suc j + suc p)) (le_lt_trans a≤b b<c) b<c
      ∙ ap (λ (i : ℕ). lerp (ratio x (u i) (u (j + suc p))) (boor u p c τ (suc r) j) (boor u p c τ (suc r) (suc j))) ix
    where
      t : ℚ
      t = τ (suc r)

      f : ℕ → ℚ
      f = boor u p c τ r

      ix : suc j + suc r ≡ j + suc (suc r)
      ix = omega arith

      ha : u' (j + suc r) ≡ u (j + suc r)
      ha = q.low_knot (j + suc r) (omega arith)

      hb : u' (suc j + suc r) ≡ u (suc j + suc r)
      hb = q.low_knot (suc j + suc r) (omega arith)

      hc : u' (suc j + suc p) ≡ u (j + suc p)
      hc = high_at (j + suc p) (suc j + suc p) (omega arith) (omega arith)

      a≤b : u (j + suc r) ≤ℚ u (suc j + suc r)
      a≤b = le_cast ha hb (s.sorted (j + suc r) (suc j + suc r) (omega arith) (omega arith))

      b<c : u (suc j + suc r) <ℚ u (j + suc p)
      b<c = lt_cast hb hc (spread s (suc j + suc r) (suc j + suc p) m (omega arith) (omega arith))

  step_high : (r : ℕ) → suc r ≤ p → Inv r → (j : ℕ) → l ≤ suc j + p → suc j + suc r ≤ l → k ≤ j + suc r → boor u' p c' τ (suc r) (suc j) ≡ boor u p c τ (suc r) j
  unfolding boor round
  step_high r rp v j h m n = ⊎_elim at_end inside (eq-or-lt_of_le n)
    where
      hc : u' (suc j + suc p) ≡ u (j + suc p)
      hc = high_at (j + suc p) (suc j + suc p) (omega arith) (omega arith)

      inside : k < j + suc r → boor u' p c' τ (suc r) (suc j) ≡ boor u p c τ (suc r) j
      inside e = lerp_cong (τ (suc r)) (high_at (j + suc r) (suc j + suc r) (omega arith) e) hc (v.high j (omega arith) (omega arith) (omega arith)) (v.high (suc j) (omega arith) (omega arith) (omega arith))

      at_end : k ≡ j + suc r → boor u' p c' τ (suc r) (suc j) ≡ boor u p c τ (suc r) j
      at_end e =
          let hx : u' (suc j + suc r) ≡ x = new_at (suc j + suc r) (omega arith) in
          let hk : u' (j + suc r) ≡ u (j + suc r) = q.low_knot (j + suc r) (omega arith) in
          let x<c : x <ℚ u (j + suc p) = lt_cast hx hc (spread s (suc j + suc r) (suc j + suc p) m (omega arith) (omega arith)) in
          lerp_cong (τ (suc r)) hx hc (v.mid j (omega arith) (omega arith) (omega arith) (omega arith)) (v.high (suc j) (omega arith) (omega arith) (omega arith))
          ∙ above (boor u p c τ r j) (boor u p c τ r (suc j)) (τ (suc r)) x (u (j + suc r)) (u (j + suc p)) x<c
          (le_lt_trans (le_cast hk hx (s.sorted (j + suc r) (suc j + suc r) (omega arith) (omega arith))) x<c)

  inv : (r : ℕ) → r ≤ p → Inv r
  inv zero h = inv_zero
  inv (suc r) h = let v : Inv r = inv r (omega arith) in record { low = step_low r h v; mid = step-mid r h v; high = step_high r h v }

  -- ---- the new curve on a segment at or before the new knot, and on one after it, is the old one there
  pub boehm_low : (j : ℕ) → j + p ≡ l → l ≤ k → boor u' p c' τ p j ≡ boor u p c τ p j
  boehm_low j e h = (inv p (omega arith)).low j (omega arith) (omega arith) (omega arith)

  pub boehm_high : (j : ℕ) → suc j + p ≡ l → k < l → boor u' p c' τ p (suc j) ≡ boor u p c τ p j
  boehm_high j e h = (inv p (omega arith)).high j (omega arith) (omega arith) (omega arith)
