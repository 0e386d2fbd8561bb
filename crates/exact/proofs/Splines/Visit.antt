-- What a visit may conclude from a point of the curve: its weight, its box, the zero test, the fat line, and the share on a segment.
use mathlib.Core.Path.{◌≡◌, refl, sym, ◌∙◌, ap, ap₂, subst}
use mathlib.Core.List.{[], ◌∷◌}
use mathlib.Core.Logic.{⊎_elim}
use Prim.Native.Nat.{ℕ, zero, suc, ◌+◌, ◌-◌, ◌≤◌, ◌<◌}
use native.Mathlib.Omega.{arith}
use Rattle.solver.proofs.Ring.{by_rep, by_eq, read}
use Rattle.exact.specs.Rational.{ℚ, ◌+ℚ◌, ◌*ℚ◌, -ℚ◌, ◌-ℚ◌, 0ℚ, 1ℚ, invℚ, lerp, ratio, ◌≤ℚ◌, ◌<ℚ◌, nn_of, not_le→lt}
use Rattle.exact.specs.Spline.{round, boor, curve, Sorted, Shut, Fit, On}
use Rattle.exact.specs.Hull.{In, ξ, β}
use Rattle.exact.proofs.Field.{ℚring, nn_add, nn_mul, nn_inv, *ℚ_inv}
use Rattle.exact.proofs.Order.{le_by, le_nn, nn_le, le_trans, le_antisym, lt→le, le_or_lt, sub-inv, ratio_ge, ratio_le, pos-inv}
use Rattle.exact.proofs.Splines.Boor.{lt_cast, le_cast}
use Rattle.exact.proofs.Splines.Hull.{lerp-pos, at_cong, at_ge, at_le, at_box, at_meets, fat-line, ξ_first, ξ_last, fat-chord}

-- ---- a slope from a quotient
slope : (s x v i : ℚ) → i *ℚ v ≡ 1ℚ → s ≡ x *ℚ i → s *ℚ v ≡ x
slope s x v i e k = by_eq ℚring x e (by_eq ℚring v k (by_rep ℚring (s ∷ x ∷ v ∷ i ∷ []) (search read depth 9) (search read depth 9) tt))

-- ---- a point y of the curve at t
module _ (p n : ℕ) (u : ℕ → ℚ) (srt : Sorted u (n + p)) (c : ℕ → ℕ → ℚ) (t : ℚ) (y : ℕ → ℚ) (o : On p n u c t y) where
  f : Shut (u (o.place + p)) (u (suc (o.place + p))) t
  unfolding Fit
  f = o.fits

  -- t is in the domain
  pub on-domain : In (u p) (u n) t
  on-domain = record {
    from = le_trans (srt.up p (o.place + p) (omega arith) (a o.place o.inside)) f.from;
    upto = le_trans f.upto (srt.up (suc (o.place + p)) n (b o.place o.inside) (omega arith));
  }
    where
      a : (m : ℕ) → m + p < n → m + p ≤ n + p
      a m h = omega arith

      b : (m : ℕ) → m + p < n → suc (m + p) ≤ n
      b m h = omega arith

  -- w is the axis of the weight, q the value of the axis k divided by the weight
  module _ (w : ℕ) (pos : (i : ℕ) → i < n → 0ℚ <ℚ c w i) (k : ℕ) (q : ℚ) (e : y k *ℚ invℚ (y w) ≡ q) where
    quotient : curve p u (c k) o.place t *ℚ invℚ (curve p u (c w) o.place t) ≡ q
    quotient = ap₂ (λ (a b : ℚ). a *ℚ invℚ b) (o.there k) (o.there w) ∙ e

    -- the box of the quotients holds the quotient
    pub on-box : (a b : ℚ) → ((i : ℕ) → i < n → In a b (c k i *ℚ invℚ (c w i))) → In a b q
    on-box a b h = subst (λ (z : ℚ). In a b z) quotient (at_box p n u srt t o.place o.inside f (c k) (c w) a b pos h)

    -- the curve of the axis k less q times the weight is zero at t; d are its control values
    module _ (d : ℕ → ℚ) (dd : (i : ℕ) → i < n → d i ≡ c k i -ℚ q *ℚ c w i) where
      zero_there : curve p u d o.place t ≡ 0ℚ
      zero_there = at_cong p n u srt t o.place o.inside f d (λ i. c k i -ℚ q *ℚ c w i) dd ∙ at_meets p n u srt t o.place o.inside f (c k) (c w) q pos quotient

      -- the zero test by the hull: the range of its control values holds 0
      pub on-range : (a b : ℚ) → ((i : ℕ) → i < n → In a b (d i)) → In a b 0ℚ
      on-range a b h = record {
        from = subst (λ (z : ℚ). a ≤ℚ z) zero_there (at_ge p n u srt t o.place o.inside f d a (λ i l. (h i l).from));
        upto = subst (λ (z : ℚ). z ≤ℚ b) zero_there (at_le p n u srt t o.place o.inside f d b (λ i l. (h i l).upto));
      }

      -- the band around a line of any slope s
      pub on-band : 1 ≤ p → (s lo hi : ℚ) → ((i : ℕ) → i < n → In lo hi (d i -ℚ (d zero +ℚ s *ℚ (ξ p u i -ℚ ξ p u zero)))) → In lo hi (-ℚ (d zero +ℚ s *ℚ (t -ℚ ξ p u zero)))
      on-band h s lo hi l = fat-line p n u srt t o.place o.inside f h d s lo hi l zero_there

      -- the abscissae reach from left to right, unless the first is the last
      pub on-chord : 1 ≤ p → ¬ (ξ p u (n - 1) -ℚ ξ p u zero ≡ 0ℚ) → ξ p u zero <ℚ ξ p u (n - 1)
      on-chord h ne = not_le→lt (λ m. ne (eq (ξ p u (n - 1)) (ξ p u zero) (le_antisym m (le_trans (ξ_first p n u srt t o.place o.inside f h) (ξ_last p n u srt t o.place o.inside f h)))))
        where
          eq : (x y : ℚ) → x ≡ y → x -ℚ y ≡ 0ℚ
          eq x y e = by_eq ℚring 1ℚ e (by_rep ℚring (x ∷ y ∷ []) (search read) (search read) tt)

      -- the chord at t lies between the end values
      pub on_line : 1 ≤ p → (s a b : ℚ) → ¬ (ξ p u (n - 1) -ℚ ξ p u zero ≡ 0ℚ) → s ≡ (d (n - 1) -ℚ d zero) *ℚ invℚ (ξ p u (n - 1) -ℚ ξ p u zero)
          → In a b (d zero) → In a b (d (n - 1)) → In a b (d zero +ℚ s *ℚ (t -ℚ ξ p u zero))
      on_line h s a b ne es first last = fat-chord p n u srt t o.place o.inside f h (d zero) (d (n - 1)) s a b wide (slope _ _ _ _ (sub-inv wide) es) first last
        where
          wide : ξ p u zero <ℚ ξ p u (n - 1)
          wide = on-chord h ne

-- ---- degree 1 and two points: a segment
module _ (u : ℕ → ℚ) (c : ℕ → ℕ → ℚ) (t : ℚ) (y : ℕ → ℚ) (o : On 1 2 u c t y) (w : ℕ) (p₀ : 0ℚ <ℚ c w 0) (p₁ : 0ℚ <ℚ c w 1) where
  g : Shut (u (o.place + 1)) (u (suc (o.place + 1))) t
  unfolding Fit
  g = o.fits

  abbrev α : ℚ
  α = ratio t (u 1) (u 2)

  here : o.place ≡ zero
  here = ix o.place o.inside
    where
      ix : (m : ℕ) → m + 1 < 2 → m ≡ zero
      ix m h = omega arith

  value : (k : ℕ) → lerp α (c k 0) (c k 1) ≡ y k
  unfolding boor round
  value k = ap (λ (m : ℕ). curve 1 u (c k) m t) (sym here) ∙ o.there k

  wide : u 1 <ℚ u 2
  wide = lt_cast (ap (λ (m : ℕ). u (m + 1)) here) (ap (λ (m : ℕ). u (suc (m + 1))) here) g.wide

  α_ge : 0ℚ ≤ℚ α
  α_ge = ratio_ge wide (le_cast (ap (λ (m : ℕ). u (m + 1)) here) refl g.from)

  α_le : α ≤ℚ 1ℚ
  α_le = ratio_le wide (le_cast refl (ap (λ (m : ℕ). u (suc (m + 1))) here) g.upto)

  abbrev W : ℚ
  W = lerp α (c w 0) (c w 1)

  W-pos : 0ℚ <ℚ W
  W-pos = lerp-pos α (c w 0) (c w 1) α_ge α_le p₀ p₁

  -- the share is from 0 to 1
  pub β_in : In 0ℚ 1ℚ (β u c t w)
  unfolding lerp
  β_in = record {
    from = le_nn (nn_mul _ _ (nn_mul _ _ (nn_le α_ge) (nn_le (lt→le p₁))) (nn_inv W (nn_le (lt→le W-pos))));
    upto = le_by {z = (1ℚ -ℚ α) *ℚ c w 0 *ℚ invℚ W} (nn_mul _ _ (nn_mul _ _ (nn_of α_le) (nn_le (lt→le p₀))) (nn_inv W (nn_le (lt→le W-pos)))) (eq α (c w 0) (c w 1) (invℚ W) (pos-inv W W-pos));
  }
    where
      eq : (α v₀ v₁ i : ℚ) → ((1ℚ -ℚ α) *ℚ v₀ +ℚ α *ℚ v₁) *ℚ i ≡ 1ℚ → 1ℚ -ℚ α *ℚ v₁ *ℚ i ≡ (1ℚ -ℚ α) *ℚ v₀ *ℚ i
      eq α v₀ v₁ i e = by_eq ℚring (-ℚ 1ℚ) e (by_rep ℚring (α ∷ v₀ ∷ v₁ ∷ i ∷ []) (search read depth 12) (search read depth 12) tt)

  -- the point divides the segment by its share, on all axes alike
  pub straight : (k : ℕ) → y k *ℚ invℚ (y w) ≡ c k 0 *ℚ invℚ (c w 0) +ℚ β u c t w *ℚ (c k 1 *ℚ invℚ (c w 1) -ℚ c k 0 *ℚ invℚ (c w 0))
  unfolding lerp
  straight k = sym (ap₂ (λ (a b : ℚ). a *ℚ invℚ b) (value k) (value w)) ∙ eq α (c k 0) (c k 1) (c w 0) (c w 1) (invℚ W) (invℚ (c w 0)) (invℚ (c w 1)) (pos-inv W W-pos) (pos-inv (c w 0) p₀) (pos-inv (c w 1) p₁)
    where
      eq : (α x₀ x₁ v₀ v₁ i j l : ℚ) → ((1ℚ -ℚ α) *ℚ v₀ +ℚ α *ℚ v₁) *ℚ i ≡ 1ℚ → v₀ *ℚ j ≡ 1ℚ → v₁ *ℚ l ≡ 1ℚ → ((1ℚ -ℚ α) *ℚ x₀ +ℚ α *ℚ x₁) *ℚ i ≡ x₀ *ℚ j +ℚ α *ℚ v₁ *ℚ i *ℚ (x₁ *ℚ l -ℚ x₀ *ℚ j)
      eq α x₀ x₁ v₀ v₁ i j l e f h = by_eq ℚring (x₀ *ℚ j) e (by_eq ℚring (-ℚ ((1ℚ -ℚ α) *ℚ i *ℚ x₀)) f (by_eq ℚring (-ℚ (α *ℚ i *ℚ x₁)) h (by_rep ℚring (α ∷ x₀ ∷ x₁ ∷ v₀ ∷ v₁ ∷ i ∷ j ∷ l ∷ []) (search read depth 16) (search read depth 16) tt)))

-- ---- an axis that moves confines the share
pub confine : (A D β q lo hi m M : ℚ) → ¬ (D ≡ 0ℚ) → q ≡ A +ℚ β *ℚ D → In lo hi q → In m M ((lo -ℚ A) *ℚ invℚ D) → In m M ((hi -ℚ A) *ℚ invℚ D) → In m M β
confine A D β q lo hi m M ne e h a b = subst (λ (z : ℚ). In m M z) (sym (back A D β q (invℚ D) (*ℚ_inv D ne) e)) (both (invℚ D) a b)
  where
    back : (A D β q i : ℚ) → D *ℚ i ≡ 1ℚ → q ≡ A +ℚ β *ℚ D → β ≡ (q -ℚ A) *ℚ i
    back A D β q i e k = by_eq ℚring (-ℚ β) e (by_eq ℚring (-ℚ i) k (by_rep ℚring (A ∷ D ∷ β ∷ q ∷ i ∷ []) (search read depth 12) (search read depth 12) tt))

    both : (i : ℚ) → In m M ((lo -ℚ A) *ℚ i) → In m M ((hi -ℚ A) *ℚ i) → In m M ((q -ℚ A) *ℚ i)
    both i a b = ⊎_elim
        (λ (s : 0ℚ ≤ℚ i). record {
          from = le_by (nn_add _ _ (nn_of a.from) (nn_mul _ _ (nn_le s) (nn_of h.from))) (by_rep ℚring (m ∷ A ∷ q ∷ lo ∷ i ∷ []) (search read depth 12) (search read depth 12) tt);
          upto = le_by (nn_add _ _ (nn_of b.upto) (nn_mul _ _ (nn_le s) (nn_of h.upto))) (by_rep ℚring (M ∷ A ∷ q ∷ hi ∷ i ∷ []) (search read depth 12) (search read depth 12) tt);
        })
        (λ (s : i <ℚ 0ℚ). record {
          from = le_by (nn_add _ _ (nn_of b.from) (nn_mul _ _ (nn_of (lt→le s)) (nn_of h.upto))) (by_rep ℚring (m ∷ A ∷ q ∷ hi ∷ i ∷ []) (search read depth 12) (search read depth 12) tt);
          upto = le_by (nn_add _ _ (nn_of a.upto) (nn_mul _ _ (nn_of (lt→le s)) (nn_of h.from))) (by_rep ℚring (M ∷ A ∷ q ∷ lo ∷ i ∷ []) (search read depth 12) (search read depth 12) tt);
        })
        (le_or_lt 0ℚ i)
