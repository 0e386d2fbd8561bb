-- The cut of a Bezier span by de Casteljau's triangle: its near side is the left part, its far side the right part.
use mathlib.Core.Path.{◌≡◌, refl, sym, ◌∙◌, ap, ap₂}
use mathlib.Core.List.{[], ◌∷◌}
use Prim.Native.Nat.{ℕ, zero, suc, ◌+◌, ◌-◌, ◌≤◌, ◌<◌}
use native.Mathlib.Nat.{lt_of_not-le}
use native.Mathlib.Decide.{dec_le}
use native.Mathlib.Omega.{arith}
use Rattle.solver.proofs.Ring.{by_rep, read}
use Rattle.exact.specs.Rational.{ℚ, lerp, ratio, ◌≤ℚ◌, ◌<ℚ◌, lt→not_le}
use Rattle.exact.specs.Spline.{round, boor, curve, shut, Shut, Fit, On}
use Rattle.exact.specs.Cut.{Good}
use Rattle.exact.specs.Bezier.{Bezier, tri, near_side, far_side}
use Rattle.exact.proofs.Field.{ℚring}
use Rattle.exact.proofs.Order.{le_refl, lt→le, lt_le_trans}
use Rattle.exact.proofs.Splines.Boor.{lt_cast, le_cast, lerp_cong, below, above}
use Rattle.exact.proofs.Splines.On.{fit-cast}

-- ---- rows of two triangles may change places
swap-lerp : (a b x y z : ℚ) → lerp a (lerp b x y) (lerp b y z) ≡ lerp b (lerp a x y) (lerp a y z)
unfolding lerp
swap-lerp a b x y z = by_rep ℚring (a ∷ b ∷ x ∷ y ∷ z ∷ []) (search read depth 14) (search read depth 14) tt

tri-swap : (a b : ℚ) (r : ℕ) (f : ℕ → ℚ) (j : ℕ) → lerp a (tri b r f j) (tri b r f (suc j)) ≡ tri b r (λ i. lerp a (f i) (f (suc i))) j
unfolding tri
tri-swap a b zero f j = refl
tri-swap a b (suc r) f j = swap-lerp a b _ _ _ ∙ ap₂ (lerp b) (tri-swap a b r f j) (tri-swap a b r f (suc j))

tri_cong : (a : ℚ) (r : ℕ) (f g : ℕ → ℚ) (h : (i : ℕ) → f i ≡ g i) (j : ℕ) → tri a r f j ≡ tri a r g j
unfolding tri
tri_cong a zero f g h j = h j
tri_cong a (suc r) f g h j = ap₂ (lerp a) (tri_cong a r f g h j) (tri_cong a r f g h (suc j))

-- one round more outside is one round more inside
tri_in : (a b : ℚ) (r q : ℕ) (f : ℕ → ℚ) (j : ℕ) → lerp a (tri b r (tri a q f) j) (tri b r (tri a q f) (suc j)) ≡ tri b r (tri a (suc q) f) j
unfolding tri
tri_in a b r q f j = tri-swap a b r (tri a q f) j

-- ---- the triangle over a side of the triangle
module _ (a b x t : ℚ) (ax : a <ℚ x) (xb : x <ℚ b) where
  abbrev ρ : ℚ
  ρ = ratio t a b

  tri_left : (c : ℕ → ℚ) (q r : ℕ) → tri (ratio t a x) q (λ i. tri (ratio x a b) i c zero) r ≡ tri (ratio x a b) r (tri ρ q c) zero
  unfolding tri
  tri_left c zero r = tri_cong (ratio x a b) r c (tri ρ zero c) (λ i. refl) zero
  tri_left c (suc q) r = ap₂ (lerp (ratio t a x)) (tri_left c q r) (tri_left c q (suc r))
      ∙ below (tri (ratio x a b) r (tri ρ q c) zero) (tri (ratio x a b) r (tri ρ q c) 1) t x a b ax
      ∙ tri_in ρ (ratio x a b) r q c zero

  tri_right : (p : ℕ) (c : ℕ → ℚ) (q d j : ℕ) → d + q + j ≡ p → tri (ratio t x b) q (λ i. tri (ratio x a b) (p - i) c i) j ≡ tri (ratio x a b) d (tri ρ q c) j
  unfolding tri
  tri_right p c zero d j e = ap (λ (z : ℕ). tri (ratio x a b) z c j) (ix p d j e) ∙ tri_cong (ratio x a b) d c (tri ρ zero c) (λ i. refl) j
    where
      ix : (p d j : ℕ) → d + zero + j ≡ p → p - j ≡ d
      ix p d j e = omega arith
  tri_right p c (suc q) d j e = ap₂ (lerp (ratio t x b)) (tri_right p c q (suc d) j (omega arith)) (tri_right p c q d (suc j) (omega arith))
      ∙ above (tri (ratio x a b) d (tri ρ q c) j) (tri (ratio x a b) d (tri ρ q c) (suc j)) t x a b xb (lt_le_trans ax (lt→le xb))
      ∙ tri_in ρ (ratio x a b) d q c j

-- ---- de Boor's rounds on a Bezier span are the triangle's
boor-tri : (p : ℕ) (u : ℕ → ℚ) (a b : ℚ) → Bezier p u a b → (c d : ℕ → ℚ) → ((i : ℕ) → i ≤ p → c i ≡ d i) → (t : ℚ) (r j : ℕ) → j + r ≤ p → boor u p c (λ _. t) r j ≡ tri (ratio t a b) r d j
unfolding boor round tri
boor-tri p u a b z c d h t zero j k = h j (omega arith)
boor-tri p u a b z c d h t (suc r) j k = lerp_cong t (z.start (j + suc r) k) (z.stop (j + suc p) (omega arith) (omega arith)) (boor-tri p u a b z c d h t r j (omega arith)) (boor-tri p u a b z c d h t r (suc j) (omega arith))

bezier_on : (p : ℕ) (u : ℕ → ℚ) (c d : ℕ → ℕ → ℚ) (a b t : ℚ) (y : ℕ → ℚ) → Bezier p u a b → Shut a b t → ((k i : ℕ) → i ≤ p → c k i ≡ d k i) → ((k : ℕ) → tri (ratio t a b) p (d k) zero ≡ y k) → On p (suc p) u c t y
unfolding Fit
bezier_on p u c d a b t y z s h e = record {
  place = zero;
  inside = omega arith;
  fits = fit-cast shut t (sym (z.start (zero + p) (omega arith))) (sym (z.stop (suc (zero + p)) (omega arith) (omega arith))) s;
  there = λ k. boor-tri p u a b z (c k) (d k) (h k) t p zero (omega arith) ∙ e k;
}

on_bezier : (p : ℕ) (u : ℕ → ℚ) (c : ℕ → ℕ → ℚ) (a b t : ℚ) (y : ℕ → ℚ) → Bezier p u a b → On p (suc p) u c t y → Shut a b t × ((k : ℕ) → tri (ratio t a b) p (c k) zero ≡ y k)
unfolding Fit
on_bezier p u c a b t y z w = (
  fit-cast shut t (z.start (w.place + p) (low w.place w.inside)) (z.stop (suc (w.place + p)) (omega arith) (high w.place w.inside)) w.fits,
  λ k. sym (boor-tri p u a b z (c k) (c k) (λ _ _. refl) t p zero (omega arith)) ∙ ap (λ (m : ℕ). curve p u (c k) m t) (ix w.place w.inside) ∙ w.there k,
)
  where
    low : (m : ℕ) → m + p < suc p → m + p ≤ p
    low m h = omega arith

    high : (m : ℕ) → m + p < suc p → suc (m + p) ≤ suc p + p
    high m h = omega arith

    ix : (m : ℕ) → m + p < suc p → zero ≡ m
    ix m h = omega arith

-- ---- the cut of a Bezier span: d are the values that the triangle at x leaves on one of its sides
pub bezier_left : (p : ℕ) (u v : ℕ → ℚ) (c d : ℕ → ℕ → ℚ) (a b x t : ℚ) (y : ℕ → ℚ) → a <ℚ x → x <ℚ b → Bezier p u a b → Bezier p v a x
    → ((k i : ℕ) → i ≤ p → d k i ≡ near_side (ratio x a b) (c k) i) → t ≤ℚ x → On p (suc p) u c t y → On p (suc p) v d t y
unfolding tri
bezier_left p u v c d a b x t y ax xb z z' h tx w = let o = on_bezier p u c a b t y z w in
    bezier_on p v d (λ k i. tri (ratio x a b) i (c k) zero) a x t y z' (record { from = o.0.from; upto = tx; wide = ax }) h (λ k. tri_left a b x t ax xb (c k) p zero ∙ o.1 k)

pub bezier_right : (p : ℕ) (u v : ℕ → ℚ) (c d : ℕ → ℕ → ℚ) (a b x t : ℚ) (y : ℕ → ℚ) → a <ℚ x → x <ℚ b → Bezier p u a b → Bezier p v x b
    → ((k i : ℕ) → i ≤ p → d k i ≡ far_side (ratio x a b) p (c k) i) → x ≤ℚ t → On p (suc p) u c t y → On p (suc p) v d t y
unfolding tri
bezier_right p u v c d a b x t y ax xb z z' h xt w = let o = on_bezier p u c a b t y z w in
    bezier_on p v d (λ k i. tri (ratio x a b) (p - i) (c k) i) x b t y z' (record { from = xt; upto = o.0.upto; wide = xb }) h (λ k. tri_right a b x t ax xb p (c k) p zero zero (omega arith) ∙ o.1 k)

-- its knots are accepted
pub bezier_good : (p : ℕ) (u : ℕ → ℚ) (a b : ℚ) → a <ℚ b → Bezier p u a b → Good p (suc p) u
bezier_good p u a b h z = record {
  sorted = record { up = up };
  room = omega arith;
  span = lt_cast (sym (z.start p (omega arith))) (sym (z.stop (suc p) (omega arith) (omega arith))) h;
  thin = record { apart = λ i k l m. absurd (none i k l m) };
  loose = λ i k. lt_cast (sym (z.start i (omega arith))) (sym (z.stop (suc (i + p)) (omega arith) (omega arith))) h;
}
  where
    up : (i j : ℕ) → i ≤ j → j ≤ suc p + p → u i ≤ℚ u j
    up i j k l = elim (dec_le j p) [
      | yes m ↦ le_cast (sym (z.start i (omega arith))) (sym (z.start j m)) (le_refl a)
      | no m ↦ elim (dec_le i p) [
        | yes o ↦ le_cast (sym (z.start i o)) (sym (z.stop j (lt_of_not-le m) l)) (lt→le h)
        | no o ↦ le_cast (sym (z.stop i (lt_of_not-le o) (omega arith))) (sym (z.stop j (lt_of_not-le m) l)) (le_refl b)
      ]
    ]

    none : (i : ℕ) → i ≤ suc p → u p <ℚ u i → u i <ℚ u (suc p) → ⊥
    none i k l m = elim (dec_le i p) [
      | yes o ↦ lt→not_le l (le_cast (sym (z.start i o)) (sym (z.start p (omega arith))) (le_refl a))
      | no o ↦ lt→not_le m (le_cast (sym (z.stop (suc p) (omega arith) (omega arith))) (sym (z.stop i (lt_of_not-le o) (omega arith))) (le_refl b))
    ]
