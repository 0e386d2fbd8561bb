-- What a point of the curve owes to the control values: it lies in their hull, their quotients bound its quotient, and the fat line holds it.
use mathlib.Core.Path.{◌≡◌, refl, sym, ◌∙◌, ap, ap₂, subst}
use mathlib.Core.List.{[], ◌∷◌}
use mathlib.Core.Logic.{⊎_elim}
use Prim.Native.Nat.{ℕ, zero, suc, ◌+◌, ◌-◌, ◌≤◌, ◌<◌}
use native.Mathlib.Omega.{arith}
use Rattle.solver.proofs.Ring.{by_rep, by_eq, read}
use Rattle.exact.specs.Rational.{ℚ, ◌+ℚ◌, ◌*ℚ◌, -ℚ◌, ◌-ℚ◌, 0ℚ, 1ℚ, invℚ, whole, lerp, ratio, ◌≤ℚ◌, ◌<ℚ◌, nn_of}
use Rattle.exact.specs.Spline.{round, boor, curve, Sorted, Segment, Shut}
use Rattle.exact.specs.Hull.{In, sum, ξ}
use Rattle.exact.proofs.Field.{ℚring, *ℚ_comm, nn_add, nn_mul, nn_inv, nn_0}
use Rattle.exact.proofs.Order.{le_by, le_nn, nn_le, le_refl, le_trans, lt→le, le_or_lt, lt_le_trans, mul_mono, sub-inv, lerp_ge, lerp_le, ratio_ge, ratio_le, pos-inv}
use Rattle.exact.proofs.Embed.{÷_pos, ÷_zero}
use Rattle.exact.proofs.Splines.Boor.{boor_lin, spread, boor_ge, boor_le, whole-suc, greville}
use Rattle.exact.proofs.Splines.On.{segment_of, boor_cong}

-- ---- constants and positive values
lerp_same : (a k : ℚ) → lerp a k k ≡ k
unfolding lerp
lerp_same a k = by_rep ℚring (a ∷ k ∷ []) (search read depth 9) (search read depth 9) tt

pub boor-const : (u : ℕ → ℚ) (p : ℕ) (k : ℚ) (τ : ℕ → ℚ) (r j : ℕ) → boor u p (λ _. k) τ r j ≡ k
unfolding boor round
boor-const u p k τ zero j = refl
boor-const u p k τ (suc r) j = ap₂ (lerp _) (boor-const u p k τ r j) (boor-const u p k τ r (suc j)) ∙ lerp_same _ k

pub lerp-pos : (a x y : ℚ) → 0ℚ ≤ℚ a → a ≤ℚ 1ℚ → 0ℚ <ℚ x → 0ℚ <ℚ y → 0ℚ <ℚ lerp a x y
lerp-pos a x y h k m n = ⊎_elim
    (λ (o : x ≤ℚ y). lt_le_trans m (lerp_ge h k (le_refl x) o))
    (λ (o : y <ℚ x). lt_le_trans n (lerp_ge h k (lt→le o) (le_refl y)))
    (le_or_lt x y)

-- ---- means of knots

-- the degree, at least 1, as a rational
pub deg-pos : (p : ℕ) → 1 ≤ p → 0ℚ <ℚ whole p
deg-pos p h = ÷_pos p 1 h (omega arith)

sum_le : (u : ℕ → ℚ) (b : ℚ) (n j : ℕ) → ((i : ℕ) → j ≤ i → i < j + n → u i ≤ℚ b) → sum u n j ≤ℚ whole n *ℚ b
unfolding sum
sum_le u b zero j h = le_by nn_0 (by_eq ℚring b (÷_zero 1) (by_rep ℚring (b ∷ whole zero ∷ []) (search read) (search read) tt))
sum_le u b (suc n) j h = le_by (nn_add _ _ (nn_of (h j (omega arith) (omega arith))) (nn_of (sum_le u b n (suc j) (λ i k l. h i (omega arith) (omega arith)))))
    (by_eq ℚring b (whole-suc n) (by_rep ℚring (u j ∷ b ∷ whole n ∷ whole (suc n) ∷ sum u n (suc j) ∷ []) (search read depth 9) (search read depth 9) tt))

sum_ge : (u : ℕ → ℚ) (b : ℚ) (n j : ℕ) → ((i : ℕ) → j ≤ i → i < j + n → b ≤ℚ u i) → whole n *ℚ b ≤ℚ sum u n j
unfolding sum
sum_ge u b zero j h = le_by nn_0 (by_eq ℚring (-ℚ b) (÷_zero 1) (by_rep ℚring (b ∷ whole zero ∷ []) (search read) (search read) tt))
sum_ge u b (suc n) j h = le_by (nn_add _ _ (nn_of (h j (omega arith) (omega arith))) (nn_of (sum_ge u b n (suc j) (λ i k l. h i (omega arith) (omega arith)))))
    (by_eq ℚring (-ℚ b) (whole-suc n) (by_rep ℚring (u j ∷ b ∷ whole n ∷ whole (suc n) ∷ sum u n (suc j) ∷ []) (search read depth 9) (search read depth 9) tt))

scale-eq : (n i b : ℚ) → n *ℚ i ≡ 1ℚ → i *ℚ (n *ℚ b) ≡ b
scale-eq n i b e = by_eq ℚring b e (by_rep ℚring (n ∷ i ∷ b ∷ []) (search read depth 9) (search read depth 9) tt)

mean_le : {p : ℕ} → 1 ≤ p → (u : ℕ → ℚ) (j : ℕ) (b : ℚ) → ((i : ℕ) → j < i → i ≤ j + p → u i ≤ℚ b) → ξ p u j ≤ℚ b
unfolding ξ
mean_le {p} h u j b k = subst (λ (z : ℚ). ξ p u j ≤ℚ z) (scale-eq _ _ b (pos-inv (whole p) (deg-pos p h)))
    (mul_mono (le_nn (nn_inv (whole p) (nn_le (lt→le (deg-pos p h))))) (sum_le u b p (suc j) (λ i a o. k i a (omega arith))))

mean_ge : {p : ℕ} → 1 ≤ p → (u : ℕ → ℚ) (j : ℕ) (b : ℚ) → ((i : ℕ) → j < i → i ≤ j + p → b ≤ℚ u i) → b ≤ℚ ξ p u j
unfolding ξ
mean_ge {p} h u j b k = subst (λ (z : ℚ). z ≤ℚ ξ p u j) (scale-eq _ _ b (pos-inv (whole p) (deg-pos p h)))
    (mul_mono (le_nn (nn_inv (whole p) (nn_le (lt→le (deg-pos p h))))) (sum_ge u b p (suc j) (λ i a o. k i a (omega arith))))

-- ---- straight lines

-- the chord from (a, x) to (b, y) at t, by its slope s
chord-eq : (t a b x y s i : ℚ) → i *ℚ (b -ℚ a) ≡ 1ℚ → s *ℚ (b -ℚ a) ≡ y -ℚ x → lerp ((t -ℚ a) *ℚ i) x y ≡ x +ℚ s *ℚ (t -ℚ a)
unfolding lerp
chord-eq t a b x y s i e k = by_eq ℚring (s *ℚ (t -ℚ a)) e (by_eq ℚring (-ℚ ((t -ℚ a) *ℚ i)) k
    (by_rep ℚring (t ∷ a ∷ b ∷ x ∷ y ∷ s ∷ i ∷ []) (search read depth 20) (search read depth 20) tt))

chord : (t a b x y s : ℚ) → a <ℚ b → s *ℚ (b -ℚ a) ≡ y -ℚ x → lerp (ratio t a b) x y ≡ x +ℚ s *ℚ (t -ℚ a)
unfolding ratio
chord t a b x y s h k = chord-eq t a b x y s (invℚ (b -ℚ a)) (sub-inv h) k

-- a line with the slope s, d₀ at ξ₀, that is δ from zero at t: it gives t
pub solve : (t ξ₀ d₀ s δ : ℚ) → s *ℚ invℚ s ≡ 1ℚ → δ ≡ -ℚ (d₀ +ℚ s *ℚ (t -ℚ ξ₀)) → t ≡ ξ₀ -ℚ (d₀ +ℚ δ) *ℚ invℚ s
solve t ξ₀ d₀ s δ e k = eq t ξ₀ d₀ s δ (invℚ s) e k
  where
    eq : (t ξ₀ d₀ s δ i : ℚ) → s *ℚ i ≡ 1ℚ → δ ≡ -ℚ (d₀ +ℚ s *ℚ (t -ℚ ξ₀)) → t ≡ ξ₀ -ℚ (d₀ +ℚ δ) *ℚ i
    eq t ξ₀ d₀ s δ i e k = by_eq ℚring (ξ₀ -ℚ t) e (by_eq ℚring i k (by_rep ℚring (t ∷ ξ₀ ∷ d₀ ∷ s ∷ δ ∷ i ∷ []) (search read depth 12) (search read depth 12) tt))

-- ---- at one place of the curve
module _ (p n : ℕ) (u : ℕ → ℚ) (srt : Sorted u (n + p)) (t : ℚ) (m : ℕ) (o : m + p < n) (f : Shut (u (m + p)) (u (suc (m + p))) t) where
  abbrev at : (ℕ → ℚ) → ℚ
  at c = curve p u c m t

  seg : Segment p u (m + p)
  seg = segment_of p u (n + p) (m + p) (omega arith) srt f.wide

  pub at_cong : (c d : ℕ → ℚ) → ((i : ℕ) → i < n → c i ≡ d i) → curve p u c m t ≡ curve p u d m t
  at_cong c d h = boor_cong p n u u c d (λ _. t) (λ i _. refl) h p m (omega arith) o

  pub at_lin : (c d : ℕ → ℚ) (k l : ℚ) → curve p u (λ i. k *ℚ c i +ℚ l *ℚ d i) m t ≡ k *ℚ curve p u c m t +ℚ l *ℚ curve p u d m t
  at_lin c d k l = boor_lin u p c d (λ _. t) k l p m

  pub at_const : (k : ℚ) → curve p u (λ _. k) m t ≡ k
  at_const k = boor-const u p k (λ _. t) p m

  -- the hull
  pub at_ge : (c : ℕ → ℚ) (b : ℚ) → ((i : ℕ) → i < n → b ≤ℚ c i) → b ≤ℚ curve p u c m t
  at_ge c b h = boor_ge u p c (λ _. t) (m + p) seg (λ _. f.from) (λ _. f.upto) b (λ j _ k. h j (omega arith)) p m (omega arith) (omega arith)

  pub at_le : (c : ℕ → ℚ) (b : ℚ) → ((i : ℕ) → i < n → c i ≤ℚ b) → curve p u c m t ≤ℚ b
  at_le c b h = boor_le u p c (λ _. t) (m + p) seg (λ _. f.from) (λ _. f.upto) b (λ j _ k. h j (omega arith)) p m (omega arith) (omega arith)

  at_pos_in : (c : ℕ → ℚ) → ((i : ℕ) → i < n → 0ℚ <ℚ c i) → (r j : ℕ) → m ≤ j → j + r ≤ m + p → 0ℚ <ℚ boor u p c (λ _. t) r j
  unfolding boor round
  at_pos_in c h zero j a b = h j (omega arith)
  at_pos_in c h (suc r) j a b = lerp-pos _ _ _
      (ratio_ge wide (le_trans (srt.up (j + suc r) (m + p) b (omega arith)) f.from))
      (ratio_le wide (le_trans f.upto (srt.up (suc (m + p)) (j + suc p) (omega arith) (omega arith))))
      (at_pos_in c h r j a (omega arith)) (at_pos_in c h r (suc j) (omega arith) (omega arith))
    where
      wide : u (j + suc r) <ℚ u (j + suc p)
      wide = spread seg (j + suc r) (j + suc p) b (omega arith) (omega arith)

  at_pos : (c : ℕ → ℚ) → ((i : ℕ) → i < n → 0ℚ <ℚ c i) → 0ℚ <ℚ curve p u c m t
  at_pos c h = at_pos_in c h p m (omega arith) (omega arith)

  -- linear precision
  pub at_ξ : 1 ≤ p → curve p u (ξ p u) m t ≡ t
  unfolding ξ
  at_ξ h = greville u p (invℚ (whole p)) t (m + p) m (*ℚ_comm (invℚ (whole p)) (whole p) ∙ pos-inv (whole p) (deg-pos p h)) seg refl

  -- the box: a and b bound the quotients of the control values, and so the quotient of the curve
  pub at_box : (c w : ℕ → ℚ) (a b : ℚ) → ((i : ℕ) → i < n → 0ℚ <ℚ w i) → ((i : ℕ) → i < n → In a b (c i *ℚ invℚ (w i))) → In a b (curve p u c m t *ℚ invℚ (curve p u w m t))
  at_box c w a b pos h = record {
    from = low (at c) (at w) (at_pos w pos) (over (at c) (at w) a (subst (λ (z : ℚ). 0ℚ ≤ℚ z) (at_lin c w 1ℚ (-ℚ a)) (at_ge _ 0ℚ (λ i k. under (c i) (w i) (pos i k) (h i k).from))));
    upto = high (at c) (at w) (at_pos w pos) (over' (at c) (at w) b (subst (λ (z : ℚ). z ≤ℚ 0ℚ) (at_lin c w 1ℚ (-ℚ b)) (at_le _ 0ℚ (λ i k. under' (c i) (w i) (pos i k) (h i k).upto))));
  }
    where
      under : (x y : ℚ) → 0ℚ <ℚ y → a ≤ℚ x *ℚ invℚ y → 0ℚ ≤ℚ 1ℚ *ℚ x +ℚ -ℚ a *ℚ y
      under x y k l = le_by {z = y *ℚ (x *ℚ invℚ y -ℚ a)} (nn_mul _ _ (nn_le (lt→le k)) (nn_of l)) (eq x y (invℚ y) a (pos-inv y k))
        where
          eq : (x y i a : ℚ) → y *ℚ i ≡ 1ℚ → 1ℚ *ℚ x +ℚ -ℚ a *ℚ y -ℚ 0ℚ ≡ y *ℚ (x *ℚ i -ℚ a)
          eq x y i a e = by_eq ℚring (-ℚ x) e (by_rep ℚring (x ∷ y ∷ i ∷ a ∷ []) (search read depth 9) (search read depth 9) tt)

      under' : (x y : ℚ) → 0ℚ <ℚ y → x *ℚ invℚ y ≤ℚ b → 1ℚ *ℚ x +ℚ -ℚ b *ℚ y ≤ℚ 0ℚ
      under' x y k l = le_by {z = y *ℚ (b -ℚ x *ℚ invℚ y)} (nn_mul _ _ (nn_le (lt→le k)) (nn_of l)) (eq x y (invℚ y) b (pos-inv y k))
        where
          eq : (x y i a : ℚ) → y *ℚ i ≡ 1ℚ → 0ℚ -ℚ (1ℚ *ℚ x +ℚ -ℚ a *ℚ y) ≡ y *ℚ (a -ℚ x *ℚ i)
          eq x y i a e = by_eq ℚring x e (by_rep ℚring (x ∷ y ∷ i ∷ a ∷ []) (search read depth 9) (search read depth 9) tt)

      over : (x y a : ℚ) → 0ℚ ≤ℚ 1ℚ *ℚ x +ℚ -ℚ a *ℚ y → a *ℚ y ≤ℚ x
      over x y a l = le_by (nn_of l) (by_rep ℚring (x ∷ y ∷ a ∷ []) (search read depth 9) (search read depth 9) tt)

      over' : (x y a : ℚ) → 1ℚ *ℚ x +ℚ -ℚ a *ℚ y ≤ℚ 0ℚ → x ≤ℚ a *ℚ y
      over' x y a l = le_by (nn_of l) (by_rep ℚring (x ∷ y ∷ a ∷ []) (search read depth 9) (search read depth 9) tt)

      low : (x y : ℚ) → 0ℚ <ℚ y → a *ℚ y ≤ℚ x → a ≤ℚ x *ℚ invℚ y
      low x y k l = le_by {z = (x -ℚ a *ℚ y) *ℚ invℚ y} (nn_mul _ _ (nn_of l) (nn_inv y (nn_le (lt→le k)))) (eq x y (invℚ y) a (pos-inv y k))
        where
          eq : (x y i a : ℚ) → y *ℚ i ≡ 1ℚ → x *ℚ i -ℚ a ≡ (x -ℚ a *ℚ y) *ℚ i
          eq x y i a e = by_eq ℚring a e (by_rep ℚring (x ∷ y ∷ i ∷ a ∷ []) (search read depth 9) (search read depth 9) tt)

      high : (x y : ℚ) → 0ℚ <ℚ y → x ≤ℚ b *ℚ y → x *ℚ invℚ y ≤ℚ b
      high x y k l = le_by {z = (b *ℚ y -ℚ x) *ℚ invℚ y} (nn_mul _ _ (nn_of l) (nn_inv y (nn_le (lt→le k)))) (eq x y (invℚ y) b (pos-inv y k))
        where
          eq : (x y i a : ℚ) → y *ℚ i ≡ 1ℚ → a -ℚ x *ℚ i ≡ (a *ℚ y -ℚ x) *ℚ i
          eq x y i a e = by_eq ℚring (-ℚ a) e (by_rep ℚring (x ∷ y ∷ i ∷ a ∷ []) (search read depth 9) (search read depth 9) tt)

  -- the difference: it is zero exactly where the quotient is q
  pub at_diff : (c w : ℕ → ℚ) (q : ℚ) → curve p u (λ i. c i -ℚ q *ℚ w i) m t ≡ curve p u c m t -ℚ q *ℚ curve p u w m t
  at_diff c w q = at_cong _ _ (λ i _. eq (c i) (w i) q) ∙ at_lin c w 1ℚ (-ℚ q) ∙ sym (eq (at c) (at w) q)
    where
      eq : (x y q : ℚ) → x -ℚ q *ℚ y ≡ 1ℚ *ℚ x +ℚ -ℚ q *ℚ y
      eq x y q = by_rep ℚring (x ∷ y ∷ q ∷ []) (search read depth 9) (search read depth 9) tt

  pub at_meets : (c w : ℕ → ℚ) (q : ℚ) → ((i : ℕ) → i < n → 0ℚ <ℚ w i) → curve p u c m t *ℚ invℚ (curve p u w m t) ≡ q → curve p u (λ i. c i -ℚ q *ℚ w i) m t ≡ 0ℚ
  at_meets c w q pos e = at_diff c w q ∙ eq (at c) (at w) (invℚ (at w)) q (pos-inv (at w) (at_pos w pos)) e
    where
      eq : (x y i q : ℚ) → y *ℚ i ≡ 1ℚ → x *ℚ i ≡ q → x -ℚ q *ℚ y ≡ 0ℚ
      eq x y i q e k = by_eq ℚring (-ℚ x) e (by_eq ℚring y k (by_rep ℚring (x ∷ y ∷ i ∷ q ∷ []) (search read depth 9) (search read depth 9) tt))

  -- the fat line, with any slope s: the offsets of the control values from the line lie in [lo, hi], and so does the curve's
  pub fat-line : 1 ≤ p → (d : ℕ → ℚ) (s lo hi : ℚ) → ((i : ℕ) → i < n → In lo hi (d i -ℚ (d zero +ℚ s *ℚ (ξ p u i -ℚ ξ p u zero)))) → curve p u d m t ≡ 0ℚ
      → In lo hi (-ℚ (d zero +ℚ s *ℚ (t -ℚ ξ p u zero)))
  fat-line h d s lo hi k z = record {
    from = subst (λ (v : ℚ). lo ≤ℚ v) value (at_ge off lo (λ i l. (k i l).from));
    upto = subst (λ (v : ℚ). v ≤ℚ hi) value (at_le off hi (λ i l. (k i l).upto));
  }
    where
      off : ℕ → ℚ
      off i = d i -ℚ (d zero +ℚ s *ℚ (ξ p u i -ℚ ξ p u zero))

      line : ℕ → ℚ
      line i = 1ℚ *ℚ d i +ℚ -ℚ s *ℚ ξ p u i

      same : (x y d₀ s ξ₀ : ℚ) → x -ℚ (d₀ +ℚ s *ℚ (y -ℚ ξ₀)) ≡ 1ℚ *ℚ (1ℚ *ℚ x +ℚ -ℚ s *ℚ y) +ℚ 1ℚ *ℚ (s *ℚ ξ₀ -ℚ d₀)
      same x y d₀ s ξ₀ = by_rep ℚring (x ∷ y ∷ d₀ ∷ s ∷ ξ₀ ∷ []) (search read depth 12) (search read depth 12) tt

      last : (x t d₀ s ξ₀ : ℚ) → x ≡ 0ℚ → 1ℚ *ℚ (1ℚ *ℚ x +ℚ -ℚ s *ℚ t) +ℚ 1ℚ *ℚ (s *ℚ ξ₀ -ℚ d₀) ≡ -ℚ (d₀ +ℚ s *ℚ (t -ℚ ξ₀))
      last x t d₀ s ξ₀ e = by_eq ℚring 1ℚ e (by_rep ℚring (x ∷ t ∷ d₀ ∷ s ∷ ξ₀ ∷ []) (search read depth 12) (search read depth 12) tt)

      value : at off ≡ -ℚ (d zero +ℚ s *ℚ (t -ℚ ξ p u zero))
      value = at_cong off _ (λ i _. same (d i) (ξ p u i) (d zero) s (ξ p u zero))
          ∙ at_lin line (λ _. s *ℚ ξ p u zero -ℚ d zero) 1ℚ 1ℚ
          ∙ ap₂ (λ (x y : ℚ). 1ℚ *ℚ x +ℚ 1ℚ *ℚ y) (at_lin d (ξ p u) 1ℚ (-ℚ s) ∙ ap (λ (x : ℚ). 1ℚ *ℚ at d +ℚ -ℚ s *ℚ x) (at_ξ h)) (at_const (s *ℚ ξ p u zero -ℚ d zero))
          ∙ last (at d) t (d zero) s (ξ p u zero) z

  -- the abscissae reach from the domain's start to its end
  pub ξ_first : 1 ≤ p → ξ p u zero ≤ℚ t
  unfolding ξ
  ξ_first h = le_trans (mean_le h u zero (u p) (λ i a b. srt.up i p (omega arith) (omega arith))) (le_trans (srt.up p (m + p) (omega arith) (omega arith)) f.from)

  pub ξ_last : 1 ≤ p → t ≤ℚ ξ p u (n - 1)
  unfolding ξ
  ξ_last h = le_trans (le_trans f.upto (srt.up (suc (m + p)) n (omega arith) (omega arith))) (mean_ge h u (n - 1) (u n) (λ i a b. srt.up n i (omega arith) (omega arith)))

  -- the chord over the abscissae stays between its end values
  pub fat-chord : 1 ≤ p → (x y s a b : ℚ) → ξ p u zero <ℚ ξ p u (n - 1) → s *ℚ (ξ p u (n - 1) -ℚ ξ p u zero) ≡ y -ℚ x → In a b x → In a b y → In a b (x +ℚ s *ℚ (t -ℚ ξ p u zero))
  fat-chord h x y s a b w e first last = subst (λ (v : ℚ). In a b v) (chord t (ξ p u zero) (ξ p u (n - 1)) x y s w e) (record {
    from = lerp_ge (ratio_ge w (ξ_first h)) (ratio_le w (ξ_last h)) first.from last.from;
    upto = lerp_le (ratio_ge w (ξ_first h)) (ratio_le w (ξ_last h)) first.upto last.upto;
  })
