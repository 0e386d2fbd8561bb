-- De Boor's rounds: linear in the control values, inside their hull, exact for straight lines over the Greville abscissae, and symmetric in the parameters.
use mathlib.Core.Path.{◌≡◌, refl, sym, ◌∙◌, ap, ap₂, subst}
use mathlib.Core.List.{[], ◌∷◌}
use Prim.Native.Nat.{ℕ, zero, suc, ◌+◌, ◌≤◌, ◌<◌}
use native.Mathlib.Omega.{arith}
use Rattle.solver.proofs.Ring.{by_rep, by_eq, read}
use Rattle.exact.specs.Rational.{ℚ, ◌+ℚ◌, ◌*ℚ◌, -ℚ◌, ◌-ℚ◌, 0ℚ, 1ℚ, invℚ, whole, lerp, ratio, ◌≤ℚ◌, ◌<ℚ◌}
use Rattle.exact.specs.Spline.{round, boor, Segment}
use Rattle.exact.specs.Hull.{sum, total}
use Rattle.exact.proofs.Field.{ℚring, +ℚ_comm, +ℚ_assoc}
use Rattle.exact.proofs.Order.{le_refl, le_trans, lt_le_trans, le_lt_trans, sub-inv, lerp_ge, lerp_le, ratio_ge, ratio_le}
use Rattle.exact.proofs.Embed.{÷_add, ÷_one, ÷_zero}

-- ---- along equations

-- an order between equal numbers
pub lt_cast : {a b a' b' : ℚ} → a ≡ a' → b ≡ b' → a <ℚ b → a' <ℚ b'
lt_cast {a} {b} {a'} {b'} h k m = subst (λ (z : ℚ). a' <ℚ z) k (subst (λ (z : ℚ). z <ℚ b) h m)

pub le_cast : {a b a' b' : ℚ} → a ≡ a' → b ≡ b' → a ≤ℚ b → a' ≤ℚ b'
le_cast {a} {b} {a'} {b'} h k m = subst (λ (z : ℚ). a' ≤ℚ z) k (subst (λ (z : ℚ). z ≤ℚ b) h m)

pub le_of_eq : {a b : ℚ} → a ≡ b → a ≤ℚ b
le_of_eq {a} {b} e = subst (λ (z : ℚ). a ≤ℚ z) e (le_refl a)

-- a round's value from equal knots and equal points
pub lerp_cong : (t : ℚ) {a b c d a' b' c' d' : ℚ} → a ≡ a' → b ≡ b' → c ≡ c' → d ≡ d' → lerp (ratio t a b) c d ≡ lerp (ratio t a' b') c' d'
lerp_cong t h k m n = λ i. lerp (ratio t (h i) (k i)) (m i) (n i)

-- ---- identities of lerp and ratio. One with divisions is first stated over variables i with i (v - u) = 1
lerp_lin : (a k m x y z w : ℚ) → lerp a (k *ℚ x +ℚ m *ℚ z) (k *ℚ y +ℚ m *ℚ w) ≡ k *ℚ lerp a x y +ℚ m *ℚ lerp a z w
unfolding lerp
lerp_lin a k m x y z w = by_rep ℚring (a ∷ k ∷ m ∷ x ∷ y ∷ z ∷ w ∷ []) (search read depth 12) (search read depth 12) tt

lerp-scale : (a k x y : ℚ) → lerp a (k *ℚ x) (k *ℚ y) ≡ k *ℚ lerp a x y
unfolding lerp
lerp-scale a k x y = by_rep ℚring (a ∷ k ∷ x ∷ y ∷ []) (search read depth 12) (search read depth 12) tt

exchange-eq : (P Q R x y A B C α β γ : ℚ) → α *ℚ (C -ℚ A) ≡ 1ℚ → γ *ℚ (C -ℚ B) ≡ 1ℚ
    → lerp ((y -ℚ B) *ℚ γ) (lerp ((x -ℚ A) *ℚ α) P Q) (lerp ((x -ℚ B) *ℚ β) Q R) ≡ lerp ((x -ℚ B) *ℚ γ) (lerp ((y -ℚ A) *ℚ α) P Q) (lerp ((y -ℚ B) *ℚ β) Q R)
unfolding lerp
exchange-eq P Q R x y A B C α β γ h k = by_eq ℚring (-ℚ ((x -ℚ y) *ℚ (P -ℚ Q) *ℚ γ)) h (by_eq ℚring ((x -ℚ y) *ℚ (P -ℚ Q) *ℚ α) k
    (by_rep ℚring (P ∷ Q ∷ R ∷ x ∷ y ∷ A ∷ B ∷ C ∷ α ∷ β ∷ γ ∷ []) (search read depth 20) (search read depth 20) tt))

-- two rounds in a row may change their parameters
pub exchange : (P Q R x y A B C D : ℚ) → A <ℚ C → B <ℚ C
    → lerp (ratio y B C) (lerp (ratio x A C) P Q) (lerp (ratio x B D) Q R) ≡ lerp (ratio x B C) (lerp (ratio y A C) P Q) (lerp (ratio y B D) Q R)
unfolding ratio
exchange P Q R x y A B C D h k = exchange-eq P Q R x y A B C (invℚ (C -ℚ A)) (invℚ (D -ℚ B)) (invℚ (C -ℚ B)) (sub-inv h) (sub-inv k)

below_eq : (F G t x U i w : ℚ) → i *ℚ (x -ℚ U) ≡ 1ℚ → lerp ((t -ℚ U) *ℚ i) F (lerp ((x -ℚ U) *ℚ w) F G) ≡ lerp ((t -ℚ U) *ℚ w) F G
unfolding lerp
below_eq F G t x U i w h = by_eq ℚring ((t -ℚ U) *ℚ w *ℚ (G -ℚ F)) h
    (by_rep ℚring (F ∷ G ∷ t ∷ x ∷ U ∷ i ∷ w ∷ []) (search read depth 20) (search read depth 20) tt)

-- from U to x and on from U to W is from U to W
pub below : (F G t x U W : ℚ) → U <ℚ x → lerp (ratio t U x) F (lerp (ratio x U W) F G) ≡ lerp (ratio t U W) F G
unfolding ratio
below F G t x U W h = below_eq F G t x U (invℚ (x -ℚ U)) (invℚ (W -ℚ U)) (sub-inv h)

above-eq : (F G t x U W i w : ℚ) → i *ℚ (W -ℚ x) ≡ 1ℚ → w *ℚ (W -ℚ U) ≡ 1ℚ → lerp ((t -ℚ x) *ℚ i) (lerp ((x -ℚ U) *ℚ w) F G) G ≡ lerp ((t -ℚ U) *ℚ w) F G
unfolding lerp
above-eq F G t x U W i w h k = by_eq ℚring (-ℚ ((t -ℚ x) *ℚ (F -ℚ G) *ℚ w)) h (by_eq ℚring ((t -ℚ x) *ℚ (F -ℚ G) *ℚ i) k
    (by_rep ℚring (F ∷ G ∷ t ∷ x ∷ U ∷ W ∷ i ∷ w ∷ []) (search read depth 20) (search read depth 20) tt))

-- the same at the other end
pub above : (F G t x U W : ℚ) → x <ℚ W → U <ℚ W → lerp (ratio t x W) (lerp (ratio x U W) F G) G ≡ lerp (ratio t U W) F G
unfolding ratio
above F G t x U W h k = above-eq F G t x U W (invℚ (W -ℚ x)) (invℚ (W -ℚ U)) (sub-inv h) (sub-inv k)

middle-eq : (S M t U W i : ℚ) → i *ℚ (W -ℚ U) ≡ 1ℚ → lerp ((t -ℚ U) *ℚ i) (S +ℚ (U +ℚ M)) (S +ℚ (M +ℚ W)) ≡ S +ℚ t +ℚ M
unfolding lerp
middle-eq S M t U W i h = by_eq ℚring (t -ℚ U) h (by_rep ℚring (S ∷ M ∷ t ∷ U ∷ W ∷ i ∷ []) (search read depth 20) (search read depth 20) tt)

middle : (S M t U W : ℚ) → U <ℚ W → lerp (ratio t U W) (S +ℚ (U +ℚ M)) (S +ℚ (M +ℚ W)) ≡ S +ℚ t +ℚ M
unfolding ratio
middle S M t U W h = middle-eq S M t U W (invℚ (W -ℚ U)) (sub-inv h)

-- ---- linear in the control values
pub boor_lin : (u : ℕ → ℚ) (p : ℕ) (c d τ : ℕ → ℚ) (k m : ℚ) (r j : ℕ) → boor u p (λ i. k *ℚ c i +ℚ m *ℚ d i) τ r j ≡ k *ℚ boor u p c τ r j +ℚ m *ℚ boor u p d τ r j
unfolding boor round
boor_lin u p c d τ k m zero j = refl
boor_lin u p c d τ k m (suc r) j = ap₂ (lerp _) (boor_lin u p c d τ k m r j) (boor_lin u p c d τ k m r (suc j))
    ∙ lerp_lin _ k m _ _ _ _

-- ---- on a segment every divisor is above 0
pub spread : {p : ℕ} {u : ℕ → ℚ} {l : ℕ} → Segment p u l → (i k : ℕ) → i ≤ l → l < k → k ≤ l + p → u i <ℚ u k
spread {p} {u} {l} s i k h m n = lt_le_trans (le_lt_trans (s.sorted i l h (omega arith)) s.wide) (s.sorted (suc l) k m n)

-- ---- the hull: bounds of the control values that count are bounds of what the rounds make of them
module _ (u : ℕ → ℚ) (p : ℕ) (c τ : ℕ → ℚ) (l : ℕ) (s : Segment p u l) (lo-t : (r : ℕ) → u l ≤ℚ τ r) (hi-t : (r : ℕ) → τ r ≤ℚ u (suc l)) where
  ratio_in₀ : (r j : ℕ) → 1 ≤ r → l ≤ j + p → j + r ≤ l → 0ℚ ≤ℚ ratio (τ r) (u (j + r)) (u (j + suc p))
  ratio_in₀ r j o h k = ratio_ge (spread s (j + r) (j + suc p) k (omega arith) (omega arith)) (le_trans (s.sorted (j + r) l k (omega arith)) (lo-t r))

  ratio_in₁ : (r j : ℕ) → 1 ≤ r → l ≤ j + p → j + r ≤ l → ratio (τ r) (u (j + r)) (u (j + suc p)) ≤ℚ 1ℚ
  ratio_in₁ r j o h k = ratio_le (spread s (j + r) (j + suc p) k (omega arith) (omega arith)) (le_trans (hi-t r) (s.sorted (suc l) (j + suc p) (omega arith) (omega arith)))

  pub boor_ge : (b : ℚ) → ((j : ℕ) → l ≤ j + p → j ≤ l → b ≤ℚ c j) → (r j : ℕ) → l ≤ j + p → j + r ≤ l → b ≤ℚ boor u p c τ r j
  unfolding boor round
  boor_ge b h zero j m n = h j m (omega arith)
  boor_ge b h (suc r) j m n = lerp_ge (ratio_in₀ (suc r) j (omega arith) m n) (ratio_in₁ (suc r) j (omega arith) m n) (boor_ge b h r j m (omega arith)) (boor_ge b h r (suc j) (omega arith) (omega arith))

  pub boor_le : (b : ℚ) → ((j : ℕ) → l ≤ j + p → j ≤ l → c j ≤ℚ b) → (r j : ℕ) → l ≤ j + p → j + r ≤ l → boor u p c τ r j ≤ℚ b
  unfolding boor round
  boor_le b h zero j m n = h j m (omega arith)
  boor_le b h (suc r) j m n = lerp_le (ratio_in₀ (suc r) j (omega arith) m n) (ratio_in₁ (suc r) j (omega arith) m n) (boor_le b h r j m (omega arith)) (boor_le b h r (suc j) (omega arith) (omega arith))

-- ---- linear precision: over the sums of p knots in a row the value is the sum of the parameters
sum_back : (u : ℕ → ℚ) (n i : ℕ) → sum u (suc n) i ≡ sum u n i +ℚ u (i + n)
unfolding sum
sum_back u zero i = ap (λ (m : ℕ). u m +ℚ 0ℚ) (zero_eq i) ∙ +ℚ_comm (u (i + zero)) 0ℚ
  where
    zero_eq : (i : ℕ) → i ≡ i + zero
    zero_eq i = omega arith
sum_back u (suc n) i = ap (λ x. u i +ℚ x) (sum_back u n (suc i)) ∙ sym (+ℚ_assoc (u i) (sum u n (suc i)) (u (suc i + n))) ∙ ap (λ (m : ℕ). u i +ℚ sum u n (suc i) +ℚ u m) (shift i n)
  where
    shift : (i n : ℕ) → suc i + n ≡ i + suc n
    shift i n = omega arith

-- n counts the knots that are left: n + r is p
pub precision : (u : ℕ → ℚ) (p : ℕ) (τ : ℕ → ℚ) (l : ℕ) → Segment p u l → (r n j : ℕ) → n + r ≡ p → l ≤ j + p → j + r ≤ l
    → boor u p (λ j. sum u p (suc j)) τ r j ≡ total τ r +ℚ sum u n (suc (j + r))
unfolding boor round total sum
precision u p τ l s zero n j e m k = ap₂ (λ (a b : ℕ). sum u a (suc b)) (p-eq n p e) (j-eq j) ∙ sym (zero-l (sum u n (suc (j + zero))))
  where
    p-eq : (n p : ℕ) → n + zero ≡ p → p ≡ n
    p-eq n p e = omega arith

    j-eq : (j : ℕ) → j ≡ j + zero
    j-eq j = omega arith

    zero-l : (x : ℚ) → 0ℚ +ℚ x ≡ x
    zero-l x = by_rep ℚring (x ∷ []) (search read) (search read) tt
precision u p τ l s (suc r) n j e m k =
    ap₂ (lerp (ratio (τ (suc r)) (u (j + suc r)) (u (j + suc p))))
    (precision u p τ l s r (suc n) j (omega arith) m (omega arith) ∙ left)
    (precision u p τ l s r (suc n) (suc j) (omega arith) (omega arith) (omega arith) ∙ right)
    ∙ middle (total τ r) (sum u n (suc (j + suc r))) (τ (suc r)) (u (j + suc r)) (u (j + suc p)) (spread s (j + suc r) (j + suc p) k (omega arith) (omega arith))
  where
    i₁ : suc (j + r) ≡ j + suc r
    i₁ = omega arith

    i₂ : suc (suc j + r) ≡ suc (j + suc r)
    i₂ = omega arith

    i₃ : suc (suc j + r) + n ≡ j + suc p
    i₃ = omega arith

    left : total τ r +ℚ sum u (suc n) (suc (j + r)) ≡ total τ r +ℚ (u (j + suc r) +ℚ sum u n (suc (j + suc r)))
    left = ap (λ (i : ℕ). total τ r +ℚ (u i +ℚ sum u n (suc i))) i₁

    right : total τ r +ℚ sum u (suc n) (suc (suc j + r)) ≡ total τ r +ℚ (sum u n (suc (j + suc r)) +ℚ u (j + suc p))
    right = ap (λ x. total τ r +ℚ x) (sum_back u n (suc (suc j + r)) ∙ ap₂ (λ (a b : ℕ). sum u n a +ℚ u b) i₂ i₃)

-- ---- the blossom is symmetric: two rounds in a row may change their parameters
-- ---- over the Greville abscissae the curve is its parameter
pub whole-suc : (n : ℕ) → whole (suc n) ≡ whole n +ℚ 1ℚ
whole-suc n = ap whole ix ∙ sym (÷_add n 1 1 (omega arith)) ∙ ap (λ x. whole n +ℚ x) ÷_one
  where
    ix : suc n ≡ n + 1
    ix = omega arith

total-const : (t : ℚ) (r : ℕ) → total (λ _. t) r ≡ whole r *ℚ t
unfolding total
total-const t zero = sym (ap (λ x. x *ℚ t) (÷_zero 1) ∙ none t)
  where
    none : (t : ℚ) → 0ℚ *ℚ t ≡ 0ℚ
    none t = by_rep ℚring (t ∷ []) (search read) (search read) tt
total-const t (suc r) = ap (λ x. x +ℚ t) (total-const t r) ∙ step (whole r) t ∙ sym (ap (λ x. x *ℚ t) (whole-suc r))
  where
    step : (n t : ℚ) → n *ℚ t +ℚ t ≡ (n +ℚ 1ℚ) *ℚ t
    step n t = by_rep ℚring (n ∷ t ∷ []) (search read) (search read) tt

boor-scale : (u : ℕ → ℚ) (p : ℕ) (c τ : ℕ → ℚ) (k : ℚ) (r j : ℕ) → boor u p (λ i. k *ℚ c i) τ r j ≡ k *ℚ boor u p c τ r j
unfolding boor round
boor-scale u p c τ k zero j = refl
boor-scale u p c τ k (suc r) j = ap₂ (lerp _) (boor-scale u p c τ k r j) (boor-scale u p c τ k r (suc j)) ∙ lerp-scale _ k _ _

-- i is 1 / p
pub greville : (u : ℕ → ℚ) (p : ℕ) (i t : ℚ) (l j : ℕ) → i *ℚ whole p ≡ 1ℚ → Segment p u l → j + p ≡ l
    → boor u p (λ j. i *ℚ sum u p (suc j)) (λ _. t) p j ≡ t
unfolding sum
greville u p i t l j e s h = boor-scale u p (λ j. sum u p (suc j)) (λ _. t) i p j
    ∙ ap (λ x. i *ℚ x) (precision u p (λ _. t) l s p zero j (omega arith) (omega arith) (omega arith) ∙ ap (λ x. x +ℚ 0ℚ) (total-const t p))
    ∙ fin (whole p) i t e
  where
    fin : (n i t : ℚ) → i *ℚ n ≡ 1ℚ → i *ℚ (n *ℚ t +ℚ 0ℚ) ≡ t
    fin n i t e = by_eq ℚring t e (by_rep ℚring (n ∷ i ∷ t ∷ []) (search read depth 9) (search read depth 9) tt)
