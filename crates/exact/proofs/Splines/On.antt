-- Where a curve passes: closed and half-open spans, knots in order, and what a curve depends on.
use mathlib.Core.Path.{◌≡◌, sym, ◌∙◌, subst}
use mathlib.Core.Logic.{◌⊎◌, inl, inr, ⊎_elim}
use Prim.Native.Nat.{ℕ, zero, suc, ◌+◌, ◌-◌, ◌≤◌, ◌<◌}
use native.Mathlib.Nat.{sub-add_cancel}
use native.Mathlib.Omega.{arith}
use Rattle.exact.specs.Rational.{ℚ, ◌≤ℚ◌, ◌<ℚ◌}
use Rattle.exact.specs.Spline.{round, boor, Sorted, Segment, Side, shut, left, right, Shut, Fit, OnSide, On}
use Rattle.exact.proofs.Order.{le_refl, le_trans, lt→le, le_or_lt, lt_le_trans, le_lt_trans}
use Rattle.exact.proofs.Splines.Boor.{lerp_cong}

-- ---- a search among places

-- A place from a to b - 1 at which A holds, and B at the next.
pub record Crossing (A B : ℕ → Type 0) (a b : ℕ) : Type 0 where
  pub at : ℕ
  pub first : a ≤ at
  pub last : at < b
  pub here : A at
  pub next : B (suc at)

-- There is one where A holds at a and not at b, and each place has one of the two.
pub crossing : (A B : ℕ → Type 0) → ((k : ℕ) → A k ⊎ B k) → (a b : ℕ) → a ≤ b → A a → (A b → ⊥) → Crossing A B a b
crossing A B either a b o h off = climb (b - a) a (omega arith) h
  where
    climb : (f a : ℕ) → f + a ≡ b → A a → Crossing A B a b
    climb zero a e h = absurd (off (subst A (ix a e) h))
      where
        ix : (a : ℕ) → zero + a ≡ b → a ≡ b
        ix a e = omega arith
    climb (suc f) a e h = go (climb f (suc a) (omega arith)) (either (suc a))
      where
        go : (A (suc a) → Crossing A B (suc a) b) → A (suc a) ⊎ B (suc a) → Crossing A B a b
        go rec (inl m) = let c : Crossing A B (suc a) b = rec m in record { at = c.at; first = omega (arith, c.first); last = c.last; here = c.here; next = c.next }
        go rec (inr m) = record { at = a; first = omega arith; last = omega arith; here = h; next = m }

-- ---- spans and their sides
-- a span of any side is a closed one
pub fit-shut : (s : Side) (a b t : ℚ) → Fit s a b t → Shut a b t
unfolding Fit
fit-shut shut a b t h = h
fit-shut left a b t h = record { from = lt→le h.from; upto = h.upto; wide = lt_le_trans h.from h.upto }
fit-shut right a b t h = record { from = h.from; upto = lt→le h.upto; wide = le_lt_trans h.from h.upto }

pub fit-cast : (s : Side) (t : ℚ) {a b a' b' : ℚ} → a ≡ a' → b ≡ b' → Fit s a b t → Fit s a' b' t
fit-cast s t {a} {b} {a'} {b'} p q h = subst (λ (z : ℚ). Fit s a' z t) q (subst (λ (z : ℚ). Fit s z b t) p h)

-- a value between the two ends parts the span, and t keeps its side in one of the parts
pub fit-split : (s : Side) (a b t x : ℚ) → a ≤ℚ x → x ≤ℚ b → Fit s a b t → Fit s a x t ⊎ Fit s x b t
unfolding Fit
fit-split shut a b t x ax xb h = ⊎_elim
    (λ (k : x ≤ℚ t). ⊎_elim
    (λ (m : b ≤ℚ x). inl (record { from = h.from; upto = le_trans h.upto m; wide = lt_le_trans h.wide m }))
    (λ (m : x <ℚ b). inr (record { from = k; upto = h.upto; wide = m }))
    (le_or_lt b x))
    (λ (k : t <ℚ x). inl (record { from = h.from; upto = lt→le k; wide = le_lt_trans h.from k }))
    (le_or_lt x t)
fit-split left a b t x ax xb h = ⊎_elim
    (λ (k : t ≤ℚ x). inl (record { from = h.from; upto = k }))
    (λ (k : x <ℚ t). inr (record { from = k; upto = h.upto }))
    (le_or_lt t x)
fit-split right a b t x ax xb h = ⊎_elim
    (λ (k : x ≤ℚ t). inr (record { from = k; upto = h.upto }))
    (λ (k : t <ℚ x). inl (record { from = h.from; upto = k }))
    (le_or_lt x t)

-- ---- a point of the curve from one side is one with the spans closed
unfoldable pub side-on : (s : Side) (p n : ℕ) (u : ℕ → ℚ) (c : ℕ → ℕ → ℚ) (t : ℚ) (y : ℕ → ℚ) → OnSide s p n u c t y → On p n u c t y
unfolding Fit
side-on s p n u c t y w = record { place = w.place; inside = w.inside; fits = fit-shut s _ _ t w.fits; there = w.there }

-- ---- the order of the knots
pub sorted-steps : (u : ℕ → ℚ) (N : ℕ) → ((i : ℕ) → i < N → u i ≤ℚ u (suc i)) → Sorted u N
sorted-steps u N step = record { up = λ i j h m. subst (λ (z : ℕ). u i ≤ℚ u z) (sub-add_cancel h) (climb i (j - i) (omega arith)) }
  where
    climb : (i n : ℕ) → n + i ≤ N → u i ≤ℚ u (n + i)
    climb i zero h = subst (λ (z : ℕ). u i ≤ℚ u z) (zero_eq i) (le_refl (u i))
      where
        zero_eq : (i : ℕ) → i ≡ zero + i
        zero_eq i = omega arith
    climb i (suc n) h = subst (λ (z : ℕ). u i ≤ℚ u z) (suc-eq n i) (le_trans (climb i n (omega arith)) (step (n + i) (omega arith)))
      where
        suc-eq : (n i : ℕ) → suc (n + i) ≡ suc n + i
        suc-eq n i = omega arith

pub sorted-less : (u : ℕ → ℚ) (N M : ℕ) → M ≤ N → Sorted u N → Sorted u M
sorted-less u N M h s = record { up = λ i j k m. s.up i j k (omega arith) }

pub segment_of : (p : ℕ) (u : ℕ → ℚ) (N l : ℕ) → l + p ≤ N → Sorted u N → u l <ℚ u (suc l) → Segment p u l
segment_of p u N l h s w = record { sorted = λ i j k m. s.up i j k (omega arith); wide = w }

-- ---- only the knots 0 to n + p and the control values below n count
pub boor_cong : (p n : ℕ) (u v c d : ℕ → ℚ) (τ : ℕ → ℚ) → ((i : ℕ) → i ≤ n + p → u i ≡ v i) → ((i : ℕ) → i < n → c i ≡ d i)
    → (r j : ℕ) → r ≤ p → j + r < n → boor u p c τ r j ≡ boor v p d τ r j
unfolding boor round
boor_cong p n u v c d τ h k zero j m o = k j (omega arith)
boor_cong p n u v c d τ h k (suc r) j m o = lerp_cong (τ (suc r)) (h _ (omega arith)) (h _ (omega arith))
    (boor_cong p n u v c d τ h k r j (omega arith) (omega arith)) (boor_cong p n u v c d τ h k r (suc j) (omega arith) (omega arith))

pub side_cong : (s : Side) (p n : ℕ) (u v : ℕ → ℚ) (c d : ℕ → ℕ → ℚ) (t : ℚ) (y : ℕ → ℚ) → ((i : ℕ) → i ≤ n + p → u i ≡ v i) → ((a i : ℕ) → i < n → c a i ≡ d a i)
    → OnSide s p n u c t y → OnSide s p n v d t y
side_cong s p n u v c d t y h k w = record {
  place = w.place;
  inside = w.inside;
  fits = fit-cast s t (h _ (low w.place w.inside)) (h _ (high w.place w.inside)) w.fits;
  there = λ a. sym (boor_cong p n u v (c a) (d a) (λ _. t) h (k a) p w.place (omega arith) w.inside) ∙ w.there a;
}
  where
    low : (m : ℕ) → m + p < n → m + p ≤ n + p
    low m o = omega arith

    high : (m : ℕ) → m + p < n → suc (m + p) ≤ n + p
    high m o = omega arith
