-- The cut keeps the curve on both sides, whatever number of times the value occurred, and its parts are accepted again and no larger.
use mathlib.Core.Path.{◌≡◌, refl, sym, ◌∙◌, ap, subst}
use mathlib.Core.Logic.{⊎_elim}
use Prim.Native.Nat.{ℕ, zero, suc, ◌+◌, ◌-◌, ◌≤◌, ◌<◌}
use native.Mathlib.Nat.{lt_of_not-le}
use native.Mathlib.Decide.{dec_le}
use native.Mathlib.Omega.{arith}
use Rattle.exact.specs.Rational.{ℚ, ◌≤ℚ◌, ◌<ℚ◌, lt→not_le}
use Rattle.exact.specs.Spline.{round, boor, shut, left, right, Fit, OnSide, On}
use Rattle.exact.specs.Cut.{Good, Raised, shift}
use Rattle.exact.proofs.Order.{lt→le, le_or_lt, lt_le_trans, le_lt_trans}
use Rattle.exact.proofs.Splines.Boor.{lt_cast, lerp_cong}
use Rattle.exact.proofs.Splines.On.{fit-cast, side-on, sorted-less}
use Rattle.exact.proofs.Splines.Smooth.{from_left, from_right}
use Rattle.exact.proofs.Splines.Group.{group_p, group_n}

-- ---- what stands from m on is a curve of its own
pub shift-boor : (m p : ℕ) (u c τ : ℕ → ℚ) (r j : ℕ) → boor (shift m u) p (shift m c) τ r j ≡ boor u p c τ r (m + j)
unfolding boor round shift
shift-boor m p u c τ zero j = refl
shift-boor m p u c τ (suc r) j = lerp_cong (τ (suc r)) (ap u (ix m j (suc r))) (ap u (ix m j (suc p))) (shift-boor m p u c τ r j) (shift-boor m p u c τ r (suc j) ∙ ap (boor u p c τ r) (ix' m j))
  where
    ix : (m j r : ℕ) → m + (j + r) ≡ m + j + r
    ix m j r = omega arith

    ix' : (m j : ℕ) → m + suc j ≡ suc (m + j)
    ix' m j = omega arith

shift-on : (p n : ℕ) (u : ℕ → ℚ) (c : ℕ → ℕ → ℚ) (t : ℚ) (y : ℕ → ℚ) (m : ℕ) (v : On p n u c t y) → m ≤ v.place → On p (n - m) (shift m u) (λ a. shift m (c a)) t y
unfolding shift
shift-on p n u c t y m v h = record {
  place = v.place - m;
  inside = less v.place h v.inside;
  fits = fit-cast shut t (ap u (sym (ix v.place h))) (ap u (sym (ix' v.place h))) v.fits;
  there = λ a. shift-boor m p u (c a) (λ _. t) p (v.place - m) ∙ ap (boor u p (c a) (λ _. t) p) (ix'' v.place h) ∙ v.there a;
}
  where
    less : (l : ℕ) → m ≤ l → l + p < n → l - m + p < n - m
    less l h k = omega arith

    ix : (l : ℕ) → m ≤ l → m + (l - m + p) ≡ l + p
    ix l h = omega arith

    ix' : (l : ℕ) → m ≤ l → m + suc (l - m + p) ≡ suc (l + p)
    ix' l h = omega arith

    ix'' : (l : ℕ) → m ≤ l → m + (l - m) ≡ l
    ix'' l h = omega arith

-- ---- x, strictly inside the domain, occurs p + 1 times from knot m on
module _ (p n : ℕ) (u : ℕ → ℚ) (c : ℕ → ℕ → ℚ) (x : ℚ) (m s e n' : ℕ) (u' : ℕ → ℚ) (c' : ℕ → ℕ → ℚ) (good : Good p n u) (r : Raised p n u c x m s e n' u' c')
    (full : s + e ≡ suc p) (px : u p <ℚ x) (xn : x <ℚ u n) where
  -- its knots
  pub at_x : (i : ℕ) → i ≤ p → u' (m + i) ≡ x
  at_x i h = r.group.equal (m + i) (omega arith) (omega (arith, full))

  pub at_m : u' m ≡ x
  at_m = r.group.equal m (omega arith) (omega (arith, full))

  over : (i : ℕ) → m + suc p ≤ i → i ≤ n' + p → x <ℚ u' i
  over i h k = r.group.above i (omega (arith, full)) k

  below-m : (i : ℕ) → i ≤ n' + p → u' i <ℚ x → i < m
  below-m i o h = elim (dec_le (suc i) m) [ yes k ↦ k | no k ↦ absurd (lt→not_le h (subst (λ (z : ℚ). z ≤ℚ u' i) at_m (r.sorted.up m i (le (lt_of_not-le k)) o))) ]
    where
      le : m < suc i → m ≤ i
      le h = omega arith

  beyond_m : (i : ℕ) → m + p ≤ n' + p → x <ℚ u' i → m + p < i
  beyond_m i o h = elim (dec_le (suc (m + p)) i) [ yes k ↦ k | no k ↦ absurd (lt→not_le h (subst (λ (z : ℚ). u' i ≤ℚ z) (at_x p (omega arith)) (r.sorted.up i (m + p) (le (lt_of_not-le k)) o))) ]
    where
      le : i < suc (m + p) → i ≤ m + p
      le h = omega arith

  -- it stands behind knot p, and far enough before the last knots
  pub p<m : p < m
  p<m = group_p (n + p) u x m s p r.first (omega arith) px

  ms≤n : m + s ≤ n
  ms≤n = group_n (n + p) u x m s n r.first xn

  pub m+p<n' : m + p < n'
  m+p<n' = omega (arith, ms≤n, full, r.count)

  -- knot n of the whole
  pub last : u' n' ≡ u n
  last = ap u' r.count ∙ r.high n ms≤n

  -- a knot above x is an old one
  old : (i : ℕ) → m + p < i → u' i ≡ u (i - e)
  old i h = ap u' (ix i h) ∙ r.high (i - e) (far i h)
    where
      ix : (i : ℕ) → m + p < i → i ≡ i - e + e
      ix i h = omega (arith, full)

      far : (i : ℕ) → m + p < i → m + s ≤ i - e
      far i h = omega (arith, full)

  -- ---- the parts have more than p control values each, and no more than the whole
  pub count_left : (p < m) × (m ≤ n)
  count_left = (p<m, omega (arith, ms≤n))

  pub count_right : (p < n' - m) × (n' - m ≤ n)
  count_right = (omega (arith, m+p<n'), omega (arith, p<m, r.count, full))

  -- ---- the domains of the parts are the domain of the whole before x and behind it
  pub ends_left : (u' p ≡ u p) × (u' m ≡ x)
  ends_left = (r.low p p<m, at_m)

  pub ends_right : (shift m u' p ≡ x) × (shift m u' (n' - m) ≡ u n)
  unfolding shift
  ends_right = (at_x p (omega arith), ap u' (ix m+p<n') ∙ last)
    where
      ix : m + p < n' → m + (n' - m) ≡ n'
      ix h = omega arith

  -- ---- the parts are accepted again
  pub good_left : Good p m u'
  good_left = record {
    sorted = sorted-less u' (n' + p) (m + p) (omega (arith, m+p<n')) r.sorted;
    room = p<m;
    span = lt_cast (sym (r.low p p<m)) (sym at_m) px;
    thin = record { apart = λ i h a b. apart i h a b };
    loose = λ i h. further i h (suc (i + p)) (omega (arith, m+p<n')) (good.loose i (omega (arith, ms≤n)));
  }
    where
      -- a knot below x and a later one
      further : (i : ℕ) → i < m → (j : ℕ) → j ≤ n' + p → u i <ℚ u j → u' i <ℚ u' j
      further i h j o a = elim (dec_le (suc j) m) [
        | yes k ↦ lt_cast (sym (r.low i h)) (sym (r.low j k)) a
        | no k ↦ lt_le_trans (lt_cast (sym (r.low i h)) (sym at_m) (r.first.below i h)) (r.sorted.up m j (le (lt_of_not-le k)) o)
      ]
        where
          le : m < suc j → m ≤ j
          le h = omega arith

      apart : (i : ℕ) → i ≤ m → u' p <ℚ u' i → u' i <ℚ u' m → u' i <ℚ u' (i + p)
      apart i h a b = further i i<m (i + p) (omega (arith, m+p<n')) (good.thin.apart i (omega (arith, i<m, ms≤n)) (lt_cast (r.low p p<m) (r.low i i<m) a) (lt_le_trans (r.first.below i i<m) (lt→le xn)))
        where
          i<m : i < m
          i<m = below-m i (omega (arith, m+p<n')) (lt_cast refl at_m b)

  pub good_right : Good p (n' - m) (shift m u')
  unfolding shift
  good_right = record {
    sorted = record { up = λ i j h k. r.sorted.up (m + i) (m + j) (omega arith) (omega (arith, m+p<n')) };
    room = omega (arith, m+p<n');
    span = lt_cast (sym (at_x p (omega arith))) (sym (ap u' (ix m+p<n') ∙ last)) xn;
    thin = record { apart = λ i h a b. apart i h a b };
    loose = λ i h. loose i h;
  }
    where
      ix : m + p < n' → m + (n' - m) ≡ n'
      ix h = omega arith

      apart : (i : ℕ) → i ≤ n' - m → u' (m + p) <ℚ u' (m + i) → u' (m + i) <ℚ u' (m + (n' - m)) → u' (m + i) <ℚ u' (m + (i + p))
      apart i h a b = lt_cast (sym (old (m + i) far)) (sym (old (m + (i + p)) (omega (arith, far)) ∙ ap u (ix₂ (m + i) far)))
          (good.thin.apart (m + i - e) (omega (arith, m+p<n', r.count)) (lt_le_trans px (lt→le (lt_cast (at_x p (omega arith)) (old (m + i) far) a))) (lt_cast (old (m + i) far) (ap u' (ix m+p<n') ∙ last) b))
        where
          far : m + p < m + i
          far = beyond_m (m + i) (omega (arith, m+p<n')) (lt_cast (at_x p (omega arith)) refl a)

          ix₂ : (j : ℕ) → m + p < j → m + (i + p) - e ≡ m + i - e + p
          ix₂ j o = omega (arith, far, full)

      loose : (i : ℕ) → i < n' - m → u' (m + i) <ℚ u' (m + suc (i + p))
      loose i h = elim (dec_le i p) [
        | yes k ↦ lt_cast (sym (at_x i k)) refl (over (m + suc (i + p)) (omega arith) (omega (arith, m+p<n')))
        | no k ↦ lt_cast (sym (old (m + i) (far (lt_of_not-le k)))) (sym (old (m + suc (i + p)) (omega arith) ∙ ap u (ix₂ (lt_of_not-le k)))) (good.loose (m + i - e) (small (lt_of_not-le k)))
      ]
        where
          far : p < i → m + p < m + i
          far k = omega arith

          ix₂ : p < i → m + suc (i + p) - e ≡ suc (m + i - e + p)
          ix₂ k = omega (arith, full)

          small : p < i → m + i - e < n
          small k = omega (arith, m+p<n', r.count, full)

  -- ---- a point of the whole is a point of the part on whose side its parameter lies, of both at x
  pub cut_left : (t : ℚ) (y : ℕ → ℚ) → t ≤ℚ x → On p n u c t y → On p m u' c' t y
  unfolding Fit side-on
  cut_left t y h w = ⊎_elim here before (le_or_lt x t)
    where
      take : (v : On p n' u' c' t y) → u' (v.place + p) <ℚ x → On p m u' c' t y
      take v k = record { place = v.place; inside = below-m (v.place + p) (o v.inside) k; fits = v.fits; there = v.there }
        where
          o : v.place + p < n' → v.place + p ≤ n' + p
          o h = omega arith

      before : t <ℚ x → On p m u' c' t y
      before k = let v : On p n' u' c' t y = r.kept.keeps shut t y w in take v (le_lt_trans v.fits.from k)

      here : x ≤ℚ t → On p m u' c' t y
      here k = let v : OnSide left p n' u' c' t y = r.kept.keeps left t y (from_left p n u good.sorted good.thin t c y (lt_le_trans px k) (le_lt_trans h xn) w) in
          take (side-on left p n' u' c' t y v) (lt_le_trans v.fits.from h)

  pub cut_right : (t : ℚ) (y : ℕ → ℚ) → x ≤ℚ t → On p n u c t y → On p (n' - m) (shift m u') (λ a. shift m (c' a)) t y
  unfolding Fit side-on
  cut_right t y h w = ⊎_elim here after (le_or_lt t x)
    where
      take : (v : On p n' u' c' t y) → x <ℚ u' (suc (v.place + p)) → On p (n' - m) (shift m u') (λ a. shift m (c' a)) t y
      take v k = shift-on p n' u' c' t y m v (far v.place (beyond_m (suc (v.place + p)) (omega (arith, m+p<n')) k))
        where
          far : (l : ℕ) → m + p < suc (l + p) → m ≤ l
          far l h = omega arith

      after : x <ℚ t → On p (n' - m) (shift m u') (λ a. shift m (c' a)) t y
      after k = let v : On p n' u' c' t y = r.kept.keeps shut t y w in take v (lt_le_trans k v.fits.upto)

      here : t ≤ℚ x → On p (n' - m) (shift m u') (λ a. shift m (c' a)) t y
      here k = let v : OnSide right p n' u' c' t y = r.kept.keeps right t y (from_right p n u good.sorted good.thin t c y (le_lt_trans k xn) w) in
          take (side-on right p n' u' c' t y v) (le_lt_trans h v.fits.upto)
