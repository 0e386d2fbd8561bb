-- The curve as the scope draws it and the rounds with the index shifted are the same. Each parameter of the domain, its end too, has exactly one span, no other
-- has any, and so the curve has exactly one value at each.
use mathlib.Core.Path.{◌≡◌, refl, sym, ◌∙◌, ap, subst}
use mathlib.Core.Logic.{⊎_elim}
use Prim.Native.Nat.{ℕ, zero, suc, pred, ◌+◌, ◌-◌, ◌≤◌, ◌<◌}
use native.Mathlib.Nat.{lt_of_not-le, sub-add_cancel, le_antisymm}
use native.Mathlib.Decide.{dec_le}
use native.Mathlib.Omega.{arith}
use Rattle.exact.specs.Rational.{ℚ, ◌≤ℚ◌, ◌<ℚ◌, lt→not_le}
use Rattle.exact.specs.Spline.{drawn, Domain, Span, before, closing, Traced, round, boor, curve, Sorted, right, Shut, Fit, OnSide, On}
use Rattle.exact.proofs.Order.{le_refl, le_trans, le_antisym, lt→le, le_or_lt, lt_or_le, lt_le_trans, le_lt_trans}
use Rattle.exact.proofs.Splines.Boor.{lerp_cong}
use Rattle.exact.proofs.Splines.On.{Crossing, crossing}

-- ---- the two ways to write the rounds

-- point j + r after r rounds as drawn is the value at j after r rounds with the index shifted
pub drawn-boor : (u : ℕ → ℚ) (p : ℕ) (t : ℚ) (c : ℕ → ℚ) (r j : ℕ) → drawn u p t c r (j + r) ≡ boor u p c (λ _. t) r j
unfolding drawn boor round
drawn-boor u p t c zero j = ap c ix
  where
    ix : j + zero ≡ j
    ix = omega arith
drawn-boor u p t c (suc r) j = lerp_cong t refl (ap u end)
    (ap (drawn u p t c r) before ∙ drawn-boor u p t c r j) (ap (drawn u p t c r) here ∙ drawn-boor u p t c r (suc j))
  where
    end : j + suc r + p + 1 - suc r ≡ j + suc p
    end = omega arith

    before : pred (j + suc r) ≡ j + r
    before = omega arith

    here : j + suc r ≡ suc j + r
    here = omega arith

-- point k after all p rounds is the curve of place k - p
pub drawn-curve : (u : ℕ → ℚ) (p : ℕ) (t : ℚ) (c : ℕ → ℚ) (m k : ℕ) → m + p ≡ k → drawn u p t c p k ≡ curve p u c m t
drawn-curve u p t c m k e = ap (drawn u p t c p) (sym e) ∙ drawn-boor u p t c p m

-- ---- the span of a parameter

module _ (p n : ℕ) (u : ℕ → ℚ) (t : ℚ) where
  -- it is one of the spans p to n - 1, and t lies in it, the ends included; it is not empty
  pub span_first : (k : ℕ) → Span p n u t k → p ≤ k
  span_first k (before h) = h.first
  span_first k (closing h) = h.first

  pub span_last : (k : ℕ) → Span p n u t k → k < n
  span_last k (before h) = h.last
  span_last k (closing h) = h.last

  pub span-shut : (k : ℕ) → Span p n u t k → Shut (u k) (u (suc k)) t
  span-shut k (before h) = record { from = h.from; upto = lt→le h.upto; wide = le_lt_trans h.from h.upto }
  span-shut k (closing h) = subst (Shut (u k) (u (suc k))) (h.stop ∙ sym h.here) (record { from = lt→le h.wide; upto = le_refl (u (suc k)); wide = h.wide })

  module _ (srt : Sorted u (n + p)) where
    -- only parameters of the domain have one
    pub span-domain : (k : ℕ) → Span p n u t k → Domain p n u t
    span-domain k s = record {
      from = le_trans (srt.up p k (span_first k s) (omega (arith, span_last k s))) (span-shut k s).from;
      upto = le_trans (span-shut k s).upto (srt.up (suc k) n (span_last k s) (omega arith));
    }

    -- there is at most one: none lies behind it
    pub span_one : (k l : ℕ) → Span p n u t k → Span p n u t l → k ≡ l
    span_one k l s v = le_antisymm (upto k l s v) (upto l k v s)
      where
        behind : (l k : ℕ) → l < k → Span p n u t l → Span p n u t k → ⊥
        behind l k o (before h) s = lt→not_le h.upto (le_trans (srt.up (suc l) k o (omega (arith, span_last k s))) (span-shut k s).from)
        behind l k o (closing h) s =
            lt→not_le (span-shut k s).wide (le_trans (srt.up (suc k) n (span_last k s) (omega arith)) (subst (λ (z : ℚ). z ≤ℚ u k) h.stop (srt.up (suc l) k o (omega (arith, span_last k s)))))

        upto : (k l : ℕ) → Span p n u t k → Span p n u t l → k ≤ l
        upto k l s v = elim (dec_le k l) [
          | yes m ↦ m
          | no m ↦ absurd (behind l k (lt_of_not-le m) v s)
        ]

    -- there is one for each parameter of the domain, where its start is below its end
    pub span_some : u p <ℚ u n → Domain p n u t → (k : ℕ) × Span p n u t k
    span_some w d = ⊎_elim inside at_end (lt_or_le t (u n))
      where
        o : p ≤ n
        o = elim (dec_le p n) [
          | yes m ↦ m
          | no m ↦ absurd (lt→not_le w (srt.up n p (omega (arith, lt_of_not-le m)) (omega arith)))
        ]

        inside : t <ℚ u n → (k : ℕ) × Span p n u t k
        inside m = let c : Crossing (λ k. u k ≤ℚ t) (λ k. t <ℚ u k) p n = crossing _ _ (λ k. le_or_lt (u k) t) p n o d.from (lt→not_le m) in
            (c.at, before (record { first = c.first; last = c.last; from = c.here; upto = c.next }))

        at_end : u n ≤ℚ t → (k : ℕ) × Span p n u t k
        at_end m = let c : Crossing (λ k. u k <ℚ u n) (λ k. u n ≤ℚ u k) p n = crossing _ _ (λ k. lt_or_le (u k) (u n)) p n o w (λ h. lt→not_le h (le_refl (u n))) in (
          c.at,
          closing (record {
            first = c.first;
            last = c.last;
            wide = lt_le_trans c.here c.next;
            stop = le_antisym (srt.up (suc c.at) n c.last (omega arith)) c.next;
            here = le_antisym d.upto m;
          }),
        )

    -- the divisor of round r at point i is above 0
    pub divisor_pos : (k : ℕ) → Span p n u t k → (r i : ℕ) → 1 ≤ r → r ≤ p → k + r ≤ i + p → i ≤ k → u i <ℚ u (i + p + 1 - r)
    divisor_pos k s r i a b o m =
        le_lt_trans (srt.up i k m (omega (arith, span_last k s))) (lt_le_trans (span-shut k s).wide (srt.up (suc k) (i + p + 1 - r) (omega arith) (omega (arith, span_last k s))))

-- ---- the curve on paper is one with closed spans
pub traced_on : (p n : ℕ) (u : ℕ → ℚ) (c : ℕ → ℕ → ℚ) (t : ℚ) (y : ℕ → ℚ) → Traced p n u c t y → On p n u c t y
unfolding Fit
traced_on p n u c t y w = record {
  place = w.k - p;
  inside = subst (λ (z : ℕ). z < n) (sym ix) (span_last p n u t w.k w.span);
  fits = subst (λ (z : ℕ). Shut (u z) (u (suc z)) t) (sym ix) (span-shut p n u t w.k w.span);
  there = λ a. sym (drawn-curve u p t (c a) (w.k - p) w.k ix) ∙ w.there a;
}
  where
    ix : w.k - p + p ≡ w.k
    ix = sub-add_cancel (span_first p n u t w.k w.span)

-- before the domain's end one whose spans exclude their end is the curve on paper
pub side_traced : (p n : ℕ) (u : ℕ → ℚ) (c : ℕ → ℕ → ℚ) (t : ℚ) (y : ℕ → ℚ) → OnSide right p n u c t y → Traced p n u c t y
unfolding Fit
side_traced p n u c t y w = record {
  k = w.place + p;
  span = before (record { first = omega arith; last = w.inside; from = w.fits.from; upto = w.fits.upto });
  there = λ a. drawn-curve u p t (c a) w.place (w.place + p) refl ∙ w.there a;
}

-- at the domain's end one with closed spans is
pub end_traced : (p n : ℕ) (u : ℕ → ℚ) (c : ℕ → ℕ → ℚ) (t : ℚ) (y : ℕ → ℚ) → Sorted u (n + p) → u n ≤ℚ t → On p n u c t y → Traced p n u c t y
unfolding Fit
end_traced p n u c t y srt h w = record {
  k = w.place + p;
  span = closing (record {
    first = omega arith;
    last = w.inside;
    wide = w.fits.wide;
    stop = le_antisym below (le_trans h w.fits.upto);
    here = le_antisym (le_trans w.fits.upto below) h;
  });
  there = λ a. drawn-curve u p t (c a) w.place (w.place + p) refl ∙ w.there a;
}
  where
    below : u (suc (w.place + p)) ≤ℚ u n
    below = srt.up (suc (w.place + p)) n w.inside (omega arith)

-- ---- it has exactly one value at each parameter of the domain
pub traced_some : (p n : ℕ) (u : ℕ → ℚ) (c : ℕ → ℕ → ℚ) (t : ℚ) → Sorted u (n + p) → u p <ℚ u n → Domain p n u t → (y : ℕ → ℚ) × Traced p n u c t y
traced_some p n u c t srt w d = let s = span_some p n u t srt w d in ((λ a. drawn u p t (c a) p s.0), record { k = s.0; span = s.1; there = λ a. refl })

pub traced_one : (p n : ℕ) (u : ℕ → ℚ) (c : ℕ → ℕ → ℚ) (t : ℚ) (y z : ℕ → ℚ) → Sorted u (n + p) → Traced p n u c t y → Traced p n u c t z → (a : ℕ) → y a ≡ z a
traced_one p n u c t y z srt v w a = sym (v.there a) ∙ ap (drawn u p t (c a) p) (span_one p n u t srt v.k w.k v.span w.span) ∙ w.there a
