-- Where a value stands among knots in order: its group of equal knots, and what an insertion does to it.
use mathlib.Core.Path.{◌≡◌, refl, sym, ◌∙◌, ap}
use mathlib.Core.Logic.{◌⊎◌, inl, inr, ⊎_elim}
use Prim.Native.Nat.{ℕ, zero, suc, ◌+◌, ◌≤◌, ◌<◌}
use native.Mathlib.Nat.{lt_of_not-le, le_antisymm}
use native.Mathlib.Decide.{dec_le}
use native.Mathlib.Omega.{arith}
use Rattle.exact.specs.Rational.{ℚ, ◌≤ℚ◌, ◌<ℚ◌, lt→not_le}
use Rattle.exact.specs.Spline.{Sorted}
use Rattle.exact.specs.Insertion.{Inserted}
use Rattle.exact.specs.Cut.{Good, Group, Grouped}
use Rattle.exact.proofs.Order.{le_refl, le_trans, le_antisym, lt→le, le_or_lt, le_lt_trans}
use Rattle.exact.proofs.Splines.Boor.{lt_cast, le_cast, le_of_eq}
use Rattle.exact.proofs.Splines.On.{sorted-less}

-- x can be inserted at one place only: behind its group
pub group-place : (N : ℕ) (u : ℕ → ℚ) (x : ℚ) (m s k : ℕ) → Group N u x m s → k ≤ N → u k ≤ℚ x → x <ℚ u (suc k) → suc k ≡ m + s
group-place N u x m s k g kN a b = le_antisymm k<ms ms≤k
  where
    k<ms : k < m + s
    k<ms = elim (dec_le (suc k) (m + s)) [ yes h ↦ h | no n ↦ absurd (lt→not_le (g.above k (le (lt_of_not-le n)) kN) a) ]
      where
        le : m + s < suc k → m + s ≤ k
        le h = omega arith

    ms≤k : m + s ≤ suc k
    ms≤k = elim (dec_le (m + s) (suc k)) [ yes h ↦ h | no n ↦ absurd (lt→not_le b (at (lt_of_not-le n))) ]
      where
        at : suc k < m + s → u (suc k) ≤ℚ x
        at h = elim (dec_le m (suc k)) [ yes j ↦ le_of_eq (g.equal (suc k) j h) | no j ↦ lt→le (g.below (suc k) (lt_of_not-le j)) ]

-- a knot below x stands before the group
pub group_p : (N : ℕ) (u : ℕ → ℚ) (x : ℚ) (m s p : ℕ) → Group N u x m s → p ≤ N → u p <ℚ x → p < m
group_p N u x m s p g pN px = elim (dec_le (suc p) m) [ yes k ↦ k | no k ↦ absurd (lt→not_le px (no_way (le (lt_of_not-le k)))) ]
  where
    le : m < suc p → m ≤ p
    le h = omega arith

    no_way : m ≤ p → x ≤ℚ u p
    no_way h = elim (dec_le (m + s) p) [ yes k ↦ lt→le (g.above p k pN) | no k ↦ le_of_eq (sym (g.equal p h (lt_of_not-le k))) ]

-- a knot above x stands behind the group
pub group_n : (N : ℕ) (u : ℕ → ℚ) (x : ℚ) (m s n : ℕ) → Group N u x m s → x <ℚ u n → m + s ≤ n
group_n N u x m s n g xn = elim (dec_le (m + s) n) [ yes k ↦ k | no k ↦ absurd (lt→not_le xn (no_way (lt_of_not-le k))) ]
  where
    no_way : n < m + s → u n ≤ℚ x
    no_way h = elim (dec_le m n) [ yes k ↦ le_of_eq (g.equal n k h) | no k ↦ lt→le (g.below n (lt_of_not-le k)) ]

-- every value has a group in knots that are in order
pub group-find : (N : ℕ) (u : ℕ → ℚ) (x : ℚ) → Sorted u N → Grouped N u x
group-find zero u x srt = ⊎_elim
    (λ (h : x ≤ℚ u zero). ⊎_elim
    (λ (k : u zero ≤ℚ x). record {
      m = zero;
      s = 1;
      fits = omega arith;
      group = record {
        below = λ i l. absurd (off i l);
        equal = λ i l n. ap u (one i n) ∙ le_antisym k h;
        above = λ i l n. absurd (big i l n);
      };
    })
    (λ (k : x <ℚ u zero). record {
      m = zero;
      s = zero;
      fits = omega arith;
      group = record {
        below = λ i l. absurd (off i l);
        equal = λ i l n. absurd (off i (omega arith));
        above = λ i l n. lt_cast refl (ap u (sym (nil i n))) k;
      };
    })
    (le_or_lt (u zero) x))
    (λ (h : u zero <ℚ x). record {
      m = 1;
      s = zero;
      fits = omega arith;
      group = record {
        below = λ i l. lt_cast (ap u (sym (one i l))) refl h;
        equal = λ i l n. absurd (none i l n);
        above = λ i l n. absurd (big i (omega arith) n);
      };
    })
    (le_or_lt x (u zero))
  where
    off : (i : ℕ) → i < zero → ⊥
    off i l = omega arith

    one : (i : ℕ) → i < zero + 1 → i ≡ zero
    one i n = omega arith

    big : (i : ℕ) → zero + 1 ≤ i → i ≤ zero → ⊥
    big i l n = omega arith

    nil : (i : ℕ) → i ≤ zero → i ≡ zero
    nil i n = omega arith

    none : (i : ℕ) → 1 ≤ i → i < 1 + zero → ⊥
    none i l n = omega arith
group-find (suc N) u x srt = grow (group-find N u x (sorted-less u (suc N) N (omega arith) srt)) (le_or_lt x (u (suc N)))
  where
    grow : Grouped N u x → (x ≤ℚ u (suc N)) ⊎ (u (suc N) <ℚ x) → Grouped (suc N) u x
    grow g (inr h) = record {
      m = suc (suc N);
      s = zero;
      fits = omega arith;
      group = record {
        below = λ i l. le_lt_trans (srt.up i (suc N) (omega arith) (omega arith)) h;
        equal = λ i l n. absurd (none i l n);
        above = λ i l n. absurd (big i l n);
      };
    }
      where
        none : (i : ℕ) → suc (suc N) ≤ i → i < suc (suc N) + zero → ⊥
        none i l n = omega arith

        big : (i : ℕ) → suc (suc N) + zero ≤ i → i ≤ suc N → ⊥
        big i l n = omega arith
    grow g (inl h) = ⊎_elim same more (le_or_lt (u (suc N)) x)
      where
        more : x <ℚ u (suc N) → Grouped (suc N) u x
        more k = record { m = g.m; s = g.s; fits = wider g.fits; group = record { below = g.group.below; equal = g.group.equal; above = above } }
          where
            wider : {a : ℕ} → a ≤ suc N → a ≤ suc (suc N)
            wider h = omega arith

            above : (i : ℕ) → g.m + g.s ≤ i → i ≤ suc N → x <ℚ u i
            above i l n = elim (dec_le i N) [ yes o ↦ g.group.above i l o | no o ↦ lt_cast refl (ap u (sym (last i n (lt_of_not-le o)))) k ]
              where
                last : (i : ℕ) → i ≤ suc N → N < i → i ≡ suc N
                last i n o = omega arith

        same : u (suc N) ≤ℚ x → Grouped (suc N) u x
        same k = record { m = g.m; s = suc g.s; fits = full g.m g.s g.fits; group = record { below = g.group.below; equal = equal; above = λ i l n. absurd (big g.m g.s i end l n) } }
          where
            full : (m s : ℕ) → m + s ≤ suc N → m + suc s ≤ suc (suc N)
            full m s h = omega arith

            -- nothing stands above x
            end : N < g.m + g.s
            end = elim (dec_le (g.m + g.s) N) [
              | yes o ↦ absurd (lt→not_le (g.group.above (g.m + g.s) (omega arith) o) (le_trans (srt.up (g.m + g.s) (suc N) (le (g.m + g.s) o) (omega arith)) k))
              | no o ↦ lt_of_not-le o
            ]
              where
                le : (a : ℕ) → a ≤ N → a ≤ suc N
                le a o = omega arith

            big : (m s i : ℕ) → N < m + s → m + suc s ≤ i → i ≤ suc N → ⊥
            big m s i e l n = omega arith

            equal : (i : ℕ) → g.m ≤ i → i < g.m + suc g.s → u i ≡ x
            equal i l n = elim (dec_le (suc i) (g.m + g.s)) [
              | yes o ↦ g.group.equal i l o
              | no o ↦ ap u (last g.m g.s i g.fits end n (lt_of_not-le o)) ∙ le_antisym k h
            ]
              where
                last : (m s i : ℕ) → m + s ≤ suc N → N < m + s → i < m + suc s → m + s < suc i → i ≡ suc N
                last m s i f e n o = omega arith

-- an insertion of x makes its group larger by one
pub group-insert : (N : ℕ) (u c : ℕ → ℚ) (x : ℚ) (m s k p : ℕ) (u' c' : ℕ → ℚ) → Inserted p u c x k u' c' → suc k ≡ m + s → Group N u x m s → Group (suc N) u' x m (suc s)
group-insert N u c x m s k p u' c' q e g = record {
  below = λ i h. lt_cast (sym (q.low_knot i (omega arith))) refl (g.below i h);
  equal = λ i h j. equal i h j;
  above = λ i h j. above i h j;
}
  where
    equal : (i : ℕ) → m ≤ i → i < m + suc s → u' i ≡ x
    equal i h j = elim (dec_le i k) [ yes l ↦ q.low_knot i l ∙ g.equal i h (omega arith) | no l ↦ ap u' (ix (lt_of_not-le l)) ∙ q.new_knot ]
      where
        ix : k < i → i ≡ suc k
        ix l = omega arith

    above : (i : ℕ) → m + suc s ≤ i → i ≤ suc N → x <ℚ u' i
    above zero h j = absurd (off h)
      where
        off : m + suc s ≤ zero → ⊥
        off h = omega arith
    above (suc i) h j = lt_cast refl (sym (q.high_knot i (omega arith))) (g.above i (omega arith) (omega arith))

-- in accepted knots a value strictly inside the domain stands at most degree times
pub group-thin : (p n : ℕ) (u : ℕ → ℚ) (x : ℚ) (m s : ℕ) → Good p n u → Group (n + p) u x m s → u p <ℚ x → x <ℚ u n → s ≤ p
group-thin p n u x m s good g px xn = elim (dec_le s p) [ yes h ↦ h | no h ↦ absurd (twice (lt_of_not-le h)) ]
  where
    ms : m + s ≤ n
    ms = group_n (n + p) u x m s n g xn

    twice : p < s → ⊥
    twice h = lt→not_le (good.thin.apart m (omega (arith, ms)) (lt_cast refl (sym here) px) (lt_cast (sym here) refl xn)) (le_cast (sym there) (sym here) (le_refl x))
      where
        here : u m ≡ x
        here = g.equal m (omega arith) (omega arith)

        there : u (m + p) ≡ x
        there = g.equal (m + p) (omega arith) (omega arith)
