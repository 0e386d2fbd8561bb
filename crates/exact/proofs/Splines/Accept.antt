-- What refusal 8 counts, and the form by order that the proofs use: each gives the other.
use mathlib.Core.Path.{◌≡◌, refl, sym, ◌∙◌, ap, subst}
use mathlib.Core.Logic.{⊎_elim}
use Prim.Native.Nat.{ℕ, suc, ◌+◌, ◌≤◌, ◌<◌}
use native.Mathlib.Nat.{lt_of_not-le}
use native.Mathlib.Decide.{dec_le}
use native.Mathlib.Omega.{arith}
use Rattle.exact.specs.Rational.{ℚ, ◌≤ℚ◌, ◌<ℚ◌, not_le→lt, lt→not_le}
use Rattle.exact.specs.Spline.{Sorted}
use Rattle.exact.specs.Cut.{tally, Counted, Good, Grouped}
use Rattle.exact.proofs.Order.{le_refl, le_trans, le_antisym, le_or_lt}
use Rattle.exact.proofs.Splines.Boor.{le_cast}
use Rattle.exact.proofs.Splines.Group.{group-find, group-thin}
use Rattle.exact.proofs.Splines.Count.{tally-group}

-- ---- the knots i to i + k are v: they are counted
run-count : (N : ℕ) (u : ℕ → ℚ) (v : ℚ) (i k : ℕ) → Sorted u N → i + k ≤ N → u i ≡ v → u (i + k) ≡ v → suc k ≤ tally u v (suc N)
run-count N u v i k srt h a b = go (group-find N u v srt)
  where
    go : Grouped N u v → suc k ≤ tally u v (suc N)
    go g = subst (λ (z : ℕ). suc k ≤ z) (sym (tally-group N u v g.m g.s g.group g.fits)) (omega (arith, low, high))
      where
        low : g.m ≤ i
        low = elim (dec_le g.m i) [ yes l ↦ l | no l ↦ absurd (lt→not_le (g.group.below i (lt_of_not-le l)) (subst (λ (z : ℚ). v ≤ℚ z) (sym a) (le_refl v))) ]

        high : i + k < g.m + g.s
        high = elim (dec_le (suc (i + k)) (g.m + g.s)) [ yes l ↦ l | no l ↦ absurd (lt→not_le (g.group.above (i + k) (le (lt_of_not-le l)) h) (subst (λ (z : ℚ). z ≤ℚ v) (sym b) (le_refl v))) ]
          where
            le : g.m + g.s < suc (i + k) → g.m + g.s ≤ i + k
            le l = omega arith

-- ---- each form gives the other
pub counted-good : (p n : ℕ) (u : ℕ → ℚ) → Counted p n u → Good p n u
counted-good p n u c = record { sorted = c.sorted; room = c.room; span = c.span; thin = record { apart = apart }; loose = loose }
  where
    off : (k : ℕ) → suc k ≤ k → ⊥
    off k h = omega arith

    apart : (i : ℕ) → i ≤ n → u p <ℚ u i → u i <ℚ u n → u i <ℚ u (i + p)
    apart i h a b = not_le→lt (λ m. off p (over m))
      where
        over : u (i + p) ≤ℚ u i → suc p ≤ p
        over m = le (run-count (n + p) u (u i) i p c.sorted (omega arith) refl (le_antisym m (c.sorted.up i (i + p) (omega arith) (omega arith)))) (c.inner (u i) a b)
          where
            le : {x : ℕ} → suc p ≤ x → x ≤ p → suc p ≤ p
            le h k = omega arith

    loose : (i : ℕ) → i < n → u i <ℚ u (suc (i + p))
    loose i h = not_le→lt (λ m. off (suc p) (over m))
      where
        over : u (suc (i + p)) ≤ℚ u i → suc (suc p) ≤ suc p
        over m = ⊎_elim at-start (λ (a : u p <ℚ u i). ⊎_elim at_end (λ (b : u i <ℚ u n). wide (c.inner (u i) a b)) (le_or_lt (u n) (u i))) (le_or_lt (u i) (u p))
          where
            count : suc (suc p) ≤ tally u (u i) (suc (n + p))
            count = run-count (n + p) u (u i) i (suc p) c.sorted (omega arith) refl (ap u (ix i p) ∙ le_antisym m (c.sorted.up i (suc (i + p)) (omega arith) (omega arith)))
              where
                ix : (i p : ℕ) → i + suc p ≡ suc (i + p)
                ix i p = omega arith

            le : {x : ℕ} → suc (suc p) ≤ x → x ≤ suc p → suc (suc p) ≤ suc p
            le h k = omega arith

            wide : tally u (u i) (suc (n + p)) ≤ p → suc (suc p) ≤ suc p
            wide k = omega (arith, count)

            -- knot i at or before the start, and knot i + p + 1, which is after it, no further
            at-start : u i ≤ℚ u p → suc (suc p) ≤ suc p
            at-start a = le (subst (λ (z : ℚ). suc (suc p) ≤ tally u z (suc (n + p))) (le_antisym a (le_trans (c.sorted.up p (suc (i + p)) (omega arith) (omega arith)) m)) count) c.start

            at_end : u n ≤ℚ u i → suc (suc p) ≤ suc p
            at_end a = le (subst (λ (z : ℚ). suc (suc p) ≤ tally u z (suc (n + p))) (le_antisym (c.sorted.up i n (omega arith) (omega arith)) a) count) c.stop

pub good-counted : (p n : ℕ) (u : ℕ → ℚ) → Good p n u → Counted p n u
good-counted p n u g = record { sorted = g.sorted; room = g.room; span = g.span; inner = inner; start = ends (u p); stop = ends (u n) }
  where
    inner : (v : ℚ) → u p <ℚ v → v <ℚ u n → tally u v (suc (n + p)) ≤ p
    inner v a b = let r : Grouped (n + p) u v = group-find (n + p) u v g.sorted in
        subst (λ (z : ℕ). z ≤ p) (sym (tally-group (n + p) u v r.m r.s r.group r.fits)) (group-thin p n u v r.m r.s g r.group a b)

    ends : (v : ℚ) → tally u v (suc (n + p)) ≤ suc p
    ends v = go (group-find (n + p) u v g.sorted)
      where
        go : Grouped (n + p) u v → tally u v (suc (n + p)) ≤ suc p
        go r = subst (λ (z : ℕ). z ≤ suc p) (sym (tally-group (n + p) u v r.m r.s r.group r.fits)) (elim (dec_le r.s (suc p)) [ yes h ↦ h | no h ↦ absurd (twice (lt_of_not-le h)) ])
          where
            twice : suc p < r.s → ⊥
            twice h = lt→not_le (g.loose r.m (omega (arith, r.fits))) (le_cast (sym (r.group.equal (suc (r.m + p)) (omega arith) (omega arith))) (sym (r.group.equal r.m (omega arith) (omega arith))) (le_refl v))
