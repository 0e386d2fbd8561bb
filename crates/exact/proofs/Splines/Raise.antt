-- Insertions of one value again and again: they keep the curve, and make the value occur as often as one likes.
use mathlib.Core.Path.{◌≡◌, refl, sym, ◌∙◌, ap, subst}
use Prim.Native.Nat.{ℕ, zero, suc, ◌+◌, ◌≤◌, ◌<◌}
use native.Mathlib.Omega.{arith}
use Rattle.exact.specs.Rational.{ℚ, ◌≤ℚ◌, ◌<ℚ◌}
use Rattle.exact.specs.Spline.{Sorted}
use Rattle.exact.specs.Insertion.{Inserted, knots, ctrls}
use Rattle.exact.specs.Cut.{Group, Raised}
use Rattle.exact.proofs.Order.{lt→le}
use Rattle.exact.proofs.Splines.Insert.{inserted, sorted', insert-keeps, kept_refl, kept_trans}
use Rattle.exact.proofs.Splines.Group.{group-place, group-insert}

-- ---- no insertion, and one more
pub raised_zero : (p n : ℕ) (u : ℕ → ℚ) (c : ℕ → ℕ → ℚ) (x : ℚ) (m s : ℕ) → Sorted u (n + p) → Group (n + p) u x m s → Raised p n u c x m s zero n u c
raised_zero p n u c x m s h g = record {
  count = omega arith;
  first = g;
  sorted = h;
  group = subst (λ (z : ℕ). Group (n + p) u x m z) (ix s) g;
  low = λ i _. refl;
  high = λ i _. ap u (sym (ix i));
  kept = kept_refl p n u c;
}
  where
    ix : (i : ℕ) → i ≡ i + zero
    ix i = omega arith

pub raised-insert : (p n : ℕ) (u : ℕ → ℚ) (c : ℕ → ℕ → ℚ) (x : ℚ) (m s e n' : ℕ) (u' : ℕ → ℚ) (c' : ℕ → ℕ → ℚ) (k : ℕ)
    → Raised p n u c x m s e n' u' c' → k < n' + p → u' k ≤ℚ x → x <ℚ u' (suc k)
    → Raised p n u c x m s (suc e) (suc n') (knots u' x k) (λ a. ctrls p u' (c' a) x k)
raised-insert p n u c x m s e n' u' c' k r kn a b = record {
  count = omega (arith, r.count);
  first = r.first;
  sorted = sorted' p n' u' c' x k r.sorted kn a (lt→le b);
  group = subst (λ (z : ℕ). Group z u'' x m (s + suc e)) (sym (ix₂ n')) (subst (λ (z : ℕ). Group (suc (n' + p)) u'' x m z) (ix₁ s e) (group-insert (n' + p) u' (c' zero) x m (s + e) k p u'' (c'' zero) (q zero) at r.group));
  low = λ i h. (q zero).low_knot i (before i h) ∙ r.low i h;
  high = λ i h. ap u'' (ix₃ i) ∙ (q zero).high_knot (i + e) (after i h) ∙ r.high i h;
  kept = kept_trans r.kept (insert-keeps p n' u' c' x k r.sorted kn a (lt→le b));
}
  where
    u'' : ℕ → ℚ
    u'' = knots u' x k

    c'' : ℕ → ℕ → ℚ
    c'' a = ctrls p u' (c' a) x k

    q : (a : ℕ) → Inserted p u' (c' a) x k u'' (c'' a)
    q a = inserted p u' (c' a) x k

    at : suc k ≡ m + (s + e)
    at = group-place (n' + p) u' x m (s + e) k r.group (omega arith) a b

    before : (i : ℕ) → i < m → i ≤ k
    before i h = omega (arith, at)

    after : (i : ℕ) → m + s ≤ i → k < i + e
    after i h = omega (arith, at)

    ix₁ : (s e : ℕ) → suc (s + e) ≡ s + suc e
    ix₁ s e = omega arith

    ix₂ : (n' : ℕ) → suc n' + p ≡ suc (n' + p)
    ix₂ n' = omega arith

    ix₃ : (i : ℕ) → i + suc e ≡ suc (i + e)
    ix₃ i = omega arith

-- ---- e insertions, behind the m + s knots that are at most x
