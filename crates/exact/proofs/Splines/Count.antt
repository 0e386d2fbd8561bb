-- Counting knots: equality of two numbers is decided, and the counts find a value's group.
use mathlib.Core.Path.{◌≡◌, refl, sym, ◌∙◌, ap, ap₂, subst}
use mathlib.Core.Bool.{Bool, true, false, ◌&&◌}
use Prim.Native.Nat.{ℕ, zero, suc, ◌+◌, ◌-◌, ◌≤◌, ◌<◌, min}
use native.Mathlib.Nat.{lt_of_not-le}
use native.Mathlib.Decide.{dec_le}
use native.Mathlib.Omega.{arith}
use lib.Dec.{T}
use Rattle.exact.specs.Rational.{ℚ, -ℚ◌, ◌-ℚ◌, nonneg, nn_in, nn_out, ◌≤ℚ◌, ◌<ℚ◌, le_in, nn_of, lt→not_le}
use Rattle.exact.specs.Cut.{eqℚ, choose, tally, Group}
use Rattle.exact.proofs.Order.{le_refl, le_antisym, le_dec}
use Rattle.exact.proofs.Splines.Boor.{le_of_eq}

-- ---- equality of two numbers is decided
pub eq-dec : (x y : ℚ) → Dec (x ≡ y)
eq-dec x y = both (le_dec x y) (le_dec y x)
  where
    both : Dec (x ≤ℚ y) → Dec (y ≤ℚ x) → Dec (x ≡ y)
    both (yes h) (yes k) = yes (le_antisym h k)
    both (yes h) (no k) = no (λ e. k (subst (λ (z : ℚ). z ≤ℚ x) e (le_refl x)))
    both (no h) d = no (λ e. h (subst (λ (z : ℚ). x ≤ℚ z) e (le_refl x)))

-- ---- and the test agrees
yes_true : (b : Bool) → T b → b ≡ true
yes_true true t = refl
yes_true false t = absurd t

both_true : (b c : Bool) → b ≡ true → c ≡ true → (b && c) ≡ true
both_true b c h k = ap₂ ◌&&◌ h k

not-both : (b c : Bool) → (T b → T c → ⊥) → (b && c) ≡ false
not-both true true n = absurd (n tt tt)
not-both true false n = refl
not-both false c n = refl

pub eqℚ-yes : (x y : ℚ) → x ≡ y → eqℚ x y ≡ true
unfolding eqℚ
eqℚ-yes x y e = both_true (nonneg (x -ℚ y)) (nonneg (y -ℚ x)) (yes_true _ (nn_out (nn_of (le_of_eq (sym e))))) (yes_true _ (nn_out (nn_of (le_of_eq e))))

pub eqℚ-no : (x y : ℚ) → ¬ (x ≡ y) → eqℚ x y ≡ false
unfolding eqℚ
eqℚ-no x y n = not-both (nonneg (x -ℚ y)) (nonneg (y -ℚ x)) (λ h k. n (le_antisym (le_in (nn_in k)) (le_in (nn_in h))))

choose_yes : {A : Type 0} (x y : ℚ) (a b : A) → x ≡ y → choose (eqℚ x y) a b ≡ a
choose_yes x y a b e = ap (λ (c : Bool). choose c a b) (eqℚ-yes x y e)

choose_no : {A : Type 0} (x y : ℚ) (a b : A) → ¬ (x ≡ y) → choose (eqℚ x y) a b ≡ b
choose_no x y a b n = ap (λ (c : Bool). choose c a b) (eqℚ-no x y n)

-- ---- a count finds the size of a group, and a search its place
ne_lt : {x y : ℚ} → x <ℚ y → ¬ (x ≡ y)
ne_lt {x} {y} h e = lt→not_le h (subst (λ (z : ℚ). z ≤ℚ x) e (le_refl x))

ne-gt : {x y : ℚ} → x <ℚ y → ¬ (y ≡ x)
ne-gt {x} {y} h e = lt→not_le h (subst (λ (z : ℚ). y ≤ℚ z) e (le_refl y))

tally_at : (N : ℕ) (u : ℕ → ℚ) (x : ℚ) (m s : ℕ) → Group N u x m s → (k : ℕ) → k ≤ suc N → tally u x k ≡ min k (m + s) - m
unfolding tally
tally_at N u x m s g zero h = omega arith
tally_at N u x m s g (suc k) h = elim (dec_le m k) [
  | yes a ↦ elim (dec_le (suc k) (m + s)) [
    | yes b ↦ choose_yes (u k) x _ _ (g.equal k a b) ∙ ap suc (tally_at N u x m s g k (omega arith)) ∙ in_block a b
    | no b ↦ choose_no (u k) x _ _ (ne-gt (g.above k (le (lt_of_not-le b)) (omega arith))) ∙ tally_at N u x m s g k (omega arith) ∙ behind (lt_of_not-le b)
  ]
  | no a ↦ choose_no (u k) x _ _ (ne_lt (g.below k (lt_of_not-le a))) ∙ tally_at N u x m s g k (omega arith) ∙ ahead (lt_of_not-le a)
]
  where
    le : m + s < suc k → m + s ≤ k
    le b = omega arith

    in_block : m ≤ k → k < m + s → suc (min k (m + s) - m) ≡ min (suc k) (m + s) - m
    in_block a b = omega arith

    behind : m + s < suc k → min k (m + s) - m ≡ min (suc k) (m + s) - m
    behind b = omega arith

    ahead : k < m → min k (m + s) - m ≡ min (suc k) (m + s) - m
    ahead b = omega arith

pub tally-group : (N : ℕ) (u : ℕ → ℚ) (x : ℚ) (m s : ℕ) → Group N u x m s → m + s ≤ suc N → tally u x (suc N) ≡ s
tally-group N u x m s g h = tally_at N u x m s g (suc N) (omega arith) ∙ fin
  where
    fin : min (suc N) (m + s) - m ≡ s
    fin = omega arith
