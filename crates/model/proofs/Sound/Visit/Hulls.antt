-- An interval holds what lies between two of its numbers, and the union of some intervals holds what lies between the least and the greatest of theirs. Assumes nothing.
use mathlib.Core.Path.{◌≡◌, sym, subst}
use mathlib.Core.Logic.{◌⊎◌, inl, inr, ⊎_elim}
use mathlib.Core.List.{List, [], ◌∷◌}
use Prim.Native.Nat.{ℕ, zero, suc, ◌-◌, ◌≤◌, ◌<◌}
use native.Mathlib.Nat.{lt_of_not-le}
use native.Mathlib.Decide.{dec_le}
use native.Mathlib.Omega.{arith}
use lib.Dec.{T}
use lib.ListN.{length, get_or}
use lib.Ieee.{le}
use Rattle.exact.specs.Rational.{ℚ, ◌≤ℚ◌, ◌<ℚ◌}
use Rattle.exact.specs.Hull.{In}
use Rattle.exact.proofs.Order.{le_refl, le_trans, lt→le, le_or_lt}
use Rattle.lists.specs.Lists.{foldl}
use Rattle.math.specs.declared.scalars.Scalar.{Scalar}
use Rattle.math.specs.Scalars.{absent, could_be_equal, union_s}
use Rattle.math.specs.Values.{Holds}
use Rattle.math.proofs.Bools.{and_i}
use Rattle.math.proofs.Doubles.Order.{below-mono, above-mono, meet_le}
use Rattle.math.proofs.Intervals.Tests.{union_left, union_right}
use Rattle.model.specs.Aabb.{unions}

-- ---- one interval
pub holds_between : (s : Scalar) (x y z : ℚ) → Holds s x → Holds s z → x ≤ℚ y → y ≤ℚ z → Holds s y
holds_between s x y z h k a b = record { low = below-mono s.lo x y a h.low; high = above-mono s.hi y z b k.high }

-- two intervals with a common number could be equal
pub could_equal : (a b : Scalar) (x : ℚ) → Holds a x → Holds b x → T (could_be_equal a b)
could_equal a b x h k = and_i (le a.lo b.hi) (le b.lo a.hi) (meet_le a.lo b.hi x h.low k.high) (meet_le b.lo a.hi x k.low h.high)

-- ---- the least and the greatest of f 0 to f k
record Best (R : ℚ → ℚ → Type 0) (f : ℕ → ℚ) (k : ℕ) : Type 0 where
  at : ℕ
  small : at ≤ k
  best : (j : ℕ) → j ≤ k → R (f at) (f j)

best_of : (R : ℚ → ℚ → Type 0) → ((x : ℚ) → R x x) → ((x y z : ℚ) → R x y → R y z → R x z) → ((x y : ℚ) → R x y ⊎ R y x) → (f : ℕ → ℚ) (k : ℕ) → Best R f k
best_of R r tr tot f zero = record { at = zero; small = omega arith; best = λ j h. subst (λ (z : ℕ). R (f zero) (f z)) (eq j h) (r (f zero)) }
  where
    eq : (j : ℕ) → j ≤ zero → zero ≡ j
    eq j h = omega arith
best_of R r tr tot f (suc k) = go (best_of R r tr tot f k)
  where
    last : (j : ℕ) → j ≤ suc k → k < j → suc k ≡ j
    last j h l = omega arith

    up : (a : ℕ) → a ≤ k → a ≤ suc k
    up a h = omega arith

    go : Best R f k → Best R f (suc k)
    go b = ⊎_elim
        (λ (h : R (f b.at) (f (suc k))). record {
          at = b.at;
          small = up b.at b.small;
          best = λ j l. elim (dec_le j k) [ yes m ↦ b.best j m | no m ↦ subst (λ (z : ℕ). R (f b.at) (f z)) (last j l (lt_of_not-le m)) h ];
        })
        (λ (h : R (f (suc k)) (f b.at)). record {
          at = suc k;
          small = omega arith;
          best = λ j l. elim (dec_le j k) [ yes m ↦ tr _ _ _ h (b.best j m) | no m ↦ subst (λ (z : ℕ). R (f (suc k)) (f z)) (last j l (lt_of_not-le m)) (r (f (suc k))) ];
        })
        (tot (f b.at) (f (suc k)))

total : (x y : ℚ) → (x ≤ℚ y) ⊎ (y ≤ℚ x)
total x y = ⊎_elim (λ (h : x ≤ℚ y). inl h) (λ (h : y <ℚ x). inr (lt→le h)) (le_or_lt x y)

least : (f : ℕ → ℚ) (k : ℕ) → Best (λ x y. x ≤ℚ y) f k
least f k = best_of (λ x y. x ≤ℚ y) le_refl (λ x y z h l. le_trans h l) total f k

most : (f : ℕ → ℚ) (k : ℕ) → Best (λ x y. y ≤ℚ x) f k
most f k = best_of (λ x y. y ≤ℚ x) le_refl (λ x y z h l. le_trans l h) (λ x y. total y x) f k

-- ---- what lies between any bounds of some numbers lies in an interval that holds them
pub by_ends : (s : Scalar) (n : ℕ) (f : ℕ → ℚ) (q : ℚ) → 1 ≤ n → ((i : ℕ) → i < n → Holds s (f i)) → ((a b : ℚ) → ((i : ℕ) → i < n → In a b (f i)) → In a b q) → Holds s q
by_ends s n f q o h k = holds_between s (f lo.at) q (f hi.at) (h lo.at (less lo.small)) (h hi.at (less hi.small)) both.from both.upto
  where
    lo : Best (λ x y. x ≤ℚ y) f (n - 1)
    lo = least f (n - 1)

    hi : Best (λ x y. y ≤ℚ x) f (n - 1)
    hi = most f (n - 1)

    less : {i : ℕ} → i ≤ n - 1 → i < n
    less l = omega arith

    both : In (f lo.at) (f hi.at) q
    both = k (f lo.at) (f hi.at) (λ i l. record { from = lo.best i (omega arith); upto = hi.best i (omega arith) })

pub two_ends : (s : Scalar) (x y q : ℚ) → Holds s x → Holds s y → ((a b : ℚ) → In a b x → In a b y → In a b q) → Holds s q
two_ends s x y q h l k = ⊎_elim
    (λ (m : x ≤ℚ y). let z : In x y q = k x y (record { from = le_refl x; upto = m }) (record { from = m; upto = le_refl y }) in holds_between s x q y h l z.from z.upto)
    (λ (m : y <ℚ x). let z : In y x q = k y x (record { from = lt→le m; upto = le_refl x }) (record { from = le_refl y; upto = lt→le m }) in holds_between s y q x l h z.from z.upto)
    (le_or_lt x y)

-- ---- the union of some intervals
grown : (a : Scalar) (l : List Scalar) (x : ℚ) → Holds a x → Holds (foldl union_s a l) x
unfolding foldl
grown a [] x h = h
grown a (b ∷ l) x h = grown (union_s a b) l x (union_left a b x h)

met : (a : Scalar) (l : List Scalar) (i : ℕ) (x : ℚ) → i < length l → Holds (get_or l i absent) x → Holds (foldl union_s a l) x
unfolding foldl
met a [] i x l h = absurd (omega arith)
met a (b ∷ l) zero x k h = grown (union_s a b) l x (union_right a b x h)
met a (b ∷ l) (suc i) x k h = met (union_s a b) l i x (omega arith) h

-- holds what each of them holds
pub unions_holds : (l : List Scalar) (i : ℕ) (x : ℚ) → i < length l → Holds (get_or l i absent) x → Holds (unions l) x
unfolding unions
unions_holds [] i x k h = absurd (omega arith)
unions_holds (a ∷ l) zero x k h = grown a l x h
unions_holds (a ∷ l) (suc i) x k h = met a l i x (omega arith) h

-- and what lies between
pub unions-between : (l : List Scalar) (n : ℕ) (f : ℕ → ℚ) (q : ℚ) → length l ≡ n → 1 ≤ n → ((i : ℕ) → i < n → Holds (get_or l i absent) (f i))
    → ((a b : ℚ) → ((i : ℕ) → i < n → In a b (f i)) → In a b q) → Holds (unions l) q
unions-between l n f q e o h k = by_ends (unions l) n f q o (λ i m. unions_holds l i (f i) (subst (λ (z : ℕ). i < z) (sym e) m) (h i m)) k
