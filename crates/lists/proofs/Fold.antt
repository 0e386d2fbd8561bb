-- Walks over a list from its first element on: what a left fold, a test of all, a count and a search for the first make of what is left, one element at a time.
use mathlib.Core.Path.{◌≡◌, refl, ap, ◌∙◌}
use mathlib.Core.Bool.{Bool, true, false, cond, ◌&&◌}
use mathlib.Core.List.{List, [], ◌∷◌, ◌++◌}
use Prim.Native.Nat.{ℕ, zero, suc, ◌+◌, ◌≤◌, ◌<◌}
use native.Mathlib.Nat.{not-suc-le-zero}
use native.Mathlib.Numerals.{add-one}
use native.Mathlib.Omega.{arith}
use lib.ListN.{length, drop, get_or, drop_of_length-le}
use lib.Seq.{drop-cons}
use Rattle.lists.specs.Lists.{part, tab, foldl, all, count, position}
use Rattle.lists.proofs.Part.{part-snoc}

module _ {A B : Type 0} (f : B → A → B) where
  pub foldl-append : (b : B) (xs ys : List A) → foldl f b (xs ++ ys) ≡ foldl f (foldl f b xs) ys
  unfolding foldl
  foldl-append b [] ys = refl
  foldl-append b (x ∷ xs) ys = foldl-append (f b x) xs ys

  -- one turn of a loop that keeps `foldl f b (drop i l)` the same
  pub foldl_turn : (b : B) (l : List A) (i : ℕ) (d : A) → i < length l → foldl f (f b (get_or l i d)) (drop (i + 1) l) ≡ foldl f b (drop i l)
  unfolding foldl
  foldl_turn b l i d h = rw (add-one, drop-cons l i d h)

  -- after the last turn
  pub foldl_done : (b : B) (l : List A) (i : ℕ) → length l ≤ i → foldl f b (drop i l) ≡ b
  unfolding foldl
  foldl_done b l i h = rw (drop_of_length-le l {i = i} h)

  -- one turn of a loop that has taken in the first n of them
  pub foldl-tab : (b : B) (n : ℕ) (g : ℕ → A) → f (foldl f b (tab n g)) (g n) ≡ foldl f b (tab (n + 1) g)
  unfolding foldl
  foldl-tab b n g = rw (add-one, foldl-append b (tab n g) (g n ∷ []))

  pub foldl-part : (b : B) (l : List A) (a n : ℕ) (d : A) → a + n < length l → f (foldl f b (part l a n)) (get_or l (a + n) d) ≡ foldl f b (part l a (n + 1))
  unfolding foldl
  foldl-part b l a n d h = rw (add-one, part-snoc l a n d h, foldl-append b (part l a n) (get_or l (a + n) d ∷ []))

-- both sides of a true `&&` are
both : (a b : Bool) → a && b ≡ true → (a ≡ true) × (b ≡ true)
both true b e = (refl, e)
both false b e = absurd (never e)
  where
    never : false ≡ true → ⊥
    never q = let z : ◌≡◌ {A = ℕ} 0 1 = cc in omega arith

module _ {A : Type 0} (p : A → Bool) where
  pub all_turn : (l : List A) (i : ℕ) (d : A) → i < length l → all p (drop i l) ≡ p (get_or l i d) && all p (drop (i + 1) l)
  unfolding all
  all_turn l i d h = rw (add-one, drop-cons l i d h)

  pub all_done : (l : List A) (i : ℕ) → length l ≤ i → all p (drop i l) ≡ true
  unfolding all
  all_done l i h = rw (drop_of_length-le l {i = i} h)

  pub count_turn : (l : List A) (i : ℕ) (d : A) → i < length l → count p (drop i l) ≡ cond (p (get_or l i d)) 1 0 + count p (drop (i + 1) l)
  unfolding count
  count_turn l i d h = rw (add-one, drop-cons l i d h)

  pub count_done : (l : List A) (i : ℕ) → length l ≤ i → count p (drop i l) ≡ 0
  unfolding count
  count_done l i h = rw (drop_of_length-le l {i = i} h)

  pub position_turn : (l : List A) (i : ℕ) (d : A) → i < length l → p (get_or l i d) ≡ false → position p (drop i l) ≡ position p (drop (i + 1) l) + 1
  unfolding position
  position_turn l i d h e = rw (drop-cons l i d h, add-one i, add-one (position p (drop (suc i) l)), e)

  pub position-found : (l : List A) (i : ℕ) (d : A) → i < length l → p (get_or l i d) ≡ true → position p (drop i l) ≡ 0
  unfolding position
  position-found l i d h e = rw (drop-cons l i d h, e)

  pub position_done : (l : List A) (i : ℕ) → length l ≤ i → position p (drop i l) ≡ 0
  unfolding position
  position_done l i h = rw (drop_of_length-le l {i = i} h)

  -- ---- what the answers say

  pub all_get_or : (l : List A) (i : ℕ) (d : A) → all p l ≡ true → i < length l → p (get_or l i d) ≡ true
  unfolding all
  all_get_or [] i d e h = absurd (not-suc-le-zero h)
  all_get_or (x ∷ l) zero d e h = (both (p x) (all p l) e).0
  all_get_or (x ∷ l) (suc i) d e h = all_get_or l i d (both (p x) (all p l) e).1 (omega arith)

  pub count_le : (l : List A) → count p l ≤ length l
  unfolding count
  count_le [] = omega arith
  count_le (x ∷ l) = by (p x) (count_le l)
    where
      by : (b : Bool) → count p l ≤ length l → cond b 1 0 + count p l ≤ suc (length l)
      by true h = omega arith
      by false h = omega arith

  pub count-snoc : (l : List A) (x : A) → count p (l ++ (x ∷ [])) ≡ cond (p x) 1 0 + count p l
  unfolding count
  count-snoc [] x = refl
  count-snoc (y ∷ l) x = ap (λ (k : ℕ). cond (p y) 1 0 + k) (count-snoc l x) ∙ swap (cond (p y) 1 0) (cond (p x) 1 0) (count p l)
    where
      swap : (a b k : ℕ) → a + (b + k) ≡ b + (a + k)
      swap a b k = omega arith

  -- the first that passes does
  pub position-passes : (l : List A) (d : A) → position p l < length l → p (get_or l (position p l) d) ≡ true
  unfolding position
  position-passes [] d h = absurd (not-suc-le-zero h)
  position-passes (x ∷ l) d h = by (p x) refl (position-passes l d) h
    where
      by : (b : Bool) → p x ≡ b → (position p l < length l → p (get_or l (position p l) d) ≡ true) → cond b 0 (suc (position p l)) < suc (length l)
          → p (get_or (x ∷ l) (cond b 0 (suc (position p l))) d) ≡ true
      by true e r g = e
      by false e r g = r (omega arith)

  -- and none before it does
  pub position-before : (l : List A) (i : ℕ) (d : A) → i < position p l → p (get_or l i d) ≡ false
  unfolding position
  position-before [] i d h = absurd (not-suc-le-zero h)
  position-before (x ∷ l) i d h = by (p x) refl i (λ j. position-before l j d) h
    where
      by : (b : Bool) → p x ≡ b → (i : ℕ) → ((j : ℕ) → j < position p l → p (get_or l j d) ≡ false) → i < cond b 0 (suc (position p l)) → p (get_or (x ∷ l) i d) ≡ false
      by true e i r g = absurd (not-suc-le-zero g)
      by false e zero r g = e
      by false e (suc i) r g = r i (omega arith)
