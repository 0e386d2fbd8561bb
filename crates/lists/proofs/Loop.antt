-- Loops that write a lent list from the front on: one turn, and what stands there when the loop is done.
use mathlib.Core.Path.{◌≡◌, refl, ap}
use mathlib.Core.Logic.{◌⊎◌, ⊎_elim}
use mathlib.Core.List.{List}
use Prim.Native.Nat.{ℕ, ◌+◌, ◌≤◌, ◌<◌}
use native.Mathlib.Nat.{zero-add}
use native.Mathlib.Numerals.{add-one}
use native.Mathlib.Omega.{arith}
use lib.ListN.{length, drop, get_or, set, replicate, length-replicate}
use Rattle.lists.specs.Lists.{part, put, tab, cleared}
use Rattle.lists.proofs.Tab.{length-tab}
use Rattle.lists.proofs.Part.{part-tab}
use Rattle.lists.proofs.Put.{put-snoc}
use Rattle.lists.proofs.Read.{get_or-put-before, get_or-put-after}

module _ {A : Type 0} where
  -- one turn: f n is stored behind f 0 .. f (n - 1)
  pub put-tab : (l : List A) (a n k : ℕ) (f : ℕ → A) → k ≡ a + n → k < length l → set (put l a (tab n f)) k (f n) ≡ put l a (tab (n + 1) f)
  put-tab l a n k f e h =
      let q : k ≡ a + length (tab n f) = rw length-tab e in
      rw (q, put-snoc l a (tab n f) (f n) (rw (← q) h), add-one)

  -- ---- a map from one place of a list to another, which is a copy where g is λ x. x

  -- one turn; the part that is read lies in front of the one that is written, or begins at or behind its first element
  pub map_turn : (g : A → A) (l : List A) (a b n w : ℕ) (d : A) → n < w → b + w ≤ length l → (a + w ≤ b) ⊎ (b ≤ a)
      → set (put l b (tab n (λ j. g (get_or l (a + j) d)))) (b + n) (g (get_or (put l b (tab n (λ j. g (get_or l (a + j) d)))) (a + n) d))
      ≡ put l b (tab (n + 1) (λ j. g (get_or l (a + j) d)))
  map_turn g l a b n w d h k s =
      let t : List A = tab n (λ j. g (get_or l (a + j) d)) in
      let z : length t ≡ n = length-tab n _ in
      let e : get_or (put l b t) (a + n) d ≡ get_or l (a + n) d = ⊎_elim
      (λ (q : a + w ≤ b). get_or-put-before l b t (a + n) d (omega arith) (omega arith))
      (λ (q : b ≤ a). get_or-put-after l b t (a + n) d (omega arith) (omega arith)) s in
      rw e (put-tab l b n (b + n) (λ j. g (get_or l (a + j) d)) refl (omega arith))

  pub copy-slot_done : (l : List A) (a b i w : ℕ) (d : A) → i ≡ w → a + w ≤ length l → put l b (tab i (λ j. get_or l (a + j) d)) ≡ put l b (part l a w)
  copy-slot_done l a b i w d e h = rw e (ap (put l b) (part-tab l a w d h))

  -- ---- the front of a list is cleared

  pub cleared-put : (l : List A) (n : ℕ) (v : A) → put l 0 (replicate n v) ≡ cleared l n v
  unfolding put cleared
  cleared-put l n v = rw (length-replicate, zero-add)

  -- what stood in front does not matter
  pub cleared_same : (l k : List A) (n : ℕ) (v : A) → drop n l ≡ drop n k → cleared l n v ≡ cleared k n v
  unfolding cleared
  cleared_same l k n v e = rw e
