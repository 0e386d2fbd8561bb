-- A walk over a list that leaves at the first element that fails a test. Assumes nothing.
use mathlib.Core.Path.{◌≡◌, refl, sym, ap, ap₂, ◌∙◌, subst}
use mathlib.Core.Bool.{Bool, true, false, cond, ◌&&◌, true≢false}
use mathlib.Core.List.{List, [], ◌∷◌}
use Prim.Native.Nat.{ℕ, suc, ◌+◌, ◌≤◌, ◌<◌}
use native.Mathlib.Omega.{arith}
use lib.ListN.{length, drop, get_or}
use Rattle.std.specs.Bool.{MatchBool}
use Rattle.std.specs.List.{range_with_len, count_by, AllWithin, HoldsAt}
use Rattle.std.proofs.lemmas.List.FromFn.{length-range_with_len, get_or-range_with_len}
use Rattle.std.proofs.lemmas.List.Recursion.{is_count_by}
use Rattle.lists.specs.Lists.{all, count, tab}
use Rattle.lists.proofs.Fold.{all_turn, all_done, all_get_or}
use Rattle.lists.proofs.Tab.{length-tab, get_or-tab}

-- ---- a test of all, where what is left to test answers for the whole
module _ {A : Type 0} (p : A → Bool) (l : List A) (i : ℕ) (r : Bool) (inv : all p (drop i l) ≡ r) where
  -- one element passed
  pub all_keep : (d : A) → i < length l → p (get_or l i d) ≡ true → all p (drop (i + 1) l) ≡ r
  all_keep d h e = sym (all_turn p l i d h ∙ ap (λ (b : Bool). b && all p (drop (i + 1) l)) e) ∙ inv

  -- one did not
  pub all_stop : (d : A) → i < length l → p (get_or l i d) ≡ false → false ≡ r
  all_stop d h e = sym (all_turn p l i d h ∙ ap (λ (b : Bool). b && all p (drop (i + 1) l)) e) ∙ inv

  -- none is left
  pub all_end : length l ≤ i → true ≡ r
  all_end h = sym (all_done p l i h) ∙ inv

-- ---- a test of all, by what it found
module _ {A : Type 0} (p : A → Bool) where
  -- Where each element passes, all do.
  pub all_each : (l : List A) (d : A) → ((j : ℕ) → j < length l → p (get_or l j d) ≡ true) → all p l ≡ true
  unfolding all
  all_each [] d f = refl
  all_each (x ∷ l) d f =
      ap₂ (λ (t u : Bool). t && u) (f 0 (omega arith)) (all_each l d (λ j h. f (suc j) (omega arith)))

  -- Where one does not, not all do.
  pub all_miss : (l : List A) (i : ℕ) (d : A) → i < length l → p (get_or l i d) ≡ false → all p l ≡ false
  all_miss l i d h e = go (all p l) (λ q. all_get_or p l i d q h)
    where
      go : (t : Bool) → (t ≡ true → p (get_or l i d) ≡ true) → t ≡ false
      go true f = sym (f refl) ∙ e
      go false f = refl

  -- An answer that is true where each element passes, and false where one does not.
  pub all_by : (l : List A) (d : A) (t : Bool) → (t ≡ true → (j : ℕ) → j < length l → p (get_or l j d) ≡ true)
      → (t ≡ false → (i : ℕ) × (i < length l) × (p (get_or l i d) ≡ false)) → t ≡ all p l
  all_by l d true f g = sym (all_each l d (f refl))
  all_by l d false f g = let m = g refl in sym (all_miss l m.0 d m.1 m.2)

  -- The same of a list that is given by its elements.
  pub tab_by : (n : ℕ) (h : ℕ → A) (t : Bool) → (t ≡ true → (j : ℕ) → j < n → p (h j) ≡ true)
      → (t ≡ false → (i : ℕ) × (i < n) × (p (h i) ≡ false)) → t ≡ all p (tab n h)
  tab_by n h t f g =
      all_by (tab n h) (h 0) t
      (λ e j k. let w = same j (omega (arith, k, length-tab n h)) in ap p w ∙ f e j (omega (arith, k, length-tab n h)))
      (λ e. let m = g e in (m.0, omega (arith, m.1, length-tab n h), ap p (same m.0 m.1) ∙ m.2))
    where
      same : (j : ℕ) → j < n → get_or (tab n h) j (h 0) ≡ h j
      same j k = get_or-tab n h j (h 0) k

-- ---- a test of the numbers below n, by what a walk over them found
module _ (q : ℕ → Bool) (n : ℕ) where
  abbrev range : List ℕ
  range = range_with_len 0 n

  -- What `all` gives over the numbers below n.
  abbrev pub FoundBelow : Bool → Type 0
  FoundBelow t =
      MatchBool t (AllWithin (λ i. q i ≡ true) range 0 (length range))
      ((k : ℕ) × (k < length range) × HoldsAt (λ i. q i ≡ false) range k)

  -- Number j of them is j.
  is_own : (j : ℕ) → j < n → get_or range j 0 ≡ j
  is_own j h = omega (arith, get_or-range_with_len 0 n j 0 h)

  pub each_below : (t : Bool) → FoundBelow t → t ≡ true → (j : ℕ) → j < n → q j ≡ true
  each_below true m e j h = subst (λ (i : ℕ). q i ≡ true) (is_own j h) (m j 0 (omega arith) (omega (arith, h, length-range_with_len 0 n)))
  each_below false m e j h = absurd (true≢false (sym e))

  pub some_below : (t : Bool) → FoundBelow t → t ≡ false → (i : ℕ) × (i < n) × (q i ≡ false)
  some_below true m e = absurd (true≢false e)
  some_below false m e =
      let h : m.0 < n = omega (arith, m.1, length-range_with_len 0 n) in
      (m.0, h, subst (λ (i : ℕ). q i ≡ false) (is_own m.0 h) (m.2 0))

-- ---- a count, as the library spells it
module _ {A : Type 0} (p : A → Bool) where
  pub count_is : (l : List A) → count_by p l ≡ count p l
  unfolding count
  count_is l = sym (is_count_by (count p) p none one l)
    where
      none : count p [] ≡ 0
      none = refl

      by : (b : Bool) (n : ℕ) → cond b 1 0 + n ≡ cond b (1 + n) n
      by true n = refl
      by false n = omega arith

      one : (x : A) (xs : List A) → count p (x ∷ xs) ≡ cond (p x) (1 + count p xs) (count p xs)
      one x xs = by (p x) (count p xs)
