-- Laws of `tab`, the list of the values of a function: its length, its elements, and how it is taken apart and put together.
use mathlib.Core.Path.{◌≡◌, refl, sym, ap}
use mathlib.Core.List.{List, [], ◌∷◌, ◌++◌, map, map-append, append-nil, append_assoc, zip_with}
use Prim.Native.Nat.{ℕ, zero, suc, ◌+◌, ◌<◌}
use native.Mathlib.Nat.{add-zero, add-suc}
use native.Mathlib.Numerals.{add-one}
use native.Mathlib.Omega.{arith}
use lib.ListN.{length, take, drop, get_or, replicate, length-append, replicate-append-replicate}
use lib.Seq.{take_at, drop_at}
use Rattle.lists.specs.Lists.{tab}

module _ {A : Type 0} where
  pub length-tab : (n : ℕ) (f : ℕ → A) → length (tab n f) ≡ n
  length-tab zero f = refl
  length-tab (suc n) f = simp (length-append, length-tab n f, add-one)

  -- functions that agree below n have the same list
  pub tab-ext : (n : ℕ) (f g : ℕ → A) → ((j : ℕ) → j < n → f j ≡ g j) → tab n f ≡ tab n g
  tab-ext zero f g h = refl
  tab-ext (suc n) f g h = λ k. tab-ext n f g (λ j q. h j (omega arith)) k ++ (h n (omega arith) k ∷ [])

  -- the first element apart from the others
  pub tab-cons : (n : ℕ) (f : ℕ → A) → tab (suc n) f ≡ f 0 ∷ tab n (λ j. f (suc j))
  tab-cons zero f = refl
  tab-cons (suc n) f = ap (λ (r : List A). r ++ (f (suc n) ∷ [])) (tab-cons n f)

  -- n elements, and m behind them
  pub tab-add : (n m : ℕ) (f : ℕ → A) → tab (n + m) f ≡ tab n f ++ tab m (λ j. f (n + j))
  tab-add n zero f = rw add-zero (sym (append-nil (tab n f)))
  tab-add n (suc m) f = rw add-suc (rw (tab-add n m f) (append_assoc (tab n f) (tab m (λ j. f (n + j))) (f (n + m) ∷ [])))

  pub take-tab : (n m : ℕ) (f : ℕ → A) → take n (tab (n + m) f) ≡ tab n f
  take-tab n m f = rw (tab-add n m f) (take_at (tab n f) (tab m (λ j. f (n + j))) n (length-tab n f))

  pub drop-tab : (n m : ℕ) (f : ℕ → A) → drop n (tab (n + m) f) ≡ tab m (λ j. f (n + j))
  drop-tab n m f = rw (tab-add n m f) (drop_at (tab n f) (tab m (λ j. f (n + j))) n (length-tab n f))

  pub get_or-tab : (n : ℕ) (f : ℕ → A) (i : ℕ) (d : A) → i < n → get_or (tab n f) i d ≡ f i
  get_or-tab zero f i d h = absurd (omega arith)
  get_or-tab (suc n) f zero d h = rw (tab-cons n f)
  get_or-tab (suc n) f (suc i) d h = rw (tab-cons n f) (get_or-tab n (λ j. f (suc j)) i d (omega arith))

  pub replicate-tab : (n : ℕ) (v : A) → tab n (λ _. v) ≡ replicate n v
  replicate-tab zero v = refl
  replicate-tab (suc n) v = rw (replicate-tab n v, replicate-append-replicate n 1 v, add-one)

  -- a list, element by element
  pub tab-whole : (l : List A) (d : A) → tab (length l) (λ j. get_or l j d) ≡ l
  tab-whole [] d = refl
  tab-whole (x ∷ l) d = rw (tab-cons (length l) (λ j. get_or (x ∷ l) j d)) (ap (λ (r : List A). x ∷ r) (tab-whole l d))

  pub map-tab : {B : Type 0} (f : A → B) (n : ℕ) (g : ℕ → A) → map f (tab n g) ≡ tab n (λ j. f (g j))
  map-tab f zero g = refl
  map-tab f (suc n) g = rw (map-append f (tab n g) (g n ∷ []), map-tab f n g)

pub zip_with-tab : {A B C : Type 0} (g : A → B → C) (n : ℕ) (f : ℕ → A) (h : ℕ → B) → zip_with g (tab n f) (tab n h) ≡ tab n (λ j. g (f j) (h j))
unfolding zip_with
zip_with-tab g zero f h = refl
zip_with-tab g (suc n) f h =
    rw (tab-cons n f, tab-cons n h, tab-cons n (λ j. g (f j) (h j)), zip_with-tab g n (λ j. f (suc j)) (λ j. h (suc j)))
