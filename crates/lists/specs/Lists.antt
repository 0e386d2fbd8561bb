-- Parts of a list and writes to them, and the small functions on lists that other definitions use. Definitions only.
use Rattle.std.specs.Prelude.{ℕ, zero, suc, ◌+◌, ◌-◌, Bool, true, cond, ◌&&◌, List, [], ◌∷◌, ◌++◌, length, take, drop, get_or, replicate}

module _ {A : Type 0} where
  -- The w elements of l from index a on.
  abbrev pub part : List A → ℕ → ℕ → List A
  part l a w = take w (drop a l)

  -- The list l with vs written over its elements from index a on.
  unfoldable pub put : List A → ℕ → List A → List A
  put l a vs = take a l ++ (vs ++ drop (a + length vs) l)

  -- The list f 0, f 1, .. f (n - 1).
  abbrev pub tab : ℕ → (ℕ → A) → List A
  tab zero f = []
  tab (suc n) f = tab n f ++ (f n ∷ [])

  -- The list l with each of its first n elements replaced by v, for an n of at most its length.
  unfoldable pub cleared : List A → ℕ → A → List A
  cleared l n v = replicate n v ++ drop n l

  -- The last element of l, or d where l is empty.
  abbrev pub last_d : List A → A → A
  last_d l d = get_or l (length l - 1) d

  -- Whether each element passes the test p.
  unfoldable pub all : (A → Bool) → List A → Bool
  all p [] = true
  all p (x ∷ xs) = p x && all p xs

  -- How many elements pass the test p.
  unfoldable pub count : (A → Bool) → List A → ℕ
  count p [] = 0
  count p (x ∷ xs) = cond (p x) 1 0 + count p xs

  -- The index of the first element that passes the test p, or the length where none does.
  unfoldable pub position : (A → Bool) → List A → ℕ
  position p [] = 0
  position p (x ∷ xs) = let r = suc (position p xs) in cond (p x) 0 r

module _ {A B : Type 0} where
  -- The elements taken in one after the other from the left, beginning with b.
  unfoldable pub foldl : (B → A → B) → B → List A → B
  foldl f b [] = b
  foldl f b (x ∷ xs) = foldl f (f b x) xs
