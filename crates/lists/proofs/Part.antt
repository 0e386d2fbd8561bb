-- Laws of `part`, a stretch of a list: its length, its elements, and parts of parts.
use mathlib.Core.Path.{◌≡◌, refl, ◌∙◌}
use mathlib.Core.List.{List, [], ◌∷◌, ◌++◌}
use Prim.Native.Nat.{ℕ, zero, suc, ◌+◌, ◌≤◌, ◌<◌}
use native.Mathlib.Omega.{arith}
use lib.ListN.{length, take, drop, get_or, length-take, length-drop}
use lib.Seq.{drop-cons, take-suc, take-add, drop-drop, take-take, get_or-drop, get_or-take}
use Rattle.lists.specs.Lists.{part, tab}

module _ {A : Type 0} where
  pub length_part : (l : List A) (a w : ℕ) → a + w ≤ length l → length (part l a w) ≡ w
  length_part l a w h = simp (length-take, length-drop) (omega arith)

  pub get_or_part : (l : List A) (a w i : ℕ) (d : A) → i < w → get_or (part l a w) i d ≡ get_or l (a + i) d
  get_or_part l a w i d h = get_or-take w (drop a l) i d h ∙ get_or-drop a l i d

  -- the first element apart from the others
  pub part-cons : (l : List A) (a w : ℕ) (d : A) → a < length l → part l a (suc w) ≡ get_or l a d ∷ part l (suc a) w
  part-cons l a w d h = rw (drop-cons l a d h)

  -- the last element apart from the others
  pub part-snoc : (l : List A) (a w : ℕ) (d : A) → a + w < length l → part l a (suc w) ≡ part l a w ++ (get_or l (a + w) d ∷ [])
  part-snoc l a w d h = rw (take-suc (drop a l) w d (simp length-drop (omega arith)), get_or-drop a l w d)

  -- n elements, and m behind them
  pub part-add : (l : List A) (a n m : ℕ) → part l a (n + m) ≡ part l a n ++ part l (a + n) m
  part-add l a n m = rw (take-add n m (drop a l), drop-drop n a l)

  -- a part, element by element
  pub part-tab : (l : List A) (a w : ℕ) (d : A) → a + w ≤ length l → tab w (λ j. get_or l (a + j) d) ≡ part l a w
  part-tab l a zero d h = refl
  part-tab l a (suc w) d h = rw (part-tab l a w d (omega arith), part-snoc l a w d (omega arith))

  -- the list may end behind the part
  pub part-take : (l : List A) (n a w : ℕ) → a + w ≤ n → part (take n l) a w ≡ part l a w
  part-take l n zero w h = take-take w n l (omega arith)
  part-take l zero (suc a) w h = absurd (omega arith)
  part-take [] (suc n) (suc a) w h = refl
  part-take (x ∷ l) (suc n) (suc a) w h = part-take l n a w (omega arith)

  pub part-drop : (l : List A) (n a w : ℕ) → part (drop n l) a w ≡ part l (n + a) w
  part-drop l n a w = rw (drop-drop a n l)

  pub part-part : (l : List A) (a w b v : ℕ) → b + v ≤ w → part (part l a w) b v ≡ part l (a + b) v
  part-part l a w b v h = part-take (drop a l) w b v h ∙ part-drop l a b v
