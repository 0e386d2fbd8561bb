-- Laws of `put`, a write over a stretch of a list: its length, writes beside each other, over each other and inside each other, and a part that was lent and came back.
use mathlib.Core.Path.{◌≡◌, refl, sym, ap, ◌∙◌}
use mathlib.Core.Logic.{◌⊎◌, ⊎_elim}
use mathlib.Core.List.{List, [], ◌∷◌, ◌++◌, append-nil, append_assoc}
use Prim.Native.Nat.{ℕ, suc, ◌+◌, ◌-◌, ◌≤◌, ◌<◌}
use native.Mathlib.Nat.{zero-add, add_assoc, add-zero}
use native.Mathlib.Numerals.{add-one}
use native.Mathlib.Omega.{arith}
use lib.ListN.{length, take, drop, set, length-append, length-take, length-drop, take-append-drop}
use lib.Seq.{length-take-le, take_at, drop_at, drop-drop, drop-length, take-append-le, take-append-add, drop-append-le, drop-append-add, set_split}
use borrow.Rule.Slice.PartMut.{put_same}
use Rattle.lists.specs.Lists.{part, put}
use Rattle.lists.proofs.Part.{length_part}

module _ {A : Type 0} where
  -- nothing is written
  pub put-nil : (l : List A) (a : ℕ) → put l a [] ≡ l
  unfolding put
  put-nil l a = rw add-zero (take-append-drop a l)

  pub length-put : (l : List A) (a : ℕ) (vs : List A) → a + length vs ≤ length l → length (put l a vs) ≡ length l
  unfolding put
  length-put l a vs h = simp (length-append, length-take, length-drop) (omega arith)

  -- the whole list is written
  pub put_whole : (l vs : List A) → length vs ≡ length l → put l 0 vs ≡ vs
  unfolding put
  put_whole l vs e = rw (e, zero-add, drop-length, append-nil)

  -- what stood there is written again
  pub put-part : (l : List A) (a w : ℕ) → a + w ≤ length l → put l a (part l a w) ≡ l
  unfolding put
  put-part l a w h = rw (length_part l a w h, ← drop-drop w a l) (put_same a w l)

  -- a store is a write of one element
  pub put_one : (l : List A) (a : ℕ) (v : A) → a < length l → set l a v ≡ put l a (v ∷ [])
  unfolding put
  put_one l a v h = rw (set_split l a v h, add-one)

  -- ---- a write to one of two lists that are joined

  put_left : (p r : List A) (a : ℕ) (vs : List A) → a + length vs ≤ length p → put (p ++ r) a vs ≡ put p a vs ++ r
  unfolding put
  put_left p r a vs h =
      rw (take-append-le a p r (omega arith), drop-append-le (a + length vs) p r h, append_assoc (take a p) (vs ++ drop (a + length vs) p) r, append_assoc vs (drop (a + length vs) p) r)

  pub put_right : (p r : List A) (b a : ℕ) (vs : List A) → b ≡ length p + a → put (p ++ r) b vs ≡ p ++ put r a vs
  unfolding put
  put_right p r b a vs e =
      rw (e, take-append-add p r a, add_assoc (length p) a (length vs), drop-append-add p r (a + length vs), append_assoc p (take a r) (vs ++ drop (a + length vs) r))

  -- ---- two writes

  -- side by side
  pub put-put : (l : List A) (a : ℕ) (xs ys : List A) → a + length xs ≤ length l → put (put l a xs) (a + length xs) ys ≡ put l a (xs ++ ys)
  unfolding put
  put-put l a xs ys h =
      let p : List A = take a l ++ xs in
      let e : length p ≡ a + length xs = simp (length-append, length-take) (omega arith) in
      let r : List A = drop (a + length xs) l in
      rw (← append_assoc (take a l) xs, take_at p r (a + length xs) e, length-append xs ys)
      (rw (← drop-drop (length ys) (a + length xs) (p ++ r), drop_at p r (a + length xs) e, drop-drop (length ys) (a + length xs) l)
      (simp (append_assoc, add_assoc)))

  -- the second inside the first
  pub put_inside : (l : List A) (a : ℕ) (xs : List A) (i : ℕ) (ys : List A) → a ≤ length l → i + length ys ≤ length xs → put (put l a xs) (a + i) ys ≡ put l a (put xs i ys)
  put_inside l a xs i ys g h =
      let r : List A = drop (a + length xs) l in
      rw (put_is l a xs, put_is l a (put xs i ys), length-put xs i ys h)
      (rw (put_right (take a l) (xs ++ r) (a + i) i ys (rw (length-take-le a l g)), put_left xs r i ys h))
    where
      put_is : (l : List A) (a : ℕ) (vs : List A) → put l a vs ≡ take a l ++ (vs ++ drop (a + length vs) l)
      put_is l a vs = unfold put in refl

  put-later : (l : List A) (a : ℕ) (xs : List A) (b : ℕ) (ys : List A) → a + length xs ≤ length l → a + length xs ≤ b → put (put l a xs) b ys ≡ put (put l b ys) a xs
  put-later l a xs b ys g h =
      let n = a + length xs in
      let e : length (take n l) ≡ n = length-take-le n l g in
      rw (take-append-drop n l) at (joined (take n l) (drop n l) a xs b (b - n) ys (omega arith) (omega arith))
    where
      joined : (p r : List A) (a : ℕ) (xs : List A) (b k : ℕ) (ys : List A) → a + length xs ≤ length p → b ≡ length p + k → put (put (p ++ r) a xs) b ys ≡ put (put (p ++ r) b ys) a xs
      joined p r a xs b k ys g e =
          rw (put_left p r a xs g, put_right (put p a xs) r b k ys (rw (length-put p a xs g) e), put_right p r b k ys e, put_left p (put r k ys) a xs g)

  -- apart from each other: in either order
  pub put-swap : (l : List A) (a : ℕ) (xs : List A) (b : ℕ) (ys : List A) → a + length xs ≤ length l → b + length ys ≤ length l
      → (a + length xs ≤ b) ⊎ (b + length ys ≤ a) → put (put l a xs) b ys ≡ put (put l b ys) a xs
  put-swap l a xs b ys g h d =
      ⊎_elim (λ (k : a + length xs ≤ b). put-later l a xs b ys g k) (λ (k : b + length ys ≤ a). sym (put-later l b ys a xs h k)) d

  -- a store behind what was written
  pub put-snoc : (l : List A) (a : ℕ) (vs : List A) (v : A) → a + length vs < length l → set (put l a vs) (a + length vs) v ≡ put l a (vs ++ (v ∷ []))
  put-snoc l a vs v h = put_one (put l a vs) (a + length vs) v (rw (length-put l a vs (omega arith)) h) ∙ put-put l a vs (v ∷ []) (omega arith)

  -- a store in front of what was written
  pub put-cons : (l : List A) (a : ℕ) (vs : List A) (v : A) → a + length vs < length l → set (put l (suc a) vs) a v ≡ put l a (v ∷ vs)
  put-cons l a vs v h =
      put_one (put l (suc a) vs) a v (rw (length-put l (suc a) vs (omega arith)) (omega arith))
      ∙ sym (put-later l a (v ∷ []) (suc a) vs (omega arith) (omega arith))
      ∙ ap (λ (k : ℕ). put (put l a (v ∷ [])) k vs) (sym (add-one a))
      ∙ put-put l a (v ∷ []) vs (omega arith)
