-- Writes to a list: one in front of another, one that is read back from the same place, and what the library's copies
-- leave. Laws of lists alone.
use mathlib.Core.Path.{◌≡◌, refl, sym, ap, ◌∙◌}
use mathlib.Core.Logic.{inr}
use mathlib.Core.List.{List, [], ◌∷◌, ◌++◌}
use Prim.Native.Nat.{ℕ, ◌+◌, ◌-◌, ◌≤◌, ◌<◌}
use native.Mathlib.Omega.{arith}
use lib.ListN.{length, take, drop, set, length-take, length-drop}
use lib.Seq.{paste, take-take, take_all}
use borrow.Rule.Slice.PartMut.{put_mid}
use Rattle.std.specs.List.{copy_within}
use Rattle.std.proofs.Common.{append_assoc}
use Rattle.std.proofs.lemmas.Slice.{put_mid-paste}
use Rattle.lists.specs.Lists.{part, put}
use Rattle.lists.proofs.Part.{length_part, part-part}
use Rattle.lists.proofs.Put.{put-put, put-swap, put_one, put-snoc, put-part}
use Rattle.lists.proofs.Read.{take_put, drop-put, drop-put_in}

module _ {A : Type 0} where
  -- a write in front of what was written
  pub put_front : (l : List A) (a b : ℕ) (xs ys : List A) → b ≡ a + length xs → b + length ys ≤ length l → put (put l b ys) a xs ≡ put l a (xs ++ ys)
  put_front l a b xs ys e h =
      put-swap l b ys a xs (omega arith) (omega arith) (inr (omega arith))
      ∙ ap (λ (k : ℕ). put (put l a xs) k ys) e
      ∙ put-put l a xs ys (omega arith)

  -- what stands in front is written again
  pub put-wider : (l : List A) (a w b : ℕ) (vs : List A) → b ≡ a + w → b ≤ length l → put l b vs ≡ put l a (part l a w ++ vs)
  put-wider l a w b vs e h =
      let n : length (part l a w) ≡ w = length_part l a w (omega arith) in
      let f : b ≡ a + length (part l a w) = omega arith in
      ap (λ (k : List A). put k b vs) (sym (put-part l a w (omega arith)))
      ∙ ap (λ (k : ℕ). put (put l a (part l a w)) k vs) f
      ∙ put-put l a (part l a w) vs (omega arith)

  -- a write at the same place that is at least as long: the later one stays
  pub put-cover : (l : List A) (a : ℕ) (xs ys : List A) → a + length xs ≤ length l → length xs ≤ length ys → put (put l a xs) a ys ≡ put l a ys
  put-cover l a xs ys h g =
      put_is (put l a xs) ys
      ∙ (λ j. take_put l a xs a (omega arith) (omega arith) j ++ (ys ++ drop-put l a xs (a + length ys) (omega arith) h j))
      ∙ sym (put_is l ys)
    where
      put_is : (k vs : List A) → put k a vs ≡ take a k ++ (vs ++ drop (a + length vs) k)
      put_is k vs = unfold put in refl

  -- what was written, with what stands behind it
  pub drop-written : (l : List A) (a : ℕ) (vs : List A) → a ≤ length l → drop a (put l a vs) ≡ vs ++ drop (0 + length vs) (drop a l)
  drop-written l a vs h =
      let e : a + 0 ≡ a = omega arith in
      ap (λ (k : ℕ). drop a (put l k vs)) (sym e) ∙ drop-put_in l a 0 vs h ∙ start (drop a l)
    where
      start : (k : List A) → put k 0 vs ≡ vs ++ drop (0 + length vs) k
      start k = unfold put in refl

  -- ---- parts of a part

  pub take_part : (l : List A) (a w i : ℕ) → i ≤ w → take i (part l a w) ≡ part l a i
  take_part l a w i h = take-take i w (drop a l) h

  pub drop-part : (l : List A) (a w i : ℕ) → i ≤ w → drop i (part l a w) ≡ part l (a + i) (w - i)
  drop-part l a w i h =
      sym (take_all (w - i) (drop i (part l a w)) (simp (length-drop, length-take) (omega arith)))
      ∙ part-part l a w i (w - i) (omega arith)

  -- two stores side by side
  pub set_two : (l : List A) (i : ℕ) (x y : A) → i + 1 < length l → set (set l i x) (i + 1) y ≡ put l i (x ∷ y ∷ [])
  set_two l i x y h = ap (λ (k : List A). set k (i + 1) y) (put_one l i x (omega arith)) ∙ put-snoc l i (x ∷ []) y (omega arith)

  -- ---- what the library's methods leave, as a write

  pasted : (l zs : List A) (a n : ℕ) → length (take n zs) ≡ n → paste l a zs n ≡ put l a (take n zs)
  unfolding put
  pasted l zs a n e =
      append_assoc (take a l) (take n zs) (drop (a + n) l)
      ∙ ap (λ (k : ℕ). take a l ++ (take n zs ++ drop (a + k) l)) (sym e)

  -- a copy within a list
  pub copied : (l : List A) (a b w : ℕ) → a + w ≤ length l → copy_within l a (a + w) b ≡ put l b (part l a w)
  copied l a b w h =
      let e : a + w - a ≡ w = omega arith in
      ap (paste l b (drop a l)) e ∙ pasted l (drop a l) b w (length_part l a w h)

  -- a part that became vs
  pub part_became : (l : List A) (a w : ℕ) (ys vs : List A) → ys ≡ vs → length vs ≡ w → put_mid a (a + w - a) l ys ≡ put l a vs
  part_became l a w ys vs e h =
      let t : take w vs ≡ vs = take_all w vs (omega (arith, h)) in
      put_mid-paste a (a + w - a) l ys vs w e (omega arith) (sym h)
      ∙ pasted l vs a w (ap length t ∙ h)
      ∙ ap (put l a) t
