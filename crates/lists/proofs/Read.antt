-- What is read after a write: elements and parts inside of what was written, and beside it.
use mathlib.Core.Path.{◌≡◌, sym, ap, ◌∙◌}
use mathlib.Core.Logic.{◌⊎◌, ⊎_elim}
use mathlib.Core.List.{List, ◌++◌, append_assoc}
use Prim.Native.Nat.{ℕ, ◌+◌, ◌-◌, ◌≤◌, ◌<◌}
use native.Mathlib.Omega.{arith}
use lib.ListN.{length, take, drop, get_or, length-append, length-take, length-drop, take-append-drop, get_or-append}
use lib.Seq.{length-take-le, drop_at, drop-drop, drop-append-le, take-append-le, take-take, get_or-take, get_or-drop}
use Rattle.lists.specs.Lists.{part, put}
use Rattle.lists.proofs.Part.{part-take}
use Rattle.lists.proofs.Put.{put_right}

module _ {A : Type 0} where
  -- what was written, with what stands behind it
  drop-put_at : (l : List A) (a : ℕ) (vs : List A) → a ≤ length l → drop a (put l a vs) ≡ vs ++ drop (a + length vs) l
  unfolding put
  drop-put_at l a vs h = drop_at (take a l) (vs ++ drop (a + length vs) l) a (length-take-le a l h)

  -- ---- the front and the back of the list

  -- the write lies behind the front
  pub take_put : (l : List A) (a : ℕ) (vs : List A) (n : ℕ) → n ≤ a → a ≤ length l → take n (put l a vs) ≡ take n l
  unfolding put
  take_put l a vs n h g = rw (take-append-le n (take a l) (vs ++ drop (a + length vs) l) (simp length-take (omega arith)), take-take n a l h)

  -- the write lies in front of the back
  pub drop-put : (l : List A) (a : ℕ) (vs : List A) (n : ℕ) → a + length vs ≤ n → a + length vs ≤ length l → drop n (put l a vs) ≡ drop n l
  unfolding put
  drop-put l a vs n h g =
      let p : List A = take a l ++ vs in
      let m = a + length vs in
      let k : length p ≡ m = simp (length-append, length-take) (omega arith) in
      let e : n ≡ m + (n - m) = omega arith in
      rw (e, ← append_assoc (take a l) vs, ← drop-drop (n - m) m (p ++ drop m l), drop_at p (drop m l) m k, drop-drop (n - m) m l)

  -- the write lies in the back
  pub drop-put_in : (l : List A) (n a : ℕ) (vs : List A) → n ≤ length l → drop n (put l (n + a) vs) ≡ put (drop n l) a vs
  drop-put_in l n a vs g =
      let e : length (take n l) ≡ n = length-take-le n l g in
      ap (λ (k : List A). drop n (put k (n + a) vs)) (sym (take-append-drop n l))
      ∙ ap (drop n) (put_right (take n l) (drop n l) (n + a) a vs (rw e))
      ∙ drop_at (take n l) (put (drop n l) a vs) n e

  -- ---- parts

  -- a part of what was written
  pub part-put_in : (l : List A) (a : ℕ) (vs : List A) (i w : ℕ) → i + w ≤ length vs → a ≤ length l → part (put l a vs) (a + i) w ≡ part vs i w
  part-put_in l a vs i w h g =
      let r : List A = drop (a + length vs) l in
      rw (← drop-drop i a (put l a vs), drop-put_at l a vs g, drop-append-le i vs r (omega arith), take-append-le w (drop i vs) r (simp length-drop (omega arith)))

  -- the write lies beside the part
  pub part-put-other : (l : List A) (a : ℕ) (vs : List A) (b w : ℕ) → a + length vs ≤ length l → (b + w ≤ a) ⊎ (a + length vs ≤ b) → part (put l a vs) b w ≡ part l b w
  part-put-other l a vs b w g d =
      ⊎_elim
      (λ (h : b + w ≤ a). sym (part-take (put l a vs) a b w h) ∙ ap (λ (k : List A). part k b w) (take_put l a vs a (omega arith) (omega arith)) ∙ part-take l a b w h)
      (λ (h : a + length vs ≤ b). ap (take w) (drop-put l a vs b h g)) d

  -- ---- elements

  pub get_or-put : (l : List A) (a : ℕ) (vs : List A) (i : ℕ) (d : A) → i < length vs → a ≤ length l → get_or (put l a vs) (a + i) d ≡ get_or vs i d
  get_or-put l a vs i d h g = rw (← get_or-drop a (put l a vs) i d, drop-put_at l a vs g) (get_or-append vs (drop (a + length vs) l) d i h)

  pub get_or-put-before : (l : List A) (a : ℕ) (vs : List A) (k : ℕ) (d : A) → k < a → a ≤ length l → get_or (put l a vs) k d ≡ get_or l k d
  unfolding put
  get_or-put-before l a vs k d h g = rw (get_or-append (take a l) _ d k (simp length-take (omega arith)), get_or-take a l k d h)

  pub get_or-put-after : (l : List A) (a : ℕ) (vs : List A) (k : ℕ) (d : A) → a + length vs ≤ k → a + length vs ≤ length l → get_or (put l a vs) k d ≡ get_or l k d
  get_or-put-after l a vs k d h g =
      let e : k ≡ k + 0 = omega arith in
      rw (e, ← get_or-drop k (put l a vs) 0 d, ← get_or-drop k l 0 d, drop-put l a vs k h g)
