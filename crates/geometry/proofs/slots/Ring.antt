-- The ring of slots: what taking from it, adding to it and writing to its free slots do to the pieces that wait. Leans on the laws of slots and of rings.
use mathlib.Core.Path.{◌≡◌, refl, sym, ap, ◌∙◌}
use mathlib.Core.Logic.{inl, inr, ⊎_elim}
use mathlib.Core.List.{List, [], ◌∷◌, ◌++◌, append_assoc}
use Prim.Native.Nat.{ℕ, suc, ◌+◌, ◌-◌, ◌*◌, ◌≤◌, ◌<◌}
use native.Mathlib.Nat.{zero-add}
use native.Mathlib.Numerals.{add-one}
use native.Mathlib.Decide.{dec_lt}
use native.Mathlib.Omega.{arith}
use lib.ListN.{length, drop, get_or, length-drop}
use lib.Seq.{take_all}
use lib.Ieee.{Float, nan, to_unsigned}
use Rattle.lists.specs.Lists.{part}
use Rattle.lists.specs.Ring.{wrapped}
use Rattle.lists.proofs.Tab.{length-tab, tab-ext, tab-cons}
use Rattle.lists.proofs.Ring.{apart, slot_in, wrapped_in, wrapped-head, wrapped-ne, wrapped-next, wrapped-free}
use Rattle.model.specs.NurbCurve.{Piece}
use Rattle.model.specs.Subdivide.{Waiting, at_depth}
use Rattle.geometry.specs.Slots.{words_of, piece_at, word, depth_from, depth_at, count_at, waits_at, placed, Fits, Inside, Held, DepthIs, Waits, Apart}
use Rattle.geometry.specs.Ring.{base_of, ring_base, waiting, Ring, Outside, Beside}
use Rattle.geometry.specs.declared.slots.Shape.{Shape}
use Rattle.geometry.proofs.slots.Piece.{length-placed}
use Rattle.geometry.proofs.slots.Apart.{held_same, piece_same, part-beside}
use Rattle.geometry.proofs.slots.Depth.{depth-beside}

-- ---- memories that differ in a slot or two

pub beside-refl : (s : Shape) (a b : ℕ) (l : List Float) → Beside s a b l l
beside-refl s a b l = record { long = refl; same = λ x w f g. refl }

-- one after the other
pub beside_trans : (s : Shape) (a b : ℕ) (l m n : List Float) → Beside s a b l m → Beside s a b m n → Beside s a b l n
beside_trans s a b l m n d e = record { long = e.long ∙ d.long; same = λ x w f g. e.same x w f g ∙ d.same x w f g }

-- in one of the two alone
pub beside_first : (s : Shape) (a b : ℕ) (l m : List Float) → Beside s a a l m → Beside s a b l m
beside_first s a b l m d = record { long = d.long; same = λ x w f g. d.same x w f f }

pub beside_second : (s : Shape) (a b : ℕ) (l m : List Float) → Beside s b b l m → Beside s a b l m
beside_second s a b l m d = record { long = d.long; same = λ x w f g. d.same x w g g }

-- a piece that is written into the slot at a
pub beside_placed : (s : Shape) (a : ℕ) (l : List Float) (c : Piece) → Inside s l a → Fits s c → Beside s a a l (placed s l a c)
beside_placed s a l c i f = record { long = length-placed s l a i c f; same = λ x w g _. part-beside s l a x c i f w g }

module _ (s : Shape) (a b : ℕ) (l m : List Float) (d : Beside s a b l m) where
  -- what is behind both slots is as it was
  pub beside-behind : (n : ℕ) → a + words_of s ≤ n → b + words_of s ≤ n → drop n m ≡ drop n l
  beside-behind n f g =
      let k : ℕ = length l - n in
      sym (take_all k (drop n m) (simp length-drop (omega (arith, d.long))))
      ∙ d.same n k (inr f) (inr g)
      ∙ take_all k (drop n l) (simp length-drop (omega arith))

  pub beside_inside : (x : ℕ) → Inside s l x → Inside s m x
  beside_inside x i = record { sized = i.sized; within = omega (arith, i.within, d.long) }

  -- a slot that is neither of the two
  module _ (x : ℕ) (f : Apart s a x) (g : Apart s b x) where
    outside : (a : ℕ) → Apart s a x → Outside s a x (words_of s)
    outside a (inl h) = inr h
    outside a (inr h) = inl h

    shorter : (a : ℕ) → Apart s a x → Outside s a x (words_of s - 1)
    shorter a (inl h) = inr h
    shorter a (inr h) = inl (omega arith)

    words : part l x (words_of s - 1) ≡ part m x (words_of s - 1)
    words = sym (d.same x (words_of s - 1) (shorter a f) (shorter b g))

    last : get_or m (depth_from s x) nan ≡ get_or l (depth_from s x) nan
    last = depth-beside s a b l m d x (outside a f) (outside b g)

    pub beside-held : Held s l x → Held s m x
    beside-held h = held_same s l m x words (beside_inside x h.inside) h

    pub beside-piece : Held s l x → piece_at s m x ≡ piece_at s l x
    beside-piece h = piece_same s l m x words h

    pub beside-deep : (e : ℕ) → DepthIs s l x e → DepthIs s m x e
    beside-deep e h = last ∙ h

    beside-depth : depth_at s m x ≡ depth_at s l x
    unfolding count_at
    beside-depth = ap (to_unsigned 64) last

    pub beside-waits : Waits s l x → Waits s m x
    beside-waits w = record { held = beside-held w.held; deep = last ∙ w.deep ∙ ap word (sym beside-depth) }

    pub beside-waiting : Held s l x → waits_at s m x ≡ waits_at s l x
    unfolding waits_at
    beside-waiting h = λ i. at_depth (beside-depth i) (beside-piece h i)

-- ---- the slots of a ring

module _ (s : Shape) where
  -- where slot number i begins, in the code's words: of slots of w words
  pub base_is : (w : ℕ) → w ≡ words_of s → (i x : ℕ) → x ≡ 0 + i * w → x ≡ base_of s i
  base_is w W i x X = X ∙ zero-add (i * w) ∙ ap (λ (y : ℕ). i * y) W

  pub slots_apart : (i j : ℕ) → (i ≡ j → ⊥) → Apart s (base_of s i) (base_of s j)
  slots_apart i j h = ⊎_elim (λ (k : j * words_of s + words_of s ≤ i * words_of s). inr k) (λ (k : i * words_of s + words_of s ≤ j * words_of s). inl k) (apart i j (words_of s) h)

  module _ (l : List Float) (slots h n : ℕ) (r : Ring s l slots h n) where
    pub ring_inside : (j : ℕ) → j ≤ slots → Inside s l (ring_base s slots h j)
    ring_inside j k = record { sized = r.sized; within = slot_in (wrapped slots (h + j)) slots (words_of s) (length l) (wrapped_in slots h j r.start k) r.fits }

    -- the slot of any place ends where the ring does or before
    pub ring-within : (j : ℕ) → j ≤ slots → ring_base s slots h j + words_of s ≤ slots * words_of s
    ring-within j k = slot_in (wrapped slots (h + j)) slots (words_of s) (slots * words_of s) (wrapped_in slots h j r.start k) (omega arith)

    pub ring-apart : (i j : ℕ) → i < j → j < slots → Apart s (ring_base s slots h j) (ring_base s slots h i)
    ring-apart i j a b = slots_apart (wrapped slots (h + j)) (wrapped slots (h + i)) (λ e. wrapped-ne slots h i j r.start a b (sym e))

    pub ring-head : ring_base s slots h 0 ≡ base_of s h
    ring-head = ap (λ (k : ℕ). k * words_of s) (wrapped-head slots h r.start)

  pub length-waiting : (l : List Float) (slots h n : ℕ) → length (waiting s l slots h n) ≡ n
  unfolding waiting
  length-waiting l slots h n = length-tab n _

  pub waiting_none : (l : List Float) (slots h : ℕ) → waiting s l slots h 0 ≡ []
  unfolding waiting
  waiting_none l slots h = refl

  -- the last apart from the others
  pub waiting-snoc : (l : List Float) (slots h n : ℕ) → waiting s l slots h (suc n) ≡ waiting s l slots h n ++ (waits_at s l (ring_base s slots h n) ∷ [])
  unfolding waiting
  waiting-snoc l slots h n = refl

  -- ---- the first is taken off

  -- Where the slot at place j behind the next head begins.
  pub next-base : (slots h j : ℕ) → h < slots → j < slots → ring_base s slots (wrapped slots (h + 1)) j ≡ ring_base s slots h (suc j)
  next-base slots h j a b = ap (λ (k : ℕ). k * words_of s) (wrapped-next slots h j a b)

  module _ (l : List Float) (slots h n : ℕ) (r : Ring s l slots h (suc n)) where
    pub waiting-pop : waiting s l slots h (suc n) ≡ waits_at s l (base_of s h) ∷ waiting s l slots (wrapped slots (h + 1)) n
    unfolding waiting
    waiting-pop =
        tab-cons n (λ j. waits_at s l (ring_base s slots h j))
        ∙ (λ i. waits_at s l (ring-head l slots h (suc n) r i) ∷ tab-ext n _ _ (λ j q. ap (waits_at s l) (sym (next-base slots h j r.start (omega (arith, r.full))))) i)

    pub ring-pop : Ring s l slots (wrapped slots (h + 1)) n
    ring-pop = record {
      sized = r.sized;
      fits = r.fits;
      start = wrapped_in slots h 1 r.start (omega (arith, r.full));
      full = omega (arith, r.full);
      waits = λ j q. rw (next-base slots h j r.start (omega (arith, r.full))) (r.waits (suc j) (omega arith));
    }

    pub head-waits : Waits s l (base_of s h)
    head-waits = rw (ring-head l slots h (suc n) r) at (r.waits 0 (omega arith))

    -- the slot at a free place is not that of the first
    pub head_apart : (m : ℕ) → 0 < m → m < slots → Apart s (ring_base s slots h m) (base_of s h)
    head_apart m a b = slots_apart (wrapped slots (h + m)) h (λ e. wrapped-free slots h m r.start a b e)

  -- ---- writes to free slots

  module _ (l m : List Float) (slots h n i j : ℕ) (r : Ring s l slots h n) (ni : n ≤ i) (ic : i < slots) (nj : n ≤ j) (jc : j < slots) (d : Beside s (ring_base s slots h i) (ring_base s slots h j) l m) where
    free : (k : ℕ) → k < n → Apart s (ring_base s slots h i) (ring_base s slots h k)
    free k q = ring-apart l slots h n r k i (omega arith) ic

    free_too : (k : ℕ) → k < n → Apart s (ring_base s slots h j) (ring_base s slots h k)
    free_too k q = ring-apart l slots h n r k j (omega arith) jc

    -- those that wait are as they were
    pub waiting-beside : waiting s m slots h n ≡ waiting s l slots h n
    unfolding waiting
    waiting-beside = tab-ext n _ _ (λ k q. beside-waiting s (ring_base s slots h i) (ring_base s slots h j) l m d (ring_base s slots h k) (free k q) (free_too k q) (r.waits k q).held)

    pub ring-beside : Ring s m slots h n
    ring-beside = record {
      sized = r.sized;
      fits = omega (arith, r.fits, d.long);
      start = r.start;
      full = r.full;
      waits = λ k q. beside-waits s (ring_base s slots h i) (ring_base s slots h j) l m d (ring_base s slots h k) (free k q) (free_too k q) (r.waits k q);
    }

    -- and so is what is behind the ring
    pub behind-ring : drop (slots * words_of s) m ≡ drop (slots * words_of s) l
    behind-ring =
        beside-behind s (ring_base s slots h i) (ring_base s slots h j) l m d (slots * words_of s)
        (ring-within l slots h n r i (omega arith)) (ring-within l slots h n r j (omega arith))

  -- ---- the slot behind the last holds a piece: one more waits

  module _ (l : List Float) (slots h n : ℕ) (r : Ring s l slots h n) (nc : n < slots) (k : Waits s l (ring_base s slots h n)) where
    pub ring-snoc : Ring s l slots h (suc n)
    ring-snoc = record { sized = r.sized; fits = r.fits; start = r.start; full = omega arith; waits = λ j q. by j q (dec_lt j n) }
      where
        by : (j : ℕ) → j < suc n → Dec (j < n) → Waits s l (ring_base s slots h j)
        by j q (yes p) = r.waits j p
        by j q (no p) = let e : j ≡ n = omega arith in rw e k

  module _ (l m : List Float) (slots h n : ℕ) (r : Ring s l slots h n) (nc : n + 1 < slots) (d : Beside s (ring_base s slots h n) (ring_base s slots h (n + 1)) l m) where
    there : Ring s m slots h n
    there = ring-beside l m slots h n n (n + 1) r (omega arith) (omega arith) (omega arith) nc d

    same : waiting s m slots h n ≡ waiting s l slots h n
    same = waiting-beside l m slots h n n (n + 1) r (omega arith) (omega arith) (omega arith) nc d

    -- none is added
    pub push_none : waiting s m slots h n ≡ waiting s l slots h n
    push_none = same

    pub ring_none : Ring s m slots h n
    ring_none = there

    pub push-behind : drop (slots * words_of s) m ≡ drop (slots * words_of s) l
    push-behind = behind-ring l m slots h n n (n + 1) r (omega arith) (omega arith) (omega arith) nc d

    -- one is added
    module _ (c : Waiting) (k : Waits s m (ring_base s slots h n)) (e : waits_at s m (ring_base s slots h n) ≡ c) where
      pub push_one : waiting s m slots h (n + 1) ≡ waiting s l slots h n ++ (c ∷ [])
      push_one = ap (waiting s m slots h) (add-one n) ∙ waiting-snoc m slots h n ∙ (λ i. same i ++ (e i ∷ []))

      pub ring_one : Ring s m slots h (n + 1)
      ring_one = rw (add-one n) (ring-snoc m slots h n there (omega arith) k)

      -- two are added
      module _ (c' : Waiting) (k' : Waits s m (ring_base s slots h (n + 1))) (e' : waits_at s m (ring_base s slots h (n + 1)) ≡ c') where
        pub push_two : waiting s m slots h (n + 2) ≡ waiting s l slots h n ++ (c ∷ c' ∷ [])
        push_two =
            let z : n + 2 ≡ suc (n + 1) = omega arith in
            ap (waiting s m slots h) z ∙ waiting-snoc m slots h (n + 1) ∙ (λ i. push_one i ++ (e' i ∷ [])) ∙ append_assoc (waiting s l slots h n) (c ∷ []) (c' ∷ [])

        pub ring_two : Ring s m slots h (n + 2)
        ring_two = let z : n + 2 ≡ suc (n + 1) = omega arith in rw z (ring-snoc m slots h (n + 1) ring_one nc k')
