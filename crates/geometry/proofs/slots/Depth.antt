-- The depth of a slot, in its last word: writing it does not touch the piece beside it, and writing a piece elsewhere does not touch it. Leans on the laws of slots.
use mathlib.Core.Path.{◌≡◌, sym, ap, ◌∙◌, subst}
use mathlib.Core.Logic.{◌⊎◌, inl, inr}
use mathlib.Core.List.{List, [], ◌∷◌}
use Prim.Native.Nat.{ℕ, ◌+◌, ◌-◌, ◌≤◌, ◌<◌}
use native.Mathlib.Omega.{arith}
use lib.Dec.{T}
use lib.ListN.{length, get_or}
use lib.Ieee.{Float, nan, binary64, in_unsigned}
use Rattle.lists.specs.Lists.{part, put}
use Rattle.lists.proofs.Part.{get_or_part}
use Rattle.lists.proofs.Put.{length-put}
use Rattle.lists.proofs.Read.{part-put-other, get_or-put}
use Rattle.model.specs.Layout.{slot_words}
use Rattle.model.specs.Subdivide.{at_depth}
use Rattle.geometry.specs.Slots.{words_of, word, piece_at, depth_from, depth_at, waits_at, Inside, Held, DepthIs, Waits}
use Rattle.geometry.specs.Ring.{Outside, Beside}
use Rattle.geometry.specs.declared.slots.Shape.{Shape}
use Rattle.geometry.proofs.slots.Counts.{readable, count_back}
use Rattle.geometry.proofs.slots.Apart.{held_same, piece_same}

-- a slot has a last word
pub a_word : (s : Shape) → 0 < words_of s
unfolding slot_words
a_word s = omega arith

-- it lies in the memory
pub depth_in : (s : Shape) (l : List Float) (base : ℕ) → Inside s l base → depth_from s base < length l
depth_in s l base i = omega (arith, a_word s, i.within)

-- a depth that stands there is read back
pub depth_back : (s : Shape) (l : List Float) (base d : ℕ) → DepthIs s l base d → d ≤ 0x1_0000 → depth_at s l base ≡ d
depth_back s l base d e h = count_back l (depth_from s base) d e h

-- a piece waits where it stands with a depth
pub waits_by : (s : Shape) (l : List Float) (base d : ℕ) → Held s l base → DepthIs s l base d → d ≤ 0x1_0000 → Waits s l base
waits_by s l base d h e k = record { held = h; deep = e ∙ ap word (sym (depth_back s l base d e k)) }

-- what waits there is the piece, of that depth
pub waiting_by : (s : Shape) (l : List Float) (base d : ℕ) → DepthIs s l base d → d ≤ 0x1_0000 → waits_at s l base ≡ at_depth d (piece_at s l base)
unfolding waits_at
waiting_by s l base d e h = λ i. at_depth (depth_back s l base d e h i) (piece_at s l base)

-- ---- in the code's words: in the slot at x, of w words

module _ (s : Shape) (base w x : ℕ) (W : w ≡ words_of s) (X : x ≡ base) where
  pub depth_is : x + (w - 1) ≡ depth_from s base
  depth_is = λ i. X i + (W i - 1)

  pub depth-room : (l : List Float) → Inside s l base → (0 < w) × (x + w ≤ length l)
  depth-room l i = (omega (arith, a_word s), omega (arith, i.within))

  -- what stands there can be read
  pub depth-reads : (l : List Float) → Waits s l base → depth_at s l base ≤ 0x1_0000 → T (in_unsigned binary64 64 (get_or l (x + (w - 1)) nan))
  depth-reads l t h =
      subst (λ (k : ℕ). T (in_unsigned binary64 64 (get_or l k nan))) (sym depth_is) (readable (get_or l (depth_from s base) nan) (depth_at s l base) t.deep h)

-- ---- a depth is written

module _ (s : Shape) (l : List Float) (base d : ℕ) (i : Inside s l base) where
  -- The memory with the depth d in the slot at base.
  abbrev pub deepened : List Float
  deepened = put l (depth_from s base) (word d ∷ [])

  pub deep_long : length deepened ≡ length l
  deep_long = length-put l (depth_from s base) (word d ∷ []) (omega (arith, depth_in s l base i))

  pub deep_is : DepthIs s deepened base d
  deep_is =
      let e : depth_from s base ≡ depth_from s base + 0 = omega arith in
      ap (λ (k : ℕ). get_or deepened k nan) e ∙ get_or-put l (depth_from s base) (word d ∷ []) 0 nan (omega arith) (omega (arith, depth_in s l base i))

  -- THE DEPTH AND THE PIECE DO NOT TOUCH
  deep-beside : (x w : ℕ) → (x + w ≤ depth_from s base) ⊎ (depth_from s base + 1 ≤ x) → part deepened x w ≡ part l x w
  deep-beside x w h = part-put-other l (depth_from s base) (word d ∷ []) x w (omega (arith, depth_in s l base i)) h

  body_same : part l base (words_of s - 1) ≡ part deepened base (words_of s - 1)
  body_same = sym (deep-beside base (words_of s - 1) (inl (omega arith)))

  pub deep_inside : (x : ℕ) → Inside s l x → Inside s deepened x
  deep_inside x j = record { sized = j.sized; within = omega (arith, j.within, deep_long) }

  pub deep-held : Held s l base → Held s deepened base
  deep-held h = held_same s l deepened base body_same (deep_inside base i) h

  pub deep-piece : Held s l base → piece_at s deepened base ≡ piece_at s l base
  deep-piece h = piece_same s l deepened base body_same h

  -- nor do other slots notice
  pub deep_outside : Beside s base base l deepened
  deep_outside = record { long = deep_long; same = λ x w f _. deep-beside x w (out x w f) }
    where
      out : (x w : ℕ) → Outside s base x w → (x + w ≤ depth_from s base) ⊎ (depth_from s base + 1 ≤ x)
      out x w (inl h) = inl (omega arith)
      out x w (inr h) = inr (omega (arith, a_word s))

-- ---- slots that are neither of two hold their depths

pub depth-beside : (s : Shape) (a b : ℕ) (l m : List Float) → Beside s a b l m → (x : ℕ) → Outside s a x (words_of s) → Outside s b x (words_of s)
    → get_or m (depth_from s x) nan ≡ get_or l (depth_from s x) nan
depth-beside s a b l m d x f g =
    let one : (k : List Float) → get_or (part k (depth_from s x) 1) 0 nan ≡ get_or k (depth_from s x) nan =
    λ k. let e : depth_from s x + 0 ≡ depth_from s x = omega arith in get_or_part k (depth_from s x) 1 0 nan (omega arith) ∙ ap (λ (j : ℕ). get_or k j nan) e in
    sym (one m) ∙ ap (λ (k : List Float). get_or k 0 nan) (d.same (depth_from s x) 1 (last a f) (last b g)) ∙ one l
  where
    last : (c : ℕ) → Outside s c x (words_of s) → Outside s c (depth_from s x) 1
    last c (inl h) = inl (omega (arith, a_word s))
    last c (inr h) = inr (omega arith)
