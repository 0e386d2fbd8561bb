-- Slots apart from each other: what is written into one is not seen in the other. Leans on the laws of one slot.
use mathlib.Core.Path.{◌≡◌, sym, ap, ◌∙◌}
use mathlib.Core.Logic.{◌⊎◌, inl, inr}
use mathlib.Core.List.{List}
use Prim.Native.Nat.{ℕ, suc, ◌+◌, ◌-◌, ◌*◌, ◌≤◌, ◌<◌}
use native.Mathlib.Nat.{mul-le-mul_left, mul-suc}
use native.Mathlib.Omega.{arith}
use lib.ListN.{length, drop, get_or}
use lib.Ieee.{Float, nan, to_unsigned}
use Rattle.lists.specs.Lists.{part}
use Rattle.lists.proofs.Tab.{tab-ext}
use Rattle.lists.proofs.Part.{length_part, get_or_part, part-part}
use Rattle.lists.proofs.Read.{part-put-other}
use Rattle.model.specs.NurbCurve.{Piece}
use Rattle.model.specs.Layout.{points_of, slot_words}
use Rattle.geometry.specs.Slots.{words_of, point_words, points_from, word, count_at, vector_at, piece_at, placed, Fits, Inside, Held, Apart}
use Rattle.geometry.specs.declared.slots.Shape.{Shape}
use Rattle.geometry.proofs.Lists.Numbers.{points-tab, vector_part}
use Rattle.geometry.proofs.slots.Piece.{room, piece_of, length-placed, placed_local}

-- ---- one slot by itself

pub slot_long : (s : Shape) (l : List Float) (base : ℕ) → Inside s l base → length (part l base (words_of s)) ≡ words_of s
slot_long s l base i = length_part l base (words_of s) i.within

module _ (s : Shape) (l : List Float) (base : ℕ) where
  -- The words of the slot in front of its last.
  abbrev body : List Float
  body = part l base (words_of s - 1)

  some_words : 0 < words_of s - 1
  unfolding slot_words
  some_words = omega arith

  word-local : get_or body 0 nan ≡ get_or l base nan
  word-local = let e : base + 0 ≡ base = omega arith in get_or_part l base (words_of s - 1) 0 nan some_words ∙ ap (λ (k : ℕ). get_or l k nan) e

  count-local : count_at body 0 ≡ count_at l base
  unfolding count_at
  count-local = ap (to_unsigned 64) word-local

  module _ (n : ℕ) (r : n ≤ s.count + s.degree + 1) where
    knots-local : part body (0 + 1) (n + s.degree + 1) ≡ part l (base + 1) (n + s.degree + 1)
    knots-local = part-part l base (words_of s - 1) (0 + 1) (n + s.degree + 1) (omega (arith, room s n r))

    points-local : points_of (suc s.dim) n (drop (points_from s 0) body) ≡ points_of (suc s.dim) n (drop (points_from s base) l)
    points-local = points-tab D n body (points_from s 0) ∙ tab-ext n _ _ each ∙ sym (points-tab D n l (points_from s base))
      where
        D : ℕ
        D = suc s.dim

        each : (i : ℕ) → i < n → vector_at (suc s.dim) body (points_from s 0 + 2 * suc s.dim * i) ≡ vector_at (suc s.dim) l (points_from s base + 2 * suc s.dim * i)
        each i h =
            let e : base + (points_from s 0 + point_words s * i) ≡ points_from s base + point_words s * i = omega arith in
            let m : point_words s * suc i ≤ point_words s * n = mul-le-mul_left (point_words s) h in
            vector_part (suc s.dim) l base (words_of s - 1) (points_from s 0 + point_words s * i) (omega (arith, room s n r, m, mul-suc (point_words s) i))
            ∙ ap (vector_at (suc s.dim) l) e

    piece_of_lem : piece_of s body 0 n ≡ piece_of s l base n
    piece_of_lem = λ j. record { knots = knots-local j; points = points-local j }

  -- the words of a slot in front of its last are all that its piece is read from
  piece-local : count_at l base ≤ s.count + s.degree + 1 → piece_at s body 0 ≡ piece_at s l base
  unfolding piece_at
  piece-local r = ap (piece_of s body 0) count-local ∙ piece_of_lem (count_at l base) r

-- ---- two slots

pub other : (s : Shape) (a b : ℕ) → Apart s a b → Apart s b a
other s a b (inl h) = inr h
other s a b (inr h) = inl h

-- two lists with the same words in a slot, in front of its last, hold the same piece there
module _ (s : Shape) (l m : List Float) (b : ℕ) (e : part l b (words_of s - 1) ≡ part m b (words_of s - 1)) where
  same_word : get_or m b nan ≡ get_or l b nan
  same_word = sym (word-local s m b) ∙ ap (λ (k : List Float). get_or k 0 nan) (sym e) ∙ word-local s l b

  same_count : count_at m b ≡ count_at l b
  unfolding count_at
  same_count = ap (to_unsigned 64) same_word

  pub held_same : Inside s m b → Held s l b → Held s m b
  held_same i h = record { inside = i; whole = same_word ∙ h.whole ∙ ap word (sym same_count); room = omega (arith, same_count, h.room) }

  pub piece_same : Held s l b → piece_at s m b ≡ piece_at s l b
  piece_same h = sym (piece-local s m b (omega (arith, same_count, h.room))) ∙ ap (λ (k : List Float). piece_at s k 0) (sym e) ∙ piece-local s l b h.room

module _ (s : Shape) (l : List Float) (a b : ℕ) (c : Piece) (i : Inside s l a) (f : Fits s c) where
  local_long : length (placed s (part l a (words_of s)) 0 c) ≡ words_of s
  local_long = length-placed s (part l a (words_of s)) 0 (record { sized = i.sized; within = omega (arith, slot_long s l a i) }) c f ∙ slot_long s l a i

  -- any stretch beside the slot is as it was
  pub part-beside : (w : ℕ) → (b + w ≤ a) ⊎ (a + words_of s ≤ b) → part (placed s l a c) b w ≡ part l b w
  part-beside w d =
      ap (λ (k : List Float). part k b w) (placed_local s l a c i f)
      ∙ part-put-other l a (placed s (part l a (words_of s)) 0 c) b w (omega (arith, local_long, i.within)) (beside d)
    where
      beside : (b + w ≤ a) ⊎ (a + words_of s ≤ b) → (b + w ≤ a) ⊎ (a + length (placed s (part l a (words_of s)) 0 c) ≤ b)
      beside (inl h) = inl h
      beside (inr h) = inr (omega (arith, local_long))

  module _ (d : Apart s a b) where
    body-apart : part l b (words_of s - 1) ≡ part (placed s l a c) b (words_of s - 1)
    body-apart = sym (part-beside (words_of s - 1) (shorter d))
      where
        shorter : Apart s a b → (b + (words_of s - 1) ≤ a) ⊎ (a + words_of s ≤ b)
        shorter (inl h) = inr h
        shorter (inr h) = inl (omega arith)

    pub inside_apart : Inside s l b → Inside s (placed s l a c) b
    inside_apart j = record { sized = j.sized; within = omega (arith, j.within, length-placed s l a i c f) }

    pub held-apart : Held s l b → Held s (placed s l a c) b
    held-apart h = held_same s l (placed s l a c) b body-apart (inside_apart h.inside) h

    pub piece-apart : Held s l b → piece_at s (placed s l a c) b ≡ piece_at s l b
    piece-apart h = piece_same s l (placed s l a c) b body-apart h
