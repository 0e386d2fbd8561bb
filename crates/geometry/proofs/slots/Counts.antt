-- A count as a word of a slot, and back, and the places of a slot's points. Leans on lib.Ieee's laws of whole numbers.
use mathlib.Core.Path.{◌≡◌, refl}
use mathlib.Core.List.{List}
use Prim.Native.Nat.{ℕ, suc, ◌+◌, ◌*◌, ◌^◌, ◌≤◌, ◌<◌}
use native.Mathlib.Nat.{lt_of_le_of_lt, mul-le-mul_left, mul-add, mul-suc, mul-zero}
use native.Mathlib.Numerals.{add-one}
use native.Mathlib.Omega.{arith}
use lib.Dec.{T, le→leb, lit<}
use lib.ListN.{length, get_or}
use lib.IntN.{pos}
use lib.Ieee.{Float, nan, in_float, in_unsigned, to_unsigned, binary64}
use lib.Ieee.Back.{unsigned_back}
use Rattle.model.specs.Layout.{slot_words}
use Rattle.geometry.specs.Slots.{words_of, word, count_at, place_of, points_from, point_words, Sized, Inside, Held}
use Rattle.geometry.specs.declared.slots.Shape.{Shape}

-- ---- the count

pub in_float_word : (n : ℕ) → n ≤ 0x1_0000 → T (in_float binary64 (pos n))
unfolding in_float
in_float_word n h = le→leb n (2 ^ 53) (omega arith)

back : (n : ℕ) → n ≤ 0x1_0000 → T (in_unsigned binary64 64 (word n)) × (to_unsigned 64 (word n) ≡ n)
unfolding word
back n h = unsigned_back binary64 64 n (in_float_word n h) (lt_of_le_of_lt h (lit< tt))

-- a word that stands for a count can be read
pub readable : (x : Float) (n : ℕ) → x ≡ word n → n ≤ 0x1_0000 → T (in_unsigned binary64 64 x)
readable x n e h = rw e (back n h).0

-- and what is read is the count
pub count_back : (l : List Float) (base n : ℕ) → get_or l base nan ≡ word n → n ≤ 0x1_0000 → count_at l base ≡ n
unfolding count_at
count_back l base n e h = rw e (back n h).1

-- ---- the places

-- the place of a point in the code's words
pub code-place : (s : Shape) (base i : ℕ) → base + (s.count + 2 * s.degree + 3) + 2 * (s.dim + 1) * i ≡ place_of s base i
unfolding place_of
code-place s base i = rw (add-one s.dim)

module _ (s : Shape) (base : ℕ) where
  pub place_zero : place_of s base 0 ≡ points_from s base
  unfolding place_of
  place_zero = rw (mul-zero (point_words s)) (omega arith)

  pub place_at : (i : ℕ) → place_of s base i ≡ points_from s base + point_words s * i
  unfolding place_of
  place_at i = refl

  -- j points behind point i
  pub place-add : (i j : ℕ) → place_of s base (i + j) ≡ place_of s base i + point_words s * j
  unfolding place_of
  place-add i j = rw (mul-add (point_words s) i j) (omega arith)

  -- the next place
  pub place-next : (i : ℕ) → place_of s base (suc i) ≡ place_of s base i + point_words s
  unfolding place_of
  place-next i = rw (mul-suc (point_words s) i) (omega arith)

  pub place_le : (i j : ℕ) → i ≤ j → place_of s base i ≤ place_of s base j
  unfolding place_of
  place_le i j h = let e : point_words s * i ≤ point_words s * j = mul-le-mul_left (point_words s) h in omega arith

  -- the place behind the last point for which there is room
  pub place-room : (i : ℕ) → i ≤ s.count + s.degree + 1 → place_of s base i ≤ base + words_of s
  unfolding place_of slot_words
  place-room i h = let e : point_words s * i ≤ point_words s * (s.count + s.degree + 1) = mul-le-mul_left (point_words s) h in omega arith

  -- the knots lie in front of the points, and all of them in the slot
  pub from-room : points_from s base ≤ base + words_of s
  unfolding slot_words
  from-room = omega arith

  -- and before every point
  pub place-from : (i : ℕ) → points_from s base ≤ place_of s base i
  unfolding place_of
  place-from i = omega arith

-- the slot lies inside every memory of that length
pub inside_of : (s : Shape) (l m : List Float) (base : ℕ) → length m ≡ length l → Inside s l base → Inside s m base
inside_of s l m base e i = record { sized = i.sized; within = omega (arith, i.within) }

-- the count of a slot can be read
pub count_readable : (s : Shape) (l : List Float) (base : ℕ) → Held s l base → (base < length l) × T (in_unsigned binary64 64 (get_or l base nan))
count_readable s l base h =
    (omega (arith, from-room s base, h.inside.within), readable (get_or l base nan) (count_at l base) h.whole (omega (arith, h.room, h.inside.sized.degree, h.inside.sized.count)))

-- the numbers of a slot's points and knots are few
pub few-points : (s : Shape) (n : ℕ) → Sized s → n ≤ s.count + s.degree + 1 → n ≤ 40
few-points s n z h = omega (arith, z.degree, z.count)

-- there is room for one more knot
pub knot-room : (s : Shape) (l : List Float) (base n : ℕ) → Inside s l base → n ≤ s.count + s.degree → base + 1 + (n + s.degree + 1) < length l
knot-room s l base n i h = omega (arith, from-room s base, i.within)

-- every place in the slot lies in the memory
pub place-within : (s : Shape) (l : List Float) (base i : ℕ) → Inside s l base → i ≤ s.count + s.degree + 1 → place_of s base i ≤ length l
place-within s l base i z h = omega (arith, place-room s base i h, z.within)
