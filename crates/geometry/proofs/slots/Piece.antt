-- A piece that is written into a slot is read back, and no other slot notices. Leans on the laws of lists and of numbers side by side.
use mathlib.Core.Path.{◌≡◌, sym, ap, ◌∙◌}
use mathlib.Core.Logic.{inl, inr}
use mathlib.Core.List.{List, ◌∷◌, ◌++◌}
use Prim.Native.Nat.{ℕ, suc, ◌+◌, ◌*◌, ◌≤◌, ◌<◌}
use native.Mathlib.Nat.{mul-le-mul_left}
use native.Mathlib.Numerals.{add-one}
use native.Mathlib.Omega.{arith}
use lib.ListN.{length, drop, get_or}
use lib.Seq.{take_all}
use lib.Ieee.{Float, nan}
use Rattle.lists.specs.Lists.{part, put}
use Rattle.lists.proofs.Part.{length_part, part-cons}
use Rattle.lists.proofs.Put.{length-put, put-part, put-swap, put_inside}
use Rattle.lists.proofs.Read.{part-put_in, part-put-other, get_or-put, get_or-put-before}
use Rattle.model.specs.NurbCurve.{Piece}
use Rattle.model.specs.Layout.{points_of, slot_words}
use Rattle.geometry.specs.Slots.{words_of, point_words, points_from, word, count_at, knots_at, numbers, piece_at, placed, Fits, Inside, Held}
use Rattle.geometry.specs.declared.slots.Shape.{Shape}
use Rattle.geometry.proofs.Lists.Copies.{put-cover, drop-written}
use Rattle.geometry.proofs.slots.Counts.{count_back}
use Rattle.geometry.proofs.Lists.Numbers.{length_numbers, length-points, wide-points, numbers_points, points_numbers}

-- n points for which there is room, and their knots, lie in the slot, in front of its last word
pub room : (s : Shape) (n : ℕ) → n ≤ s.count + s.degree + 1 → s.count + 2 * s.degree + 3 + point_words s * n < words_of s
unfolding slot_words
room s n h = let e : point_words s * n ≤ point_words s * (s.count + s.degree + 1) = mul-le-mul_left (point_words s) h in omega arith

-- The piece of n points that the slot at base would hold.
abbrev pub piece_of : Shape → List Float → ℕ → ℕ → Piece
piece_of s l base n = record { knots = knots_at s l base n; points = points_of (suc s.dim) n (drop (points_from s base) l) }

-- ---- one slot

module _ (s : Shape) (l : List Float) (base : ℕ) (i : Inside s l base) where
  module _ (c : Piece) (f : Fits s c) where
    -- The count and the knots.
    abbrev front : List Float
    front = word (length c.points) ∷ c.knots

    long : length (numbers c.points) ≡ point_words s * length c.points
    long = length_numbers (suc s.dim) c.points f.wide

    pub fits-front : base + length (word (length c.points) ∷ c.knots) ≤ points_from s base
    fits-front = omega (arith, f.knots, f.points)

    pub fits-points : points_from s base + length (numbers c.points) ≤ length l
    fits-points = omega (arith, long, room s (length c.points) f.points, i.within)

    few : length c.points ≤ 0x1_0000
    few = omega (arith, f.points, i.sized.degree, i.sized.count)

    first : List Float
    first = put l base (word (length c.points) ∷ c.knots)

    long_first : length first ≡ length l
    unfolding first
    long_first = length-put l base front (omega (arith, fits-front, fits-points))

    in_first : points_from s base + length (numbers c.points) ≤ length first
    in_first = omega (arith, long_first, fits-points)

    pub length-placed : length (placed s l base c) ≡ length l
    unfolding placed first
    length-placed = length-put first (points_from s base) (numbers c.points) in_first ∙ long_first

    pub word-placed : get_or (placed s l base c) base nan ≡ word (length c.points)
    unfolding placed first
    word-placed =
        let e : base + 0 ≡ base = omega arith in
        get_or-put-before first (points_from s base) (numbers c.points) base nan (omega arith) (omega (arith, in_first))
        ∙ ap (λ (k : ℕ). get_or first k nan) (sym e)
        ∙ get_or-put l base front 0 nan (omega arith) (omega (arith, fits-front, fits-points))

    pub count-placed : count_at (placed s l base c) base ≡ length c.points
    count-placed = count_back (placed s l base c) base (length c.points) word-placed few

    knots-placed : knots_at s (placed s l base c) base (length c.points) ≡ c.knots
    unfolding placed first
    knots-placed =
        let w : ℕ = length c.points + s.degree + 1 in
        part-put-other first (points_from s base) (numbers c.points) (base + 1) w in_first (inl (omega (arith, f.points)))
        ∙ part-put_in l base front 1 w (omega (arith, f.knots)) (omega (arith, fits-front, fits-points))
        ∙ take_all w c.knots (omega (arith, f.knots))

    points-placed : points_of (suc s.dim) (length c.points) (drop (points_from s base) (placed s l base c)) ≡ c.points
    unfolding placed first
    points-placed =
        let P : ℕ = points_from s base in
        let r : List Float = drop (0 + length (numbers c.points)) (drop P first) in
        let d : drop P (put first P (numbers c.points)) ≡ numbers c.points ++ r = drop-written first P (numbers c.points) (omega (arith, in_first)) in
        ap (points_of (suc s.dim) (length c.points)) d ∙ points_numbers (suc s.dim) c.points r f.wide

    -- WHAT WAS WRITTEN IS READ BACK
    pub piece-placed : piece_at s (placed s l base c) base ≡ c
    unfolding piece_at
    piece-placed =
        ap (λ (n : ℕ). piece_of s (placed s l base c) base n) count-placed
        ∙ (λ j. record { knots = knots-placed j; points = points-placed j })

    pub inside_placed : Inside s (placed s l base c) base
    inside_placed = record { sized = i.sized; within = omega (arith, length-placed, i.within) }

    pub held-placed : Held s (placed s l base c) base
    held-placed = record {
      inside = inside_placed;
      whole = word-placed ∙ ap word (sym count-placed);
      room = omega (arith, count-placed, f.points);
    }

-- ---- what is in a slot fits, and is written again

module _ (s : Shape) (l : List Float) (base : ℕ) (h : Held s l base) where
  pub count-points : length (piece_at s l base).points ≡ count_at l base
  unfolding piece_at
  count-points = length-points (suc s.dim) (count_at l base) (drop (points_from s base) l)

  in_slot : base + 1 + (count_at l base + s.degree + 1) ≤ points_from s base
  in_slot = omega (arith, h.room)

  to_end : points_from s base + point_words s * count_at l base ≤ length l
  to_end = omega (arith, room s (count_at l base) h.room, h.inside.within)

  pub fits-piece : Fits s (piece_at s l base)
  unfolding piece_at
  fits-piece = record {
    knots = length_part l (base + 1) (count_at l base + s.degree + 1) (omega (arith, in_slot, to_end)) ∙ ap (λ (n : ℕ). n + s.degree + 1) (sym count-points);
    points = omega (arith, count-points, h.room);
    wide = wide-points (suc s.dim) (count_at l base) (drop (points_from s base) l);
  }

  -- what stands there is written again
  pub placed-piece : placed s l base (piece_at s l base) ≡ l
  unfolding placed piece_at
  placed-piece =
      let n : ℕ = count_at l base in
      let w : ℕ = n + s.degree + 1 in
      let front : word (length (points_of (suc s.dim) n (drop (points_from s base) l))) ∷ part l (base + 1) w ≡ part l base (suc w)
      = (λ j. (ap word count-points ∙ sym h.whole) j ∷ part l (add-one base j) w) ∙ sym (part-cons l base w nan (omega (arith, in_slot, to_end))) in
      ap (λ (k : List Float). put (put l base k) (points_from s base) (numbers (points_of (suc s.dim) n (drop (points_from s base) l)))) front
      ∙ ap (λ (k : List Float). put k (points_from s base) (numbers (points_of (suc s.dim) n (drop (points_from s base) l)))) (put-part l base (suc w) (omega (arith, in_slot, to_end)))
      ∙ ap (put l (points_from s base)) (numbers_points (suc s.dim) n l (points_from s base) to_end)
      ∙ put-part l (points_from s base) (point_words s * n) to_end

-- ---- two pieces in one slot

-- the second covers the first
pub placed-again : (s : Shape) (l : List Float) (base : ℕ) (c d : Piece) → Inside s l base → Fits s c → Fits s d → length c.points ≤ length d.points
    → placed s (placed s l base c) base d ≡ placed s l base d
unfolding placed
placed-again s l base c d i f g h =
    let P : ℕ = points_from s base in
    let A : List Float = word (length c.points) ∷ c.knots in
    let B : List Float = word (length d.points) ∷ d.knots in
    let N : List Float = numbers c.points in
    let M : List Float = numbers d.points in
    let m : length N ≤ length M = omega (arith, long s l base i c f, long s l base i d g, mul-le-mul_left (point_words s) h) in
    let u : P + length N ≤ length l = fits-points s l base i c f in
    let a : base + length A ≤ P = fits-front s l base i c f in
    let b : base + length B ≤ P = fits-front s l base i d g in
    let e : length (put l base A) ≡ length l = length-put l base A (omega arith) in
    let o : length (put l base B) ≡ length l = length-put l base B (omega arith) in
    ap (λ (k : List Float). put k P M) (put-swap (put l base A) P N base B (omega arith) (omega arith) (inr (omega arith)))
    ∙ ap (λ (k : List Float). put (put k P N) P M) (put-cover l base A B (omega arith) (omega (arith, f.knots, g.knots, h)))
    ∙ put-cover (put l base B) P N M (omega arith) m

-- ---- one slot by itself

-- a slot's words are all that a write to it changes
pub placed_local : (s : Shape) (l : List Float) (base : ℕ) (c : Piece) → Inside s l base → Fits s c → placed s l base c ≡ put l base (placed s (part l base (words_of s)) 0 c)
unfolding placed
placed_local s l base c i f =
    let b : List Float = part l base (words_of s) in
    let A : List Float = word (length c.points) ∷ c.knots in
    let N : List Float = numbers c.points in
    let o : ℕ = s.count + 2 * s.degree + 3 in
    let n : length b ≡ words_of s = length_part l base (words_of s) i.within in
    let a : base + length A ≤ base + o = fits-front s l base i c f in
    let u : o + length N ≤ words_of s = omega (arith, long s l base i c f, room s (length c.points) f.points) in
    let w : base + words_of s ≤ length l = i.within in
    let q : 0 + length A ≤ length b = omega arith in
    let r : length (put b 0 A) ≡ length b = length-put b 0 A q in
    let z : base ≡ base + 0 = omega arith in
    let y : 0 + o ≡ o = omega arith in
    ap (λ (k : List Float). put (put k base A) (base + o) N) (sym (put-part l base (words_of s) w))
    ∙ ap (λ (k : ℕ). put (put (put l base b) k A) (base + o) N) z
    ∙ ap (λ (k : List Float). put k (base + o) N) (put_inside l base b 0 A (omega arith) q)
    ∙ put_inside l base (put b 0 A) o N (omega arith) (omega arith)
    ∙ ap (λ (k : ℕ). put l base (put (put b 0 A) k N)) (sym y)

-- the knots of a slot's piece
pub knots_long : (s : Shape) (l : List Float) (base : ℕ) → Held s l base → length (piece_at s l base).knots ≡ count_at l base + s.degree + 1
knots_long s l base h = (fits-piece s l base h).knots ∙ ap (λ (n : ℕ). n + s.degree + 1) (count-points s l base h)
