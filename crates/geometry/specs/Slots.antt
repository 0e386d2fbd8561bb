-- How a slot of the work area holds a piece: the number of its points, its knots, and the numbers of its points, each at its place; and, in its last word, its depth. Definitions only.
use Rattle.std.specs.Prelude.{ℕ, suc, ◌+◌, ◌-◌, ◌*◌, ◌≤◌, ◌<◌, ◌≡◌, Bool, true, false, ◌⊎◌, List, [], ◌∷◌, ◌++◌, T, length, drop, get_or, pos, Float}
use Rattle.std.specs.Float.{nan, binary64}
use Rattle.std.specs.Float.Ieee.{of_int, to_unsigned, fits}
use Rattle.lists.specs.Lists.{part, put}
use Rattle.math.specs.declared.scalars.Scalar.{Scalar}
use Rattle.math.specs.Scalars.{Arithmetic}
use Rattle.model.specs.Vector.{Vector, interpolate_v}
use Rattle.model.specs.NurbCurve.{Piece, point, start, end, in_domain}
use Rattle.model.specs.KnotInsertion.{Cut, alpha, blend, triangle, sides, full_cut, left_of, right_of}
use Rattle.model.specs.Split.{Halves, uncut, both, split, from_by, up_to_by, restrict}
use Rattle.model.specs.Layout.{scalars_of, flat, points_of, slot_words}
use Rattle.model.specs.Subdivide.{Waiting, at_depth}
use Rattle.geometry.specs.declared.slots.Shape.{Shape}

-- ---- the places

-- The words of a point: lo and hi of each of its intervals.
abbrev pub point_words : Shape → ℕ
point_words s = 2 * suc s.dim

-- The words of a slot.
abbrev pub words_of : Shape → ℕ
words_of s = slot_words s.dim s.degree s.count

-- Where the knots of the slot at base begin: behind the count.
abbrev pub knots_from : ℕ → ℕ
knots_from base = base + 1

-- Where the points of the slot at base begin: behind the count, and the room for the knots.
abbrev pub points_from : Shape → ℕ → ℕ
points_from s base = base + (s.count + 2 * s.degree + 3)

-- Where point i of the slot at base begins.
unfoldable pub place_of : Shape → ℕ → ℕ → ℕ
place_of s base i = points_from s base + point_words s * i

-- Where the depth of the slot at base stands: in its last word, behind the room for the piece.
abbrev pub depth_from : Shape → ℕ → ℕ
depth_from s base = base + (words_of s - 1)

-- ---- what stands there

-- A count as a word.
unfoldable pub word : ℕ → Float
word n = of_int binary64 (pos n)

-- The count at index i; at the base of a slot it is the number of its points.
unfoldable pub count_at : List Float → ℕ → ℕ
count_at l i = to_unsigned 64 (get_or l i nan)

-- The interval whose lo stands at index a.
abbrev pub scalar_from : List Float → ℕ → Scalar
scalar_from l a = record { lo = get_or l a nan; hi = get_or l (a + 1) nan }

-- The point of D intervals whose numbers begin at index a.
unfoldable pub vector_at : ℕ → List Float → ℕ → Vector
vector_at D l a = scalars_of D (drop a l)

-- The numbers of some points, one point behind the other.
unfoldable pub numbers : List Vector → List Float
numbers [] = []
numbers (q ∷ qs) = flat q ++ numbers qs

-- The knots of the slot at base, where it holds n points.
abbrev pub knots_at : Shape → List Float → ℕ → ℕ → List Float
knots_at s l base n = part l (knots_from base) (n + s.degree + 1)

-- The piece that the slot at base holds.
unfoldable pub piece_at : Shape → List Float → ℕ → Piece
piece_at s l base = record {
  knots = knots_at s l base (count_at l base);
  points = points_of (suc s.dim) (count_at l base) (drop (points_from s base) l);
}

-- The depth of the piece that the slot at base holds.
abbrev pub depth_at : Shape → List Float → ℕ → ℕ
depth_at s l base = count_at l (depth_from s base)

-- The piece that waits in the slot at base.
unfoldable pub waits_at : Shape → List Float → ℕ → Waiting
waits_at s l base = at_depth (depth_at s l base) (piece_at s l base)

-- The memory l with the piece c written into the slot at base, and all else as it was.
unfoldable pub placed : Shape → List Float → ℕ → Piece → List Float
placed s l base c = put (put l base (word (length c.points) ∷ c.knots)) (points_from s base) (numbers c.points)

-- The blend of points j and j + 1 of the slot at base, by the knots of n points.
unfoldable pub blend_at : Arithmetic → Shape → List Float → ℕ → ℕ → Float → ℕ → Vector
blend_at ar s l base n t j =
    blend ar (alpha ar s.degree (knots_at s l base n) t (suc j)) (vector_at (suc s.dim) l (place_of s base j)) (vector_at (suc s.dim) l (place_of s base (suc j)))

-- The point a fraction α of the way from point j to point j + 1 of the slot at base.
unfoldable pub between_at : Arithmetic → Shape → List Float → ℕ → Scalar → ℕ → Vector
between_at ar s l base α j = interpolate_v ar (vector_at (suc s.dim) l (place_of s base j)) (vector_at (suc s.dim) l (place_of s base (suc j))) α

-- The memory l with the two sides of a triangle in the slot at base, in the place of its first degree + 1 points and behind them, and all else as it was.
-- Those points are the triangle's first row, and each row lies a fraction α of the way between the neighbours of the one before.
abbrev pub with_sides : Arithmetic → Shape → List Float → ℕ → Scalar → List Float
with_sides ar s l base α =
    let row = points_of (suc s.dim) (suc s.degree) (drop (points_from s base) l) in
    put l (points_from s base) (numbers (sides (triangle ar α (suc s.degree) row)))

-- ---- what fits

-- Each point has D intervals.
abbrev pub Wide : ℕ → List Vector → Type 0
Wide D points = (i : ℕ) → i < length points → length (point points i) ≡ D

-- The sizes of the scope.
pub record Sized (s : Shape) : Type 0 where
  pub dim : s.dim ≤ 3
  pub degree : s.degree ≤ 7
  pub count : s.count ≤ 32

-- The piece has the knots and the intervals that it should have, and a slot has room for it.
pub record Fits (s : Shape) (c : Piece) : Type 0 where
  pub knots : length c.knots ≡ length c.points + s.degree + 1
  pub points : length c.points ≤ s.count + s.degree + 1
  pub wide : Wide (suc s.dim) c.points

-- The slot at base lies inside the memory.
pub record Inside (s : Shape) (l : List Float) (base : ℕ) : Type 0 where
  pub sized : Sized s
  pub within : base + words_of s ≤ length l

-- The slot at base lies inside the memory, and holds a count that it has room for.
pub record Held (s : Shape) (l : List Float) (base : ℕ) : Type 0 where
  pub inside : Inside s l base
  pub whole : get_or l base nan ≡ word (count_at l base)
  pub room : count_at l base ≤ s.count + s.degree + 1

-- The depth d stands in the slot at base.
abbrev pub DepthIs : Shape → List Float → ℕ → ℕ → Type 0
DepthIs s l base d = get_or l (depth_from s base) nan ≡ word d

-- The slot at base holds a piece, and its depth.
pub record Waits (s : Shape) (l : List Float) (base : ℕ) : Type 0 where
  pub held : Held s l base
  pub deep : DepthIs s l base (depth_at s l base)

-- Two slots that share no word.
abbrev pub Apart : Shape → ℕ → ℕ → Type 0
Apart s a b = (a + words_of s ≤ b) ⊎ (b + words_of s ≤ a)

-- ---- what can be cut

-- The piece has more points than its degree, and no more than the whole curve.
pub record Whole (s : Shape) (c : Piece) : Type 0 where
  pub enough : s.degree < length c.points
  pub bounded : length c.points ≤ s.count

-- The parameter t lies strictly inside the domain of the piece c.
abbrev pub within : ℕ → Piece → Float → Bool
within p c t = in_domain (start p c) (end c) t

-- A piece that a visit can take: it can be cut, and for a degree of at least 1, what a cut at any double leaves right of it can be cut again.
pub record Fit (ar : Arithmetic) (s : Shape) (c : Piece) : Type 0 where
  pub whole : Whole s c
  pub again : 1 ≤ s.degree → (t : Float) → T (fits binary64 t) → Whole s (from_by ar s.degree t c (within s.degree c t)).piece

-- ---- what a cut leaves in the memory (request E6)
-- `memory` is one equation for every word of it, those included that nobody reads again. `others` draws from it that nothing has changed but the slots that were written;
-- where the piece stands in a slot apart from these, it stands there as before.

-- The memory m differs from l in the slot at a alone.
abbrev pub OnlyAt : Shape → List Float → List Float → ℕ → Type 0
OnlyAt s l m a = (i w : ℕ) → (i + w ≤ a) ⊎ (a + words_of s ≤ i) → part m i w ≡ part l i w

-- The cut k is written into the slot at base, and r is the number of the point at which it separates.
pub record CutAt (s : Shape) (l m : List Float) (base : ℕ) (k : Cut) (r : ℕ) : Type 0 where
  pub at : r ≡ k.at
  pub memory : m ≡ placed s l base k.piece
  pub others : OnlyAt s l m base

-- The memory m differs from l in the slots at a and b alone.
abbrev pub OnlyAtBoth : Shape → List Float → List Float → ℕ → ℕ → Type 0
OnlyAtBoth s l m a b =
    (i w : ℕ) → (i + w ≤ a) ⊎ (a + words_of s ≤ i) → (i + w ≤ b) ⊎ (b + words_of s ≤ i) → part m i w ≡ part l i w

-- The slot at base holds the piece c in the memory m.
pub record Holding (s : Shape) (m : List Float) (base : ℕ) (c : Piece) : Type 0 where
  pub held : Held s m base
  pub piece : piece_at s m base ≡ c

-- The slots at a and b hold the halves, where there are any.
abbrev pub HoldingBoth : Shape → List Float → ℕ → ℕ → Halves → Type 0
HoldingBoth s m a b uncut = Unit {0}
HoldingBoth s m a b (both x y) = Holding s m a x × Holding s m b y

-- Whether there was a cut.
unfoldable pub was_cut : Halves → Bool
was_cut uncut = false
was_cut (both x y) = true

-- A split of the piece c writes the cut into the slot at a, what is right of it into the slot at b, and keeps what is left.
unfoldable pub split_into : Arithmetic → Shape → List Float → ℕ → ℕ → Float → Piece → Bool → List Float
split_into ar s l a b t c true = let k = full_cut ar s.degree t c in placed s (placed s (placed s l a k.piece) b (right_of k)) a (left_of s.degree k)
split_into ar s l a b t c false = l

-- What `split` leaves: the memory m, and the result r.
pub record SplitAt (ar : Arithmetic) (s : Shape) (l m : List Float) (a b : ℕ) (t : Float) (c : Piece) (r : Bool) : Type 0 where
  pub cut : r ≡ was_cut (split ar s.degree t c)
  pub memory : m ≡ split_into ar s l a b t c (within s.degree c t)
  pub halves : HoldingBoth s m a b (split ar s.degree t c)
  pub others : OnlyAtBoth s l m a b

-- The slot at a is cut, and of the cut k the part d is kept; or there is no cut.
unfoldable pub keep_into : Shape → List Float → ℕ → Piece → Piece → Bool → List Float
keep_into s l a k d true = placed s (placed s l a k) a d
keep_into s l a k d false = l

-- What is right of t is kept in the slot at a, and r is the number of cuts.
pub record FromAt (ar : Arithmetic) (s : Shape) (l m : List Float) (a : ℕ) (t : Float) (c : Piece) (r : ℕ) : Type 0 where
  pub cuts : r ≡ (from_by ar s.degree t c (within s.degree c t)).cuts
  pub memory : m ≡ keep_into s l a (full_cut ar s.degree t c).piece (right_of (full_cut ar s.degree t c)) (within s.degree c t)

-- What is left of t is kept in the slot at a, and r is the number of cuts.
pub record UpToAt (ar : Arithmetic) (s : Shape) (l m : List Float) (a : ℕ) (t : Float) (c : Piece) (r : ℕ) : Type 0 where
  pub cuts : r ≡ (up_to_by ar s.degree t c (within s.degree c t)).cuts
  pub memory : m ≡ keep_into s l a (full_cut ar s.degree t c).piece (left_of s.degree (full_cut ar s.degree t c)) (within s.degree c t)

-- `restrict` copies the piece c into the slot at a and cuts it there, at lo and then at hi.
unfoldable pub restrict_into : Arithmetic → Shape → List Float → ℕ → Float → Float → Piece → List Float
restrict_into ar s l a lo hi c =
    let p = s.degree in
    let k = full_cut ar p lo c in
    let d = (from_by ar p lo c (within p c lo)).piece in
    let h = full_cut ar p hi d in
    keep_into s (keep_into s (placed s l a c) a k.piece (right_of k) (within p c lo)) a h.piece (left_of p h) (within p d hi)

-- What `restrict` leaves: the memory m, and the number r of cuts, one if lo lies strictly inside the domain, and one more
-- if hi lies strictly inside what is then left; so at most 2.
pub record RestrictAt (ar : Arithmetic) (s : Shape) (l m : List Float) (a : ℕ) (lo hi : Float) (c : Piece) (r : ℕ) : Type 0 where
  pub cuts : r ≡ (restrict ar s.degree lo hi c).cuts
  pub most : r ≤ 2
  pub memory : m ≡ restrict_into ar s l a lo hi c
  pub held : Holding s m a (restrict ar s.degree lo hi c).piece
  pub others : OnlyAt s l m a
