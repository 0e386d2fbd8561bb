-- How the numbers that are lent hold points, and how long a slot of the work area is. Definitions only.
use Rattle.std.specs.Prelude.{ℕ, suc, ◌+◌, ◌*◌, List, [], ◌∷◌, get_or, Float}
use Rattle.std.specs.Float.{nan}
use Rattle.lists.specs.Lists.{tab}
use Rattle.math.specs.declared.scalars.Scalar.{Scalar}
use Rattle.model.specs.Vector.{Vector}

-- Interval number j: its lo and its hi, side by side.
abbrev pub scalar_at : List Float → ℕ → Scalar
scalar_at l j = record { lo = get_or l (2 * j) nan; hi = get_or l (2 * j + 1) nan }

-- The first n intervals.
abbrev pub scalars_of : ℕ → List Float → List Scalar
scalars_of n l = tab n (λ j. scalar_at l j)

-- The numbers of some intervals, lo and hi side by side.
unfoldable pub flat : List Scalar → List Float
flat [] = []
flat (x ∷ xs) = x.lo ∷ x.hi ∷ flat xs

-- Point number i, of D intervals.
unfoldable pub point_at : ℕ → List Float → ℕ → Vector
point_at D l i = tab D (λ k. scalar_at l (D * i + k))

-- The first n points, of D intervals each.
unfoldable pub points_of : ℕ → ℕ → List Float → List Vector
points_of D n l = tab n (λ i. point_at D l i)

-- The scope: W, the words of a slot, for a curve of n points of degree p, with one word for the depth (request E5).
unfoldable pub slot_words : ℕ → ℕ → ℕ → ℕ
slot_words dim p n = 2 * suc dim * (n + p + 1) + 2 * (n + 2 * p + 2) + 1

-- The scope: the stated words of the work area, for so many nodes.
abbrev pub area_words : ℕ → ℕ → ℕ → ℕ → ℕ
area_words dim p n nodes = (nodes + 3) * slot_words dim p n
