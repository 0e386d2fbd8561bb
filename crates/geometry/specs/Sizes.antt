-- Sizes by their squares, with no root taken, and how a point's place, as three doubles, is read as a list. Definitions only.
use Rattle.std.specs.Prelude.{ℕ, take, Float}
use mathlib.Core.List.{List, [], ◌∷◌, map, zip_with}
use Rattle.std.specs.Float.{binary64}
use Rattle.std.specs.Float.Ieee.{add, sub}
use Rattle.lists.specs.Lists.{foldl}
use Rattle.math.specs.Picks.{max_f}
use Rattle.math.specs.Scalars.{zero_f}
use Rattle.model.specs.Vector.{Vector}
use Rattle.model.specs.FatLine.{cartesian, square}
use Rattle.geometry.specs.declared.fat_line.Position.{Position}
use Rattle.geometry.specs.declared.fat_line.Squares.{Squares}

-- The first dim numbers of a place, for a dim of at most 3.
abbrev pub position_of : ℕ → Position → List Float
position_of dim c = take dim (c.x ∷ c.y ∷ c.z ∷ [])

-- The square of the distance from a to b, as `distance` has it before the root.
unfoldable pub squared : List Float → List Float → Float
squared a b = foldl (λ s x. add binary64 s x) zero_f (zip_with (λ x y. square (sub binary64 y x)) a b)

-- The squares of the distances from a to the first place, and from each place to the next.
unfoldable pub squares_from : List Float → List (List Float) → List Float
squares_from a [] = []
squares_from a (b ∷ bs) = squared a b ∷ squares_from b bs

-- The squares of the distances from each place to the next.
unfoldable pub squares : List (List Float) → List Float
squares [] = []
squares (a ∷ l) = squares_from a l

-- Their sum, and the greatest of them.
unfoldable pub steps : ℕ → List Vector → Squares
steps dim points =
    let l = squares (map (λ q. cartesian dim q) points) in
    record { total = foldl (λ s x. add binary64 s x) zero_f l; top = foldl max_f zero_f l }
