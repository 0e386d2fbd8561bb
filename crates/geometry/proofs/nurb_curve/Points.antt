-- Points that are lent as numbers: where an interval of a point stands, and that it lies within the list.
use mathlib.Core.Path.{◌≡◌, sym, ap, ◌∙◌}
use mathlib.Core.Bool.{Bool}
use mathlib.Core.List.{List, []}
use Prim.Native.Nat.{ℕ, suc, ◌+◌, ◌*◌, ◌≤◌, ◌<◌}
use native.Mathlib.Omega.{arith}
use lib.ListN.{length, get_or}
use lib.Ieee.{Float, lt}
use Rattle.lists.proofs.Tab.{length-tab, get_or-tab}
use Rattle.math.specs.Scalars.{zero_f, absent}
use Rattle.model.specs.Vector.{Vector, coordinate}
use Rattle.model.specs.Layout.{scalar_at, point_at, points_of}

-- interval k of point i
pub coordinate_is : (dim i k : ℕ) (l : List Float) → k ≤ dim → coordinate (point_at (suc dim) l i) k ≡ scalar_at l (suc dim * i + k)
unfolding point_at
coordinate_is dim i k l h = get_or-tab (suc dim) (λ j. scalar_at l (suc dim * i + j)) k absent (omega arith)

-- as the code counts
pub coordinate_at : (dim i k : ℕ) (l : List Float) → k ≤ dim → scalar_at l ((dim + 1) * i + k) ≡ coordinate (point_at (suc dim) l i) k
coordinate_at dim i k l h = let e : (dim + 1) * i + k ≡ suc dim * i + k = omega arith in ap (scalar_at l) e ∙ sym (coordinate_is dim i k l h)

module _ (D : ℕ) (n : ℕ) (l : List Float) where
  pub length-points : length (points_of D n l) ≡ n
  unfolding points_of
  length-points = length-tab n _

  pub get_or-points : (i : ℕ) → i < n → get_or (points_of D n l) i [] ≡ point_at D l i
  unfolding points_of
  get_or-points i h = get_or-tab n (λ j. point_at D l j) i [] h

-- ---- the test of the weights

-- a point's weight has its lo above zero
abbrev pub heavy : ℕ → Vector → Bool
heavy dim q = lt zero_f (coordinate q dim).lo
