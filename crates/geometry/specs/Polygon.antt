-- The control points of a piece, as the code lends them. Definitions only.
use Rattle.std.specs.Prelude.{ℕ, suc, List}
use Rattle.model.specs.Vector.{Vector}
use Rattle.model.specs.Layout.{point_at, points_of}
use Rattle.geometry.specs.declared.nurb_curve.Polygon.{Polygon}

-- point i
abbrev pub vector : Polygon → ℕ → Vector
vector p i = point_at (suc p.dim) p.words.now i

-- all of them
abbrev pub vectors : Polygon → List Vector
vectors p = points_of (suc p.dim) p.count p.words.now
