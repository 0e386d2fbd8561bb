-- A visit in two parts: what is to be made of a piece, which needs no cut, and the making of it. Definitions only.
use Rattle.std.specs.Prelude.{ℕ, cond, List, length, Float}
use Rattle.std.proofs.Math.Option.{Option, none, some}
use Rattle.math.specs.declared.scalars.Scalar.{Scalar}
use Rattle.math.specs.Scalars.{Arithmetic}
use Rattle.model.specs.NurbCurve.{Piece, start, end, domain}
use Rattle.model.specs.Split.{split_mid, restrict}
use Rattle.model.specs.Aabb.{aabb, could_overlap}
use Rattle.model.specs.FatLine.{greville, extent, restricts, halves}
use Rattle.model.specs.Subdivide.{Question, Visit, dropped, reported}
use Rattle.model.specs.Contains.{clip, carried, hand_on, hand_both}
use Rattle.model.specs.Hat.{Hat}
use Rattle.std.specs.Prelude.{Some, None}
use Rattle.geometry.specs.declared.visits.Plan.{Plan}
use Rattle.geometry.specs.declared.visits.Plan.TheVariants.{Skip, Report, Restrict, Halve}

-- With a hat, on a domain from a to b: the points are cut down to it, or else halved, or else it is reported.
unfoldable pub plan_hat : Arithmetic → ℕ → List Scalar → Float → Float → Float → List (List Scalar) → Scalar → Plan
plan_hat ar dim box resolution a b points hat =
    let size = extent dim points in
    let w = carried dim box points in
    cond (restricts ar a b hat size w) (Restrict hat) (cond (halves a b size w resolution) (Halve hat) (Report hat))

-- With a hat as for `plan_hat`; a piece without one holds nothing.
unfoldable pub plan_shrink : Arithmetic → ℕ → ℕ → List Scalar → Float → Piece → Hat → Plan
plan_shrink ar dim p box resolution c None = Skip
plan_shrink ar dim p box resolution c (Some hat) = plan_hat ar dim box resolution (start p c) (end c) c.points hat

-- With abscissae the piece is clipped; degree 0 has none and reports its domain.
unfoldable pub plan_clip : Arithmetic → ℕ → ℕ → List Scalar → Float → Piece → Option (List Scalar) → Plan
plan_clip ar dim p box resolution c none = Report (domain (start p c) (end c))
plan_clip ar dim p box resolution c (some ξ) = plan_shrink ar dim p box resolution c (clip ar dim c.points ξ (domain (start p c) (end c)) 0 box)

-- What a visit is to make of a piece: one whose box misses holds nothing.
unfoldable pub planned : Arithmetic → ℕ → ℕ → List Scalar → Float → Piece → Plan
planned ar dim p box resolution c =
    cond (could_overlap (aabb ar dim c.points) box) (plan_clip ar dim p box resolution c (greville ar p (length c.points) c.knots)) Skip

-- The visit that does what a plan says.
unfoldable pub carried_out : Arithmetic → Question → Piece → Plan → Visit
carried_out ar q c Skip = dropped
carried_out ar q c (Report t) = reported t
carried_out ar q c (Restrict hat) = hand_on q.dim (restrict ar q.degree hat.lo hat.hi c)
carried_out ar q c (Halve hat) = hand_both q.dim hat (split_mid ar q.degree c)
