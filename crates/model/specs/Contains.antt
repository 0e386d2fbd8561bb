-- contains/curve.rs: the clip of a piece, what a visit makes of it, and the search. Definitions only.
use Rattle.std.specs.Prelude.{ℕ, suc, cond, ◌&&◌, List, [], ◌∷◌, map, length, Float}
use Rattle.std.proofs.Math.Option.{Option, none, some}
use Rattle.math.specs.declared.scalars.Scalar.{Scalar}
use Rattle.math.specs.Picks.{max_f}
use Rattle.math.specs.Scalars.{Arithmetic, could_be_equal, intersect_s, width_s}
use Rattle.model.specs.Vector.{Vector, coordinate}
use Rattle.model.specs.NurbCurve.{Piece, start, end, domain, weights_positive}
use Rattle.model.specs.Split.{Halves, uncut, both, split_mid, Restricted, restrict}
use Rattle.model.specs.Aabb.{aabb, could_overlap, could_meet}
use Rattle.model.specs.FatLine.{greville, fat_line_zeros, extent, to_f64, widest, carried_width, restricts, halves}
use Rattle.model.specs.Subdivide.{Question, Visit, dropped, reported, restricted, halved, bad_weight, State, at_depth, no_counts, advance, answered}
use Rattle.model.specs.Hat.{Hat}
use Rattle.std.specs.Prelude.{Some, None}
use Rattle.model.specs.declared.contains.Found.{Found}
use Rattle.model.specs.declared.contains.Found.TheVariants.{Nothing}

-- ---- clip

-- Axis k: the coordinate of each point less e times its weight.
unfoldable pub axis : Arithmetic → ℕ → ℕ → Scalar → List Vector → List Scalar
axis ar dim k e points = map (λ q. ar.sub (coordinate q k) (ar.mul e (coordinate q dim))) points

-- The hat that is left, held to the zeros of one axis more.
unfoldable pub narrowed : Scalar → Hat → Hat
narrowed hat None = None
narrowed hat (Some zeros) = cond (could_be_equal zeros hat) (Some (intersect_s hat zeros)) None

-- The hat that the axes from number k on leave of a hat.
unfoldable pub clip : Arithmetic → ℕ → List Vector → List Scalar → Scalar → ℕ → List Scalar → Hat
clip ar dim points ξ hat k [] = Some hat
clip ar dim points ξ hat k (e ∷ es) =
    elim (narrowed hat (fat_line_zeros ar ξ (axis ar dim k e points))) [ None ↦ None | Some h ↦ clip ar dim points ξ h (suc k) es ]

-- ---- the visit

-- The width that the points carry, or the box's own where it is wider.
unfoldable pub carried : ℕ → List Scalar → List Vector → Float
carried dim box points = max_f (carried_width dim points) (widest (map (λ e. to_f64 (width_s e)) box))

-- A piece that was cut down is handed on. Its weights are tested when both cuts are done (the scope: refusal 11).
unfoldable pub hand_on : ℕ → Restricted → Visit
hand_on dim r = cond (weights_positive dim r.piece.points) (restricted r.cuts r.piece) bad_weight

-- Two halves are handed on, with the weights of both tested. Where there was no cut the hat is reported: a failed halving is no error (the scope).
unfoldable pub hand_both : ℕ → Scalar → Halves → Visit
hand_both dim hat uncut = reported hat
hand_both dim hat (both l r) = cond (weights_positive dim l.points && weights_positive dim r.points) (halved l r) bad_weight

-- With a hat the piece is cut down to it, or else halved, or else reported.
unfoldable pub shrink : Arithmetic → Question → Piece → Hat → Visit
shrink ar q c None = dropped
shrink ar q c (Some hat) =
    let p = q.degree in
    let size = extent q.dim c.points in
    let w = carried q.dim q.box c.points in
    cond (restricts ar (start p c) (end c) hat size w)
    (hand_on q.dim (restrict ar p hat.lo hat.hi c))
    (cond (halves (start p c) (end c) size w q.resolution) (hand_both q.dim hat (split_mid ar p c)) (reported hat))

-- With abscissae the piece is clipped, from its whole domain on; degree 0 has none and reports its domain uncut (the scope).
unfoldable pub clipped : Arithmetic → Question → Piece → Option (List Scalar) → Visit
clipped ar q c none = reported (domain (start q.degree c) (end c))
clipped ar q c (some ξ) = shrink ar q c (clip ar q.dim c.points ξ (domain (start q.degree c) (end c)) 0 q.box)

-- The visit of a piece: one whose box misses is dropped.
unfoldable pub visit : Arithmetic → Question → Piece → Visit
visit ar q c =
    cond (could_overlap (aabb ar q.dim c.points) q.box)
    (clipped ar q c (greville ar q.degree (length c.points) c.knots))
    dropped

-- ---- the search

-- The search begins with the whole curve, of depth 0, nothing counted.
abbrev pub begun : Piece → State
begun c = record { queue = at_depth 0 c ∷ []; counts = no_counts; found = none }

-- curve_could_contain: a box that misses gives nothing, even with nodes 0 (the scope); else the search takes at most all its nodes.
unfoldable pub could_contain : Arithmetic → Question → Piece → Found
could_contain ar q c =
    cond (could_meet ar q.dim q.degree c.points q.box)
    (answered (advance (visit ar q) q.nodes q.nodes (begun c)))
    (Nothing no_counts)
