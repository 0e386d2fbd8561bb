-- The search as the Rust's debug build has it, and the law that it says the same (request E14). Definitions only.
-- The definitions of Vector to Call again, under the same names, with every interval made by an operation of Tested; where the Rust branches before it forms one, so does this.
-- Other files call this one `debug`: `debug.visit` is `visit` with the tests. It forms the Rust's intervals, and these besides: those that are lent, first of all; a value that
-- the Rust already holds as an interval of that one value, as a knot, again where it is used (`tested.sharp`); and the box of a piece, which the Rust keeps, again in its visit.
-- In what order they are formed differs at places (a box is made axis by axis), which is no matter: the first test that fires ends it all.
use Rattle.std.specs.Prelude.{ℕ, zero, suc, ◌+◌, ◌-◌, ◌*◌, ◌≡◌, Bool, true, false, cond, not, ◌&&◌, ◌||◌, List, [], ◌∷◌, ◌++◌, length, get_or, take, drop, eqb, pos, Float}
use Rattle.std.proofs.Math.Option.{Option, none, some}
use Rattle.std.specs.Float.{binary64}
use Rattle.std.specs.Float.Ieee.{eq, of_int}
use Rattle.lists.specs.Lists.{last_d, all, position}
use Rattle.math.specs.declared.scalars.Scalar.{Scalar}
use Rattle.math.specs.Divided.{Divided}
use Rattle.std.specs.Prelude.{Some, None}
use Rattle.math.specs.Scalars.{geop, sharp, absent, ZERO, ONE, TWO, ENTIRE, could_be_equal, definitely_greater, definitely_less, is_same, has_zero, value_or, middle}
use Rattle.model.specs.Tested as tested
use Rattle.model.specs.Tested.{Tested, fine, ◌>>=◌}
use Rattle.model.specs.Vector.{Vector, coordinate}
use Rattle.model.specs.NurbCurve.{Piece, knot, point, start, end, in_domain}
use Rattle.model.specs.KnotInsertion.{insertion_span, knots_with, is_bezier, sides, Cut, bezier_knots, multiplicity, left_of, right_of}
use Rattle.model.specs.Split.{Halves, uncut, both, Restricted}
use Rattle.model.specs.Aabb.{could_overlap}
use Rattle.model.specs.FatLine.{window, extent}
use Rattle.model.specs.Subdivide as subdivide
use Rattle.model.specs.Subdivide.{Question, Visit, dropped, reported, restricted, halved, bad_weight, Waiting, State, Step, going, over, no_counts, with_visit, complete, ended, stop, answered}
use Rattle.model.specs.Contains as contains
use Rattle.model.specs.Contains.{begun}
use Rattle.model.specs.Layout.{scalars_of}
use Rattle.model.specs.Call as call
use Rattle.model.specs.Call.{Call, as_piece, box_of, question, refusal}
use Rattle.model.specs.Enclosure.{Doubles, Accepted}
use Rattle.model.specs.Numbers.{refusal_of}
use Rattle.model.specs.Hat.{Hat}
use Rattle.model.specs.declared.subdivide.Counts.{Counts}
use Rattle.model.specs.declared.contains.Found.{Found}
use Rattle.model.specs.declared.contains.Found.TheVariants.{Nothing, Refused}

-- ---- vector/mod.rs, nurb_curve/mod.rs

-- Vector::interpolate
unfoldable pub interpolate_v : Vector → Vector → Scalar → Tested Vector
interpolate_v a b t = tested.zip (λ x y. tested.interpolate x y t) a b

-- domain_as_scalar. The two knots are intervals already; here they are formed again.
unfoldable pub domain : Float → Float → Tested Scalar
domain a b = do tested.union (← tested.sharp a) (← tested.sharp b)

-- mid_parameter: `sharpen` forms the interval of the middle. The two knots are formed again.
unfoldable pub mid_parameter : Float → Float → Tested Float
mid_parameter a b = do
  q ← tested.div (← tested.add (← tested.sharp a) (← tested.sharp b)) TWO
  m ← tested.sharp (middle (value_or q ENTIRE))
  fine m.lo

-- ---- aabb.rs

-- A fold by `union`, from the first on.
unfoldable pub unions : List Scalar → Tested Scalar
unions [] = fine ENTIRE
unions (x ∷ xs) = tested.fold tested.union x xs

-- A coordinate over its weight.
unfoldable pub place : ℕ → ℕ → Vector → Tested Scalar
place dim k q = do fine (value_or (← tested.div (coordinate q k) (coordinate q dim)) ENTIRE)

-- compute_aabb, of points whose weights are above zero.
unfoldable pub aabb : ℕ → List Vector → Tested (List Scalar)
aabb dim points = tested.tab dim (λ k. do unions (← tested.map (λ q. place dim k q) points))

-- The points before the first whose weight could be zero.
unfoldable pub before : ℕ → List Vector → List Vector
before dim [] = []
before dim (q ∷ qs) = let l = before dim qs in cond (has_zero (coordinate q dim)) [] (q ∷ l)

-- compute_aabb, of points that a cut made: false where a weight could be zero. At the first such weight the Rust panics, which is refusal 11; what comes before it is formed.
unfoldable pub boxed : ℕ → List Vector → Tested Bool
boxed dim points = do
  _ ← aabb dim (before dim points)
  fine (all (λ q. not (has_zero (coordinate q dim))) points)

-- The union of both quotients.
unfoldable pub along_by : Divided → Divided → Tested Hat
along_by None t = fine None
along_by (Some s) None = fine None
along_by (Some s) (Some t) = do fine (Some (← tested.union s t))

-- Where along the segment the axis lies in e. A segment that may not move along this axis is passed over before any quotient is formed.
unfoldable pub along : Scalar → Scalar → Scalar → Tested Hat
along e a b = do
  d ← tested.sub b a
  cond (could_be_equal d ZERO) (fine None) (do
    s ← tested.div (← tested.sub (← tested.sharp e.lo) a) d
    t ← tested.div (← tested.sub (← tested.sharp e.hi) a) d
    along_by s t)

-- Axis by axis: what is left of the range is met with what the axis leaves.
unfoldable pub meets : ℕ → Vector → Vector → Scalar → ℕ → List Scalar → Tested Bool
meets dim a b range k [] = fine true
meets dim a b range k (e ∷ es) = do
  t ← along e (← place dim k a) (← place dim k b)
  elim t [
    | None ↦ meets dim a b range (suc k) es
    | Some t ↦ elim (could_be_equal t range) [ true ↦ (do meets dim a b (← tested.intersect t range) (suc k) es) | false ↦ fine false ]
  ]

-- curve_could_meet_aabb. The Rust has the box from `try_new`.
unfoldable pub could_meet : ℕ → ℕ → List Vector → List Scalar → Tested Bool
could_meet dim p points box = do
  b ← aabb dim points
  let segment = (do meets dim (point points 0) (point points 1) (← tested.union ZERO ONE) 0 box)
  cond (could_overlap b box) (cond (eqb p 1 && eqb (length points) 2) segment (fine true)) (fine false)

-- ---- knot_insertion.rs

-- insert_once, its fractions. The denominator comes first, whatever t is. The knots and t are formed again.
unfoldable pub alpha : ℕ → List Float → Float → ℕ → Tested Scalar
alpha p knots t i = do
  let a = knot knots i
  let b = knot knots (i + p)
  d ← tested.sub (← tested.sharp b) (← tested.sharp a)
  cond (eq a t) (fine ZERO) (cond (eq b t || could_be_equal d ZERO) (fine ONE)
      (do fine (value_or (← tested.div (← tested.sub (← tested.sharp t) (← tested.sharp a)) d) ONE)))

-- insert_once, one new point.
unfoldable pub blend : Scalar → Vector → Vector → Tested Vector
blend α a b = cond (is_same α ZERO) (fine a) (cond (is_same α ONE) (fine b) (interpolate_v a b α))

-- insert_once, all its new points.
unfoldable pub points_with : ℕ → ℕ → Float → List Float → List Vector → Tested (List Vector)
points_with p k t knots points = do
  new ← tested.tab p (λ j. do blend (← alpha p knots t (suc (k - p + j))) (point points (k - p + j)) (point points (suc (k - p + j))))
  fine (take (suc k - p) points ++ (new ++ drop k points))

-- insert_once
unfoldable pub insert_once : ℕ → ℕ → Float → Piece → Tested Piece
insert_once p k t c = do
  new ← points_with p k t c.knots c.points
  fine (record { knots = knots_with k t c.knots; points = new })

-- insert_to_full_multiplicity, its loop.
unfoldable pub insert_times : ℕ → Float → ℕ → Piece → Tested Piece
insert_times p t zero c = fine c
insert_times p t (suc n) c = do insert_times p t n (← insert_once p (insertion_span p (length c.points) c.knots t) t c)

-- split_bezier_span, the next row of its triangle.
unfoldable pub level : Scalar → List Vector → Tested (List Vector)
level α [] = fine []
level α (q ∷ qs) = tested.zip (λ a b. interpolate_v a b α) (q ∷ qs) qs

-- split_bezier_span, all rows of it.
unfoldable pub triangle : Scalar → ℕ → List Vector → Tested (List (List Vector))
triangle α zero row = fine []
triangle α (suc n) row = do
  rows ← triangle α n (← level α row)
  fine (row ∷ rows)

-- split_bezier_span, once the fraction is known.
unfoldable pub bezier_cut : ℕ → Float → Scalar → Piece → Tested Cut
bezier_cut p t α c = do
  rows ← triangle α (suc p) c.points
  fine (record {
    piece = record { knots = bezier_knots p (knot c.knots p) t (knot c.knots (suc p)); points = sides rows };
    at = suc p;
  })

-- insert_to_full_multiplicity, by as many insertions as are missing.
unfoldable pub boehm_cut : ℕ → Float → Piece → Tested Cut
boehm_cut p t c = do
  full ← insert_times p t (suc p - multiplicity t c.knots) c
  fine (record { piece = full; at = position (λ u. eq u t) full.knots })

-- Where the fraction cannot be computed, Boehm's insertions are used.
unfoldable pub cut_by : ℕ → Float → Piece → Divided → Tested Cut
cut_by p t c (Some α) = bezier_cut p t α c
cut_by p t c None = boehm_cut p t c

-- insert_to_full_multiplicity: of a Bezier span that t is no knot of, the fraction is computed first. Its knots and t are formed again.
unfoldable pub full_cut : ℕ → Float → Piece → Tested Cut
full_cut p t c =
    let a = knot c.knots p in
    let b = knot c.knots (suc p) in
    cond (eqb (multiplicity t c.knots) 0 && is_bezier p (length c.points) c.knots)
    (do cut_by p t c (← tested.div (← tested.sub (← tested.sharp t) (← tested.sharp a)) (← tested.sub (← tested.sharp b) (← tested.sharp a))))
    (boehm_cut p t c)

-- ---- nurb_curve/split.rs

-- split_mid; the boxes of the halves are made in `hand_both`.
unfoldable pub split_mid : ℕ → Piece → Tested Halves
split_mid p c = do
  t ← mid_parameter (start p c) (end c)
  cond (in_domain (start p c) (end c) t) (do
    k ← full_cut p t c
    fine (both (left_of p k) (right_of k))) (fine uncut)

-- knot_insertion::restrict, its first half: what is right of t.
unfoldable pub from : ℕ → Float → Piece → Tested Restricted
from p t c =
    cond (in_domain (start p c) (end c) t) (do
      k ← full_cut p t c
      fine (record { piece = right_of k; cuts = 1 })) (fine (record { piece = c; cuts = 0 }))

-- knot_insertion::restrict, its second half: what is left of t.
unfoldable pub up_to : ℕ → Float → Piece → Tested Restricted
up_to p t c =
    cond (in_domain (start p c) (end c) t) (do
      k ← full_cut p t c
      fine (record { piece = left_of p k; cuts = 1 })) (fine (record { piece = c; cuts = 0 }))

-- sub_curve, from `lower` to `upper` of the hat; the box of what is left is made in `hand_on`.
unfoldable pub restrict : ℕ → Float → Float → Piece → Tested Restricted
restrict p lo hi c = do
  l ← tested.sharp lo
  h ← tested.sharp hi
  a ← from p l.lo c
  b ← up_to p h.lo a.piece
  fine (record { piece = b.piece; cuts = a.cuts + b.cuts })

-- ---- fat_line.rs

-- greville_abscissae, one of them. The knots are formed again, and the degree for each of them: the Rust forms it once.
unfoldable pub abscissa : ℕ → List Float → Tested Scalar
abscissa p knots = do
  s ← tested.fold (λ s u. do tested.add s (← tested.sharp u)) ZERO knots
  fine (value_or (← tested.div s (← tested.sharp (of_int binary64 (pos p)))) ENTIRE)

-- greville_abscissae: one for each point; degree 0 has none.
unfoldable pub greville : ℕ → ℕ → List Float → Tested (Option (List Scalar))
greville zero count knots = fine none
greville (suc p) count knots = do fine (some (← tested.tab count (λ i. abscissa (suc p) (window (suc p) knots i))))

-- fat_line_zeros, how far a point lies off the chord.
unfoldable pub offset : Scalar → Scalar → Scalar → Scalar → Scalar → Tested Scalar
offset slope ξ₀ d₀ ξ d = do tested.sub d (← tested.add d₀ (← tested.mul slope (← tested.sub ξ ξ₀)))

-- fat_line_zeros, where the band crosses zero.
unfoldable pub crossing : Scalar → Divided → Tested Hat
crossing ξ₀ (Some q) = do fine (Some (← tested.sub ξ₀ q))
crossing ξ₀ None = fine (Some ENTIRE)

-- fat_line_zeros, once the slope is known, or is known to have failed.
unfoldable pub zeros_by : List Scalar → List Scalar → Scalar → Scalar → Divided → Tested Hat
zeros_by ξ d ξ₀ d₀ None = do
  range ← unions d
  fine (cond (could_be_equal range ZERO) (Some ENTIRE) None)
zeros_by ξ d ξ₀ d₀ (Some slope) = do
  band ← unions (← tested.zip (λ x y. offset slope ξ₀ d₀ x y) ξ d)
  reach ← tested.add (← tested.union d₀ (last_d d absent)) band
  cond (could_be_equal reach ZERO) (do crossing ξ₀ (← tested.div (← tested.add d₀ band) slope)) (fine None)

-- fat_line_zeros
unfoldable pub fat_line_zeros : List Scalar → List Scalar → Tested Hat
fat_line_zeros ξ d = do
  let ξ₀ = get_or ξ 0 absent
  let d₀ = get_or d 0 absent
  zeros_by ξ d ξ₀ d₀ (← tested.div (← tested.sub (last_d d absent) d₀) (← tested.sub (last_d ξ absent) ξ₀))

-- carried_width and the box's own: each width is an interval; what is made of them is a plain double.
unfoldable pub carried : ℕ → List Scalar → List Vector → Tested Float
carried dim box points = do
  _ ← tested.map tested.width box
  _ ← tested.map (λ q. tested.tab dim (λ k. tested.width (coordinate q k))) points
  fine (contains.carried dim box points)

-- restriction
unfoldable pub restricts : Float → Float → Scalar → Float → Float → Tested Bool
restricts a b hat size carried = do
  s ← tested.sharp size
  c ← tested.sharp carried
  cond (definitely_greater s c) (do
    most ← tested.mul (← tested.width (← domain a b)) (← tested.four_fifths)
    w ← tested.width hat
    cond (definitely_less w most) (do
      l ← tested.sharp hat.lo
      cond (in_domain a b l.lo) (fine true) (do
        h ← tested.sharp hat.hi
        fine (in_domain a b h.lo))) (fine false)) (fine false)

-- stalled. The resolution is formed again.
unfoldable pub halves : Float → Float → Float → Float → Float → Tested Bool
halves a b size carried resolution = do
  limit ← tested.sharp (← tested.union (← tested.sharp carried) (← tested.sharp resolution)).hi
  s ← tested.sharp size
  cond (definitely_greater s limit) (do
    s ← tested.sharp size
    c ← tested.sharp carried
    cond (definitely_greater s c) (do
      w ← tested.width (← domain a b)
      fine (definitely_greater w (sharp resolution))) (fine false)) (fine false)

-- ---- contains/curve.rs

-- clip, the values of one axis.
unfoldable pub axis : ℕ → ℕ → Scalar → List Vector → Tested (List Scalar)
axis dim k e points = tested.map (λ q. do tested.sub (coordinate q k) (← tested.mul e (coordinate q dim))) points

-- clip, one axis: the hat met with the zeros.
unfoldable pub narrowed : Scalar → Hat → Tested Hat
narrowed hat None = fine None
narrowed hat (Some zeros) = cond (could_be_equal zeros hat) (do fine (Some (← tested.intersect hat zeros))) (fine None)

-- clip, the axes from number k on.
unfoldable pub clip : ℕ → List Vector → List Scalar → Scalar → ℕ → List Scalar → Tested Hat
clip dim points ξ hat k [] = fine (Some hat)
clip dim points ξ hat k (e ∷ es) = do
  h ← narrowed hat (← fat_line_zeros ξ (← axis dim k e points))
  elim h [ None ↦ fine None | Some h ↦ clip dim points ξ h (suc k) es ]

-- The box of a piece is made when the piece is: at the end of sub_curve.
unfoldable pub hand_on : ℕ → Restricted → Tested Visit
hand_on dim r = do
  ok ← boxed dim r.piece.points
  fine (cond ok (restricted r.cuts r.piece) bad_weight)

-- For both halves at the end of split: the left one first, and where it panics the right one is not made.
unfoldable pub hand_both : ℕ → Scalar → Halves → Tested Visit
hand_both dim hat uncut = fine (reported hat)
hand_both dim hat (both l r) = do
  ok ← boxed dim l.points
  cond ok (do
    ok ← boxed dim r.points
    fine (cond ok (halved l r) bad_weight)) (fine bad_weight)

-- The visit, once there is a hat or none.
unfoldable pub shrink : Question → Piece → Hat → Tested Visit
shrink q c None = fine dropped
shrink q c (Some hat) = do
  let p = q.degree
  let size = extent q.dim c.points
  w ← carried q.dim q.box c.points
  r ← restricts (start p c) (end c) hat size w
  cond r (do hand_on q.dim (← restrict p hat.lo hat.hi c)) (do
    h ← halves (start p c) (end c) size w q.resolution
    cond h (do hand_both q.dim hat (← split_mid p c)) (fine (reported hat)))

-- The visit, once the abscissae are known; degree 0 reports its domain.
unfoldable pub clipped : Question → Piece → Option (List Scalar) → Tested Visit
clipped q c none = do fine (reported (← domain (start q.degree c) (end c)))
clipped q c (some ξ) = do shrink q c (← clip q.dim c.points ξ (← domain (start q.degree c) (end c)) 0 q.box)

-- The visit of a piece: what curve_could_contain hands to subdivide. The Rust has kept its box from when the piece was made; here it is made again.
unfoldable pub visit : Question → Piece → Tested Visit
visit q c = do
  b ← aabb q.dim c.points
  cond (could_overlap b q.box) (do clipped q c (← greville q.degree (length c.points) c.knots)) (fine dropped)

-- The union of what is reported.
unfoldable pub joined : Option Scalar → Scalar → Tested Scalar
joined none t = fine t
joined (some s) t = tested.union s t

-- ---- solvers/subdivide.rs, which forms no interval of its own; the union of reports, which a visit of the Rust makes, is in `after` as in Subdivide

-- What a visit leaves.
unfoldable pub after : List Waiting → ℕ → Counts → Option Scalar → Visit → Tested Step
after cs d v f dropped = fine (subdivide.after cs d v f dropped)
after cs d v f (reported t) = do fine (going (record { queue = cs; counts = v; found = some (← joined f t) }))
after cs d v f (restricted n c) = fine (subdivide.after cs d v f (restricted n c))
after cs d v f (halved l r) = fine (subdivide.after cs d v f (halved l r))
after cs d v f bad_weight = fine (subdivide.after cs d v f bad_weight)

-- The visit of the first piece that waits.
unfoldable pub step : (Piece → Tested Visit) → List Waiting → Counts → Option Scalar → Tested Step
step visit [] v f = fine (over (complete f v))
step visit (c ∷ cs) v f = do after cs c.depth (with_visit c.depth v) f (← visit c.piece)

-- At most k visits.
unfoldable pub advance : (Piece → Tested Visit) → ℕ → ℕ → State → Tested Step
advance visit nodes zero s = fine (stop s (ended nodes s.queue s.counts s.found))
advance visit nodes (suc k) s =
    elim (ended nodes s.queue s.counts s.found) [
      | some r ↦ fine (over r)
      | none ↦ (do
        t ← step visit s.queue s.counts s.found
        elim t [ over r ↦ fine (over r) | going s' ↦ advance visit nodes k s' ])
    ]

-- ---- the search

-- curve_could_contain
unfoldable pub could_contain : Question → Piece → Tested Found
could_contain q c = do
  m ← could_meet q.dim q.degree c.points q.box
  cond m (do fine (answered (← advance (visit q) q.nodes q.nodes (begun c)))) (fine (Nothing no_counts))

-- Of a call that is refused by 16 or by 1 to 10 nothing is formed; of any other, first the intervals that are lent: points, box, knots and resolution.
unfoldable pub searched_by : Call → ℕ → Tested Found
searched_by c zero = do
  _ ← tested.map (λ x. tested.formed x.lo x.hi) (scalars_of (suc c.curve.dim * c.curve.count) c.curve.points)
  _ ← tested.map (λ x. tested.formed x.lo x.hi) (box_of c)
  _ ← tested.map tested.sharp c.curve.knots
  _ ← tested.sharp c.resolution
  could_contain (question c) (as_piece c.curve)
searched_by c (suc n) = fine (Refused (refusal_of (suc n)) no_counts)

-- The result of a call.
unfoldable pub searched : Call → Tested Found
searched c = searched_by c (refusal c)

-- ---- request E14

-- With the tests the call comes to the answer r: no test has fired.
abbrev pub DebugSays : Call → Found → Type 0
DebugSays c r = searched c ≡ fine r

-- "No accepted search, begun on its own curve, forms an interval with lo above hi or a NaN bound, up to its result or refusal 11": of every call, whose knots and box are doubles
-- if it is accepted, the search with the tests says what the search without them says.
pub record NeverFires : Type 0 where
  pub same : (c : Call) → (Accepted c → Doubles c) → DebugSays c (call.searched geop c)
