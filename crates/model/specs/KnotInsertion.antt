-- knot_insertion.rs: raising a parameter to full multiplicity, and what is left and right of it. Definitions only.
-- Knots are sharp, so a knot that could equal t is t, and no cut is ambiguous: nothing here fails.
use Rattle.std.specs.Prelude.{ℕ, zero, suc, ◌+◌, ◌-◌, Bool, true, false, cond, not, ◌&&◌, length, get_or, take, drop, replicate, eqb, Float}
use mathlib.Core.List.{List, [], ◌∷◌, ◌++◌, map, reverse, zip_with}
use Rattle.std.specs.Float.Ieee.{lt, eq}
use Rattle.lists.specs.Lists.{tab, last_d, all, count, position}
use Rattle.math.specs.declared.scalars.Scalar.{Scalar}
use Rattle.math.specs.Divided.{Divided}
use Rattle.std.specs.Prelude.{Some, None}
use Rattle.math.specs.Scalars.{Arithmetic, sharp, ZERO, ONE, is_same, value_or}
use Rattle.model.specs.Vector.{Vector, interpolate_v}
use Rattle.model.specs.NurbCurve.{Piece, knot, point}

-- ---- the span of t

-- The parameter t is at or above knot k, and below the next.
abbrev pub holds_at : List Float → Float → ℕ → Bool
holds_at knots t k = not (lt t (knot knots k)) && lt t (knot knots (suc k))

-- Of the n spans from number p on, the highest that holds t; with none it is p.
unfoldable pub highest : List Float → Float → ℕ → ℕ → ℕ
highest knots t p zero = p
highest knots t p (suc n) = let lower = highest knots t p n in cond (holds_at knots t (p + n)) (p + n) lower

-- find_insertion_span: the spans are those numbered degree to count - 1.
unfoldable pub insertion_span : ℕ → ℕ → List Float → Float → ℕ
insertion_span p count knots t = highest knots t p (count - p)

-- ---- Boehm: one insertion

-- How far t lies from knot i to knot i + p: 0 or 1 where t is one of the two, and 1 where their difference may be zero.
unfoldable pub alpha : Arithmetic → ℕ → List Float → Float → ℕ → Scalar
alpha ar p knots t i =
    let a = knot knots i in
    let b = knot knots (i + p) in
    cond (eq a t) ZERO (cond (eq b t) ONE (value_or (ar.div (ar.sub (sharp t) (sharp a)) (ar.sub (sharp b) (sharp a))) ONE))

-- The point a fraction α of the way from a to b, and one of the two, unrounded, where α is 0 or 1.
unfoldable pub blend : Arithmetic → Scalar → Vector → Vector → Vector
blend ar α a b = cond (is_same α ZERO) a (cond (is_same α ONE) b (interpolate_v ar a b α))

-- The knots with t put in behind knot k.
unfoldable pub knots_with : ℕ → Float → List Float → List Float
knots_with k t knots = take (suc k) knots ++ (t ∷ drop (suc k) knots)

-- Points k - p + 1 to k become blends of the old ones, those before stay, and from the old point k on all move up by one.
unfoldable pub points_with : Arithmetic → ℕ → ℕ → Float → List Float → List Vector → List Vector
points_with ar p k t knots points =
    take (suc k - p) points
    ++ (tab p (λ j. blend ar (alpha ar p knots t (suc (k - p + j))) (point points (k - p + j)) (point points (suc (k - p + j))))
    ++ drop k points)

-- insert_once: the piece with t inserted once, in span k. The fractions are those of the knots before the insertion.
unfoldable pub insert_once : Arithmetic → ℕ → ℕ → Float → Piece → Piece
insert_once ar p k t c = record { knots = knots_with k t c.knots; points = points_with ar p k t c.knots c.points }

-- The piece with t inserted n times, each time in the span that then holds it.
unfoldable pub insert_times : Arithmetic → ℕ → Float → ℕ → Piece → Piece
insert_times ar p t zero c = c
insert_times ar p t (suc n) c = insert_times ar p t n (insert_once ar p (insertion_span p (length c.points) c.knots t) t c)

-- ---- de Casteljau: all insertions at once, where the piece is one Bezier span

-- is_bezier_span: degree + 1 points, and only two values among the knots, degree + 1 times each.
unfoldable pub is_bezier : ℕ → ℕ → List Float → Bool
is_bezier p count knots =
    eqb count (suc p)
    && all (λ u. eq u (knot knots 0)) (take (suc p) knots)
    && all (λ u. eq u (knot knots (suc p))) (drop (suc p) knots)

-- The next row of the triangle, with one point less.
unfoldable pub level : Arithmetic → Scalar → List Vector → List Vector
level ar α [] = []
level ar α (q ∷ qs) = zip_with (λ a b. interpolate_v ar a b α) (q ∷ qs) qs

-- The first n rows of the triangle, each from the one before.
unfoldable pub triangle : Arithmetic → Scalar → ℕ → List Vector → List (List Vector)
triangle ar α zero row = []
triangle ar α (suc n) row = row ∷ triangle ar α n (level ar α row)

-- The first points of the rows going down, and the last points of the rows going up again.
unfoldable pub sides : List (List Vector) → List Vector
sides rows = map (λ row. get_or row 0 []) rows ++ reverse (map (λ row. last_d row []) rows)

-- ---- insert_to_full_multiplicity

-- A piece in which t has multiplicity degree + 1, and the number of the point at which it separates.
pub record Cut : Type 0 where
  pub piece : Piece
  pub at : ℕ

-- The knots of a Bezier span from a to b, cut at t.
unfoldable pub bezier_knots : ℕ → Float → Float → Float → List Float
bezier_knots p a t b = replicate (suc p) a ++ (replicate (suc p) t ++ replicate (suc p) b)

-- split_bezier_span: the cut by the triangle, where α says how far t lies along the span.
unfoldable pub bezier_cut : Arithmetic → ℕ → Float → Scalar → Piece → Cut
bezier_cut ar p t α c = record {
  piece = record {
    knots = bezier_knots p (knot c.knots p) t (knot c.knots (suc p));
    points = sides (triangle ar α (suc p) c.points);
  };
  at = suc p;
}

-- How often t occurs among the knots.
abbrev pub multiplicity : Float → List Float → ℕ
multiplicity t knots = count (λ u. eq u t) knots

-- The cut by as many insertions as are missing.
unfoldable pub boehm_cut : Arithmetic → ℕ → Float → Piece → Cut
boehm_cut ar p t c =
    let full = insert_times ar p t (suc p - multiplicity t c.knots) c in
    record { piece = full; at = position (λ u. eq u t) full.knots }

-- The triangle is used where the piece is a Bezier span that t is no knot of, and where it can be said how far t lies along it.
unfoldable pub cut_by : Arithmetic → ℕ → Float → Piece → Bool → Divided → Cut
cut_by ar p t c true (Some α) = bezier_cut ar p t α c
cut_by ar p t c true None = boehm_cut ar p t c
cut_by ar p t c false r = boehm_cut ar p t c

-- The cut at t, which lies strictly inside the domain.
unfoldable pub full_cut : Arithmetic → ℕ → Float → Piece → Cut
full_cut ar p t c =
    let a = sharp (knot c.knots p) in
    let b = sharp (knot c.knots (suc p)) in
    cut_by ar p t c (eqb (multiplicity t c.knots) 0 && is_bezier p (length c.points) c.knots) (ar.div (ar.sub (sharp t) a) (ar.sub b a))

-- What is left of a cut.
abbrev pub left_of : ℕ → Cut → Piece
left_of p k = record { knots = take (k.at + suc p) k.piece.knots; points = take k.at k.piece.points }

-- What is right of a cut.
abbrev pub right_of : Cut → Piece
right_of k = record { knots = drop k.at k.piece.knots; points = drop k.at k.piece.points }
