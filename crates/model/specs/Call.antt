-- What the caller lends, the refusals 16 and 1 to 10 in their order, and what a call gives and leaves. Definitions only.
use Rattle.std.specs.Prelude.{ℕ, zero, suc, ◌+◌, ◌*◌, ◌<◌, max, Bool, true, cond, ◌&&◌, ◌||◌, List, [], ◌∷◌, length, get_or, T, leb, eqb, Float}
use Rattle.std.specs.Float.{nan, binary64}
use Rattle.std.specs.Float.Ieee.{fits, lt, le, eq}
use Rattle.lists.specs.Lists.{all, count, cleared}
use Rattle.math.specs.declared.scalars.Scalar.{Scalar}
use Rattle.math.specs.Scalars.{Arithmetic, zero_f}
use Rattle.math.specs.Revision.{arithmetic}
use Rattle.math.specs.Encloses.{is_moderate}
use Rattle.model.specs.NurbCurve.{Piece, weights_positive}
use Rattle.model.specs.Subdivide.{Question, no_counts}
use Rattle.model.specs.Numbers.{refusal_of}
use Rattle.model.specs.Contains.{could_contain}
use Rattle.model.specs.Layout.{scalars_of, points_of, area_words}
use Rattle.model.specs.declared.contains.Found.{Found}
use Rattle.model.specs.declared.contains.Found.TheVariants.{Refused}

-- A curve as it is lent: its knots, and the numbers of its points, lo and hi of each coordinate and, last, of the weight.
pub record Curve : Type 0 where
  pub dim : ℕ
  pub degree : ℕ
  pub count : ℕ
  pub knots : List Float
  pub points : List Float

-- The curve of these arguments.
abbrev pub curve_of : ℕ → ℕ → ℕ → List Float → List Float → Curve
curve_of dim degree count knots points = record { dim = dim; degree = degree; count = count; knots = knots; points = points }

-- What the caller lends (the scope), and the revision that the call names (request E8). Of the work area it is the length alone, so that what it held cannot matter.
pub record Call : Type 0 where
  pub rev : ℕ
  pub curve : Curve
  pub box : List Float
  pub resolution : Float
  pub nodes : ℕ
  -- the length of the work area
  pub work_len : ℕ

-- The call of these arguments.
abbrev pub lent : ℕ → ℕ → ℕ → ℕ → List Float → List Float → List Float → Float → ℕ → ℕ → Call
lent rev dim degree count knots points box resolution nodes work_len = record {
  rev = rev;
  curve = curve_of dim degree count knots points;
  box = box;
  resolution = resolution;
  nodes = nodes;
  work_len = work_len;
}

-- The whole curve, as a piece.
abbrev pub as_piece : Curve → Piece
as_piece v = record { knots = v.knots; points = points_of (suc v.dim) v.count v.points }

-- The box that is lent.
abbrev pub box_of : Call → List Scalar
box_of c = scalars_of c.curve.dim c.box

-- What is asked of the curve.
abbrev pub question : Call → Question
question c = record { dim = c.curve.dim; degree = c.curve.degree; box = box_of c; resolution = c.resolution; nodes = c.nodes }

-- ---- the revision: true where nothing is wrong

-- 16: the revision is 1 or 2.
unfoldable pub revision_fits : ℕ → Bool
revision_fits rev = eqb rev 1 || eqb rev 2

-- The arithmetic that the call names: that of revision 2, or the Rust's.
abbrev pub arithmetic_of : Call → Arithmetic
arithmetic_of c = arithmetic (eqb c.rev 2)

-- ---- the sizes: true where nothing is wrong

-- 1: dim is 2 or 3.
unfoldable pub dim_fits : Curve → Bool
dim_fits v = eqb v.dim 2 || eqb v.dim 3

-- 2: degree is at most 7.
unfoldable pub degree_fits : Curve → Bool
degree_fits v = leb v.degree 7

-- 3: count is from degree + 1 to 32.
unfoldable pub count_fits : Curve → Bool
count_fits v = leb (v.degree + 1) v.count && leb v.count 32

-- ---- the numbers of a curve, with what is lent beside it: `sides` intervals, of which `box` has the lo and the hi
-- (for the search, one for each axis), and a resolution

-- 4: each slice has its length.
unfoldable pub lengths_fit : ℕ → List Float → Curve → Bool
lengths_fit sides box v =
    eqb (length v.knots) (v.count + v.degree + 1)
    && eqb (length v.points) (2 * suc v.dim * v.count)
    && eqb (length box) (2 * sides)

-- Each number of a list is a double, as every f64 is.
abbrev pub AllDoubles : List Float → Type 0
AllDoubles l = (i : ℕ) → i < length l → T (fits binary64 (get_or l i nan))

-- A number, and at most 2 ^ 100 in size: what the laws of `Encloses` ask of a knot.
abbrev pub usable : Float → Bool
usable = is_moderate

-- 5: every number is usable, and the resolution is not below 0.
unfoldable pub numbers_usable : List Float → Float → Curve → Bool
numbers_usable box resolution v =
    all usable v.knots && all usable v.points && all usable box && usable resolution && le zero_f resolution

-- The interval's lo is not above its hi.
abbrev pub ordered : Scalar → Bool
ordered x = le x.lo x.hi

-- 6: no lo is above its hi.
unfoldable pub bounds_ordered : ℕ → List Float → Curve → Bool
bounds_ordered sides box v = all ordered (scalars_of (suc v.dim * v.count) v.points) && all ordered (scalars_of sides box)

-- 7: every weight's lo is above 0.
unfoldable pub weights_fit : Curve → Bool
weights_fit v = weights_positive v.dim (as_piece v).points

-- No knot is below the one before.
unfoldable pub rising : List Float → Bool
rising [] = true
rising (a ∷ []) = true
rising (a ∷ b ∷ l) = le a b && rising (b ∷ l)

-- On a domain from a to b: u occurs at most degree + 1 times if it is an end, at most max(degree, 1) times if it lies strictly inside, and else as often as it likes.
unfoldable pub multiplicity_ok : ℕ → Float → Float → List Float → Float → Bool
multiplicity_ok p a b knots u =
    let times = count (λ v. eq v u) knots in
    cond (eq u a || eq u b) (leb times (p + 1)) (cond (lt a u && lt u b) (leb times (max p 1)) true)

-- No knot falls, the domain's start is below its end, and no value occurs too often.
unfoldable pub knots_valid : ℕ → ℕ → List Float → Bool
knots_valid p n knots =
    let a = get_or knots p nan in
    let b = get_or knots n nan in
    rising knots && lt a b && all (λ u. multiplicity_ok p a b knots u) knots

-- 8: the knots are valid.
unfoldable pub knots_fit : Curve → Bool
knots_fit v = knots_valid v.degree v.count v.knots

-- ---- the nodes and the work area

-- 9: nodes is at most 4,096.
abbrev pub nodes_fit : ℕ → Bool
nodes_fit nodes = leb nodes 4096

-- The scope: how many are the stated words of the work area.
unfoldable pub stated : Call → ℕ
stated c = area_words c.curve.dim c.curve.degree c.curve.count c.nodes

-- 10: the work area is not shorter than its stated words.
unfoldable pub area_fits : Call → Bool
area_fits c = leb (stated c) c.work_len

-- ---- the refusal

-- The number of the first check that fails, counted from n; 0 where none does.
unfoldable pub first_failed : {A : Type 0} → A → ℕ → List (A → Bool) → ℕ
first_failed a n [] = 0
first_failed a n (check ∷ l) = let r = first_failed a (suc n) l in cond (check a) r n

-- The first number, or the second where the first is 0.
unfoldable pub or_else : ℕ → ℕ → ℕ
or_else zero n = n
or_else (suc m) n = suc m

-- 16, or 0 where the revision is 1 or 2.
unfoldable pub revision_refusal : ℕ → ℕ
revision_refusal rev = first_failed rev 16 (revision_fits ∷ [])

-- The number from 1 to 3 by which the sizes of a curve are refused, or 0. The text and `stated_words` look at these alone.
unfoldable pub sizes_refusal : ℕ → ℕ → ℕ → ℕ
sizes_refusal dim degree count = first_failed (curve_of dim degree count [] []) 1 (dim_fits ∷ degree_fits ∷ count_fits ∷ [])

-- The number from 1 to 8 by which a curve is refused, with what is lent beside it, or 0.
unfoldable pub curve_refusal : ℕ → List Float → Float → Curve → ℕ
curve_refusal sides box resolution v =
    or_else (sizes_refusal v.dim v.degree v.count)
    (first_failed v 4 (lengths_fit sides box ∷ numbers_usable box resolution ∷ bounds_ordered sides box ∷ weights_fit ∷ knots_fit ∷ []))

-- The number by which a question is refused, whatever is lent to search it, or 0: 16 first of all;
-- then that of the curve with a side of the box for each axis, then 9.
unfoldable pub question_refusal : ℕ → Curve → List Float → Float → ℕ → ℕ
question_refusal rev v box resolution nodes =
    or_else (revision_refusal rev)
    (or_else (curve_refusal v.dim box resolution v)
    (first_failed nodes 9 (nodes_fit ∷ [])))

-- The number by which the call is refused, or 0: that of its question, then 10.
unfoldable pub refusal : Call → ℕ
refusal c =
    or_else (question_refusal c.rev c.curve c.box c.resolution c.nodes)
    (first_failed c 10 (area_fits ∷ []))

-- The words that a caller has to lend: the stated words, and 0 for sizes that 1, 2, 3 or 9 refuse.
unfoldable pub stated_words : ℕ → ℕ → ℕ → ℕ → ℕ
stated_words dim degree count nodes =
    cond (eqb (sizes_refusal dim degree count) 0 && nodes_fit nodes) (area_words dim degree count nodes) 0

-- ---- what a call gives, and the work area that it leaves

-- The result, where the refusal is known; nothing is counted with a refusal by any number but 11.
unfoldable pub searched_by : Arithmetic → Call → ℕ → Found
searched_by ar c zero = could_contain ar (question c) (as_piece c.curve)
searched_by ar c (suc n) = Refused (refusal_of (suc n)) no_counts

-- The result of a call in an arithmetic.
unfoldable pub searched : Arithmetic → Call → Found
searched ar c = searched_by ar c (refusal c)

-- The answer to a call: the result in the revision that it names.
abbrev pub answer_to : Call → Found
answer_to c = searched (arithmetic_of c) c

-- The work area that is left of `area`, where the refusal is known.
unfoldable pub area_by : Call → List Float → ℕ → List Float
area_by c area zero = cleared area (stated c) zero_f
area_by c area (suc n) = area

-- The work area that a call leaves of `area`, whose length is that of the call: as it was where it is refused by any number but 11; else its stated words are all 0, and the rest is as it was.
unfoldable pub area_after : Call → List Float → List Float
area_after c area = area_by c area (refusal c)
