-- The zeros by a fat line, over two lists of intervals: what they are for any two lists, and how they are found point by point. Definitions only.
use Rattle.std.specs.Prelude.{ℕ, ◌≡◌, Bool, cond, ◌&&◌, List, map, length, get_or, eqb, ltb}
use Rattle.std.proofs.Math.Option.{some}
use Rattle.math.specs.declared.scalars.Scalar.{Scalar}
use Rattle.math.specs.Divided.{Divided}
use Rattle.std.specs.Prelude.{Some, None}
use Rattle.math.specs.Revision.{arithmetic}
use Rattle.math.specs.Scalars.{Arithmetic, absent, ZERO, ENTIRE, could_be_equal, union_s}
use Rattle.model.specs.FatLine.{offset, crossing, fat_line_zeros}
use Rattle.model.specs.Call.{revision_fits}
use Rattle.model.specs.Paper.{hat_of}
use Rattle.model.specs.Hat.{Hat}
use Rattle.geometry.specs.declared.zeros.Line.{Line}

-- There is a point, and as many abscissae as values.
abbrev pub paired : ℕ → ℕ → Bool
paired m n = eqb m n && ltb 0 n

-- The revision is 1 or 2, and the lists are a polygon.
abbrev pub answerable : ℕ → ℕ → ℕ → Bool
answerable rev m n = revision_fits rev && paired m n

-- Where the spline could be zero whose graph has the control polygon (ξ i, d i), as the search defines it in a revision. Of two lists that are no polygon, and in another revision, nothing is known.
unfoldable pub polygon_zeros : ℕ → List Scalar → List Scalar → Hat
polygon_zeros rev ξ d = cond (answerable rev (length ξ) (length d)) (fat_line_zeros (arithmetic (eqb rev 2)) ξ d) (Some ENTIRE)

-- What `fat_line_zeros` promises of its answer r: it is the definition's, and on paper it is the hat of the search's definition, or the whole line where there is nothing to answer.
pub record ZerosFound (rev : ℕ) (ξ d : List Scalar) (r : Hat) : Type 0 where
  pub result : r ≡ polygon_zeros rev ξ d
  pub paper : hat_of r ≡ cond (answerable rev (length ξ) (length d)) (hat_of (fat_line_zeros (arithmetic (eqb rev 2)) ξ d)) (some ENTIRE)

-- How far each abscissa lies from the first.
unfoldable pub from_first : Arithmetic → List Scalar → List Scalar
from_first ar ξ = map (λ x. ar.sub x (get_or ξ 0 absent)) ξ

-- The chord from a point of value y₀, at a run of x from there.
abbrev pub chord_at : Arithmetic → Scalar → Scalar → Scalar → Scalar
chord_at ar slope y₀ x = ar.add y₀ (ar.mul slope x)

-- How far a point of value y lies off that chord, at a run of x.
abbrev pub off_run : Arithmetic → Scalar → Scalar → Scalar → Scalar → Scalar
off_run ar slope y₀ x y = ar.sub y (chord_at ar slope y₀ x)

-- The zeros where the chord has no slope, of values in this range: anywhere, if some value could be zero.
abbrev pub level_zeros : Scalar → Hat
level_zeros range = cond (could_be_equal range ZERO) (Some ENTIRE) None

-- The zeros where the chord has a slope: nowhere, if the band misses zero from the first point to the last.
abbrev pub sloped_zeros : Arithmetic → Scalar → Scalar → Scalar → Scalar → Scalar → Hat
sloped_zeros ar slope x₀ y₀ last band =
    cond (could_be_equal (ar.add (union_s y₀ last) band) ZERO) (crossing ar x₀ (ar.div (ar.add y₀ band) slope)) None

-- ---- point by point

-- How far a point lies off the chord through (x₀, y₀), or its value where there is no chord.
unfoldable pub off_by : Arithmetic → Divided → Scalar → Scalar → Scalar → Scalar → Scalar
off_by ar None x₀ y₀ x y = y
off_by ar (Some slope) x₀ y₀ x y = offset ar slope x₀ y₀ x y

-- The line from (x₀, y₀) to (x, y), with the first point taken in.
unfoldable pub begun : Arithmetic → Scalar → Scalar → Scalar → Scalar → Line
begun ar x₀ y₀ x y =
    let slope = ar.div (ar.sub y y₀) (ar.sub x x₀) in
    record { x0 = x₀; y0 = y₀; last = y; slope = slope; band = off_by ar slope x₀ y₀ x₀ y₀ }

-- The line with one more point taken in.
unfoldable pub taken : Arithmetic → Line → Scalar → Scalar → Line
taken ar l x y =
    record { x0 = l.x0; y0 = l.y0; last = l.last; slope = l.slope; band = union_s l.band (off_by ar l.slope l.x0 l.y0 x y) }

-- The zeros, once each point is taken in.
unfoldable pub zeros_of : Arithmetic → Scalar → Scalar → Scalar → Scalar → Divided → Hat
zeros_of ar x₀ y₀ last band None = level_zeros band
zeros_of ar x₀ y₀ last band (Some slope) = sloped_zeros ar slope x₀ y₀ last band
