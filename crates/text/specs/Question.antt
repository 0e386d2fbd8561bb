-- The text of a question (the scope, 'The program gripcheck'; request E8): its lines, and when it is refused by 16, by 1, 2, 3 or by 12.
-- Definitions only.
use Rattle.std.specs.Prelude.{ℕ, zero, suc, ◌+◌, ◌*◌, cond, ◌&&◌, List, [], ◌∷◌, ◌++◌, length, get_or, leb, eqb, Float}
use Rattle.std.specs.Float.{nan}
use Rattle.model.specs.Call.{Call, lent, revision_refusal, sizes_refusal}
use Rattle.text.specs.Bytes.{bytes, Read, bad, got, then, word}
use Rattle.text.specs.Numerals.{small, double}
pub use Rattle.text.specs.declared.cursor.Sizes.{Sizes}

-- ---- lines

-- "each line ends in a newline"
abbrev pub newline : ℕ
newline = 10

-- "One space between values"
abbrev pub space : ℕ
space = 32

-- A line of a key and a small number.
unfoldable pub small_line : List ℕ → List ℕ → Read ℕ
small_line key t =
    then (word key t) (λ _ a.
    then (small a) (λ n b.
    then (word (newline ∷ []) b) (λ _ rest.
    got n rest)))

-- What stands behind a value, where so many follow it.
abbrev pub behind : ℕ → ℕ
behind zero = newline
behind (suc n) = space

-- n doubles, with a space between two of them and a newline behind the last.
unfoldable pub values : ℕ → List ℕ → Read (List Float)
values zero t = got [] t
values (suc n) t =
    then (double t) (λ x a.
    then (word (behind n ∷ []) a) (λ _ b.
    then (values n b) (λ xs rest.
    got (x ∷ xs) rest)))

-- A line of a key and n doubles.
unfoldable pub line : List ℕ → ℕ → List ℕ → Read (List Float)
line key n t = then (word key t) (λ _ a. values n a)

-- k such lines, one behind the other.
unfoldable pub lines : List ℕ → ℕ → ℕ → List ℕ → Read (List Float)
lines key n zero t = got [] t
lines key n (suc k) t = then (line key n t) (λ xs a. then (lines key n k a) (λ ys rest. got (xs ++ ys) rest))

-- ---- the line of the revision

-- Whether the text begins with its key is known: then it is read, and else it is revision 1.
unfoldable pub revision_by : List ℕ → Read (Unit {0}) → Read ℕ
revision_by t bad = got 1 t
revision_by t (got _ rest) = small_line (bytes "rev=") t

-- "A new first line `rev=1` or `rev=2`; a text without it is revision 1" (request E8).
unfoldable pub revision : List ℕ → Read ℕ
revision t = revision_by t (word (bytes "rev=") t)

-- ---- the three lines behind it

-- The sizes that are these numbers.
abbrev pub sizes_of : ℕ → ℕ → ℕ → Sizes
sizes_of dim degree count = record { dim = dim; degree = degree; count = count }

-- The three lines.
unfoldable pub sizes : List ℕ → Read Sizes
sizes t =
    then (small_line (bytes "dim=") t) (λ dim a.
    then (small_line (bytes "degree=") a) (λ degree b.
    then (small_line (bytes "count=") b) (λ count rest.
    got (sizes_of dim degree count) rest)))

-- ---- the other lines

-- How many doubles the line of the knots has.
abbrev pub knot_doubles : Sizes → ℕ
knot_doubles s = s.count + s.degree + 1

-- How many the line of a point has.
abbrev pub point_doubles : Sizes → ℕ
point_doubles s = 2 * suc s.dim

-- How many the line of the box has.
abbrev pub box_doubles : Sizes → ℕ
box_doubles s = 2 * s.dim

-- What the other lines say.
pub record Numbers : Type 0 where
  pub nodes : ℕ
  pub resolution : Float
  pub knots : List Float
  pub points : List Float
  pub box : List Float

-- The other lines, in their order.
unfoldable pub numbers : Sizes → List ℕ → Read Numbers
numbers s t =
    then (small_line (bytes "nodes=") t) (λ nodes a.
    then (line (bytes "resolution=") 1 a) (λ resolution b.
    then (line (bytes "knots=") (knot_doubles s) b) (λ knots c.
    then (lines (bytes "point=") (point_doubles s) s.count c) (λ points d.
    then (line (bytes "box=") (box_doubles s) d) (λ box rest.
    got (record {
      nodes = nodes;
      resolution = get_or resolution 0 nan;
      knots = knots;
      points = points;
      box = box;
    }) rest)))))

-- ---- the whole text

-- What a text comes to: the number of a refusal, or a question.
pub data Reading : Type 0 where
  refused_by : ℕ → Reading
  -- in a revision
  asks : ℕ → Sizes → Numbers → Reading

-- The call that is made of a question. The program "lends 8,192 numbers".
abbrev pub call_of : ℕ → Sizes → Numbers → Call
call_of rev s q =
    lent rev s.dim s.degree s.count q.knots q.points q.box q.resolution q.nodes 8192

-- The other lines, of a text of n bytes: "12: the text is not of the form below, or is over 65,536 bytes."
unfoldable pub complete_by : ℕ → Sizes → ℕ → Read Numbers → Reading
complete_by rev s n bad = refused_by 12
complete_by rev s n (got q rest) = cond (leb n 65536 && eqb (length rest) 0) (asks rev s q) (refused_by 12)

-- The sizes are known, and the refusal that they bring:
-- "It comes before 4 to 10; numbers 1 to 3 come as soon as the first three lines are read", which stand behind the line of the revision, if there is one (request E8).
unfoldable pub opened_by : ℕ → Sizes → ℕ → List ℕ → ℕ → Reading
opened_by rev s n rest zero = complete_by rev s n (numbers s rest)
opened_by rev s n rest (suc r) = refused_by (suc r)

-- After the three lines of the sizes.
unfoldable pub read_by : ℕ → ℕ → Read Sizes → Reading
read_by rev n bad = refused_by 12
read_by rev n (got s rest) = opened_by rev s n rest (sizes_refusal s.dim s.degree s.count)

-- The revision is known, and the refusal that it brings: "another revision number gets 16 .. in a text this comes after its line" (request E8).
unfoldable pub named_by : ℕ → ℕ → List ℕ → ℕ → Reading
named_by rev n rest zero = read_by rev n (sizes rest)
named_by rev n rest (suc r) = refused_by (suc r)

-- After the line of the revision.
unfoldable pub begun_by : ℕ → Read ℕ → Reading
begun_by n bad = refused_by 12
begun_by n (got rev rest) = named_by rev n rest (revision_refusal rev)

-- What a text comes to.
unfoldable pub reading : List ℕ → Reading
reading text = begun_by (length text) (revision text)
