-- The one form of a text (request E7): what the writer gives for a question, which texts it refuses, and what it leaves
-- of the bytes that it is lent. Definitions only.
use Rattle.std.specs.Prelude.{ℕ, zero, suc, ◌≡◌, cond, List, [], ◌∷◌, ◌++◌, length, take, drop, leb, Float}
use Rattle.std.specs.Prelude.{Result, Ok, Err}
use Rattle.lists.specs.Lists.{put}
use Rattle.model.specs.Call.{curve_of, question_refusal}
use Rattle.model.specs.Subdivide.{positive_zero}
use Rattle.model.specs.Numbers.{number_of}
use Rattle.model.specs.declared.refusal.Refusal.{Refusal}
use Rattle.model.specs.declared.refusal.Refusal.TheVariants.{Room}
use Rattle.text.specs.Bytes.{bytes}
use Rattle.text.specs.Counts.{Counts}
use Rattle.text.specs.Numerals.{decimal, hexadecimal}
use Rattle.text.specs.Question.{newline, behind, Sizes, point_doubles, Numbers, Reading, refused_by, asks, reading}

-- ---- the lines

-- A line of a key and a small number.
unfoldable pub small_text : List ℕ → ℕ → List ℕ
small_text key n = key ++ decimal n ++ (newline ∷ [])

-- Doubles: "lower-case digits, positive zeros", with a space between two of them and a newline behind the last.
unfoldable pub values_text : List Float → List ℕ
values_text [] = []
values_text (x ∷ xs) = hexadecimal (positive_zero x) ++ (behind (length xs) ∷ values_text xs)

-- A line of a key and doubles.
unfoldable pub line_text : List ℕ → List Float → List ℕ
line_text key xs = key ++ values_text xs

-- k such lines of n doubles each, one behind the other.
unfoldable pub lines_text : List ℕ → ℕ → ℕ → List Float → List ℕ
lines_text key n zero xs = []
lines_text key n (suc k) xs = line_text key (take n xs) ++ lines_text key n k (drop n xs)

-- ---- the text

-- The revision, which is "always put" (request E8), and the sizes.
unfoldable pub sizes_text : ℕ → Sizes → List ℕ
sizes_text rev s =
    small_text (bytes "rev=") rev
    ++ small_text (bytes "dim=") s.dim
    ++ small_text (bytes "degree=") s.degree
    ++ small_text (bytes "count=") s.count

-- The nodes and the resolution.
unfoldable pub limits_text : ℕ → Float → List ℕ
limits_text nodes resolution = small_text (bytes "nodes=") nodes ++ line_text (bytes "resolution=") (resolution ∷ [])

-- The knots, the points and the box.
unfoldable pub shape_text : Sizes → List Float → List Float → List Float → List ℕ
shape_text s knots points box =
    line_text (bytes "knots=") knots
    ++ lines_text (bytes "point=") (point_doubles s) s.count points
    ++ line_text (bytes "box=") box

-- The one form of a question.
unfoldable pub form : ℕ → Sizes → Numbers → List ℕ
form rev s q = sizes_text rev s ++ limits_text q.nodes q.resolution ++ shape_text s q.knots q.points q.box

-- ---- which texts are refused

-- The number by which a question is refused, whatever is lent to search it, or 0.
abbrev pub refusal_of : ℕ → Sizes → Numbers → ℕ
refusal_of rev s q =
    let v = curve_of s.dim s.degree s.count q.knots q.points in
    question_refusal rev v q.box q.resolution q.nodes

-- The question is known, and the refusal that it brings: 5 to 9, since reading has passed 16 and 1 to 3, and a list of
-- another length is 12.
unfoldable pub checked_by : ℕ → Sizes → Numbers → ℕ → Reading
checked_by rev s q zero = asks rev s q
checked_by rev s q (suc r) = refused_by (suc r)

-- After the text was read.
unfoldable pub accepted_by : Reading → Reading
accepted_by (refused_by n) = refused_by n
accepted_by (asks rev s q) = checked_by rev s q (refusal_of rev s q)

-- What a text comes to for the writer: a refusal by one of 1 to 9, 12 and 16, or a question. No area is lent and nothing
-- is searched, so there is no 10 and no 11.
unfoldable pub accepted : List ℕ → Reading
accepted text = accepted_by (reading text)

-- ---- what the writer gives, and what it leaves

-- What the writer gives, with the number of its refusal.
abbrev pub numbered : Result ℕ Refusal → Result ℕ ℕ
numbered (Ok n) = Ok n
numbered (Err e) = Err (number_of e)

-- For the text w, with room for n bytes: how many bytes it has.
-- "A lent output too short gets 15, after all checks of the input".
unfoldable pub count_for : ℕ → List ℕ → Result ℕ Refusal
count_for n w = cond (leb (length w) n) (Ok (length w)) (Err Room)

-- Of the bytes l: they begin with w where it fits; else all of them are as they were.
unfoldable pub output_for : List ℕ → List ℕ → List ℕ
output_for l w = cond (leb (length w) (length l)) (put l 0 w) l

-- What is given for a text that comes to this.
unfoldable pub rewritten_by : ℕ → Reading → Result ℕ ℕ
rewritten_by n (refused_by r) = Err r
rewritten_by n (asks rev s q) = numbered (count_for n (form rev s q))

-- What is left for it: a refusal writes nothing.
unfoldable pub output_by : List ℕ → Reading → List ℕ
output_by l (refused_by r) = l
output_by l (asks rev s q) = output_for l (form rev s q)

-- ---- an answer of the writer on paper

-- What request E7 says of an answer.
pub record OnPaper : Type 0 where
  -- the number of its refusal, 0 where it has none
  pub refused : ℕ
  -- how many bytes were written
  pub written : ℕ

-- Each case of an answer: bytes without a refusal, or a refusal without bytes.
abbrev pub on_paper_of : Result ℕ Refusal → OnPaper
on_paper_of (Ok n) = record { refused = 0; written = n }
on_paper_of (Err e) = record { refused = number_of e; written = 0 }

-- What the paper gives for a text that comes to this, with room for n bytes: the number of its refusal; else 15 where its
-- form is longer than n; else all the bytes of its form.
unfoldable pub on_paper_for : ℕ → Reading → OnPaper
on_paper_for n (refused_by r) = record { refused = r; written = 0 }
on_paper_for n (asks rev s q) =
    let w = length (form rev s q) in
    cond (leb w n) (record { refused = 0; written = w }) (record { refused = 15; written = 0 })

-- ---- what the writer promises

-- The writer, for a text that comes to a, was lent the bytes l, left m and gave r.
pub record Rewrites (a : Reading) (l m : List ℕ) (r : Result ℕ Refusal) : Type 0 where
  -- The answer is the definition's.
  pub result : numbered r ≡ rewritten_by (length l) a
  -- On paper it is the number of the refusal, or else all the bytes of the form.
  pub paper : on_paper_of r ≡ on_paper_for (length l) a
  -- The form stands at the front where it fits; a refusal leaves all bytes as they were.
  pub memory : m ≡ output_by l a

-- A count that it gives is one of bytes at the start of the output.
abbrev pub Within : Result ℕ Refusal → List ℕ → Type 0
Within (Ok n) m = Counts n m
Within (Err e) m = Unit
