-- The answer to a text, and the seven lines that are printed for it. Definitions only.
use Rattle.std.specs.Prelude.{ℕ, ◌≡◌, cond, ◌&&◌, List, [], ◌++◌, leb, Float}
use Rattle.std.proofs.Math.Option.{Option, none, some}
use Rattle.math.specs.declared.scalars.Scalar.{Scalar}
use Rattle.model.specs.Call.{answer_to, area_after}
use Rattle.model.specs.Paper.{Result, None-found, enclosed, spent, refused, Paper, on_paper, paper}
use Rattle.model.specs.Promise.{Answers}
use Rattle.model.specs.Numbers.{number_of, refusal_of}
use Rattle.model.specs.Subdivide.{no_counts}
use Rattle.model.specs.declared.refusal.Refusal.{Refusal}
use Rattle.model.specs.declared.subdivide.Counts.{Counts}
use Rattle.model.specs.declared.contains.Found.{Found}
use Rattle.model.specs.declared.contains.Found.TheVariants.{Refused}
use Rattle.text.specs.Bytes.{bytes}
use Rattle.text.specs.Numerals.{decimal, hexadecimal}
use Rattle.text.specs.Printable.{is_printable, are_printable}
use Rattle.text.specs.Question.{Reading, refused_by, asks, call_of, reading}

-- The answer to what was read: "A refusal other than 11 prints visited=0", cuts=0 (request E2) and depth=0 (request E5).
unfoldable pub answered_by : Reading → Found
answered_by (refused_by n) = Refused (refusal_of n) no_counts
answered_by (asks rev s q) = answer_to (call_of rev s q)

-- The answer to a text.
unfoldable pub answered : List ℕ → Found
answered text = answered_by (reading text)

-- "`result` is none, enclosed, spent or refused-N"
unfoldable pub result_word : Result → List ℕ
result_word None-found = bytes "none"
result_word enclosed = bytes "enclosed"
result_word spent = bytes "spent"
result_word (refused n) = bytes "refused-" ++ decimal n

-- "lo and hi are `-` unless enclosed"
unfoldable pub bound_lines : Option Scalar → List ℕ
bound_lines none = bytes "lo=-\nhi=-\n"
bound_lines (some x) = bytes "lo=" ++ hexadecimal x.lo ++ bytes "\nhi=" ++ hexadecimal x.hi ++ bytes "\n"

-- The lines of the counts, with the end of the line before them: cuts (request E2) and depth (request E5) stand between the two of the scope.
unfoldable pub count_lines : Paper → List ℕ
count_lines a =
    (bytes "\nvisited=" ++ decimal a.visited)
    ++ (bytes "\ncuts=" ++ decimal a.cuts)
    ++ (bytes "\ndepth=" ++ decimal a.depth)
    ++ (bytes "\npending=" ++ decimal a.pending)
    ++ bytes "\n"

-- The seven lines.
unfoldable pub printed : Paper → List ℕ
printed a = bytes "result=" ++ result_word a.result ++ count_lines a ++ bound_lines a.bounds

-- Of an answer with these counts, what the lines of the counts are made of.
abbrev pub counted : Counts → ℕ → Paper
counted v n = on_paper None-found v n none

-- What the program writes for a text.
unfoldable pub response : List ℕ → List ℕ
response text = printed (paper (answered text))

-- What is written of it where there are n bytes for it: all of it, or nothing where they are fewer than 192.
abbrev pub fitting : ℕ → List ℕ → List ℕ
fitting n text = cond (leb 192 n) (response text) []

-- What is written of the lines of an answer where there are n bytes for them: nothing where they are fewer than 192, or where a bound is a NaN.
abbrev pub printed_in : ℕ → Found → List ℕ
printed_in n f = cond (leb 192 n && is_printable f) (printed (paper f)) []

-- The same of what stands on paper: of an answer f it is `printed_in` (law `found-lines`).
abbrev pub lines_in : ℕ → Paper → List ℕ
lines_in n a = cond (leb 192 n && are_printable a.bounds) (printed a) []

-- ---- what the answer keeps

-- The answer r to what was read keeps its promises: a refusal is the one of that number, with nothing counted; and the
-- answer to a question keeps every promise of the search, in the words of `Answers`. The work area is the program's own
-- and nobody sees it: so they hold whatever it held.
abbrev pub AnswersReading : Reading → Found → Type 0
AnswersReading (refused_by n) r = (e : Refusal) × (number_of e ≡ n) × (r ≡ Refused e no_counts)
AnswersReading (asks rev s q) r = let c = call_of rev s q in (before : List Float) → Answers c before (area_after c before) r

-- The bytes w say an answer to the text, which keeps its promises.
pub record SaysAnswer (text w : List ℕ) : Type 0 where
  pub answer : Found
  -- The bytes are its seven lines.
  pub lines : w ≡ printed (paper answer)
  -- Where the text reads as a call, the answer keeps every promise of `Answers`, demand 3 among them: of a search that completes,
  -- no exact hit lies outside the bounds that these lines say.
  pub keeps : AnswersReading (reading text) answer
