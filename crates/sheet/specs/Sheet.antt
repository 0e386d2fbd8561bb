-- Request E13: what a sheet tells of the answers to its questions, and what one question more makes of it. Definitions only.
use Rattle.std.specs.Prelude.{ℕ, ◌+◌, ◌*◌, ◌^◌, ◌≤◌, ◌<◌, ◌≡◌, Bool, true, false, cond, List, [], ◌∷◌, T, ltb, eqb, length, replicate, Float}
use Rattle.std.specs.Float.{binary64}
use Rattle.std.specs.Float.Ieee.{fits, to_bits, le}
use Rattle.lists.specs.Lists.{count}
use Rattle.exact.specs.Rational.{ℚ, 0ℚ, ◌+ℚ◌, ◌-ℚ◌, ◌÷◌}
use Rattle.math.specs.Values.{value}
use Rattle.math.specs.Encloses.{is_moderate}
use Rattle.model.specs.Call.{Call, answer_to}
use Rattle.model.specs.Promise.{Answers}
use Rattle.model.specs.Numbers.{number_of}
use Rattle.model.specs.Subdivide.{no_counts}
use Rattle.model.specs.declared.contains.Found.{Found}
use Rattle.model.specs.declared.refusal.Refusal.TheVariants as reason
use Rattle.model.specs.declared.contains.Found.TheVariants.{Nothing, Enclosed, Spent, Refused}
use Rattle.text.specs.Question.{refused_by, reading}
use Rattle.text.specs.Respond.{answered, AnswersReading}
use Rattle.sheet.specs.Sum.{number, AllBytes, More, Fewer}
use Rattle.sheet.specs.declared.asking.Sheet.{Sheet}
use Rattle.sheet.specs.declared.asking.Answered.{Answered}

-- ---- what is told

-- "How many were none, enclosed, spent and refused": refused by whatever number.
abbrev pub is_none : Found → Bool
is_none (Nothing v) = true
is_none (Enclosed lo hi v) = false
is_none (Spent n v) = false
is_none (Refused e v) = false

abbrev pub is_enclosed : Found → Bool
is_enclosed (Nothing v) = false
is_enclosed (Enclosed lo hi v) = true
is_enclosed (Spent n v) = false
is_enclosed (Refused e v) = false

abbrev pub is_spent : Found → Bool
is_spent (Nothing v) = false
is_spent (Enclosed lo hi v) = false
is_spent (Spent n v) = true
is_spent (Refused e v) = false

abbrev pub is_refused : Found → Bool
is_refused (Nothing v) = false
is_refused (Enclosed lo hi v) = false
is_refused (Spent n v) = false
is_refused (Refused e v) = true

-- hi minus lo of an answer that is enclosed, exactly; any other adds nothing.
unfoldable pub width : Found → ℚ
width (Nothing v) = 0ℚ
width (Enclosed lo hi v) = value hi -ℚ value lo
width (Spent n v) = 0ℚ
width (Refused e v) = 0ℚ

-- "The sum of hi minus lo over the enclosed ones."
unfoldable pub widths : List Found → ℚ
widths [] = 0ℚ
widths (r ∷ rs) = width r +ℚ widths rs

-- What a sheet over questions with these answers tells.
pub record Tells (s : Sheet) (rs : List Found) : Type 0 where
  pub questions : s.questions ≡ length rs
  pub none : s.none ≡ count is_none rs
  pub enclosed : s.enclosed ≡ count is_enclosed rs
  pub spent : s.spent ≡ count is_spent rs
  pub refused : s.refused ≡ count is_refused rs
  -- "That sum is exact, a whole number of units of 2^-1074."
  pub sum : number s.sum ÷ 2 ^ 1074 ≡ widths rs

-- ---- a sheet that is kept

-- "Sheets begun empty": all of it is 0.
abbrev pub empty_sheet : Sheet
empty_sheet = record { questions = 0; none = 0; enclosed = 0; spent = 0; refused = 0; sum = replicate 150 0 }

-- "Sheets begun empty and kept by these calls", over up to 65,535 questions that had these answers, the last of them in front.
pub record Kept (s : Sheet) (rs : List Found) : Type 0 where
  pub told : Tells s rs
  -- "Over up to 65,535 questions"
  pub within : length rs ≤ 65535
  -- The sum is far from the end of its 150 bytes: each answer adds at most 2 ^ 101, which is 2 ^ 1175 units.
  pub long : length s.sum ≡ 150
  pub bytes : AllBytes s.sum
  pub most : number s.sum ≤ count is_enclosed rs * 2 ^ 1175

-- ---- a question

-- A sheet has room for one question more.
abbrev pub Room : Sheet → Type 0
Room s = s.questions < 65535

-- The question c was asked with the sheet s; the call found `before` in its work area and left `after`.
pub record Asks (c : Call) (s : Sheet) (before after : List Float) (r : Answered) : Type 0 where
  -- "Question number 65,536 gets 23, before it is looked at, and the sheet keeps what it had": so does the work area.
  pub full : 65535 ≤ s.questions → (r.found ≡ Refused reason.Sheet no_counts) × (r.sheet ≡ s) × (after ≡ before)
  -- Any other is "a search without a pause", with all that is promised of one,
  pub asked : Room s → Answers c before after r.found
  -- and a sheet that was kept is kept over its answer, too.
  pub kept : Room s → (rs : List Found) → Kept s rs → Kept r.sheet (answer_to c ∷ rs)

-- The text is no question: it is refused by 12.
abbrev pub NoQuestion : List ℕ → Type 0
NoQuestion text = reading text ≡ refused_by 12

-- The text was asked with the sheet s.
pub record AsksText (text : List ℕ) (s : Sheet) (r : Answered) : Type 0 where
  -- "Question number 65,536 gets 23, before it is looked at, and the sheet keeps what it had."
  pub full : 65535 ≤ s.questions → (r.found ≡ Refused reason.Sheet no_counts) × (r.sheet ≡ s)
  -- Any other text has the answer of gripcheck, with all that is promised of it.
  pub answers : Room s → AnswersReading (reading text) r.found
  -- One that is no question leaves the sheet as it was;
  pub twelve : Room s → NoQuestion text → r.sheet ≡ s
  -- over any other a sheet that was kept is kept, too.
  pub kept : Room s → (NoQuestion text → ⊥) → (rs : List Found) → Kept s rs → Kept r.sheet (answered text ∷ rs)

-- Every text that is a question has a call with the same answer: so what is said of sheets over calls holds of sheets over texts. One that is
-- refused when it is read is refused by the same number when it is asked with its sizes and empty slices.
pub record Texts : Type 0 where
  pub calls : (text : List ℕ) → (NoQuestion text → ⊥) → (c : Call) × (answer_to c ≡ answered text)

-- ---- how the code keeps it

-- Refused by 12.
abbrev pub is_twelve : Found → Bool
is_twelve (Nothing v) = false
is_twelve (Enclosed lo hi v) = false
is_twelve (Spent n v) = false
is_twelve (Refused e v) = eqb (number_of e) 12

-- One more, up to what a sheet can count.
abbrev pub one_more : ℕ → ℕ
one_more n = cond (ltb n 65535) (n + 1) n

-- The sum after hi was added and lo taken away, in whole units, from the bits of both: what stood between is `between`.
pub record Widened (l : List ℕ) (lo hi : Float) (m : List ℕ) : Type 0 where
  pub between : List ℕ
  pub more : More l (to_bits binary64 hi) between
  pub fewer : Fewer between (to_bits binary64 lo) m
  pub hi_double : T (fits binary64 hi)
  pub lo_double : T (fits binary64 lo)

-- What an answer does to the sum.
abbrev pub SumAfter : List ℕ → Found → List ℕ → Type 0
SumAfter l (Nothing v) m = m ≡ l
SumAfter l (Enclosed lo hi v) m = Widened l lo hi m
SumAfter l (Spent n v) m = m ≡ l
SumAfter l (Refused e v) m = m ≡ l

-- The sheet r is s with one question more, which had the answer f. This is so of any sheet, and says little of one that was not kept: what does
-- not fit into the sum is lost.
pub record Tallied (s : Sheet) (f : Found) (r : Sheet) : Type 0 where
  pub questions : r.questions ≡ one_more s.questions
  pub none : r.none ≡ cond (is_none f) (one_more s.none) s.none
  pub enclosed : r.enclosed ≡ cond (is_enclosed f) (one_more s.enclosed) s.enclosed
  pub spent : r.spent ≡ cond (is_spent f) (one_more s.spent) s.spent
  pub refused : r.refused ≡ cond (is_refused f) (one_more s.refused) s.refused
  pub sum : SumAfter s.sum f r.sum

-- The bounds of an answer are at most 2 ^ 100 in size, and in order, if it has any.
abbrev pub BoundsKept : Found → Type 0
BoundsKept (Nothing v) = Unit {0}
BoundsKept (Enclosed lo hi v) = T (is_moderate lo) × T (is_moderate hi) × T (le lo hi)
BoundsKept (Spent n v) = Unit {0}
BoundsKept (Refused e v) = Unit {0}
