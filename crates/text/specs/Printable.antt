-- What the code says of the bytes and the doubles that it writes, and of the answers that it prints. Definitions only.
use Rattle.std.specs.Prelude.{ℕ, ◌+◌, ◌≤◌, ◌<◌, ◌≡◌, Bool, true, not, ◌&&◌, List, length, T, Float}
use Rattle.std.specs.Float.Ieee.{is_nan}
use Rattle.lists.specs.Lists.{put, all}
use Rattle.model.specs.Enclosure.{OfBounds}
use Rattle.std.proofs.Math.Option.{Option, none, some}
use Rattle.math.specs.declared.scalars.Scalar.{Scalar}
use Rattle.model.specs.Paper.{Paper, on_paper, refused, paper}
use Rattle.model.specs.declared.subdivide.Counts.{Counts}
use Rattle.model.specs.declared.contains.Found.{Found}
use Rattle.model.specs.declared.contains.Found.TheVariants.{Nothing, Enclosed, Spent, Refused}
use Rattle.text.specs.Question.{Numbers}

-- The bytes ws were written to the memory l from `at` on, which became m; they end in front of r.
pub record Written (l : List ℕ) (at : ℕ) (ws m : List ℕ) (r : ℕ) : Type 0 where
  pub memory : m ≡ put l at ws
  pub end : r ≡ at + length ws

-- The bytes ws were written, in no more than n bytes, where l has n from `at` on; else nothing was.
pub record WrittenIn (n : ℕ) (l : List ℕ) (at : ℕ) (ws m : List ℕ) (r : ℕ) : Type 0 where
  pub room : at + n ≤ length l → Written l at ws m r × (r ≤ at + n)
  pub short : length l < at + n → (m ≡ l) × (r ≡ at)

-- The double is no NaN, which has no bits of its own to write.
abbrev pub is_number : Float → Bool
is_number x = not (is_nan x)

-- No double of a question is a NaN.
pub record AllNumbers (q : Numbers) : Type 0 where
  pub resolution : T (is_number q.resolution)
  pub knots : all is_number q.knots ≡ true
  pub points : all is_number q.points ≡ true
  pub box : all is_number q.box ≡ true

-- Neither bound of an answer is a NaN.
abbrev pub Printable : Found → Type 0
Printable r = OfBounds (λ x. T (is_number x.lo) × T (is_number x.hi)) (paper r).bounds

-- The same as a test.
abbrev pub is_printable : Found → Bool
is_printable (Nothing v) = true
is_printable (Enclosed lo hi v) = is_number lo && is_number hi
is_printable (Spent n v) = true
is_printable (Refused e v) = true

-- The same of the two bounds that stand on paper.
abbrev pub are_printable : Option Scalar → Bool
are_printable none = true
are_printable (some x) = is_number x.lo && is_number x.hi

-- A refusal by a number, with these counts, on paper.
abbrev pub numbered_paper : ℕ → Counts → Paper
numbered_paper n v = on_paper (refused n) v 0 none
