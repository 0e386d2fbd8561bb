-- The scope's word, number and values for each case of an answer that is an enum: of the search, and of a clip. (Of a division: crates/math/specs/Paper.antt.) Definitions only.
use Rattle.std.specs.Prelude.{ℕ}
use Rattle.std.proofs.Math.Option.{Option, none, some}
use Rattle.math.specs.declared.scalars.Scalar.{Scalar}
use Rattle.model.specs.declared.subdivide.Counts.{Counts}
use Rattle.model.specs.declared.contains.Found.{Found}
use Rattle.model.specs.declared.contains.Found.TheVariants.{Nothing, Enclosed, Spent, Refused}
use Rattle.model.specs.Numbers.{number_of}
use Rattle.model.specs.Hat.{Hat}
use Rattle.std.specs.Prelude.{Some, None}

-- The word behind `result=`: none, enclosed, spent or refused-N, with the number N of the refusal.
pub data Result : Type 0 where
  None-found enclosed spent : Result
  refused : ℕ → Result

-- What the scope and the requests E2 and E5 say of an answer: the seven values that the program prints.
pub record Paper : Type 0 where
  pub result : Result
  pub visited : ℕ
  pub cuts : ℕ
  pub depth : ℕ
  -- 0 unless spent
  pub pending : ℕ
  -- lo and hi, which are `-` unless enclosed
  pub bounds : Option Scalar

-- An answer with these counts.
abbrev pub on_paper : Result → Counts → ℕ → Option Scalar → Paper
on_paper r v n b = record { result = r; visited = v.visited; cuts = v.cuts; depth = v.depth; pending = n; bounds = b }

-- The answer of a search.
abbrev pub paper : Found → Paper
paper (Nothing v) = on_paper None-found v 0 none
paper (Enclosed lo hi v) = on_paper enclosed v 0 (some (record { lo = lo; hi = hi }))
paper (Spent n v) = on_paper spent v n none
paper (Refused e v) = on_paper (refused (number_of e)) v 0 none

-- What the search counted, of an answer.
abbrev pub counts_of : Paper → Counts
counts_of a = record { visited = a.visited; cuts = a.cuts; depth = a.depth }

-- The answer of a clip: the hat, or no hat, which leaves the visit early.
abbrev pub hat_of : Hat → Option Scalar
hat_of (Some t) = some t
hat_of None = none
