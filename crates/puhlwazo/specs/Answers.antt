-- What the library gives out for an answer, in numbers alone, and what it promises of them. Definitions only.
use Rattle.std.specs.Prelude.{ℕ, zero, suc, ◌≡◌, List, [], ◌∷◌, get_or, Float}
use Rattle.std.specs.Float.{nan}
use Rattle.math.specs.Scalars.{zero_f}
use Rattle.model.specs.Numbers as numbers
use Rattle.model.specs.Numbers.{refusal_of}
use Rattle.model.specs.declared.subdivide.Counts.{Counts}
use Rattle.model.specs.declared.contains.Found.{Found}
use Rattle.model.specs.declared.contains.Found.TheVariants.{Nothing, Enclosed, Spent, Refused}

-- ---- from an answer to numbers

-- The number of the refusal, and 0 where there is none.
abbrev pub number_of : Found → ℕ
number_of (Nothing v) = 0
number_of (Enclosed lo hi v) = 0
number_of (Spent n v) = 0
number_of (Refused e v) = numbers.number_of e

-- The kind of the answer (0 none, 1 enclosed, 2 spent, 3 refused), visited, pending, which is 0 unless spent, cuts, and depth.
unfoldable pub counts_of : Found → List ℕ
counts_of (Nothing v) = 0 ∷ v.visited ∷ 0 ∷ v.cuts ∷ v.depth ∷ []
counts_of (Enclosed lo hi v) = 1 ∷ v.visited ∷ 0 ∷ v.cuts ∷ v.depth ∷ []
counts_of (Spent n v) = 2 ∷ v.visited ∷ n ∷ v.cuts ∷ v.depth ∷ []
counts_of (Refused e v) = 3 ∷ v.visited ∷ 0 ∷ v.cuts ∷ v.depth ∷ []

-- lo and hi, and 0 twice unless enclosed.
unfoldable pub bounds_of : Found → List Float
bounds_of (Nothing v) = zero_f ∷ zero_f ∷ []
bounds_of (Enclosed lo hi v) = lo ∷ hi ∷ []
bounds_of (Spent n v) = zero_f ∷ zero_f ∷ []
bounds_of (Refused e v) = zero_f ∷ zero_f ∷ []

-- ---- and back

-- The answer of this kind.
abbrev pub of_kind : ℕ → ℕ → ℕ → Counts → Float → Float → Found
of_kind zero number pending v lo hi = Nothing v
of_kind (suc zero) number pending v lo hi = Enclosed lo hi v
of_kind (suc (suc zero)) number pending v lo hi = Spent pending v
of_kind (suc (suc (suc k))) number pending v lo hi = Refused (refusal_of number) v

-- What the search counted, read off the words.
abbrev pub counts_in : List ℕ → Counts
counts_in counts = record { visited = get_or counts 1 0; cuts = get_or counts 3 0; depth = get_or counts 4 0 }

-- The answer that a caller reads off the numbers that it was given.
abbrev pub read_back : ℕ → List ℕ → List Float → Found
read_back number counts bounds =
    of_kind (get_or counts 0 0) number (get_or counts 2 0) (counts_in counts) (get_or bounds 0 nan) (get_or bounds 1 nan)

-- ---- the promises

-- These numbers are given out for the answer r, of which `Keeps` is promised.
pub record HandsOut (r : Found) (Keeps : Found → Type 0) (number : ℕ) (counts : List ℕ) (bounds : List Float) : Type 0 where
  -- Each word is that of the answer, those included that mean nothing for its kind.
  pub of_number : number ≡ number_of r
  pub of_counts : counts ≡ counts_of r
  pub of_bounds : bounds ≡ bounds_of r
  -- The answer that a caller reads off them keeps what is promised.
  pub answers : Keeps (read_back number counts bounds)
