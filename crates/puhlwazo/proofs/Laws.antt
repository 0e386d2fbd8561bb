-- What is handed out for an answer keeps what the answer keeps. Assumes nothing.
use Prim.Native.Nat.{ℕ}
use mathlib.Core.Path.{◌≡◌, refl, sym, ◌∙◌, ap, subst}
use mathlib.Core.List.{List}
use lib.Ieee.{Float}
use Rattle.model.specs.declared.refusal.Refusal.{Refusal}
use Rattle.model.specs.declared.contains.Found.{Found}
use Rattle.model.specs.declared.contains.Found.TheVariants.{Nothing, Enclosed, Spent, Refused}
use Rattle.model.proofs.Numbers.{refusal-of-number}
use Rattle.puhlwazo.specs.Answers.{number_of, counts_of, bounds_of, read_back, HandsOut}

-- What is given out can be read back.
read_back_lem : (f : Found) → f ≡ read_back (number_of f) (counts_of f) (bounds_of f)
unfolding counts_of bounds_of
read_back_lem (Nothing v) = refl
read_back_lem (Enclosed lo hi v) = refl
read_back_lem (Spent n v) = refl
read_back_lem (Refused e v) = ap (λ (x : Refusal). Refused x v) (sym (refusal-of-number e))

-- The words of f are those of the answer r that it equals, and read back they keep what f keeps.
pub handed : {r : Found} {Keeps : Found → Type 0} {f : Found} {number : ℕ} {counts : List ℕ} {bounds : List Float}
    → number ≡ number_of f → counts ≡ counts_of f → bounds ≡ bounds_of f → f ≡ r → Keeps f → HandsOut r Keeps number counts bounds
handed {Keeps = Keeps} {f = f} n k b e keeps = record {
  of_number = n ∙ ap number_of e;
  of_counts = k ∙ ap counts_of e;
  of_bounds = b ∙ ap bounds_of e;
  answers = subst Keeps (read_back_lem f ∙ (λ i. read_back (sym n i) (sym k i) (sym b i))) keeps;
}
