-- An answer to a text is refused by 12 just where the text is no question: a search is refused by none but 16, 1 to 10 and 11. Leans on who refuses by which number (crates/model).
use Prim.Native.Nat.{ℕ}
use native.Mathlib.Omega.{arith}
use mathlib.Core.Path.{◌≡◌, sym, ap, ◌∙◌, subst}
use mathlib.Core.Bool.{true}
use mathlib.Core.Logic.{◌⊎◌, inl, inr}
use mathlib.Core.List.{List, []}
use lib.Dec.{T, eqb, eqb→eq}
use Rattle.math.proofs.Bools.{yes}
use Rattle.model.specs.Call.{Call, arithmetic_of, answer_to}
use Rattle.model.specs.Paper.{paper}
use Rattle.model.specs.Refusals.{OfQuestion}
use Rattle.model.specs.Numbers.{number_of}
use Rattle.model.specs.declared.contains.Found.{Found}
use Rattle.model.specs.declared.contains.Found.TheVariants.{Nothing, Enclosed, Spent, Refused}
use Rattle.model.proofs.Refusals.{any-refusals}
use Rattle.text.specs.Question.{Reading, refused_by, asks, call_of, reading}
use Rattle.text.specs.Respond.{AnswersReading}
use Rattle.sheet.specs.Sheet.{NoQuestion, is_twelve}

-- The numbers by which a search refuses.
abbrev OfSearch : ℕ → Type 0
OfSearch n = OfQuestion n ⊎ ((n ≡ 10) ⊎ (n ≡ 11))

-- 12 is none of them
not-of-search : OfSearch 12 → ⊥
not-of-search (inl (inl h)) = omega (arith, h.1)
not-of-search (inl (inr h)) = omega (arith, h)
not-of-search (inr (inl h)) = omega (arith, h)
not-of-search (inr (inr h)) = omega (arith, h)

-- so no answer to a call is refused by it
search-not-twelve : (c : Call) (f : Found) → f ≡ answer_to c → T (is_twelve f) → ⊥
search-not-twelve c (Nothing v) e t = t
search-not-twelve c (Enclosed lo hi v) e t = t
search-not-twelve c (Spent n v) e t = t
search-not-twelve c (Refused r v) e t =
    let number : OfSearch (number_of r) = (any-refusals (arithmetic_of c)).any c (number_of r) (sym (ap (λ (f : Found). (paper f).result) e)) in
    not-of-search (subst OfSearch (eqb→eq (number_of r) 12 t) number)

-- an answer that is refused by 12 is that to a text that is no question
pub twelve-none : (text : List ℕ) (f : Found) → AnswersReading (reading text) f → is_twelve f ≡ true → NoQuestion text
twelve-none text f A e = by (reading text) A
  where
    by : (a : Reading) → AnswersReading a f → a ≡ refused_by 12
    by (refused_by n) (r, number, h) = ap refused_by (sym number ∙ eqb→eq (number_of r) 12 (yes _ (sym (ap is_twelve h) ∙ e)))
    by (asks rev s q) h = absurd (search-not-twelve (call_of rev s q) f (h []).result (yes _ e))

-- and an answer to such a text is refused by 12
pub none-twelve : (text : List ℕ) (f : Found) → AnswersReading (reading text) f → NoQuestion text → is_twelve f ≡ true
none-twelve text f A e = by (subst (λ (a : Reading). AnswersReading a f) e A)
  where
    by : AnswersReading (refused_by 12) f → is_twelve f ≡ true
    by (r, number, h) = ap is_twelve h ∙ ap (λ (n : ℕ). eqb n 12) number
