-- What a caller learns from a result. Leans on the contract of the search alone.
use mathlib.Core.Path.{◌≡◌, refl, sym, ap, ◌∙◌, subst}
use mathlib.Core.Bool.{true, false}
use mathlib.Core.List.{List}
use Prim.Native.Nat.{ℕ, zero, suc}
use lib.Ieee.{Float}
use Rattle.math.proofs.Bools.{yes, no}
use Rattle.model.specs.Call.{Call, refusal, arithmetic_of, searched_by, searched, answer_to}
use Rattle.model.specs.Enclosure.{Accepted, HitsEnclosed}
use Rattle.model.specs.declared.subdivide.Counts.{Counts}
use Rattle.model.specs.declared.contains.Found.{Found}
use Rattle.model.specs.declared.contains.Found.TheVariants.{Nothing, Enclosed, Spent, Refused}
use Rattle.model.specs.Promise.{Answers}
use Rattle.clear.specs.Clear.{is_clear, Clears}

-- a refused call does not come out as nothing
pub accepted : (c : Call) (v : Counts) → Nothing v ≡ answer_to c → Accepted c
unfolding searched searched_by is_clear
accepted c v h = go (refusal c) refl h
  where
    go : (n : ℕ) → refusal c ≡ n → Nothing v ≡ searched_by (arithmetic_of c) c n → refusal c ≡ 0
    go zero e h = e
    go (suc n) e h = absurd (no true (ap is_clear h) tt)

-- any other result
pub other : (r : Found) → ((v : Counts) → r ≡ Nothing v → ⊥) → is_clear r ≡ false
unfolding is_clear
other (Nothing v) h = absurd (h v refl)
other (Enclosed lo hi v) h = refl
other (Spent n v) h = refl
other (Refused e v) h = refl

module _ (c : Call) (before after : List Float) (r : Found) (P : Answers c before after r) where
  -- The promises, of the answer that the definition gives.
  same : Answers c before after (answer_to c)
  same = subst (Answers c before after) P.result P

  pub clear : (v : Counts) → r ≡ Nothing v → Clears c before after true
  unfolding is_clear
  clear v e = record {
    result = ap is_clear (sym e ∙ P.result);
    answers = same;
    clear = λ _ t h. subst (HitsEnclosed c) e P.encloses (accepted c v (sym e ∙ P.result)) tt t h;
  }

  pub unclear : (z : Found) → r ≡ z → is_clear z ≡ false → Clears c before after false
  unclear z e f = record { result = sym f ∙ ap is_clear (sym e ∙ P.result); answers = same; clear = λ t. absurd (yes false t) }
