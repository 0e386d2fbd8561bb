-- `sizes_refusal` equals its definition: the first check that fails gives its number.
use mathlib.Core.Path.{◌≡◌, sym, ◌∙◌}
use mathlib.Core.List.{[], ◌∷◌}
use mathlib.Core.Bool.{true, ◌||◌}
use Prim.Native.Nat.{ℕ, ◌≤◌}
use lib.Dec.{eqb}
use borrow.Author.Tests.{le-leb, lt-leb}
use Rattle.model.specs.Call.{curve_of, dim_fits, degree_fits, count_fits, first_failed, sizes_refusal}
use Rattle.model.proofs.Checks.{none_left, pass, fail}
use Rattle.geometry.proofs.call.sizes_refusal.Goals as goal

-- ---- behind each check that is passed, the refusal is that of the checks that are left

past1 : (d p n : ℕ) → (eqb d 2 || eqb d 3) ≡ true → sizes_refusal d p n ≡ first_failed (curve_of d p n [] []) 2 (degree_fits ∷ count_fits ∷ [])
unfolding sizes_refusal dim_fits
past1 d p n h = pass _ 1 dim_fits _ h

past2 : (d p n : ℕ) → (eqb d 2 || eqb d 3) ≡ true → p ≤ 7 → sizes_refusal d p n ≡ first_failed (curve_of d p n [] []) 3 (count_fits ∷ [])
unfolding degree_fits
past2 d p n h k = past1 d p n h ∙ pass _ 2 degree_fits _ (le-leb _ _ k)

-- ---- the answers

pub returns-then-not-dim_fits : goal.returns-then-not-dim_fits
unfolding sizes_refusal dim_fits
returns-then-not-dim_fits c = sym (fail _ 1 dim_fits _ (sym c.dim_fits.ensures ∙ c.if-not-dim_fits.true))

pub returns-then-degree-gt7 : goal.returns-then-degree-gt7
unfolding degree_fits
returns-then-degree-gt7 c = sym (past1 _ _ _ (sym c.dim_fits.ensures ∙ c.if-not-dim_fits.false) ∙ fail _ 2 degree_fits _ (lt-leb _ _ c.if-degree-gt7.true))

pub returns-then-not-count_fits : goal.returns-then-not-count_fits
unfolding count_fits
returns-then-not-count_fits c =
    sym (past2 _ _ _ (sym c.dim_fits.ensures ∙ c.if-not-dim_fits.false) c.if-degree-gt7.false ∙ fail _ 3 count_fits _ (sym c.count_fits.ensures ∙ c.if-not-count_fits.true))

pub returns : goal.returns
unfolding count_fits
returns c =
    sym (past2 _ _ _ (sym c.dim_fits.ensures ∙ c.if-not-dim_fits.false) c.if-degree-gt7.false ∙ pass _ 3 count_fits _ (sym c.count_fits.ensures ∙ c.if-not-count_fits.false) ∙ none_left _ 4)
