-- `multiplicities_ok` equals its definition.
use Rattle.std.proofs.Common.{rules, arith, length, true, false, refl, ◌≡◌, ℕ, Bool}
use Rattle.std.proofs.lemmas.Iterator.{cases_from_all, YieldsList-from_range}
use Rattle.geometry.specs.Multiplicity.{multiplicity_ok_at}
use Rattle.geometry.proofs.Lists.Walks.{each_below, some_below}
use Rattle.geometry.proofs.call.Multiplicity.{runs_by}
use Rattle.geometry.proofs.call.multiplicities_ok.Goals as goal

pub returns : goal.returns
returns c =
    let g = c.args in
    let n : ℕ = length g.knots.now in
    let test : ℕ → Bool = multiplicity_ok_at g.degree g.a g.b g.knots.now in
    let e = cases_from_all _ _ _ (λ i. test i ≡ true) (λ i. test i ≡ false) c.all.ensures.ran
    (YieldsList-from_range 0 n n refl (omega arith)) (λ x q k. search rules) (λ x q k. search rules) in
    runs_by g.degree g.a g.b g.knots.now c.requires.1 _ (each_below test _ _ e) (some_below test _ _ e)
