-- `all_ordered` equals its definition.
use Rattle.std.proofs.Common.{rules, arith, refl, true, false, ◌≡◌, ℕ, Bool}
use Rattle.std.proofs.lemmas.Iterator.{cases_from_all, YieldsList-from_range}
use Rattle.model.specs.Layout.{scalar_at}
use Rattle.model.specs.Call.{ordered}
use Rattle.geometry.proofs.Lists.Walks.{tab_by, each_below, some_below}
use Rattle.geometry.proofs.call.all_ordered.Goals as goal

pub returns : goal.returns
returns c =
    let g = c.args in
    let test : ℕ → Bool = λ i. ordered (scalar_at g.l.now i) in
    let e = cases_from_all _ _ _ (λ i. test i ≡ true) (λ i. test i ≡ false) c.all.ensures.ran
    (YieldsList-from_range 0 g.n g.n refl (omega arith)) (λ x q k. search rules) (λ x q k. search rules) in
    tab_by ordered g.n (λ j. scalar_at g.l.now j) _ (each_below test _ _ e) (some_below test _ _ e)
