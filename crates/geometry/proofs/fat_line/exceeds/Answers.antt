-- `exceeds` equals its definition: by the squares of the steps where they show it, and else by the length itself.
use mathlib.Core.Path.{sym, subst, ◌∙◌}
use native.Mathlib.Omega.{arith}
use lib.Dec.{T}
use lib.Ieee.{binary64, fits}
use Rattle.geometry.proofs.fat_line.Sizes.{places, places_of}
use Rattle.geometry.proofs.fat_line.PathLength.{exceeds-yes}
use Rattle.geometry.proofs.fat_line.exceeds.Goals as goal

pub returns-then-not-is_nan : goal.returns-then-not-is_nan
returns-then-not-is_nan c =
    let held : T (fits binary64 c.args.limit) = subst T (sym c.well_formed.1.0.1) tt in
    let a = c.args in
    exceeds-yes a.p.dim a.p.count _ (places a.p.dim a.p.words.now) a.limit _ _ (omega arith) (places_of a.p.dim a.p.count a.p.words.now) held
    c.next_up-next.ensures c.steps-s.ensures c.if-next-s.true (sym c.is_nan.ensures.value ∙ c.if-not-is_nan.true)
