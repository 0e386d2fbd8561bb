-- `ask` keeps a sheet: its answer is that of the search, and `tally` counts it.
use native.Mathlib.Omega.{arith}
use mathlib.Core.Path.{subst}
use mathlib.Core.List.{◌∷◌}
use Rattle.model.specs.declared.contains.Found.{Found}
use Rattle.sheet.specs.Sheet.{Kept}
use Rattle.sheet.proofs.asking.Keeping.{kept_on, bounds_kept}
use Rattle.sheet.proofs.asking.Whole.{held_long, held_bytes}
use Rattle.sheet.proofs.asking.ask.Goals as goal

pub returns : goal.returns
returns c =
    let A = c.curve_could_contain-found.ensures in
    let f = c.curve_could_contain-found.result in
    let r = c.tally-sheet.result in
    let held = c.tally-sheet.type_inv.1.1.1.1.1.1.1.0 in record {
      full = λ h. absurd (omega (arith, c.if-s-ge65535.false, h));
      asked = λ _. A;
      kept = λ h rs K.
          subst (λ (x : Found). Kept r (x ∷ rs)) A.result
          (kept_on c.args.s r f rs (omega (arith, K.told.questions, h)) K c.tally-sheet.ensures (held_long _ _ held) (held_bytes _ _ held) (bounds_kept _ _ _ f A));
    }
