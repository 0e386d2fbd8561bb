-- `ask_text` keeps a sheet: its answer is that of gripcheck, and `tally` counts it where the text is a question.
use native.Mathlib.Omega.{arith}
use mathlib.Core.Path.{◌≡◌, refl, sym, subst, ◌∙◌}
use mathlib.Core.Bool.{false, false≢true}
use mathlib.Core.List.{◌∷◌}
use Rattle.model.specs.declared.contains.Found.{Found}
use Rattle.text.specs.Question.{reading}
use Rattle.text.specs.Respond.{answered}
use Rattle.text.proofs.respond.Lent.{answer_printable, answer_same}
use Rattle.sheet.specs.Sheet.{Kept, is_twelve}
use Rattle.sheet.proofs.asking.Keeping.{kept_on, text-bounds}
use Rattle.sheet.proofs.asking.Twelve.{twelve-none, none-twelve}
use Rattle.sheet.proofs.asking.Whole.{held_long, held_bytes}
use Rattle.sheet.proofs.asking.ask_text.Goals as goal

pub returns-then-is_twelve : goal.returns-then-is_twelve
returns-then-is_twelve c =
    let A = c.answered-found.ensures in record {
      full = λ h. absurd (omega (arith, c.if-s-ge65535.false, h));
      answers = λ _. A;
      twelve = λ _ _. refl;
      kept = λ _ n _ _. absurd (n (twelve-none c.args.text.now _ A (sym c.is_twelve.ensures ∙ c.if-is_twelve.true)));
    }

pub tally-sheet-requires : goal.tally-sheet-requires
tally-sheet-requires c = answer_printable _ _ c.answered-found.ensures

pub returns : goal.returns
returns c =
    let A = c.answered-found.ensures in
    let f = c.answered-found.result in
    let r = c.tally-sheet.result in
    let held = c.tally-sheet.type_inv.1.1.1.1.1.1.1.0 in
    let other : is_twelve f ≡ false = sym c.is_twelve.ensures ∙ c.if-is_twelve.false in
    let same : f ≡ answered c.args.text.now = unfold answered in answer_same (reading c.args.text.now) f A in record {
      full = λ h. absurd (omega (arith, c.if-s-ge65535.false, h));
      answers = λ _. A;
      twelve = λ _ n. absurd (false≢true (sym other ∙ none-twelve c.args.text.now f A n));
      kept = λ h _ rs K.
          subst (λ (x : Found). Kept r (x ∷ rs)) same
          (kept_on c.args.s r f rs (omega (arith, K.told.questions, h)) K c.tally-sheet.ensures (held_long _ _ held) (held_bytes _ _ held) (text-bounds _ f A));
    }
