-- `put_result` writes the word of its case, and behind the last one the number of the refusal.
use Rattle.text.proofs.print.Writing.{joined, written_as}
use Rattle.text.specs.Bytes.{bytes}
use Rattle.text.specs.Numerals.{decimal}
use Rattle.text.specs.Printable.{Written}
use Rattle.text.specs.Respond.{result_word}
use Rattle.model.specs.Paper.{paper}
use Rattle.model.specs.declared.contains.Found.{Found}
use mathlib.Core.List.{List}
use mathlib.Core.Path.{◌≡◌, subst}
use Prim.Native.Nat.{ℕ}
use native.Mathlib.Omega.{arith}
use Rattle.text.proofs.print.put_result.Goals as goal

-- What is to be written for an answer.
abbrev word : Found → List ℕ
word f = result_word (paper f).result

-- A number that was written was written for its equal.
same_number : {l m : List ℕ} {at r n k : ℕ} → n ≡ k → Written l at (decimal n) m r → Written l at (decimal k) m r
same_number {l} {m} {at} {r} e w = subst (λ (x : ℕ). Written l at (decimal x) m r) e w

pub returns-in-Nothing : goal.returns-in-Nothing
unfolding result_word bytes
returns-in-Nothing c =
    let w = c.put_word.ensures in
    written_as word c.in-Nothing.is w (omega (arith, w.end))

pub returns-in-Enclosed : goal.returns-in-Enclosed
unfolding result_word bytes
returns-in-Enclosed c =
    let w = c.put_word-in-Enclosed.ensures in
    written_as word c.in-Enclosed.is w (omega (arith, w.end))

pub returns-in-Spent : goal.returns-in-Spent
unfolding result_word bytes
returns-in-Spent c =
    let w = c.put_word-in-Spent.ensures in
    written_as word c.in-Spent.is w (omega (arith, w.end))

pub returns-in-Refused : goal.returns-in-Refused
unfolding result_word bytes
returns-in-Refused c =
    let w = c.put_word-i.ensures in
    let d = c.put_decimal.ensures in
    written_as word c.in-Refused.is (joined (omega (arith, w.end)) w (same_number c.number.ensures d.0))
    (omega (arith, w.end, d.1))
