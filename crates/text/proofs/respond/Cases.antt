-- The answer to a text by cases: a refusal, or the answer of the search; and what is written for it.
use mathlib.Core.Path.{◌≡◌, refl, sym, ap, ◌∙◌, subst}
use Prim.Native.Nat.{ℕ, ◌≤◌, ◌<◌}
use native.Mathlib.Omega.{arith}
use borrow.Author.Tests.{le-leb, lt-leb}
use lib.Dec.{leb}
use mathlib.Core.Bool.{Bool, true, false, ◌&&◌}
use mathlib.Core.List.{List, []}
use Rattle.lists.proofs.Put.{put-nil}
use Rattle.text.specs.Printable.{Written, is_printable, numbered_paper}
use lib.ListN.{length, take}
use lib.Seq.{length-take-le}
use Rattle.math.proofs.Bools.{and_yes, and_no, pick_yes, pick_no}
use Rattle.model.specs.Paper.{paper}
use Rattle.model.specs.declared.contains.Found.{Found}
use Rattle.model.specs.declared.contains.Found.TheVariants.{Nothing, Enclosed, Spent, Refused}
use Rattle.model.specs.declared.subdivide.Counts as Count
use Rattle.text.specs.Question.{reading}
use Rattle.text.specs.Respond.{answered, printed, response, fitting, printed_in, lines_in, AnswersReading, SaysAnswer}
use Rattle.text.specs.Counts.{Counts}
use Rattle.text.proofs.print.Writing.{written-front}
use Rattle.text.proofs.respond.Lent.{answer_same}

-- ---- what is written

-- All of it, where there is room.
pub responds : (text : List ℕ) {l m : List ℕ} (f : Found) {r : ℕ} → AnswersReading (reading text) f → 192 ≤ length l
    → length m ≡ length l → r ≤ 192 → Written l 0 (printed (paper f)) m r
    → Written l 0 (fitting (length l) text) m r × ((192 ≤ length l → SaysAnswer text (take r m)) × Counts r m)
responds text {l} {m} f {r} h room long few w =
    let whole : printed (paper f) ≡ fitting (length l) text =
    same ∙ pick_yes (leb 192 (length l)) (response text) [] (le-leb 192 (length l) room) in (
      subst (λ (x : List ℕ). Written l 0 x m r) whole w,
      ((λ _. record { answer = f; lines = written-front w; keeps = h }), (omega arith, sym (length-take-le r m (omega arith)))),
    )
  where
    same : printed (paper f) ≡ response text
    same = unfold response answered in ap (λ (x : Found). printed (paper x)) (answer_same (reading text) f h)

-- Nothing, where there is not.
pub too_short : (text l : List ℕ) → length l < 192
    → Written l 0 (fitting (length l) text) l 0 × ((192 ≤ length l → SaysAnswer text (take 0 l)) × Counts 0 l)
too_short text l h =
    let nothing : [] ≡ fitting (length l) text =
    pick_no (leb 192 (length l)) (response text) [] (lt-leb 192 (length l) h) in
    let w : Written l 0 [] l 0 = record { memory = sym (put-nil l 0); end = refl } in (
      subst (λ (x : List ℕ). Written l 0 x l 0) nothing w,
      ((λ room. absurd (omega (arith, h, room))), (omega arith, sym (length-take-le 0 l (omega arith)))),
    )

-- ---- the lines of any answer

-- all of them
pub prints : {l m : List ℕ} {r : ℕ} {b : Bool} (f : Found) → 192 ≤ length l → b ≡ is_printable f → b ≡ true → length m ≡ length l → r ≤ 192
    → Written l 0 (printed (paper f)) m r → Written l 0 (printed_in (length l) f) m r × Counts r m
prints {l} {m} {r} f room e h long few w = (
  subst (λ (x : List ℕ). Written l 0 x m r) (pick_yes (leb 192 (length l) && is_printable f) (printed (paper f)) [] both) w,
  (omega arith, sym (length-take-le r m (omega arith))),
)
  where
    both : (leb 192 (length l) && is_printable f) ≡ true
    both = sym (and_yes (leb 192 (length l)) (is_printable f) (le-leb 192 (length l) room)) ∙ sym e ∙ h

-- nothing
no_bytes : (f : Found) (l : List ℕ) → (leb 192 (length l) && is_printable f) ≡ false → Written l 0 (printed_in (length l) f) l 0 × Counts 0 l
no_bytes f l e =
    let w : Written l 0 [] l 0 = record { memory = sym (put-nil l 0); end = refl } in (
      subst (λ (x : List ℕ). Written l 0 x l 0) (pick_no _ (printed (paper f)) [] e) w,
      (omega arith, sym (length-take-le 0 l (omega arith))),
    )

-- those of a refusal by a number, where there is room
pub numbered-there : {l m : List ℕ} {r : ℕ} (n : ℕ) (v : Count.Counts) → 192 ≤ length l → length m ≡ length l → r ≤ 192
    → Written l 0 (printed (numbered_paper n v)) m r → Written l 0 (lines_in (length l) (numbered_paper n v)) m r × Counts r m
numbered-there {l} {m} {r} n v room long few w = (
  subst (λ (x : List ℕ). Written l 0 x m r) (pick_yes (leb 192 (length l) && true) (printed (numbered_paper n v)) [] both) w,
  (omega arith, sym (length-take-le r m (omega arith))),
)
  where
    both : (leb 192 (length l) && true) ≡ true
    both = ap (λ (b : Bool). b && true) (le-leb 192 (length l) room)

-- and where there is not
pub numbered-short : (n : ℕ) (v : Count.Counts) (l : List ℕ) → length l < 192
    → Written l 0 (lines_in (length l) (numbered_paper n v)) l 0 × Counts 0 l
numbered-short n v l h =
    let w : Written l 0 [] l 0 = record { memory = sym (put-nil l 0); end = refl } in (
      subst (λ (x : List ℕ). Written l 0 x l 0) (pick_no (leb 192 (length l) && true) (printed (numbered_paper n v)) [] (ap (λ (b : Bool). b && true) (lt-leb 192 (length l) h))) w,
      (omega arith, sym (length-take-le 0 l (omega arith))),
    )

-- of an answer they are those of what it is on paper
pub found-lines : (n : ℕ) (f : Found) → printed_in n f ≡ lines_in n (paper f)
found-lines n (Nothing v) = refl
found-lines n (Enclosed lo hi v) = refl
found-lines n (Spent k v) = refl
found-lines n (Refused e v) = refl

pub short_none : (f : Found) (l : List ℕ) → length l < 192 → Written l 0 (printed_in (length l) f) l 0 × Counts 0 l
short_none f l h =
    let e = lt-leb 192 (length l) h in
    no_bytes f l (sym (and_no (leb 192 (length l)) (is_printable f) e) ∙ e)

pub prints_none : {b : Bool} (f : Found) (l : List ℕ) → b ≡ is_printable f → b ≡ false → Written l 0 (printed_in (length l) f) l 0 × Counts 0 l
prints_none f l e h = no_bytes f l (by (leb 192 (length l)) (sym e ∙ h))
  where
    by : (t : Bool) → is_printable f ≡ false → (t && is_printable f) ≡ false
    by true z = z
    by false z = refl
