-- What a text comes to, by cases: which line is bad, or refused, or all of them are read.
use mathlib.Core.Path.{◌≡◌, refl, sym, ap, ◌∙◌, subst}
use mathlib.Core.Bool.{Bool, true, false, cond, ◌&&◌}
use mathlib.Core.List.{List}
use Prim.Native.Nat.{ℕ, zero, suc, ◌≤◌, ◌<◌}
use borrow.Author.Tests.{le-leb, lt-leb}
use lib.Dec.{leb, eqb}
use lib.ListN.{length}
use lib.Ieee.{Float}
use Rattle.model.specs.Call.{revision_refusal, sizes_refusal}
use Rattle.std.specs.Borrow.{Bor}
use Rattle.std.specs.Prelude.{Option, Some, None, Result, Ok, Err, IsErrAnd}
use Rattle.model.specs.declared.refusal.Refusal.{Refusal}
use Rattle.text.specs.Bytes.{Read}
use Rattle.text.specs.Question.{revision, Sizes, sizes, Numbers, numbers}
use Rattle.text.specs.Question.{Reading, refused_by, asks, complete_by, opened_by, read_by, named_by, begun_by, reading}
use Rattle.text.specs.Cursor.{Small, read_of, SmallRead, NumbersAt, NumbersRead, question_in, TextRead}
use Rattle.text.specs.declared.cursor.Asked.{Asked}
use Rattle.text.proofs.question.Words.{nothing_read, was_read}
use Rattle.text.proofs.reading.Back.{numbers_back}

-- What `?` hands on is the refusal that it found.
pub handed_on : {A : Type 0} (r : Result A Refusal) (e : Refusal) → IsErrAnd r (λ x. x ≡ e) → r ≡ Err e
handed_on (Ok x) e h = absurd h
handed_on (Err x) e h = ap Err h

-- ---- the other lines, as `numbers` says that it read them, of a text of n bytes

module _ (rev : ℕ) (s : Sizes) (n : ℕ) (spec : Read Numbers) (l m : List Float) (r : Option (ℕ × Bor (List ℕ)))
    (h : NumbersRead spec s l m r) where
  -- What the text comes to, by what is read.
  abbrev after : Read Numbers → Reading
  after x = complete_by rev s n x

  -- they are of another form
  pub numbers_bad : r ≡ None → after spec ≡ refused_by 12
  unfolding complete_by
  numbers_bad e = ap after (subst (NumbersRead spec s l m) e h)

  module _ (nodes : ℕ) (left : Bor (List ℕ)) (e : r ≡ Some (nodes, left)) where
    seen : NumbersAt spec s l m nodes left.now
    seen = subst (NumbersRead spec s l m) e h

    -- what the two tests of the whole text say
    by_tests : {a b : Bool} → leb n 65536 ≡ a → eqb (length left.now) 0 ≡ b
        → after spec ≡ cond (a && b) (asks rev s seen.says) (refused_by 12)
    unfolding complete_by
    by_tests A B = ap after seen.reads ∙ (λ j. cond (A j && B j) (asks rev s seen.says) (refused_by 12))

    -- the text is too long
    pub numbers_long : 65536 < n → after spec ≡ refused_by 12
    numbers_long a = by_tests (lt-leb n 65536 a) refl

    -- something stands behind the last line
    pub numbers_more : n ≤ 65536 → eqb (length left.now) 0 ≡ false → after spec ≡ refused_by 12
    numbers_more a b = by_tests (le-leb n 65536 a) b

    -- a question is asked
    pub numbers_all : n ≤ 65536 → eqb (length left.now) 0 ≡ true → (small : Small s)
        → after spec ≡ question_in (record { rev = rev; sizes = s; nodes = nodes; small = small }) m
    numbers_all a b small =
        by_tests (le-leb n 65536 a) b
        ∙ ap (asks rev s) (sym (numbers_back s seen.says l m seen.long seen.wrote nodes seen.nodes_same))

-- ---- the three lines of the sizes, at the front of t, of a text of n bytes

module _ (rev n : ℕ) (t : List ℕ) (r : Option (Sizes × Bor (List ℕ))) (h : read_of r ≡ sizes t) where
  -- What the text comes to.
  abbrev from : Reading
  from = read_by rev n (sizes t)

  pub head-bad : r ≡ None → from ≡ refused_by 12
  unfolding read_by
  head-bad e = ap (read_by rev n) (nothing_read r h e)

  module _ (s : Sizes) (a : Bor (List ℕ)) (e : r ≡ Some (s, a)) where
    -- What it comes to, where the refusal of the sizes is known.
    abbrev opened : ℕ → Reading
    opened k = opened_by rev s n a.now k

    same : (k : ℕ) → k ≡ sizes_refusal s.dim s.degree s.count → from ≡ opened k
    unfolding read_by
    same k K = ap (read_by rev n) (was_read r h s a e) ∙ sym (ap opened K)

    pub head-refused : (k : ℕ) → k ≡ sizes_refusal s.dim s.degree s.count → (k ≡ 0 → ⊥) → from ≡ refused_by k
    unfolding opened_by
    head-refused zero K never = absurd (never refl)
    head-refused (suc k) K never = same (suc k) K

    pub head-asked : (k : ℕ) (m : List Float) (q : Result Asked Refusal)
        → k ≡ sizes_refusal s.dim s.degree s.count → k ≡ 0
        → TextRead (complete_by rev s n (numbers s a.now)) m q → TextRead from m q
    unfolding opened_by
    head-asked k m q K z A = subst (λ (x : Reading). TextRead x m q) (sym (same 0 (sym z ∙ K))) A

-- ---- the line of the revision

module _ (text : List ℕ) (r : Option (ℕ × Bor (List ℕ))) (h : SmallRead (revision text) r) where
  pub revision-bad : r ≡ None → reading text ≡ refused_by 12
  unfolding reading begun_by
  revision-bad e = ap (begun_by (length text)) (subst (SmallRead (revision text)) e h)

  module _ (rev : ℕ) (a : Bor (List ℕ)) (e : r ≡ Some (rev, a)) where
    -- What the text comes to, where the refusal of the revision is known.
    abbrev named : ℕ → Reading
    named k = named_by rev (length text) a.now k

    revision-seen : SmallRead (revision text) (Some (rev, a))
    revision-seen = subst (SmallRead (revision text)) e h

    alike : (k : ℕ) → k ≡ revision_refusal rev → reading text ≡ named k
    unfolding reading begun_by
    alike k K = ap (begun_by (length text)) revision-seen.1 ∙ sym (ap named K)

    pub revision-refused : (k : ℕ) → k ≡ revision_refusal rev → (k ≡ 0 → ⊥) → reading text ≡ refused_by k
    unfolding named_by
    revision-refused zero K never = absurd (never refl)
    revision-refused (suc k) K never = alike (suc k) K

    pub revision-named : (k : ℕ) (m : List Float) (q : Result Asked Refusal) → k ≡ revision_refusal rev → k ≡ 0
        → TextRead (read_by rev (length text) (sizes a.now)) m q → TextRead (reading text) m q
    unfolding named_by
    revision-named k m q K z A = subst (λ (x : Reading). TextRead x m q) (sym (alike 0 (sym z ∙ K))) A
