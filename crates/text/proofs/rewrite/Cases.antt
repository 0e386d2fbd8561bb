-- What the writer gives and leaves, by cases: the text is refused, or its form does not fit, or it is written. Assumes nothing.
use mathlib.Core.Path.{◌≡◌, refl, sym, ap, ◌∙◌, subst}
use mathlib.Core.Bool.{Bool, true, false, cond}
use mathlib.Core.List.{List}
use Prim.Native.Nat.{ℕ, zero, suc, ◌≤◌, ◌<◌}
use native.Mathlib.Omega.{arith}
use borrow.Author.Tests.{leb-true, le-leb, lt-leb}
use lib.ListN.{length, take}
use lib.Seq.{take-length}
use lib.Dec.{leb}
use Rattle.math.proofs.Bools.{pick_yes, pick_no}
use Rattle.lists.specs.Lists.{put}
use Rattle.lists.proofs.Put.{put-nil, length-put}
use Rattle.std.specs.Prelude.{Result, Ok, Err}
use Rattle.model.specs.Numbers.{number_of}
use Rattle.model.specs.declared.refusal.Refusal.{Refusal}
use Rattle.model.specs.declared.refusal.Refusal.TheVariants.{Room}
use Rattle.text.specs.Counts.{Counts}
use Rattle.text.specs.Question.{Sizes, Numbers, Reading, refused_by, asks, reading}
use Rattle.text.specs.Form.{form, refusal_of, checked_by, accepted_by, accepted, count_for, output_for, rewritten_by, output_by}
use Rattle.text.specs.Form.{numbered, OnPaper, on_paper_of, on_paper_for, Rewrites, Within}
use Rattle.text.proofs.print.Writing.{front}

-- ---- all of a text, or nothing

module _ (w l : List ℕ) (k : ℕ) (K : k ≡ cond (leb (length w) (length l)) (length w) 0) where
  fits : length w ≤ length l → k ≡ length w
  fits h = K ∙ sym (pick_yes _ _ _ (le-leb (length w) (length l) h))

  none : length l < length w → k ≡ 0
  none h = K ∙ sym (pick_no _ _ _ (lt-leb (length w) (length l) h))

  -- no more is given than there is, and than there is room for
  pub given-most : (k ≤ length w) × (k ≤ length l)
  given-most = by (leb (length w) (length l)) refl
    where
      by : (b : Bool) → leb (length w) (length l) ≡ b → (k ≤ length w) × (k ≤ length l)
      by true e = let h = leb-true _ _ e in (omega (arith, fits h), omega (arith, fits h))
      by false e = let z : k ≡ 0 = K ∙ sym (pick_no _ _ _ e) in (omega (arith, z), omega (arith, z))

  module _ (m : List ℕ) (M : m ≡ put l 0 (take k w)) where
    -- it does not fit
    pub give_none : k < length w → (Err Room ≡ count_for (length l) w) × (m ≡ output_for l w)
    unfolding count_for output_for
    give_none h = by (leb (length w) (length l)) refl
      where
        by : (b : Bool) → leb (length w) (length l) ≡ b → (Err Room ≡ count_for (length l) w) × (m ≡ output_for l w)
        by true e = absurd (omega (arith, fits (leb-true _ _ e)))
        by false e =
            let z : k ≡ 0 = K ∙ sym (pick_no _ _ _ e) in (
              pick_no _ _ _ e,
              M ∙ ap (λ (n : ℕ). put l 0 (take n w)) z ∙ put-nil l 0 ∙ pick_no _ _ _ e,
            )

    -- it fits
    pub give_all : length w ≤ k → (Ok (length w) ≡ count_for (length l) w) × (m ≡ output_for l w)
    unfolding count_for output_for
    give_all h =
        let room : length w ≤ length l = omega (arith, given-most.1) in
        let e = le-leb (length w) (length l) room in (
          pick_yes _ _ _ e,
          M ∙ ap (put l 0) (ap (λ (n : ℕ). take n w) (fits room) ∙ take-length w) ∙ pick_yes _ _ _ e,
        )

-- ---- what is given for a text

-- An answer with a number, on paper.
abbrev paper_of : Result ℕ ℕ → OnPaper
paper_of (Ok n) = record { refused = 0; written = n }
paper_of (Err r) = record { refused = r; written = 0 }

same_paper : (r : Result ℕ Refusal) → on_paper_of r ≡ paper_of (numbered r)
same_paper (Ok n) = refl
same_paper (Err e) = refl

-- on paper it is what the paper gives
on-paper : (n : ℕ) (a : Reading) → paper_of (rewritten_by n a) ≡ on_paper_for n a
unfolding rewritten_by count_for on_paper_for
on-paper n (refused_by r) = refl
on-paper n (asks rev s q) = by (length (form rev s q)) (leb (length (form rev s q)) n)
  where
    by : (w : ℕ) (b : Bool) → paper_of (numbered (cond b (Ok w) (Err Room)))
        ≡ cond b (record { refused = 0; written = w }) (record { refused = 15; written = 0 })
    by w true = refl
    by w false = refl

-- so what is given and what is left are all that is to be shown
rewrites : (a : Reading) (l m : List ℕ) (r : Result ℕ Refusal)
    → numbered r ≡ rewritten_by (length l) a → m ≡ output_by l a → Rewrites a l m r
rewrites a l m r R M =
    record { result = R; paper = same_paper r ∙ ap paper_of R ∙ on-paper (length l) a; memory = M }

-- it is refused when it is read
pub rewrites_refused : (text l : List ℕ) (n : Refusal) → reading text ≡ refused_by (number_of n)
    → Rewrites (accepted text) l l (Err n)
unfolding accepted accepted_by rewritten_by output_by
rewrites_refused text l n e =
    let a = ap accepted_by e in
    rewrites (accepted text) l l (Err n) (sym (ap (rewritten_by (length l)) a)) (sym (ap (output_by l) a))

-- it comes to a question
pub rewrites_asked : (text l m : List ℕ) (rev : ℕ) (s : Sizes) (q : Numbers) (r : Result ℕ Refusal)
    → reading text ≡ asks rev s q → Rewrites (accepted_by (asks rev s q)) l m r → Rewrites (accepted text) l m r
unfolding accepted
rewrites_asked text l m rev s q r e h = subst (λ (a : Reading). Rewrites (accepted_by a) l m r) (sym e) h

module _ (rev : ℕ) (s : Sizes) (q : Numbers) (l : List ℕ) where
  -- which is refused
  pub question-refused : (n : Refusal) → number_of n ≡ refusal_of rev s q → (number_of n ≡ 0 → ⊥)
      → Rewrites (accepted_by (asks rev s q)) l l (Err n)
  unfolding accepted_by
  question-refused n N never = by (number_of n) refl (sym N)
    where
      by : (k : ℕ) → number_of n ≡ k → refusal_of rev s q ≡ k
          → Rewrites (checked_by rev s q (refusal_of rev s q)) l l (Err n)
      by zero f e = absurd (never f)
      by (suc k) f e =
          unfold checked_by rewritten_by output_by in
          rewrites (checked_by rev s q (refusal_of rev s q)) l l (Err n)
          (ap Err f ∙ sym (ap (λ (x : ℕ). rewritten_by (length l) (checked_by rev s q x)) e))
          (sym (ap (λ (x : ℕ). output_by l (checked_by rev s q x)) e))

  -- or whose form is given
  pub question-given : (m : List ℕ) (r : Result ℕ Refusal) → 0 ≡ refusal_of rev s q
      → r ≡ count_for (length l) (form rev s q) → m ≡ output_for l (form rev s q)
      → Rewrites (accepted_by (asks rev s q)) l m r
  unfolding accepted_by checked_by rewritten_by output_by
  question-given m r z R M =
      let e : refusal_of rev s q ≡ 0 = sym z in
      rewrites (accepted_by (asks rev s q)) l m r
      (ap numbered R ∙ sym (ap (λ (x : ℕ). rewritten_by (length l) (checked_by rev s q x)) e))
      (M ∙ sym (ap (λ (x : ℕ). output_by l (checked_by rev s q x)) e))

-- ---- a count that is given is one of bytes of the output

-- The same of an answer with a number.
abbrev WithinNumbered : Result ℕ ℕ → List ℕ → Type 0
WithinNumbered (Ok n) m = Counts n m
WithinNumbered (Err r) m = Unit

same_within : (r : Result ℕ Refusal) (m : List ℕ) → WithinNumbered (numbered r) m → Within r m
same_within (Ok n) m h = h
same_within (Err e) m h = tt

form-within : (l w : List ℕ) → WithinNumbered (numbered (count_for (length l) w)) (output_for l w)
unfolding count_for output_for
form-within l w = by (leb (length w) (length l)) refl
  where
    by : (b : Bool) → leb (length w) (length l) ≡ b
        → WithinNumbered (numbered (cond b (Ok (length w)) (Err Room))) (cond b (put l 0 w) l)
    by true e =
        let room : length w ≤ length l = leb-true (length w) (length l) e in
        (omega (arith, length-put l 0 w (omega arith)), sym (ap length (front l w)))
    by false e = tt

pub within : (a : Reading) (l m : List ℕ) (r : Result ℕ Refusal) → Rewrites a l m r → Within r m
unfolding rewritten_by output_by
within (refused_by n) l m r h =
    same_within r m (subst (λ (x : Result ℕ ℕ). WithinNumbered x m) (sym h.result) tt)
within (asks rev s q) l m r h =
    same_within r m
    (subst (λ (x : Result ℕ ℕ). WithinNumbered x m) (sym h.result)
    (subst (WithinNumbered (numbered (count_for (length l) (form rev s q)))) (sym h.memory)
    (form-within l (form rev s q))))
