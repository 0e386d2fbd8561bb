-- By which numbers a call is refused (`refusals`, for every arithmetic), and for how many sizes one work area is long enough (`rooms`). Leans on the law of every search in
-- Enclosure.antt, and on the checks in Checks.antt.
use Prim.Native.Nat.{ℕ, zero, suc, ◌+◌, ◌*◌, ◌≤◌}
use native.Mathlib.Nat.{mul-le-mul}
use native.Mathlib.Omega.{arith}
use mathlib.Core.Path.{◌≡◌, refl, sym, ap, ◌∙◌, subst}
use mathlib.Core.Bool.{Bool, true, false, cond, ◌&&◌}
use mathlib.Core.Logic.{◌⊎◌, inl, inr}
use mathlib.Core.List.{List, [], ◌∷◌}
use lib.ListN.{length}
use lib.Dec.{eqb, le→leb, eqb→eq}
use lib.Ieee.Bits.{is_true}
use Rattle.math.specs.Scalars.{Arithmetic}
use Rattle.math.proofs.Bools.{yes}
use Rattle.model.specs.NurbCurve.{Piece}
use Rattle.model.specs.Subdivide.{Question, no_counts}
use Rattle.model.specs.Contains.{could_contain}
use Rattle.model.specs.Layout.{slot_words, area_words}
use Rattle.model.specs.Call.{Call, curve_of, or_else, first_failed, revision_fits, dim_fits, degree_fits, count_fits, lengths_fit, numbers_usable, bounds_ordered, weights_fit, knots_fit, nodes_fit, area_fits, stated, stated_words, revision_refusal, sizes_refusal, curve_refusal, question_refusal, refusal, searched_by, searched, question, as_piece}
use Rattle.model.specs.Paper.{Result, None-found, enclosed, spent, refused, paper}
use Rattle.model.specs.Numbers.{number_of, refusal_of}
use Rattle.model.specs.Enclosure.{OnlyWeights}
use Rattle.model.specs.Refusals.{question_of, Enough, with_words, OfQuestion, Refusals, AnyRefusals, Rooms}
use Rattle.model.specs.declared.contains.Found.{Found}
use Rattle.model.specs.declared.refusal.Refusal.{Refusal}
use Rattle.model.specs.declared.refusal.Refusal.TheVariants as reason
use Rattle.model.specs.declared.contains.Found.TheVariants.{Nothing, Enclosed, Spent, Refused}
use Rattle.model.proofs.Checks.{pass, fail, none_left, else_left, else_taken, question-passes, question-sizes, small-sizes, stated-words}
use Rattle.model.proofs.Numbers.{number-of-refusal}
use Rattle.model.proofs.Enclosure.{only-weights, plain-search}

-- ---- the numbers of a question

-- No refusal, or one by a number from a to b.
abbrev Among : ℕ → ℕ → ℕ → Type 0
Among a b n = (n ≡ 0) ⊎ ((a ≤ n) × (n ≤ b))

-- checks in a row, counted from n + 1
checks : {A : Type 0} (a : A) (n : ℕ) (l : List (A → Bool)) → Among (suc n) (n + length l) (first_failed a (suc n) l)
unfolding first_failed
checks a n [] = inl refl
checks a n (check ∷ l) = by (check a) (checks a (suc n) l)
  where
    by : (b : Bool) → Among (suc (suc n)) (suc n + length l) (first_failed a (suc (suc n)) l) → Among (suc n) (n + suc (length l)) (cond b (first_failed a (suc (suc n)) l) (suc n))
    by true (inl h) = inl h
    by true (inr h) = inr (omega (arith, h.0), omega (arith, h.1))
    by false h = inr (omega arith, omega arith)

-- two refusals in a row
else_among : (P : ℕ → Type 0) (m n : ℕ) → (m ≡ 0) ⊎ P m → (n ≡ 0) ⊎ P n → (or_else m n ≡ 0) ⊎ P (or_else m n)
unfolding or_else
else_among P zero n h k = k
else_among P (suc m) n h k = h

of_checks : (a b n : ℕ) → 1 ≤ a → b ≤ 9 → Among a b n → (n ≡ 0) ⊎ OfQuestion n
of_checks a b n low high (inl h) = inl h
of_checks a b n low high (inr h) = inr (inl (omega (arith, h.0), omega (arith, h.1)))

of_revision : (n : ℕ) → Among 16 16 n → (n ≡ 0) ⊎ OfQuestion n
of_revision n (inl h) = inl h
of_revision n (inr h) = inr (inr (omega (arith, h.0, h.1)))

question_number : (c : Call) → (question_of c ≡ 0) ⊎ OfQuestion (question_of c)
unfolding question_refusal curve_refusal sizes_refusal revision_refusal
question_number c =
    let v = c.curve in
    let sizes = checks (curve_of v.dim v.degree v.count [] []) 0 (dim_fits ∷ degree_fits ∷ count_fits ∷ []) in
    let curve = checks v 3 (lengths_fit v.dim c.box ∷ numbers_usable c.box c.resolution ∷ bounds_ordered v.dim c.box ∷ weights_fit ∷ knots_fit ∷ []) in
    else_among OfQuestion _ _ (of_revision _ (checks c.rev 15 (revision_fits ∷ [])))
    (else_among OfQuestion _ _
    (else_among OfQuestion _ _ (of_checks 1 3 _ (omega arith) (omega arith) sizes) (of_checks 4 8 _ (omega arith) (omega arith) curve))
    (of_checks 9 9 _ (omega arith) (omega arith) (checks c.nodes 8 (nodes_fit ∷ []))))

-- the number of a call: that of its question, or 10
call_number : (c : Call) → (refusal c ≡ 0) ⊎ (OfQuestion (refusal c) ⊎ (refusal c ≡ 10))
unfolding refusal
call_number c =
    else_among (λ n. OfQuestion n ⊎ (n ≡ 10)) _ _ (of-question (question_of c) (question_number c)) (of-area _ (checks c 9 (area_fits ∷ [])))
  where
    of-question : (n : ℕ) → (n ≡ 0) ⊎ OfQuestion n → (n ≡ 0) ⊎ (OfQuestion n ⊎ (n ≡ 10))
    of-question n (inl h) = inl h
    of-question n (inr h) = inr (inl h)

    of-area : (n : ℕ) → Among 10 10 n → (n ≡ 0) ⊎ (OfQuestion n ⊎ (n ≡ 10))
    of-area n (inl h) = inl h
    of-area n (inr h) = inr (inr (omega (arith, h.0, h.1)))

-- such a number is that of its refusal
numbered : (n : ℕ) → OfQuestion n ⊎ (n ≡ 10) → number_of (refusal_of n) ≡ n
numbered n (inl (inl h)) = number-of-refusal n h.0 (omega (arith, h.1))
numbered n (inl (inr h)) = rw h refl
numbered n (inr h) = rw h refl

-- ---- a work area that is long enough

-- 10 does not come, and what the question is refused by stays.
same_refusal : (c : Call) → Enough c c.work_len → refusal c ≡ question_of c
unfolding refusal stated area_fits
same_refusal c long = by (question_of c) refl
  where
    by : (m : ℕ) → question_of c ≡ m → or_else (question_of c) (first_failed c 10 (area_fits ∷ [])) ≡ question_of c
    by zero e =
        let words = stated-words _ _ _ _ (question-sizes c.rev c.curve c.box c.resolution c.nodes e) (is_true _ (question-passes _ _ _ _ _ e).nodes-few) in
        let fits : area_fits c ≡ true = is_true _ (le→leb (stated c) c.work_len (subst (λ (w : ℕ). w ≤ c.work_len) words long)) in
        else_left _ _ e ∙ pass c 10 area_fits [] fits ∙ none_left c 11 ∙ sym e
    by (suc m) e = else_taken _ _ (λ z. omega (arith, sym e ∙ z))

-- A word that stands for a refusal, and its number.
abbrev IsRefused : Result → Type 0
IsRefused None-found = ⊥
IsRefused enclosed = ⊥
IsRefused spent = ⊥
IsRefused (refused n) = Unit {0}

abbrev number_in : Result → ℕ
number_in None-found = 0
number_in enclosed = 0
number_in spent = 0
number_in (refused n) = n

-- words of refusals that are equal have one number
pub one_number : {m n : ℕ} → refused m ≡ refused n → m ≡ n
one_number e = ap number_in e

module _ (ar : Arithmetic) where
  -- the answer looks at the area only by the refusal
  same_searched : (c : Call) (words m : ℕ) → refusal (with_words c words) ≡ m → refusal c ≡ m → searched ar (with_words c words) ≡ searched ar c
  unfolding searched searched_by
  same_searched c words m h k = ap (searched_by ar (with_words c words)) h ∙ by m ∙ sym (ap (searched_by ar c) k)
    where
      by : (m : ℕ) → searched_by ar (with_words c words) m ≡ searched_by ar c m
      by zero = refl
      by (suc m) = refl

  same_answer : (c : Call) (words : ℕ) → Enough c c.work_len → Enough c words → searched ar (with_words c words) ≡ searched ar c
  same_answer c words long long' = same_searched c words (question_of c) (same_refusal (with_words c words) long') (same_refusal c long)

  -- where the question passes, only the area is left to refuse by
  same_or_ten : (c : Call) (words : ℕ) → Enough c c.work_len → (searched ar (with_words c words) ≡ searched ar c) ⊎ (searched ar (with_words c words) ≡ Refused reason.Work no_counts)
  unfolding refusal
  same_or_ten c words long = by (question_of c) refl
    where
      left : question_of c ≡ 0 → (b : Bool) → area_fits (with_words c words) ≡ b → (searched ar (with_words c words) ≡ searched ar c) ⊎ (searched ar (with_words c words) ≡ Refused reason.Work no_counts)
      left e true f = inl (same_searched c words 0 (else_left _ _ e ∙ pass (with_words c words) 10 area_fits [] f ∙ none_left (with_words c words) 11) (same_refusal c long ∙ e))
      left e false f = inr (unfold searched searched_by in ap (searched_by ar (with_words c words)) (else_left _ _ e ∙ fail (with_words c words) 10 area_fits [] f))

      by : (m : ℕ) → question_of c ≡ m → (searched ar (with_words c words) ≡ searched ar c) ⊎ (searched ar (with_words c words) ≡ Refused reason.Work no_counts)
      by zero e = left e (area_fits (with_words c words)) refl
      by (suc m) e = inl (same_searched c words (question_of c) (else_taken _ _ (λ z. omega (arith, sym e ∙ z))) (same_refusal c long))

  search_number : (q : Question) (s : Piece) → OnlyWeights (could_contain ar q s)
  search_number q s = only-weights (λ _. Unit {0}) (could_contain ar q s) (plain-search ar q s)

  -- ---- the number of an answer

  -- of one that only a search refuses
  weights_number : (r : Found) (n : ℕ) → OnlyWeights r → (paper r).result ≡ refused n → n ≡ 11
  weights_number (Nothing v) n h e = absurd (subst IsRefused (sym e) tt)
  weights_number (Enclosed lo hi v) n h e = absurd (subst IsRefused (sym e) tt)
  weights_number (Spent m v) n h e = absurd (subst IsRefused (sym e) tt)
  weights_number (Refused r v) n h e = sym (one_number e) ∙ ap number_of h

  answer_number : (c : Call) (n : ℕ) → Enough c c.work_len → (paper (searched ar c)).result ≡ refused n → OfQuestion n ⊎ (n ≡ 11)
  unfolding searched searched_by
  answer_number c n long e = by (question_of c) (question_number c) (ap (λ (m : ℕ). (paper (searched_by ar c m)).result) (sym (same_refusal c long)) ∙ e)
    where
      by : (m : ℕ) → (m ≡ 0) ⊎ OfQuestion m → (paper (searched_by ar c m)).result ≡ refused n → OfQuestion n ⊎ (n ≡ 11)
      by zero h e = inr (weights_number (could_contain ar (question c) (as_piece c.curve)) n (search_number (question c) (as_piece c.curve)) e)
      by (suc m) (inl h) e = absurd (omega (arith, h))
      by (suc m) (inr h) e = inl (subst OfQuestion (sym (numbered (suc m) (inl h)) ∙ one_number e) h)

  -- of a call with any area
  any_number : (c : Call) (n : ℕ) → (paper (searched ar c)).result ≡ refused n → OfQuestion n ⊎ ((n ≡ 10) ⊎ (n ≡ 11))
  unfolding searched searched_by
  any_number c n e = by (refusal c) (call_number c) e
    where
      by : (m : ℕ) → (m ≡ 0) ⊎ (OfQuestion m ⊎ (m ≡ 10)) → (paper (searched_by ar c m)).result ≡ refused n → OfQuestion n ⊎ ((n ≡ 10) ⊎ (n ≡ 11))
      by zero h e = inr (inr (weights_number (could_contain ar (question c) (as_piece c.curve)) n (search_number (question c) (as_piece c.curve)) e))
      by (suc m) (inl h) e = absurd (omega (arith, h))
      by (suc m) (inr (inl h)) e = inl (subst OfQuestion (sym (numbered (suc m) (inl h)) ∙ one_number e) h)
      by (suc m) (inr (inr h)) e = inr (inl (sym (sym (numbered (suc m) (inr h)) ∙ one_number e) ∙ h))

  -- of one that is refused
  refused_number : (c : Call) → (refusal c ≡ 0 → ⊥)
      → (e : Refusal) × (number_of e ≡ refusal c) × (searched ar c ≡ Refused e no_counts)
  unfolding searched searched_by
  refused_number c some = by (refusal c) (call_number c) some
    where
      by : (m : ℕ) → (m ≡ 0) ⊎ (OfQuestion m ⊎ (m ≡ 10)) → (m ≡ 0 → ⊥)
          → (e : Refusal) × (number_of e ≡ m) × (searched_by ar c m ≡ Refused e no_counts)
      by zero h k = absurd (k refl)
      by (suc m) (inl h) k = absurd (k h)
      by (suc m) (inr h) k = (refusal_of (suc m), numbered (suc m) h, refl)

-- WHO REFUSES BY WHICH NUMBER
pub refusals : (ar : Arithmetic) → Refusals ar
refusals ar = record { search = search_number ar; question = question_number; long = same_refusal; numbers = answer_number ar; areas = same_answer ar; or_ten = same_or_ten ar }

pub any-refusals : (ar : Arithmetic) → AnyRefusals ar
any-refusals ar = record { any = any_number ar; number = refused_number ar }

-- ---- for how many sizes an area is long enough

larger-slot : (d p n p' n' : ℕ) → d ≤ 3 → p ≤ p' → n ≤ n' → slot_words d p n ≤ slot_words 3 p' n'
unfolding slot_words
larger-slot d p n p' n' hd hp hn = omega (arith, mul-le-mul numbers points)
  where
    numbers : 2 * suc d ≤ 8
    numbers = omega (arith, hd)

    points : n + p + 1 ≤ n' + p' + 1
    points = omega (arith, hp, hn)

pub rooms : Rooms
unfolding stated_words
rooms = record {
  most = λ d p n k p' n' k' hp hn hk. by d p n k p' n' k' hp hn hk (eqb (sizes_refusal d p n) 0) refl (nodes_fit k);
}
  where
    by : (d p n k p' n' k' : ℕ) → p ≤ p' → n ≤ n' → k ≤ k' → (b : Bool) → eqb (sizes_refusal d p n) 0 ≡ b → (t : Bool) → cond (b && t) (area_words d p n k) 0 ≤ area_words 3 p' n' k'
    by d p n k p' n' k' hp hn hk true e true = mul-le-mul more (larger-slot d p n p' n' (small-sizes d p n (eqb→eq _ _ (yes _ e))).dim hp hn)
      where
        more : k + 3 ≤ k' + 3
        more = omega (arith, hk)
    by d p n k p' n' k' hp hn hk true e false = omega arith
    by d p n k p' n' k' hp hn hk false e t = omega arith
