-- The cart's limits, and what they leave of the frame's answers. Leans on the contract of the search and on laws that crates/model states (specs/Refusals.antt). Nothing of the
-- search is unfolded here but the words of a slot, for one number.
use Prim.Native.Nat.{ℕ, ◌≤◌, ◌<◌}
use native.Mathlib.Omega.{arith}
use mathlib.Core.Path.{◌≡◌, refl, sym, ap, ◌∙◌, subst}
use mathlib.Core.Bool.{true, false}
use mathlib.Core.Logic.{◌⊎◌, inl, inr}
use mathlib.Core.List.{List}
use lib.Dec.{ltb}
use lib.Ieee.{Float}
use borrow.Author.Tests.{lt-ltb, le-ltb}
use Rattle.math.proofs.Bools.{yes, no, compare_le, pick_yes, pick_no}
use Rattle.model.specs.Layout.{slot_words, area_words}
use Rattle.model.specs.Call.{Call, arithmetic_of, answer_to}
use Rattle.model.specs.Paper.{refused, paper}
use Rattle.model.specs.Refusals.{Enough, with_words, OfQuestion}
use Rattle.model.specs.Promise.{Answers}
use Rattle.model.specs.Subdivide.{no_counts}
use Rattle.model.specs.declared.contains.Found.{Found}
use Rattle.model.specs.declared.refusal.Refusal.TheVariants as reason
use Rattle.model.specs.declared.contains.Found.TheVariants.{Refused}
use Rattle.model.proofs.Refusals.{one_number, refusals, rooms}
use Rattle.cart.specs.Cart.{is_beyond, own_words, cart_answer, CartAnswers}

-- ---- the limits

pub first_limit : (p n k : ℕ) → 3 < p → true ≡ is_beyond p n k
unfolding is_beyond
first_limit p n k h = rw (lt-ltb 3 p h)

pub second_limit : (p n k : ℕ) → p ≤ 3 → 8 < n → true ≡ is_beyond p n k
unfolding is_beyond
second_limit p n k h g = rw (le-ltb 3 p h, lt-ltb 8 n g)

pub third_limit : (p n k : ℕ) → p ≤ 3 → n ≤ 8 → ltb 48 k ≡ is_beyond p n k
unfolding is_beyond
third_limit p n k h g = rw (le-ltb 3 p h, le-ltb 8 n g)

-- What is within them.
record Short (p n k : ℕ) : Type 0 where
  pub degree : p ≤ 3
  pub count : n ≤ 8
  pub nodes : k ≤ 48

short : (p n k : ℕ) → is_beyond p n k ≡ false → Short p n k
short p n k e = by (compare_le p 3) (compare_le n 8) (compare_le k 48)
  where
    by : (p ≤ 3) ⊎ (3 < p) → (n ≤ 8) ⊎ (8 < n) → (k ≤ 48) ⊎ (48 < k) → Short p n k
    by (inr h) b c = absurd (no true (first_limit p n k h ∙ e) tt)
    by (inl a) (inr h) c = absurd (no true (second_limit p n k a h ∙ e) tt)
    by (inl a) (inl b) (inr h) = absurd (no true (sym (lt-ltb 48 k h) ∙ third_limit p n k a b ∙ e) tt)
    by (inl a) (inl b) (inl c) = record { degree = a; count = b; nodes = c }

-- ---- the work area

-- A slot has at most 129 words, and there are at most 51: 6,579 words.
own_enough : (c : Call) → is_beyond c.curve.degree c.curve.count c.nodes ≡ false → Enough c own_words
own_enough c e =
    let s = short _ _ _ e in
    omega (arith, rooms.most c.curve.dim c.curve.degree c.curve.count c.nodes 3 8 48 s.degree s.count s.nodes, most)
  where
    most : area_words 3 3 8 48 ≡ 6579
    most = unfold slot_words in refl

-- ---- the numbers that do not come

-- a number from 10 to 15 that is not 11
not-theirs : (n : ℕ) → 10 ≤ n → n < 16 → (n ≡ 11 → ⊥) → OfQuestion n ⊎ (n ≡ 11) → ⊥
not-theirs n low high other (inl (inl h)) = omega (arith, low, h.1)
not-theirs n low high other (inl (inr h)) = omega (arith, high, h)
not-theirs n low high other (inr h) = other h

-- ---- the contract

-- beyond the limits
pub cart_refused : (c : Call) → is_beyond c.curve.degree c.curve.count c.nodes ≡ true → CartAnswers c (Refused reason.Cart no_counts)
unfolding cart_answer
cart_refused c e = record {
  result = here;
  fourteen = λ _. refl;
  exactly = λ _. yes _ e;
  frame = λ h. absurd (h (yes _ e));
  or_ten = λ h. absurd (h (yes _ e));
  room = λ h. other 14 10 (omega arith) (one_number h);
  paper = ap paper here;
  encloses = λ _ h. absurd h;
  within = tt;
  zeros = tt;
  order = tt;
  debug = λ h. absurd (h (yes _ e));
}
  where
    here : Refused reason.Cart no_counts ≡ cart_answer c
    here = unfold cart_answer in pick_yes _ _ _ e

    other : (n k : ℕ) → k < n → n ≡ k → ⊥
    other n k l h = omega arith

-- within them, by the contract of the search
module _ (c : Call) {before after : List Float} (r : Found) (e : is_beyond c.curve.degree c.curve.count c.nodes ≡ false) (A : Answers c before after r) where
  -- with an area that is long enough neither 10 nor 12 to 15 come
  unrefused : (n : ℕ) → Enough c c.work_len → 10 ≤ n → n < 16 → (n ≡ 11 → ⊥) → (paper r).result ≡ refused n → ⊥
  unrefused n long low high other h = not-theirs n low high other ((refusals (arithmetic_of c)).numbers c n long (ap (λ (x : Found). (paper x).result) (sym A.result) ∙ h))

  pub cart_answered : c.work_len ≡ own_words → CartAnswers c r
  cart_answered w = record {
    result = here;
    fourteen = λ h. absurd (no _ e h);
    exactly = λ h. absurd (unrefused 14 long (omega arith) (omega arith) (λ z. omega (arith, z)) h);
    frame = λ _ words enough. A.result ∙ sym ((refusals (arithmetic_of c)).areas c words long enough);
    or_ten = λ _ words. either words ((refusals (arithmetic_of c)).or_ten c words long);
    room = unrefused 10 long (omega arith) (omega arith) (λ z. omega (arith, z));
    paper = ap paper here;
    encloses = A.encloses;
    within = A.within;
    zeros = A.zeros;
    order = A.order;
    debug = λ _. A.debug;
  }
    where
      here : r ≡ cart_answer c
      here = unfold cart_answer in (A.result ∙ pick_no _ _ _ e)

      long : Enough c c.work_len
      long = subst (Enough c) (sym w) (own_enough c e)

      either : (words : ℕ) → (answer_to (with_words c words) ≡ answer_to c) ⊎ (answer_to (with_words c words) ≡ Refused reason.Work no_counts)
          → (r ≡ answer_to (with_words c words)) ⊎ (answer_to (with_words c words) ≡ Refused reason.Work no_counts)
      either words (inl h) = inl (A.result ∙ sym h)
      either words (inr h) = inr h
