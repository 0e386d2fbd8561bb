-- The checks of a call, one by one: none stops it just where each of them is passed. Assumes nothing.
use mathlib.Core.Path.{◌≡◌, refl, sym, ap, ◌∙◌, subst}
use mathlib.Core.Bool.{Bool, true, false, cond, ◌&&◌}
use mathlib.Core.Logic.{inl, inr}
use mathlib.Core.List.{List, [], ◌∷◌}
use Prim.Native.Nat.{ℕ, zero, suc, ◌+◌, ◌≤◌, ◌<◌}
use native.Mathlib.Nat.{mul-le-mul_right}
use native.Mathlib.Omega.{arith}
use lib.Dec.{T, leb, eqb, leb→le, eqb→eq}
use borrow.Author.Tests.{eq-eqb, ne_eqb}
use lib.Ieee.{Float}
use lib.Ieee.Bits.{is_true}
use Rattle.math.proofs.Bools.{and_l, and_r, or_split}
use Rattle.model.specs.Call.{Curve, Call, curve_of, dim_fits, degree_fits, count_fits, lengths_fit, numbers_usable, bounds_ordered, weights_fit, knots_fit, nodes_fit, stated, area_fits, first_failed, or_else, revision_fits, revision_refusal, sizes_refusal, curve_refusal, question_refusal, refusal, stated_words}
use Rattle.model.specs.Layout.{slot_words, area_words}
use Rattle.model.specs.Enclosure.{Every}

-- ---- checks in a row

module _ {A : Type 0} (a : A) where
  -- no check is left
  pub none_left : (n : ℕ) → first_failed a n [] ≡ 0
  unfolding first_failed
  none_left n = refl

  -- a check that is passed leaves it to the others
  pub pass : (n : ℕ) (check : A → Bool) (l : List (A → Bool)) → check a ≡ true → first_failed a n (check ∷ l) ≡ first_failed a (suc n) l
  unfolding first_failed
  pass n check l e = ap (λ (b : Bool). cond b (first_failed a (suc n) l) n) e

  -- one that fails gives its number
  pub fail : (n : ℕ) (check : A → Bool) (l : List (A → Bool)) → check a ≡ false → first_failed a n (check ∷ l) ≡ n
  unfolding first_failed
  fail n check l e = ap (λ (b : Bool). cond b (first_failed a (suc n) l) n) e

  -- where no number is given, every check is passed
  passed : (n : ℕ) (l : List (A → Bool)) → first_failed a (suc n) l ≡ 0 → Every (λ check. T (check a)) l
  unfolding first_failed
  passed n [] e = tt
  passed n (check ∷ l) e = go (check a) refl (passed (suc n) l) e
    where
      Rest : Type 0
      Rest = first_failed a (suc (suc n)) l ≡ 0 → Every (λ check. T (check a)) l

      go : (b : Bool) → check a ≡ b → Rest → cond b (first_failed a (suc (suc n)) l) (suc n) ≡ 0 → T (check a) × Every (λ check. T (check a)) l
      go true h rest k = (subst T (sym h) tt, rest k)
      go false h rest k = absurd (omega (arith, k))

  -- and where every check is passed no number is given
  none_failed : (n : ℕ) (l : List (A → Bool)) → Every (λ check. T (check a)) l → first_failed a n l ≡ 0
  unfolding first_failed
  none_failed n [] h = refl
  none_failed n (check ∷ l) h = pass n check l (is_true (check a) h.0) ∙ none_failed (suc n) l h.1

-- ---- one refusal behind another

-- both give no number where the two in a row give none
else_none : (m n : ℕ) → or_else m n ≡ 0 → (m ≡ 0) × (n ≡ 0)
unfolding or_else
else_none zero n e = (refl, e)
else_none (suc m) n e = absurd (omega (arith, e))

-- the second is left where the first gives none
pub else_left : (m n : ℕ) → m ≡ 0 → or_else m n ≡ n
unfolding or_else
else_left m n e = ap (λ (k : ℕ). or_else k n) e

-- a number that the first gives is the one
pub else_taken : (m n : ℕ) → (m ≡ 0 → ⊥) → or_else m n ≡ m
unfolding or_else
else_taken zero n h = absurd (h refl)
else_taken (suc m) n h = refl

-- ---- the sizes, the curve, the call

-- What 1 to 3 ask.
pub record SizesPass (v : Curve) : Type 0 where
  pub dim : T (dim_fits v)
  pub degree : T (degree_fits v)
  pub count : T (count_fits v)

pub sizes-pass : (v : Curve) → sizes_refusal v.dim v.degree v.count ≡ 0 → SizesPass v
unfolding sizes_refusal dim_fits degree_fits count_fits
sizes-pass v e =
    let h = passed (curve_of v.dim v.degree v.count [] []) 0 (dim_fits ∷ degree_fits ∷ count_fits ∷ []) e in
    record { dim = h.0; degree = h.1.0; count = h.1.1.0 }

-- What that leaves of the sizes.
pub record SmallSizes (d p n : ℕ) : Type 0 where
  pub dim : d ≤ 3
  pub degree : p ≤ 7
  pub room : p < n
  pub count : n ≤ 32

pub small-sizes : (d p n : ℕ) → sizes_refusal d p n ≡ 0 → SmallSizes d p n
unfolding dim_fits degree_fits count_fits
small-sizes d p n e = record {
  dim = elim (or_split (eqb d 2) (eqb d 3) h.dim) [ inl t ↦ omega (arith, eqb→eq d 2 t) | inr t ↦ omega (arith, eqb→eq d 3 t) ];
  degree = leb→le p 7 h.degree;
  room = omega (arith, leb→le (p + 1) n (and_l (leb (p + 1) n) (leb n 32) h.count));
  count = leb→le n 32 (and_r (leb (p + 1) n) (leb n 32) h.count);
}
  where
    h : SizesPass (curve_of d p n [] [])
    h = sizes-pass (curve_of d p n [] []) e

-- What 1 to 8 ask.
pub record CurvePasses (sides : ℕ) (box : List Float) (resolution : Float) (v : Curve) : Type 0 where
  pub sizes : SizesPass v
  pub lengths : T (lengths_fit sides box v)
  pub numbers : T (numbers_usable box resolution v)
  pub bounds : T (bounds_ordered sides box v)
  pub weights : T (weights_fit v)
  pub knots : T (knots_fit v)

pub curve-passes : (sides : ℕ) (box : List Float) (resolution : Float) (v : Curve) → curve_refusal sides box resolution v ≡ 0 → CurvePasses sides box resolution v
unfolding curve_refusal
curve-passes sides box resolution v e =
    let z = else_none _ _ e in
    let h = passed v 3 (lengths_fit sides box ∷ numbers_usable box resolution ∷ bounds_ordered sides box ∷ weights_fit ∷ knots_fit ∷ []) z.1 in
    record { sizes = sizes-pass v z.0; lengths = h.0; numbers = h.1.0; bounds = h.1.1.0; weights = h.1.1.1.0; knots = h.1.1.1.1.0 }

pub revision-passes : (rev : ℕ) → revision_refusal rev ≡ 0 → T (revision_fits rev)
unfolding revision_refusal
revision-passes rev e = (passed rev 15 (revision_fits ∷ []) e).0

-- What 16 and 1 to 9 ask.
pub record QuestionPasses (rev : ℕ) (v : Curve) (box : List Float) (resolution : Float) (nodes : ℕ) : Type 0 where
  pub rev_known : T (revision_fits rev)
  pub curve : CurvePasses v.dim box resolution v
  pub nodes-few : T (nodes_fit nodes)

pub question-passes : (rev : ℕ) (v : Curve) (box : List Float) (resolution : Float) (nodes : ℕ) → question_refusal rev v box resolution nodes ≡ 0 → QuestionPasses rev v box resolution nodes
unfolding question_refusal
question-passes rev v box resolution nodes e =
    let y = else_none _ _ e in
    let z = else_none _ _ y.1 in
    record { rev_known = revision-passes rev y.0; curve = curve-passes _ _ _ _ z.0; nodes-few = (passed nodes 8 (nodes_fit ∷ []) z.1).0 }

pub question-sizes : (rev : ℕ) (v : Curve) (box : List Float) (resolution : Float) (nodes : ℕ) → question_refusal rev v box resolution nodes ≡ 0 → sizes_refusal v.dim v.degree v.count ≡ 0
unfolding question_refusal curve_refusal
question-sizes rev v box resolution nodes e = (else_none _ _ (else_none _ _ (else_none _ _ e).1).0).0

-- What 16 and 1 to 10 ask.
pub record CallPasses (c : Call) : Type 0 where
  pub question : QuestionPasses c.rev c.curve c.box c.resolution c.nodes
  pub area : T (area_fits c)

pub call_passes : (c : Call) → refusal c ≡ 0 → CallPasses c
unfolding refusal
call_passes c e =
    let z = else_none _ _ e in
    record { question = question-passes _ _ _ _ _ z.0; area = (passed c 9 (area_fits ∷ []) z.1).0 }

-- A call with other nodes and another work area is accepted if the curve is, and 9 and 10 are passed.
pub accepted_by_lem : (c : Call) → revision_refusal c.rev ≡ 0 → curve_refusal c.curve.dim c.box c.resolution c.curve ≡ 0 → T (nodes_fit c.nodes) → T (area_fits c) → refusal c ≡ 0
unfolding refusal question_refusal
accepted_by_lem c r e n a =
    else_left _ _ (else_left _ _ r ∙ else_left _ _ e ∙ none_failed c.nodes 9 (nodes_fit ∷ []) (n, tt)) ∙ none_failed c 10 (area_fits ∷ []) (a, tt)

-- The revision and the curve of an accepted call are not refused, and neither are the sizes of such a curve.
pub revision-accepted : (c : Call) → refusal c ≡ 0 → revision_refusal c.rev ≡ 0
unfolding refusal question_refusal
revision-accepted c e = (else_none _ _ (else_none _ _ e).0).0

pub curve-accepted : (c : Call) → refusal c ≡ 0 → curve_refusal c.curve.dim c.box c.resolution c.curve ≡ 0
unfolding refusal question_refusal
curve-accepted c e = (else_none _ _ (else_none _ _ (else_none _ _ e).0).1).0

pub sizes-accepted : (sides : ℕ) (box : List Float) (resolution : Float) (v : Curve) → curve_refusal sides box resolution v ≡ 0 → sizes_refusal v.dim v.degree v.count ≡ 0
unfolding curve_refusal
sizes-accepted sides box resolution v e = (else_none _ _ e).0

-- ---- the stated words

-- Of sizes that 1, 2, 3 and 9 let through, `stated_words` gives the stated words of the scope,
pub stated-words : (d p n k : ℕ) → sizes_refusal d p n ≡ 0 → nodes_fit k ≡ true → stated_words d p n k ≡ area_words d p n k
unfolding stated_words
stated-words d p n k e f = ap (λ (t : Bool). cond t (area_words d p n k) 0) (λ i. eq-eqb _ _ e i && f i)

-- and 0 of any other.
pub no-sizes : (d p n k : ℕ) → (sizes_refusal d p n ≡ 0 → ⊥) → stated_words d p n k ≡ 0
unfolding stated_words
no-sizes d p n k h = ap (λ (t : Bool). cond (t && nodes_fit k) (area_words d p n k) 0) (ne_eqb _ _ h)

pub no-nodes : (d p n k : ℕ) → nodes_fit k ≡ false → stated_words d p n k ≡ 0
unfolding stated_words
no-nodes d p n k e = ap (λ (t : Bool). cond (eqb (sizes_refusal d p n) 0 && t) (area_words d p n k) 0) e ∙ both-no (eqb (sizes_refusal d p n) 0)
  where
    both-no : (t : Bool) → cond (t && false) (area_words d p n k) 0 ≡ 0
    both-no true = refl
    both-no false = refl

-- So it is 0 exactly for sizes that are refused.
pub some_words : (d p n k : ℕ) → sizes_refusal d p n ≡ 0 → nodes_fit k ≡ true → 0 < stated_words d p n k
unfolding slot_words
some_words d p n k e f = omega (arith, stated-words d p n k e f, mul-le-mul_right (slot_words d p n) few)
  where
    few : 1 ≤ k + 3
    few = omega arith

-- A call that is accepted states as many.
pub stated_is : (c : Call) → refusal c ≡ 0 → stated_words c.curve.dim c.curve.degree c.curve.count c.nodes ≡ stated c
unfolding stated
stated_is c e = stated-words _ _ _ _ (sizes-accepted _ _ _ _ (curve-accepted c e)) (is_true _ (call_passes c e).question.nodes-few)
