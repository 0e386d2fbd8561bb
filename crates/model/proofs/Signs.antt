-- The sign of a zero changes no check of a question: `positive_zero` on each number leaves it its refusal. Assumes nothing.
use mathlib.Core.Path.{◌≡◌, refl, sym, ap, ◌∙◌, subst}
use mathlib.Core.Bool.{Bool, true, false, cond, not, ◌&&◌, ◌||◌, beq}
use mathlib.Core.List.{List, [], ◌∷◌, map}
use Prim.Native.Nat.{ℕ, zero, suc, ◌+◌, ◌*◌, max}
use lib.IntN.{ℤ, pos}
use lib.Dec.{T, leb, eqb, eqb→eq}
use lib.ListN.{get_or, length-map}
use lib.Ieee.{Float, nan, inf, fin, binary64, up, down, lt, le, eq, fits, is_nan}
use Rattle.exact.specs.Rational.{ℚ, 0ℚ, ◌≤ℚ◌}
use Rattle.exact.proofs.Order.{le_antisym}
use Rattle.lists.specs.Lists.{all, count, tab}
use Rattle.lists.proofs.Tab.{tab-ext, map-tab}
use Rattle.math.specs.declared.scalars.Scalar.{Scalar}
use Rattle.math.specs.Scalars.{zero_f, absent}
use Rattle.math.specs.Values.{value}
use Rattle.math.proofs.Bools.{and_l, or_r, pick, taken, same_test}
use Rattle.math.proofs.Laws.{lt_le, le_lt, eq→value, value→eq, unique}
use Rattle.math.proofs.Doubles.Values.{value_zero, value-nonneg, value_nonpos}
use Rattle.model.specs.Vector.{Vector, coordinate}
use Rattle.model.specs.NurbCurve.{weights_positive}
use Rattle.model.specs.Subdivide.{positive_zero}
use Rattle.model.specs.Layout.{scalar_at, scalars_of, point_at, points_of}
use Rattle.model.specs.Call.{Curve, curve_of, usable, ordered, rising, multiplicity_ok, knots_valid, nodes_fit}
use Rattle.model.specs.Call.{lengths_fit, numbers_usable, bounds_ordered, weights_fit, knots_fit}
use Rattle.model.specs.Call.{first_failed, or_else, revision_refusal, sizes_refusal, curve_refusal, question_refusal}

-- ---- zeros: what holds of a number and itself, and of a zero and the positive one, holds of each number and its `positive_zero`
from-zeros : (P : Float → Float → Type 0) → ((x : Float) → P x x)
    → ((s : Bool) (m : ℕ) (e : ℤ) → value (fin s m e) ≡ value zero_f → P (fin s m e) zero_f) → (x : Float) → P x (positive_zero x)
unfolding positive_zero eq
from-zeros P own nil nan = own nan
from-zeros P own nil (inf s) = own (inf s)
from-zeros P own nil (fin s m e) = pick (P (fin s m e)) (eq (fin s m e) zero_f) zero_f (fin s m e)
    (λ t. nil s m e (eq→value s m e false 0 (pos 0) t)) (λ _. own (fin s m e))

-- ---- comparisons: a test that cannot tell two numbers apart of which neither is above the other does not see the sign of a zero
unseen : (c : Float → Bool) → ((x y : Float) → T (le x y) → T (le y x) → T (c x) → T (c y))
    → (x : Float) → c (positive_zero x) ≡ c x
unfolding le
unseen c keep = from-zeros (λ x z. c z ≡ c x) (λ _. refl) (λ s m e v.
    let p = or_r (lt (fin s m e) zero_f) (eq (fin s m e) zero_f) (value→eq s m e false 0 (pos 0) v) in
    let q = or_r (lt zero_f (fin s m e)) (eq zero_f (fin s m e)) (value→eq false 0 (pos 0) s m e (sym v)) in
    same_test (c zero_f) (c (fin s m e)) (keep zero_f (fin s m e) q p) (keep (fin s m e) zero_f p q))

module _ (s : Bool) (m : ℕ) (e : ℤ) (v : value (fin s m e) ≡ value zero_f) where
  zero_left : (y : Float) → eq zero_f y ≡ eq (fin s m e) y
  zero_left nan = unfold eq in refl
  zero_left (inf t) = unfold eq in refl
  zero_left (fin t n d) = same_test (eq zero_f (fin t n d)) (eq (fin s m e) (fin t n d))
      (λ h. value→eq s m e t n d (v ∙ eq→value false 0 (pos 0) t n d h))
      (λ h. value→eq false 0 (pos 0) t n d (sym v ∙ eq→value s m e t n d h))

  zero_right : (x : Float) → eq x zero_f ≡ eq x (fin s m e)
  zero_right nan = unfold eq in refl
  zero_right (inf t) = unfold eq in refl
  zero_right (fin t n d) = same_test (eq (fin t n d) zero_f) (eq (fin t n d) (fin s m e))
      (λ h. value→eq t n d s m e (eq→value t n d false 0 (pos 0) h ∙ sym v))
      (λ h. value→eq t n d false 0 (pos 0) (eq→value t n d s m e h ∙ v))

-- Whether a number is below another does not rest on the sign of a zero,
pub positive_lt : (x y : Float) → lt (positive_zero x) (positive_zero y) ≡ lt x y
positive_lt x y =
    unseen (λ z. lt z (positive_zero y)) (λ a b p q h. le_lt b a (positive_zero y) q h) x
    ∙ unseen (λ z. lt x z) (λ a b p q h. lt_le x a b h p) y

-- nor whether the two count as equal,
pub positive-eq : (x y : Float) → eq (positive_zero x) (positive_zero y) ≡ eq x y
positive-eq x y =
    let w = positive_zero y in
    from-zeros (λ x z. eq z w ≡ eq x w) (λ _. refl) (λ s m e v. zero_left s m e v w) x
    ∙ from-zeros (λ y z. eq x z ≡ eq x y) (λ _. refl) (λ s m e v. zero_right s m e v x) y

-- nor whether it is at most the other.
pub positive_le : (x y : Float) → le (positive_zero x) (positive_zero y) ≡ le x y
unfolding le
positive_le x y = λ i. positive_lt x y i || positive-eq x y i

-- ---- one number: it stays of its kind, and two doubles that count as equal become the same

-- A number is usable with either sign of a zero.
pub positive-usable : (x : Float) → usable (positive_zero x) ≡ usable x
unfolding positive_zero eq
positive-usable x = λ i. positive_le (fin true 1 (pos 100)) x i && positive_le x (fin false 1 (pos 100)) i

zero_positive : (s : Bool) (m : ℕ) (e : ℤ) → value (fin s m e) ≡ value zero_f → positive_zero (fin s m e) ≡ zero_f
unfolding positive_zero
zero_positive s m e v =
    taken (λ (z : Float). z ≡ zero_f) (eq (fin s m e) zero_f) zero_f (fin s m e) (value→eq s m e false 0 (pos 0) v) refl

-- A second time changes nothing.
pub positive-again : (x : Float) → positive_zero (positive_zero x) ≡ positive_zero x
positive-again = from-zeros (λ x z. positive_zero z ≡ positive_zero x) (λ _. refl)
    (λ s m e v. zero_positive false 0 (pos 0) refl ∙ sym (zero_positive s m e v))

-- A double stays a double,
pub positive-fits : (x : Float) → T (fits binary64 x) → T (fits binary64 (positive_zero x))
positive-fits = from-zeros (λ x z. T (fits binary64 x) → T (fits binary64 z)) (λ _ h. h) (λ _ _ _ _ _. unfold fits in tt)

-- and what is no NaN does not become one.
pub positive_number : (x : Float) → T (not (is_nan x)) → T (not (is_nan (positive_zero x)))
positive_number = from-zeros (λ x z. T (not (is_nan x)) → T (not (is_nan z))) (λ _ h. h) (λ _ _ _ _ _. unfold is_nan in tt)

module _ (m : ℕ) (e : ℤ) (n : ℕ) (d : ℤ) where
  one_sign : (s : Bool) → T (fits binary64 (fin s m e)) → T (fits binary64 (fin s n d)) → T (eq (fin s m e) (fin s n d))
      → positive_zero (fin s m e) ≡ positive_zero (fin s n d)
  unfolding eq
  one_sign s f g h =
      let a = m * up e * down d in
      let b = n * up d * down e in
      ap positive_zero (unique binary64 s m e n d f g (eqb→eq a b (and_l (eqb a b) (beq s s || eqb a 0) h)))

  two_signs : value (fin true m e) ≡ value (fin false n d) → positive_zero (fin true m e) ≡ positive_zero (fin false n d)
  two_signs v =
      let z : value (fin true m e) ≡ 0ℚ = le_antisym (value_nonpos m e) (subst (λ (q : ℚ). 0ℚ ≤ℚ q) (sym v) (value-nonneg n d)) in
      let o : 0ℚ ≡ value zero_f = sym (value_zero false (pos 0)) in
      zero_positive true m e (z ∙ o) ∙ sym (zero_positive false n d (sym v ∙ z ∙ o))

-- Two doubles that count as equal are the same, but for the sign of a zero.
pub equal-positive : (x y : Float) → T (fits binary64 x) → T (fits binary64 y) → T (eq x y) → positive_zero x ≡ positive_zero y
unfolding eq
equal-positive nan y f g h = absurd h
equal-positive (inf s) nan f g h = absurd h
equal-positive (inf true) (inf true) f g h = refl
equal-positive (inf true) (inf false) f g h = absurd h
equal-positive (inf false) (inf true) f g h = absurd h
equal-positive (inf false) (inf false) f g h = refl
equal-positive (inf s) (fin t n d) f g h = absurd h
equal-positive (fin s m e) nan f g h = absurd h
equal-positive (fin s m e) (inf t) f g h = absurd h
equal-positive (fin true m e) (fin true n d) f g h = one_sign m e n d true f g h
equal-positive (fin false m e) (fin false n d) f g h = one_sign m e n d false f g h
equal-positive (fin true m e) (fin false n d) f g h = two_signs m e n d (eq→value true m e false n d h)
equal-positive (fin false m e) (fin true n d) f g h = sym (two_signs n d m e (sym (eq→value false m e true n d h)))

-- Two that are the same but for the sign of a zero, and no NaN, count as equal.
pub positive-equal : (x y : Float) → T (not (is_nan x)) → positive_zero x ≡ positive_zero y → T (eq x y)
positive-equal x y h p = subst T (sym (positive-eq x x) ∙ ap (eq (positive_zero x)) p ∙ positive-eq x y) (own x h)
  where
    own : (x : Float) → T (not (is_nan x)) → T (eq x x)
    own nan h = unfold is_nan in absurd h
    own (inf true) h = unfold eq in tt
    own (inf false) h = unfold eq in tt
    own (fin s m e) h = value→eq s m e s m e refl

-- ---- lists that are mapped: their tests, their counts, their elements
module _ {A B : Type 0} (f : A → B) where
  all_map : (p : B → Bool) (q : A → Bool) → ((x : A) → p (f x) ≡ q x) → (l : List A) → all p (map f l) ≡ all q l
  unfolding all
  all_map p q h [] = refl
  all_map p q h (x ∷ l) = λ i. h x i && all_map p q h l i

  count_map : (p : B → Bool) (q : A → Bool) → ((x : A) → p (f x) ≡ q x) → (l : List A) → count p (map f l) ≡ count q l
  unfolding count
  count_map p q h [] = refl
  count_map p q h (x ∷ l) = λ i. cond (h x i) 1 0 + count_map p q h l i

  element-map : (d : A) (e : B) → e ≡ f d → (l : List A) (i : ℕ) → get_or (map f l) i e ≡ f (get_or l i d)
  element-map d e h [] i = h
  element-map d e h (x ∷ l) zero = refl
  element-map d e h (x ∷ l) (suc i) = element-map d e h l i

-- ---- intervals and points: those of the mapped numbers have `positive_zero` on both bounds
abbrev plain : List Float → List Float
plain = map positive_zero

abbrev plain_s : Scalar → Scalar
plain_s x = record { lo = positive_zero x.lo; hi = positive_zero x.hi }

number_at : (l : List Float) (i : ℕ) → get_or (plain l) i nan ≡ positive_zero (get_or l i nan)
number_at = element-map positive_zero nan nan (unfold positive_zero eq in refl)

-- n intervals, whichever they are
row : (n : ℕ) (l : List Float) (g : ℕ → ℕ) → tab n (λ j. scalar_at (plain l) (g j)) ≡ map plain_s (tab n (λ j. scalar_at l (g j)))
row n l g =
    tab-ext n (λ j. scalar_at (plain l) (g j)) (λ j. plain_s (scalar_at l (g j)))
    (λ j _ i. record { lo = number_at l (2 * g j) i; hi = number_at l (2 * g j + 1) i })
    ∙ sym (map-tab plain_s n (λ j. scalar_at l (g j)))

points-plain : (D n : ℕ) (l : List Float) → points_of D n (plain l) ≡ map (map plain_s) (points_of D n l)
unfolding points_of point_at
points-plain D n l =
    tab-ext n (point_at D (plain l)) (λ i. map plain_s (point_at D l i)) (λ i _. row D l (λ k. D * i + k))
    ∙ sym (map-tab (map plain_s) n (point_at D l))

-- ---- the tests of many numbers at once
all_usable : (l : List Float) → all usable (plain l) ≡ all usable l
all_usable = all_map positive_zero usable usable positive-usable

all_ordered : (n : ℕ) (l : List Float) → all ordered (scalars_of n (plain l)) ≡ all ordered (scalars_of n l)
all_ordered n l =
    ap (all ordered) (row n l (λ j. j)) ∙ all_map plain_s ordered ordered (λ x. positive_le x.lo x.hi) (scalars_of n l)

rising-plain : (l : List Float) → rising (plain l) ≡ rising l
unfolding rising
rising-plain [] = refl
rising-plain (a ∷ []) = refl
rising-plain (a ∷ b ∷ l) = λ i. positive_le a b i && rising-plain (b ∷ l) i

multiplicity-plain : (p : ℕ) (a b : Float) (l : List Float) (u : Float)
    → multiplicity_ok p (positive_zero a) (positive_zero b) (plain l) (positive_zero u) ≡ multiplicity_ok p a b l u
unfolding multiplicity_ok
multiplicity-plain p a b l u =
    let times = count_map positive_zero (λ v. eq v (positive_zero u)) (λ v. eq v u) (λ v. positive-eq v u) l in
    λ i.
    cond (positive-eq u a i || positive-eq u b i) (leb (times i) (p + 1))
    (cond (positive_lt a u i && positive_lt u b i) (leb (times i) (max p 1)) true)

knots-plain : (p n : ℕ) (l : List Float) → knots_valid p n (plain l) ≡ knots_valid p n l
unfolding knots_valid
knots-plain p n l =
    let a = get_or l p nan in
    let b = get_or l n nan in
    let ok = multiplicity_ok p (positive_zero a) (positive_zero b) (plain l) in
    (λ i.
    rising-plain l i && lt (number_at l p i) (number_at l n i)
    && all (multiplicity_ok p (number_at l p i) (number_at l n i) (plain l)) (plain l))
    ∙ (λ i. rising l && positive_lt a b i && all_map positive_zero ok (multiplicity_ok p a b l) (multiplicity-plain p a b l) l i)

weights-plain : (k D n : ℕ) (l : List Float) → weights_positive k (points_of D n (plain l)) ≡ weights_positive k (points_of D n l)
unfolding weights_positive positive_zero eq
weights-plain k D n l = ap (all above) (points-plain D n l) ∙ all_map (map plain_s) above above each (points_of D n l)
  where
    above : Vector → Bool
    above q = lt zero_f (coordinate q k).lo

    each : (q : Vector) → above (map plain_s q) ≡ above q
    each q =
        ap (λ (x : Scalar). lt zero_f x.lo) (element-map plain_s absent absent refl q k) ∙ positive_lt zero_f (coordinate q k).lo

-- ---- the question: each check gives what it gave, and so does the first that fails

-- A question with each zero positive is refused by the number by which it is refused as it is.
pub question-signs : (rev : ℕ) (v : Curve) (box : List Float) (resolution : Float) (nodes : ℕ)
    → question_refusal rev (curve_of v.dim v.degree v.count (map positive_zero v.knots) (map positive_zero v.points))
    (map positive_zero box) (positive_zero resolution) nodes
    ≡ question_refusal rev v box resolution nodes
unfolding question_refusal curve_refusal first_failed lengths_fit numbers_usable bounds_ordered weights_fit knots_fit positive_zero eq
question-signs rev v box resolution nodes = λ i.
    or_else (revision_refusal rev) (or_else (or_else (sizes_refusal v.dim v.degree v.count)
    (cond (eqb (length-map v.knots positive_zero i) (v.count + v.degree + 1)
    && eqb (length-map v.points positive_zero i) (2 * suc v.dim * v.count)
    && eqb (length-map box positive_zero i) (2 * v.dim))
    (cond (all_usable v.knots i && all_usable v.points i && all_usable box i && positive-usable resolution i
    && positive_le zero_f resolution i)
    (cond (all_ordered (suc v.dim * v.count) v.points i && all_ordered v.dim box i)
    (cond (weights-plain v.dim (suc v.dim) v.count v.points i)
    (cond (knots-plain v.degree v.count v.knots i) 0 8) 7) 6) 5) 4))
    (first_failed nodes 9 (nodes_fit ∷ [])))
