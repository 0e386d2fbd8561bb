-- What a text says that the writer accepts: its question is a good one, and nothing refuses it.
use mathlib.Core.Path.{◌≡◌, refl, sym, ap, ◌∙◌, subst}
use mathlib.Core.Bool.{Bool, true, false, cond, ◌&&◌}
use mathlib.Core.List.{List, [], ◌∷◌, ◌++◌}
use Prim.Native.Nat.{ℕ, zero, suc, ◌+◌, ◌*◌}
use native.Mathlib.Nat.{mul-zero, mul-suc}
use native.Mathlib.Omega.{arith}
use lib.ListN.{length, get_or, length-append}
use lib.IntN.{pos}
use lib.Dec.{T, leb, leb→le, eqb}
use lib.Ieee.{Float, nan, fin, binary64, fits, le}
use lib.Ieee.Bits.{is_true}
use Rattle.math.specs.Scalars.{zero_f}
use Rattle.math.proofs.Bools.{yes, and_l}
use Rattle.math.proofs.Laws.{le_number_r}
use Rattle.lists.specs.Lists.{all}
use Rattle.lists.proofs.Fold.{all_get_or}
use Rattle.model.specs.Call.{curve_of, usable, numbers_usable, revision_refusal, sizes_refusal}
use Rattle.model.proofs.Checks.{question-passes}
use Rattle.text.specs.Bytes.{bytes, Read, bad, got, then, word}
use Rattle.text.specs.Numerals.{double}
use Rattle.text.specs.Question.{small_line, behind, values, line, lines, revision, Sizes, sizes}
use Rattle.text.specs.Question.{knot_doubles, point_doubles, box_doubles, Numbers, numbers}
use Rattle.text.specs.Question.{Reading, refused_by, asks, complete_by, opened_by, read_by, named_by, begun_by, reading}
use Rattle.text.specs.Printable.{is_number, AllNumbers}
use Rattle.text.specs.Form.{refusal_of, checked_by, accepted_by, accepted}
use Rattle.text.proofs.numerals.Decimal.{both}
use Rattle.text.proofs.numerals.Back.{double-fits}
use Rattle.text.proofs.rewrite.Good.{is_good, Good}

-- ---- what is read

-- If something is read, it is such.
abbrev Such : {A : Type 0} → (A → Type 0) → Read A → Type 0
Such P bad = Unit
Such P (got x t) = P x

-- nothing is said of it
any : {A : Type 0} (r : Read A) → Such (λ _. Unit) r
any bad = tt
any (got x t) = tt

-- one after the other
such-then : {A B : Type 0} (P : A → Type 0) (Q : B → Type 0) (r : Read A) (f : A → List ℕ → Read B) → Such P r
    → ((x : A) (t : List ℕ) → P x → Such Q (f x t)) → Such Q (then r f)
unfolding then
such-then P Q bad f p h = tt
such-then P Q (got x t) f p h = h x t p

-- ---- doubles

-- n doubles.
record Doubles (n : ℕ) (xs : List Float) : Type 0 where
  pub long : length xs ≡ n
  pub fit : all (fits binary64) xs ≡ true

all_append : {A : Type 0} (p : A → Bool) (xs ys : List A) → all p xs ≡ true → all p ys ≡ true → all p (xs ++ ys) ≡ true
unfolding all
all_append p [] ys e f = f
all_append p (x ∷ xs) ys e f =
    let h = both (p x) (all p xs) e in
    ap (λ (b : Bool). b && all p (xs ++ ys)) h.0 ∙ all_append p xs ys h.1 f

-- none of them, one more, and some behind others
no-doubles : Doubles 0 []
unfolding all
no-doubles = record { long = refl; fit = refl }

more-doubles : (n : ℕ) (x : Float) (xs : List Float) → T (fits binary64 x) → Doubles n xs → Doubles (suc n) (x ∷ xs)
unfolding all
more-doubles n x xs t d = record {
  long = ap suc d.long;
  fit = ap (λ (b : Bool). b && all (fits binary64) xs) (is_true (fits binary64 x) t) ∙ d.fit;
}

join-doubles : (m n : ℕ) (xs ys : List Float) → Doubles m xs → Doubles n ys → Doubles (m + n) (xs ++ ys)
join-doubles m n xs ys d e = record {
  long = length-append xs ys ∙ (λ i. d.long i + e.long i);
  fit = all_append (fits binary64) xs ys d.fit e.fit;
}

double_is : (r : Read Float) → ((x : Float) (rest : List ℕ) → r ≡ got x rest → T (fits binary64 x))
    → Such (λ x. T (fits binary64 x)) r
double_is bad h = tt
double_is (got x t) h = h x t refl

values-doubles : (n : ℕ) (t : List ℕ) → Such (Doubles n) (values n t)
unfolding values
values-doubles zero t = no-doubles
values-doubles (suc n) t =
    such-then (λ x. T (fits binary64 x)) (Doubles (suc n)) (double t) _ (double_is (double t) (λ x rest. double-fits t rest x))
    (λ x a p. such-then (λ _. Unit) (Doubles (suc n)) (word (behind n ∷ []) a) _ (any (word (behind n ∷ []) a))
    (λ _ b _. such-then (Doubles n) (Doubles (suc n)) (values n b) _ (values-doubles n b)
    (λ xs rest d. more-doubles n x xs p d)))

line-doubles : (key : List ℕ) (n : ℕ) (t : List ℕ) → Such (Doubles n) (line key n t)
unfolding line
line-doubles key n t =
    such-then (λ _. Unit) (Doubles n) (word key t) _ (any (word key t)) (λ _ a _. values-doubles n a)

lines-doubles : (key : List ℕ) (n k : ℕ) (t : List ℕ) → Such (Doubles (n * k)) (lines key n k t)
unfolding lines
lines-doubles key n zero t = subst (λ (m : ℕ). Doubles m []) (sym (mul-zero n)) no-doubles
lines-doubles key n (suc k) t =
    let e : n + n * k ≡ n * suc k = omega (arith, mul-suc n k) in
    such-then (Doubles n) (Doubles (n * suc k)) (line key n t) _ (line-doubles key n t)
    (λ xs a d. such-then (Doubles (n * k)) (Doubles (n * suc k)) (lines key n k a) _ (lines-doubles key n k a)
    (λ ys rest f. subst (λ (m : ℕ). Doubles m (xs ++ ys)) e (join-doubles n (n * k) xs ys d f)))

-- ---- the other lines

-- The lists are as long as the sizes say, and all numbers are doubles.
record Said (s : Sizes) (q : Numbers) : Type 0 where
  pub resolution : T (fits binary64 q.resolution)
  pub knots : Doubles (knot_doubles s) q.knots
  pub points : Doubles (point_doubles s * s.count) q.points
  pub box : Doubles (box_doubles s) q.box

only : (xs : List Float) → Doubles 1 xs → T (fits binary64 (get_or xs 0 nan))
only xs d = yes _ (all_get_or (fits binary64) xs 0 nan d.fit (omega (arith, d.long)))

numbers_said : (s : Sizes) (t : List ℕ) → Such (Said s) (numbers s t)
unfolding numbers
numbers_said s t =
    such-then (λ _. Unit) (Said s) (small_line (bytes "nodes=") t) _ (any (small_line (bytes "nodes=") t))
    (λ nodes a _. such-then (Doubles 1) (Said s) (line (bytes "resolution=") 1 a) _ (line-doubles (bytes "resolution=") 1 a)
    (λ resolution b u.
    such-then (Doubles (knot_doubles s)) (Said s) (line (bytes "knots=") (knot_doubles s) b) _
    (line-doubles (bytes "knots=") (knot_doubles s) b)
    (λ knots c v.
    such-then (Doubles (point_doubles s * s.count)) (Said s) (lines (bytes "point=") (point_doubles s) s.count c) _
    (lines-doubles (bytes "point=") (point_doubles s) s.count c)
    (λ points d w.
    such-then (Doubles (box_doubles s)) (Said s) (line (bytes "box=") (box_doubles s) d) _
    (line-doubles (bytes "box=") (box_doubles s) d)
    (λ box rest z. record { resolution = only resolution u; knots = v; points = w; box = z })))))

-- ---- the whole text

-- What is known of a question that is read.
record Asked (rev : ℕ) (s : Sizes) (q : Numbers) : Type 0 where
  pub revision : revision_refusal rev ≡ 0
  pub sizes : sizes_refusal s.dim s.degree s.count ≡ 0
  pub said : Said s q

-- If it is a question, it is such.
abbrev Asks : ((rev : ℕ) (s : Sizes) (q : Numbers) → Type 0) → Reading → Type 0
Asks P (refused_by n) = Unit
Asks P (asks rev s q) = P rev s q

tested : (rev : ℕ) (s : Sizes) (q : Numbers) (b : Bool) → Asked rev s q → Asks Asked (cond b (asks rev s q) (refused_by 12))
tested rev s q true a = a
tested rev s q false a = tt

module _ (rev n : ℕ) (R : revision_refusal rev ≡ 0) where
  complete-asked : (s : Sizes) (r : Read Numbers) → sizes_refusal s.dim s.degree s.count ≡ 0 → Such (Said s) r
      → Asks Asked (complete_by rev s n r)
  unfolding complete_by
  complete-asked s bad S h = tt
  complete-asked s (got q rest) S h =
      tested rev s q (leb n 65536 && eqb (length rest) 0) (record { revision = R; sizes = S; said = h })

  opened-asked : (s : Sizes) (rest : List ℕ) (k : ℕ) → sizes_refusal s.dim s.degree s.count ≡ k
      → Asks Asked (opened_by rev s n rest k)
  unfolding opened_by
  opened-asked s rest zero S = complete-asked s (numbers s rest) S (numbers_said s rest)
  opened-asked s rest (suc k) S = tt

  read_asked : (r : Read Sizes) → Asks Asked (read_by rev n r)
  unfolding read_by
  read_asked bad = tt
  read_asked (got s rest) = opened-asked s rest _ refl

named-asked : (rev n : ℕ) (rest : List ℕ) (k : ℕ) → revision_refusal rev ≡ k → Asks Asked (named_by rev n rest k)
unfolding named_by
named-asked rev n rest zero R = read_asked rev n R (sizes rest)
named-asked rev n rest (suc k) R = tt

begun-asked : (n : ℕ) (r : Read ℕ) → Asks Asked (begun_by n r)
unfolding begun_by
begun-asked n bad = tt
begun-asked n (got rev rest) = named-asked rev n rest _ refl

-- ---- and nothing refuses it

usable_number : (x : Float) → T (usable x) → T (is_number x)
usable_number x t =
    let low = fin true 1 (pos 100) in
    le_number_r low x (and_l (le low x) (le x (fin false 1 (pos 100))) t)

usable-good : (x : Float) → T (fits binary64 x) → T (usable x) → is_good x ≡ true
usable-good x f t = λ i. is_true (fits binary64 x) f i && is_true (is_number x) (usable_number x t) i

all_good : (xs : List Float) → all (fits binary64) xs ≡ true → all usable xs ≡ true → all is_good xs ≡ true
unfolding all
all_good [] e f = refl
all_good (x ∷ xs) e f =
    let h = both (fits binary64 x) (all (fits binary64) xs) e in
    let k = both (usable x) (all usable xs) f in
    λ i. usable-good x (yes _ h.0) (yes _ k.0) i && all_good xs h.1 k.1 i

first_four : (a b c d e : Bool) → T (a && b && c && d && e) → (a ≡ true) × (b ≡ true) × (c ≡ true) × T d
first_four true true true true e t = (refl, refl, refl, tt)
first_four true true true false e t = absurd t
first_four true true false d e t = absurd t
first_four true false c d e t = absurd t
first_four false b c d e t = absurd t

usable-four : (rev : ℕ) (s : Sizes) (q : Numbers) → refusal_of rev s q ≡ 0
    → (all usable q.knots ≡ true) × (all usable q.points ≡ true) × (all usable q.box ≡ true) × T (usable q.resolution)
unfolding numbers_usable
usable-four rev s q e =
    let v = curve_of s.dim s.degree s.count q.knots q.points in
    let p = question-passes rev v q.box q.resolution q.nodes e in
    first_four (all usable q.knots) (all usable q.points) (all usable q.box) (usable q.resolution)
    (le zero_f q.resolution) p.curve.numbers

good : (rev : ℕ) (s : Sizes) (q : Numbers) → Asked rev s q → refusal_of rev s q ≡ 0 → Good rev s q
good rev s q a e =
    let v = curve_of s.dim s.degree s.count q.knots q.points in
    let p = question-passes rev v q.box q.resolution q.nodes e in
    let u = usable-four rev s q e in
    record {
      revision = a.revision;
      sizes = a.sizes;
      nodes = leb→le q.nodes 4096 p.nodes-few;
      long = record {
        knots_long = a.said.knots.long;
        points_long = a.said.points.long;
        box_long = a.said.box.long;
      };
      resolution = usable-good q.resolution a.said.resolution u.3;
      knots = all_good q.knots a.said.knots.fit u.0;
      points = all_good q.points a.said.points.fit u.1;
      box = all_good q.box a.said.box.fit u.2;
    }

number_all : (xs : List Float) → all usable xs ≡ true → all is_number xs ≡ true
unfolding all
number_all [] e = refl
number_all (x ∷ xs) e =
    let h = both (usable x) (all usable xs) e in
    λ i. is_true (is_number x) (usable_number x (yes _ h.0)) i && number_all xs h.1 i

-- No double of a question that is not refused is a NaN.
pub all_numbers : (rev : ℕ) (s : Sizes) (q : Numbers) → refusal_of rev s q ≡ 0 → AllNumbers q
all_numbers rev s q e =
    let u = usable-four rev s q e in
    record {
      resolution = usable_number q.resolution u.3;
      knots = number_all q.knots u.0;
      points = number_all q.points u.1;
      box = number_all q.box u.2;
    }

-- What is known of a question that is accepted.
abbrev Accepted : (rev : ℕ) (s : Sizes) (q : Numbers) → Type 0
Accepted rev s q = Good rev s q × (refusal_of rev s q ≡ 0)

checked-good : (rev : ℕ) (s : Sizes) (q : Numbers) (k : ℕ) → Asked rev s q → refusal_of rev s q ≡ k
    → Asks Accepted (checked_by rev s q k)
unfolding checked_by
checked-good rev s q zero a e = (good rev s q a e, e)
checked-good rev s q (suc k) a e = tt

by_reading : (r : Reading) → Asks Asked r → Asks Accepted (accepted_by r)
unfolding accepted_by
by_reading (refused_by n) a = tt
by_reading (asks rev s q) a = checked-good rev s q _ a refl

text-good : (t : List ℕ) → Asks Accepted (accepted t)
unfolding accepted reading
text-good t = by_reading (reading t) (begun-asked (length t) (revision t))

-- The question of a text that is accepted is a good one, and nothing refuses it.
pub accepted-good : (t : List ℕ) (rev : ℕ) (s : Sizes) (q : Numbers) → accepted t ≡ asks rev s q
    → Good rev s q × (refusal_of rev s q ≡ 0)
accepted-good t rev s q e = subst (Asks Accepted) e (text-good t)
