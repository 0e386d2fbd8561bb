-- The three laws of the writer: what is written reads back, writing it again changes no byte, and two texts have equal numbers
-- exactly when they have the same form. They lean on `form_back`, `form-plain`, `accepted-good` and the sign of a zero.
use mathlib.Core.Path.{◌≡◌, refl, sym, ap, ◌∙◌}
use mathlib.Core.Bool.{Bool, true, false}
use mathlib.Core.List.{List, [], ◌∷◌, map}
use Prim.Native.Nat.{ℕ}
use lib.Dec.{T}
use lib.Ieee.{Float, binary64, eq, fits}
use lib.Ieee.Fits.{and_i}
use Rattle.math.proofs.Bools.{yes, and_l, and_r}
use Rattle.lists.specs.Lists.{all}
use Rattle.model.specs.Call.{curve_of}
use Rattle.model.specs.Subdivide.{positive_zero}
use Rattle.model.proofs.Signs.{positive-again, equal-positive, positive-equal, question-signs}
use Rattle.text.specs.Question.{Sizes, Numbers, Reading, refused_by, asks, reading}
use Rattle.text.specs.Printable.{is_number}
use Rattle.text.specs.Form.{form, refusal_of, checked_by, accepted_by, accepted}
use Rattle.text.specs.OneForm.{equal_doubles, Equal, AllReadBack, OneForm}
use Rattle.text.proofs.numerals.Decimal.{both}
use Rattle.text.proofs.rewrite.Good.{plain, is_good, Good, form-short}
use Rattle.text.proofs.rewrite.Back.{form_back, form-plain}
use Rattle.text.proofs.rewrite.Accepted.{accepted-good}

-- ---- equal doubles: they are the same with positive zeros

good-fits : (x : Float) → is_good x ≡ true → T (fits binary64 x)
good-fits x e = yes _ (both (fits binary64 x) (is_number x) e).0

good_number : (x : Float) → is_good x ≡ true → T (is_number x)
good_number x e = yes _ (both (fits binary64 x) (is_number x) e).1

equal-plain : (xs ys : List Float) → all is_good xs ≡ true → all is_good ys ≡ true → T (equal_doubles xs ys)
    → map positive_zero xs ≡ map positive_zero ys
unfolding all equal_doubles
equal-plain [] [] e f t = refl
equal-plain [] (y ∷ ys) e f t = absurd t
equal-plain (x ∷ xs) [] e f t = absurd t
equal-plain (x ∷ xs) (y ∷ ys) e f t =
    let g = both (is_good x) (all is_good xs) e in
    let h = both (is_good y) (all is_good ys) f in
    let first = equal-positive x y (good-fits x g.0) (good-fits y h.0) (and_l (eq x y) (equal_doubles xs ys) t) in
    let rest = equal-plain xs ys g.1 h.1 (and_r (eq x y) (equal_doubles xs ys) t) in
    λ i. first i ∷ rest i

abbrev head : Float → List Float → Float
head d [] = d
head d (x ∷ xs) = x

abbrev tail : List Float → List Float
tail [] = []
tail (x ∷ xs) = xs

abbrev some : List Float → Bool
some [] = false
some (x ∷ xs) = true

plain-equal : (xs ys : List Float) → all is_good xs ≡ true → map positive_zero xs ≡ map positive_zero ys → T (equal_doubles xs ys)
unfolding all equal_doubles
plain-equal [] [] e p = tt
plain-equal [] (y ∷ ys) e p = yes false (ap some p)
plain-equal (x ∷ xs) [] e p = yes false (sym (ap some p))
plain-equal (x ∷ xs) (y ∷ ys) e p =
    let g = both (is_good x) (all is_good xs) e in
    and_i (eq x y) (equal_doubles xs ys) (positive-equal x y (good_number x g.0) (ap (head x) p))
    (plain-equal xs ys g.1 (ap tail p))

-- ---- equal questions: they are the same with positive zeros

module _ (rev rev' : ℕ) (s s' : Sizes) (q q' : Numbers) (g : Good rev s q) where
  numbers_equal : Good rev' s' q' → Equal rev rev' s s' q q' → plain q ≡ plain q'
  numbers_equal h e =
      λ i. record {
        nodes = e.nodes i;
        resolution =
            equal-positive q.resolution q'.resolution (good-fits _ g.resolution) (good-fits _ h.resolution) e.resolution i;
        knots = equal-plain q.knots q'.knots g.knots h.knots e.knots i;
        points = equal-plain q.points q'.points g.points h.points e.points i;
        box = equal-plain q.box q'.box g.box h.box e.box i;
      }

  equal_numbers : rev ≡ rev' → s ≡ s' → plain q ≡ plain q' → Equal rev rev' s s' q q'
  equal_numbers r z p = record {
    revision = r;
    sizes = z;
    nodes = ap (λ (x : Numbers). x.nodes) p;
    resolution = positive-equal _ _ (good_number _ g.resolution) (ap (λ (x : Numbers). x.resolution) p);
    knots = plain-equal _ _ g.knots (ap (λ (x : Numbers). x.knots) p);
    points = plain-equal _ _ g.points (ap (λ (x : Numbers). x.points) p);
    box = plain-equal _ _ g.box (ap (λ (x : Numbers). x.box) p);
  }

-- ---- what is written reads back

again-double : (xs : List Float) → map positive_zero (map positive_zero xs) ≡ map positive_zero xs
again-double [] = refl
again-double (x ∷ xs) = λ i. positive-again x i ∷ again-double xs i

plain-again : (q : Numbers) → plain q ≡ plain (plain q)
plain-again q =
    λ i. record {
      nodes = q.nodes;
      resolution = sym (positive-again q.resolution) i;
      knots = sym (again-double q.knots) i;
      points = sym (again-double q.points) i;
      box = sym (again-double q.box) i;
    }

form-accepted : (rev : ℕ) (s : Sizes) (q : Numbers) → Good rev s q → refusal_of rev s q ≡ 0
    → accepted (form rev s q) ≡ asks rev s (plain q)
unfolding accepted accepted_by checked_by
form-accepted rev s q g e =
    let v = curve_of s.dim s.degree s.count q.knots q.points in
    ap accepted_by (form_back rev s q g)
    ∙ ap (checked_by rev s (plain q)) (question-signs rev v q.box q.resolution q.nodes ∙ e)

-- (1) and (2): what is written reads back to the same numbers, the zeros counting as one, and writing it again changes no byte.
pub reads_back : AllReadBack
reads_back t rev s q a =
    let g = accepted-good t rev s q a in
    record {
      again = plain q;
      reads = form-accepted rev s q g.0 g.1;
      same = equal_numbers rev rev s s q (plain q) g.0 refl refl (plain-again q);
      unchanged = form-plain rev s q;
      short = form-short rev s q g.0;
    }

-- ---- one form

-- The parts of a question.
abbrev revision_of : Reading → ℕ
revision_of (refused_by n) = 0
revision_of (asks rev s q) = rev

abbrev sizes_in : Sizes → Reading → Sizes
sizes_in d (refused_by n) = d
sizes_in d (asks rev s q) = s

abbrev numbers_of : Numbers → Reading → Numbers
numbers_of d (refused_by n) = d
numbers_of d (asks rev s q) = q

-- (3): two texts have equal numbers exactly when the writer gives them equal bytes.
pub one_form : OneForm
one_form t t' rev rev' s s' q q' a a' = (there, back)
  where
    g : Good rev s q
    g = (accepted-good t rev s q a).0

    h : Good rev' s' q'
    h = (accepted-good t' rev' s' q' a').0

    there : Equal rev rev' s s' q q' → form rev s q ≡ form rev' s' q'
    there e =
        sym (form-plain rev s q)
        ∙ (λ i. form (e.revision i) (e.sizes i) (numbers_equal rev rev' s s' q q' g h e i))
        ∙ form-plain rev' s' q'

    back : form rev s q ≡ form rev' s' q' → Equal rev rev' s s' q q'
    back p =
        let r : asks rev s (plain q) ≡ asks rev' s' (plain q') =
        sym (form_back rev s q g) ∙ ap reading p ∙ form_back rev' s' q' h in
        equal_numbers rev rev' s s' q q' g (ap revision_of r) (ap (sizes_in s) r) (ap (numbers_of (plain q)) r)
