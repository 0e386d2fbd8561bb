-- The one form of a question reads back to the question with positive zeros, and that question has the same form.
use mathlib.Core.Path.{◌≡◌, refl, sym, ap, ◌∙◌}
use mathlib.Core.Bool.{Bool, true, cond, ◌&&◌}
use mathlib.Core.List.{List, [], ◌∷◌, ◌++◌, map, map-append, append_assoc, append-nil}
use Prim.Native.Nat.{ℕ, zero, suc, ◌*◌, ◌≤◌}
use native.Mathlib.Nat.{mul-zero, mul-suc}
use native.Mathlib.Omega.{arith}
use borrow.Author.Tests.{le-leb, eq-eqb}
use lib.ListN.{length, take, drop, length-drop, length-map, take-append-drop}
use lib.Seq.{length-take-le}
use lib.Ieee.{Float, binary64, fits}
use Rattle.math.proofs.Bools.{yes}
use Rattle.lists.specs.Lists.{all}
use Rattle.model.specs.Call.{revision_refusal, sizes_refusal}
use Rattle.model.specs.Subdivide.{positive_zero}
use Rattle.model.proofs.Checks.{small-sizes}
use Rattle.model.proofs.Signs.{positive-fits, positive_number, positive-again}
use Rattle.text.specs.Bytes.{bytes, Read, got, word}
use Rattle.text.specs.Numerals.{small, decimal, double, hexadecimal}
use Rattle.text.specs.Question.{small_line, behind, values, line, lines, revision_by, revision, Sizes, sizes}
use Rattle.text.specs.Question.{knot_doubles, point_doubles, box_doubles, Numbers, numbers}
use Rattle.text.specs.Question.{refused_by, asks, complete_by, opened_by, read_by, named_by, begun_by, reading}
use Rattle.text.specs.Printable.{is_number}
use Rattle.text.specs.Form.{small_text, values_text, line_text, lines_text, sizes_text, limits_text, shape_text, form}
use Rattle.text.proofs.numerals.Decimal.{both}
use Rattle.text.proofs.numerals.Back.{decimal_back, hexadecimal_back}
use Rattle.text.proofs.question.Words.{then-got}
use Rattle.text.proofs.rewrite.Lines.{all_parts}
use Rattle.text.proofs.rewrite.Good.{plain, is_good, Good, small-revision, form-short}

-- ---- lists that are mapped

module _ {A B : Type 0} (f : A → B) where
  take-map : (n : ℕ) (l : List A) → take n (map f l) ≡ map f (take n l)
  take-map zero l = refl
  take-map (suc n) [] = refl
  take-map (suc n) (x ∷ l) = ap (λ (r : List B). f x ∷ r) (take-map n l)

  drop-map : (n : ℕ) (l : List A) → drop n (map f l) ≡ map f (drop n l)
  drop-map zero l = refl
  drop-map (suc n) [] = refl
  drop-map (suc n) (x ∷ l) = drop-map n l

  map-parts : (n : ℕ) (l : List A) → map f (take n l) ++ map f (drop n l) ≡ map f l
  map-parts n l = sym (map-append f (take n l) (drop n l)) ∙ ap (map f) (take-append-drop n l)

-- ---- what each line reads back to

-- a word
pub word_back : (w t : List ℕ) → word w (w ++ t) ≡ got tt t
unfolding word
word_back [] t = refl
word_back (b ∷ w) t = rw (eq-eqb b b refl) (word_back w t)

-- a small number
pub small-line_back : (key : List ℕ) (n : ℕ) (t : List ℕ) → n ≤ 999999999 → small_line key (small_text key n ++ t) ≡ got n t
unfolding small_line small_text
small-line_back key n t h =
    let turn : key ++ decimal n ++ (10 ∷ []) ++ t ≡ key ++ (decimal n ++ (10 ∷ t)) = simp append_assoc in
    ap (small_line key) turn
    ∙ then-got (word key (key ++ (decimal n ++ (10 ∷ t)))) _ tt (decimal n ++ (10 ∷ t)) (word_back key _)
    ∙ then-got (small (decimal n ++ (10 ∷ t))) _ n (10 ∷ t) (decimal_back n t h)
    ∙ then-got (word (10 ∷ []) (10 ∷ t)) _ tt t (word_back (10 ∷ []) t)

-- one double
value_back : (x : Float) (t : List ℕ) → is_good x ≡ true → double (hexadecimal (positive_zero x) ++ t) ≡ got (positive_zero x) t
value_back x t e =
    let h = both (fits binary64 x) (is_number x) e in
    hexadecimal_back (positive_zero x) t (positive-fits x (yes _ h.0)) (positive_number x (yes _ h.1))

-- doubles
pub values_back : (xs : List Float) (t : List ℕ) → all is_good xs ≡ true
    → values (length xs) (values_text xs ++ t) ≡ got (map positive_zero xs) t
unfolding values values_text all
values_back [] t e = refl
values_back (x ∷ xs) t e =
    let h = both (is_good x) (all is_good xs) e in
    let b = behind (length xs) in
    let rest = values_text xs ++ t in
    ap (values (suc (length xs))) (append_assoc (hexadecimal (positive_zero x)) (b ∷ values_text xs) t)
    ∙ then-got (double (hexadecimal (positive_zero x) ++ (b ∷ rest))) _ (positive_zero x) (b ∷ rest) (value_back x _ h.0)
    ∙ then-got (word (b ∷ []) (b ∷ rest)) _ tt rest (word_back (b ∷ []) rest)
    ∙ then-got (values (length xs) rest) _ (map positive_zero xs) t (values_back xs t h.1)

-- where there is one, it is all of them
one : (x : Float) → is_good x ≡ true → all is_good (x ∷ []) ≡ true
unfolding all
one x e = ap (λ (b : Bool). b && true) e

-- a line of them
pub line_back : (key : List ℕ) (n : ℕ) (xs : List Float) (t : List ℕ) → length xs ≡ n → all is_good xs ≡ true
    → line key n (line_text key xs ++ t) ≡ got (map positive_zero xs) t
unfolding line line_text
line_back key n xs t h e =
    ap (line key n) (append_assoc key (values_text xs) t)
    ∙ then-got (word key (key ++ (values_text xs ++ t))) _ tt (values_text xs ++ t) (word_back key _)
    ∙ ap (λ (k : ℕ). values k (values_text xs ++ t)) (sym h)
    ∙ values_back xs t e

-- several lines
pub lines_back : (key : List ℕ) (n k : ℕ) (xs : List Float) (t : List ℕ) → length xs ≡ n * k → all is_good xs ≡ true
    → lines key n k (lines_text key n k xs ++ t) ≡ got (map positive_zero xs) t
unfolding lines lines_text
lines_back key n zero [] t h e = refl
lines_back key n zero (x ∷ xs) t h e = absurd (omega (arith, h, mul-zero n))
lines_back key n (suc k) xs t h e =
    let a = take n xs in
    let b = drop n xs in
    let g = all_parts is_good n xs e in
    let rest = lines_text key n k b ++ t in
    let front : length a ≡ n = length-take-le n xs (omega (arith, mul-suc n k)) in
    let back : length b ≡ n * k = length-drop n xs ∙ omega (arith, mul-suc n k) in
    ap (lines key n (suc k)) (append_assoc (line_text key a) (lines_text key n k b) t)
    ∙ then-got (line key n (line_text key a ++ rest)) _ (map positive_zero a) rest (line_back key n a rest front g.0)
    ∙ then-got (lines key n k rest) _ (map positive_zero b) t (lines_back key n k b t back g.1)
    ∙ ap (λ (ys : List Float). got ys t) (map-parts positive_zero n xs)

-- the revision
begins : (key : List ℕ) (n : ℕ) (t : List ℕ) → word key (small_text key n ++ t) ≡ got tt (decimal n ++ (10 ∷ t))
unfolding small_text
begins key n t =
    let turn : key ++ decimal n ++ (10 ∷ []) ++ t ≡ key ++ (decimal n ++ (10 ∷ t)) = simp append_assoc in
    ap (word key) turn ∙ word_back key _

pub revision_back : (rev : ℕ) (t : List ℕ) → rev ≤ 999999999 → revision (small_text (bytes "rev=") rev ++ t) ≡ got rev t
unfolding revision revision_by
revision_back rev t h =
    ap (revision_by (small_text (bytes "rev=") rev ++ t)) (begins (bytes "rev=") rev t)
    ∙ small-line_back (bytes "rev=") rev t h

-- ---- what the lines read back to together

module _ (s : Sizes) (t : List ℕ) where
  -- The lines of the sizes, in front of t.
  abbrev count-lines : List ℕ
  count-lines = small_text (bytes "count=") s.count ++ t

  abbrev degree-lines : List ℕ
  degree-lines = small_text (bytes "degree=") s.degree ++ count-lines

  abbrev sizes-lines : List ℕ
  sizes-lines = small_text (bytes "dim=") s.dim ++ degree-lines

  -- the sizes
  sizes_back : s.dim ≤ 999999999 → s.degree ≤ 999999999 → s.count ≤ 999999999 → sizes sizes-lines ≡ got s t
  unfolding sizes
  sizes_back h k l =
      then-got (small_line (bytes "dim=") sizes-lines) _ s.dim degree-lines (small-line_back _ s.dim degree-lines h)
      ∙ then-got (small_line (bytes "degree=") degree-lines) _ s.degree count-lines
      (small-line_back _ s.degree count-lines k)
      ∙ then-got (small_line (bytes "count=") count-lines) _ s.count t (small-line_back _ s.count t l)

module _ (s : Sizes) (q : Numbers) (t : List ℕ) where
  -- The other lines, in front of t.
  abbrev box-lines : List ℕ
  box-lines = line_text (bytes "box=") q.box ++ t

  abbrev points-lines : List ℕ
  points-lines = lines_text (bytes "point=") (point_doubles s) s.count q.points ++ box-lines

  abbrev knots-lines : List ℕ
  knots-lines = line_text (bytes "knots=") q.knots ++ points-lines

  abbrev resolution-lines : List ℕ
  resolution-lines = line_text (bytes "resolution=") (q.resolution ∷ []) ++ knots-lines

  abbrev numbers_lines : List ℕ
  numbers_lines = small_text (bytes "nodes=") q.nodes ++ resolution-lines

  -- the other lines
  numbers_back : (rev : ℕ) → Good rev s q → numbers s numbers_lines ≡ got (plain q) t
  unfolding numbers
  numbers_back rev g =
      then-got (small_line (bytes "nodes=") numbers_lines) _ q.nodes resolution-lines
      (small-line_back _ q.nodes resolution-lines (omega (arith, g.nodes)))
      ∙ then-got (line (bytes "resolution=") 1 resolution-lines) _ (positive_zero q.resolution ∷ []) knots-lines
      (line_back _ 1 (q.resolution ∷ []) knots-lines refl (one q.resolution g.resolution))
      ∙ then-got (line (bytes "knots=") (knot_doubles s) knots-lines) _ (map positive_zero q.knots) points-lines
      (line_back _ _ q.knots points-lines g.long.knots_long g.knots)
      ∙ then-got (lines (bytes "point=") (point_doubles s) s.count points-lines) _ (map positive_zero q.points) box-lines
      (lines_back _ _ s.count q.points box-lines g.long.points_long g.points)
      ∙ then-got (line (bytes "box=") (box_doubles s) box-lines) _ (map positive_zero q.box) t
      (line_back _ _ q.box t g.long.box_long g.box)

-- ---- the whole text

-- its lines, each in front of all the others
form-lines : (rev : ℕ) (s : Sizes) (q : Numbers)
    → form rev s q ≡ small_text (bytes "rev=") rev ++ sizes-lines s (numbers_lines s q [])
unfolding form sizes_text limits_text shape_text
form-lines rev s q = simp (append_assoc, append-nil)

-- where a text of n bytes is read to its end, it asks
complete : (rev : ℕ) (s : Sizes) (q : Numbers) (n : ℕ) → n ≤ 65536 → complete_by rev s n (got q []) ≡ asks rev s q
unfolding complete_by
complete rev s q n h = ap (λ (b : Bool). cond (b && true) (asks rev s q) (refused_by 12)) (le-leb n 65536 h)

-- by the lines of the sizes and the others, where nothing is refused
come : (rev : ℕ) (s : Sizes) (q : Numbers) (n : ℕ) (r : Read ℕ) (a b : List ℕ) → n ≤ 65536
    → revision_refusal rev ≡ 0 → sizes_refusal s.dim s.degree s.count ≡ 0
    → r ≡ got rev a → sizes a ≡ got s b → numbers s b ≡ got q [] → begun_by n r ≡ asks rev s q
unfolding begun_by named_by read_by opened_by
come rev s q n r a b h R S e f g =
    ap (begun_by n) e
    ∙ ap (named_by rev n a) R
    ∙ ap (read_by rev n) f
    ∙ ap (opened_by rev s n b) S
    ∙ ap (complete_by rev s n) g
    ∙ complete rev s q n h

-- The one form of a question reads back to the question with positive zeros.
pub form_back : (rev : ℕ) (s : Sizes) (q : Numbers) → Good rev s q → reading (form rev s q) ≡ asks rev s (plain q)
unfolding reading
form_back rev s q g =
    let h = small-sizes s.dim s.degree s.count g.sizes in
    let b = numbers_lines s q [] in
    let a = sizes-lines s b in
    come rev s (plain q) (length (form rev s q)) (revision (form rev s q)) a b (omega (arith, form-short rev s q g))
    g.revision g.sizes
    (ap revision (form-lines rev s q) ∙ revision_back rev a (omega (arith, small-revision rev g.revision)))
    (sizes_back s b (omega (arith, h.dim)) (omega (arith, h.degree)) (omega (arith, h.count)))
    (numbers_back s q [] rev g)

-- ---- the form of the question with positive zeros

values-plain : (xs : List Float) → values_text (map positive_zero xs) ≡ values_text xs
unfolding values_text
values-plain [] = refl
values-plain (x ∷ xs) =
    λ i. hexadecimal (positive-again x i) ++ (behind (length-map xs positive_zero i) ∷ values-plain xs i)

line_plain : (key : List ℕ) (xs : List Float) → line_text key (map positive_zero xs) ≡ line_text key xs
unfolding line_text
line_plain key xs = ap (λ (t : List ℕ). key ++ t) (values-plain xs)

lines-plain : (key : List ℕ) (n k : ℕ) (xs : List Float) → lines_text key n k (map positive_zero xs) ≡ lines_text key n k xs
unfolding lines_text
lines-plain key n zero xs = refl
lines-plain key n (suc k) xs =
    (λ i. line_text key (take-map positive_zero n xs i) ++ lines_text key n k (drop-map positive_zero n xs i))
    ∙ (λ i. line_plain key (take n xs) i ++ lines-plain key n k (drop n xs) i)

-- The question with positive zeros has the same form.
pub form-plain : (rev : ℕ) (s : Sizes) (q : Numbers) → form rev s (plain q) ≡ form rev s q
unfolding form limits_text shape_text
form-plain rev s q =
    λ i. sizes_text rev s
    ++ (small_text (bytes "nodes=") q.nodes ++ line_plain (bytes "resolution=") (q.resolution ∷ []) i)
    ++ (line_plain (bytes "knots=") q.knots i
    ++ lines-plain (bytes "point=") (point_doubles s) s.count q.points i
    ++ line_plain (bytes "box=") q.box i)
