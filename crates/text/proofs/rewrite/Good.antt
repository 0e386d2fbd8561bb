-- The questions that have one form, and that this form is short.
use mathlib.Core.Path.{◌≡◌, refl, ap, ◌∙◌}
use mathlib.Core.Logic.{inl, inr}
use mathlib.Core.Bool.{Bool, true, ◌&&◌}
use mathlib.Core.List.{List, [], ◌∷◌, ◌++◌, map}
use Prim.Native.Nat.{ℕ, zero, suc, ◌+◌, ◌*◌, ◌≤◌}
use native.Mathlib.Nat.{suc-mul, mul-le-mul, min-le_left}
use native.Mathlib.Omega.{arith}
use lib.ListN.{length, take, drop, length-append, length-take}
use lib.Dec.{eqb, eqb→eq}
use lib.Ieee.{Float, binary64, fits}
use Rattle.math.proofs.Bools.{or_split}
use Rattle.lists.specs.Lists.{all}
use Rattle.model.specs.Call.{revision_fits, revision_refusal, sizes_refusal}
use Rattle.model.specs.Subdivide.{positive_zero}
use Rattle.model.proofs.Checks.{revision-passes, SmallSizes, small-sizes}
use Rattle.text.specs.Bytes.{bytes}
use Rattle.text.specs.Numerals.{decimal, hexadecimal}
use Rattle.text.specs.Question.{behind, Sizes, point_doubles, Numbers}
use Rattle.text.specs.Cursor.{Long}
use Rattle.text.specs.Printable.{is_number}
use Rattle.text.specs.Form.{small_text, values_text, line_text, lines_text, sizes_text, limits_text, shape_text, form}
use Rattle.text.proofs.numerals.Back.{length-hexadecimal, length-decimal_1, length-decimal_2, length-decimal_4}

-- The same question with positive zeros.
abbrev pub plain : Numbers → Numbers
plain q = record {
  nodes = q.nodes;
  resolution = positive_zero q.resolution;
  knots = map positive_zero q.knots;
  points = map positive_zero q.points;
  box = map positive_zero q.box;
}

-- The number is a double, and no NaN.
abbrev pub is_good : Float → Bool
is_good x = fits binary64 x && is_number x

-- The revision and the sizes are not refused, the nodes are few, and the doubles are as many as the sizes say, and good.
pub record Good (rev : ℕ) (s : Sizes) (q : Numbers) : Type 0 where
  pub revision : revision_refusal rev ≡ 0
  pub sizes : sizes_refusal s.dim s.degree s.count ≡ 0
  pub nodes : q.nodes ≤ 4096
  pub long : Long s q.knots q.points q.box
  pub resolution : is_good q.resolution ≡ true
  pub knots : all is_good q.knots ≡ true
  pub points : all is_good q.points ≡ true
  pub box : all is_good q.box ≡ true

-- A revision that is not refused is small.
pub small-revision : (rev : ℕ) → revision_refusal rev ≡ 0 → rev ≤ 2
unfolding revision_fits
small-revision rev e =
    elim (or_split (eqb rev 1) (eqb rev 2) (revision-passes rev e)) [
      | inl t ↦ omega (arith, eqb→eq rev 1 t)
      | inr t ↦ omega (arith, eqb→eq rev 2 t)
    ]

-- ---- how long the lines are

small_long : (key : List ℕ) (n : ℕ) → length (small_text key n) ≡ length key + length (decimal n) + 1
unfolding small_text
small_long key n = simp length-append

values_long : (xs : List Float) → length (values_text xs) ≡ 17 * length xs
unfolding values_text
values_long [] = refl
values_long (x ∷ xs) =
    omega (
      arith,
      length-append (hexadecimal (positive_zero x)) (behind (length xs) ∷ values_text xs),
      length-hexadecimal (positive_zero x),
      values_long xs,
    )

line_long : (key : List ℕ) (xs : List Float) → length (line_text key xs) ≡ length key + 17 * length xs
unfolding line_text
line_long key xs = length-append key (values_text xs) ∙ ap (λ (n : ℕ). length key + n) (values_long xs)

lines_long : (key : List ℕ) (n k : ℕ) (xs : List Float) → length (lines_text key n k xs) ≤ k * (length key + 17 * n)
unfolding lines_text
lines_long key n zero xs = omega arith
lines_long key n (suc k) xs =
    omega (
      arith,
      length-append (line_text key (take n xs)) (lines_text key n k (drop n xs)),
      line_long key (take n xs),
      length-take n xs,
      min-le_left n (length xs),
      lines_long key n k (drop n xs),
      suc-mul k (length key + 17 * n),
    )

-- ---- how long the text is

sizes_long : (rev : ℕ) (s : Sizes) → rev ≤ 2 → SmallSizes s.dim s.degree s.count → length (sizes_text rev s) ≤ 30
unfolding sizes_text bytes
sizes_long rev s r h =
    let a = small_text (bytes "rev=") rev in
    let b = small_text (bytes "dim=") s.dim in
    let c = small_text (bytes "degree=") s.degree in
    let d = small_text (bytes "count=") s.count in
    omega (
      arith,
      length-append (a ++ b ++ c) d,
      length-append (a ++ b) c,
      length-append a b,
      small_long (bytes "rev=") rev,
      small_long (bytes "dim=") s.dim,
      small_long (bytes "degree=") s.degree,
      small_long (bytes "count=") s.count,
      length-decimal_1 rev (omega arith),
      length-decimal_1 s.dim (omega (arith, h.dim)),
      length-decimal_1 s.degree (omega (arith, h.degree)),
      length-decimal_2 s.count (omega (arith, h.count)),
    )

limits_long : (nodes : ℕ) (resolution : Float) → nodes ≤ 4096 → length (limits_text nodes resolution) ≤ 39
unfolding limits_text bytes
limits_long nodes resolution h =
    omega (
      arith,
      length-append (small_text (bytes "nodes=") nodes) (line_text (bytes "resolution=") (resolution ∷ [])),
      small_long (bytes "nodes=") nodes,
      line_long (bytes "resolution=") (resolution ∷ []),
      length-decimal_4 nodes (omega arith),
    )

shape_long : (s : Sizes) (knots points box : List Float) → SmallSizes s.dim s.degree s.count → Long s knots points box
    → length (shape_text s knots points box) ≤ 5336
unfolding shape_text bytes
shape_long s knots points box h l =
    let a = line_text (bytes "knots=") knots in
    let b = lines_text (bytes "point=") (point_doubles s) s.count points in
    let c = line_text (bytes "box=") box in
    let wide : 6 + 17 * point_doubles s ≤ 142 = omega (arith, h.dim) in
    let most : s.count * (6 + 17 * point_doubles s) ≤ 32 * 142 = mul-le-mul h.count wide in
    omega (
      arith,
      length-append (a ++ b) c,
      length-append a b,
      line_long (bytes "knots=") knots,
      lines_long (bytes "point=") (point_doubles s) s.count points,
      line_long (bytes "box=") box,
      l.knots_long,
      l.box_long,
      h.dim,
      h.degree,
      h.count,
    )

-- The one form has at most 5,405 bytes.
pub form-short : (rev : ℕ) (s : Sizes) (q : Numbers) → Good rev s q → length (form rev s q) ≤ 5405
unfolding form
form-short rev s q g =
    let h = small-sizes s.dim s.degree s.count g.sizes in
    let a = sizes_text rev s in
    let b = limits_text q.nodes q.resolution in
    let c = shape_text s q.knots q.points q.box in
    omega (
      arith,
      length-append (a ++ b) c,
      length-append a b,
      sizes_long rev s (small-revision rev g.revision) h,
      limits_long q.nodes q.resolution g.nodes,
      shape_long s q.knots q.points q.box h g.long,
    )
