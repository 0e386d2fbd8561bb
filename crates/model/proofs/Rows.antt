-- What a row of the table of cases says, and the test that it is right. Doubles are given by their bits, as in the texts.
use Prim.Native.Nat.{ℕ, ◌+◌}
use mathlib.Core.Bool.{Bool, true, false, ◌&&◌}
use mathlib.Core.List.{List, [], ◌∷◌, map, zip_with}
use mathlib.Core.Option.{Option, none, some}
use lib.Dec.{eqb}
use lib.Ieee.{Float, binary64, add, sub, mul, div, lt, le, eq, is_nan, neg, of_int, to_bits, of_bits}
use Rattle.lists.specs.Lists.{all, count, position, foldl}
use Rattle.math.specs.declared.scalars.Scalar.{Scalar}
use Rattle.math.specs.Neighbours.{next_up, next_down}
use Rattle.math.specs.Picks.{min_f, max_f}
use Rattle.exact.specs.Rational.{ℚ, mk, ◌+ℚ◌, ◌*ℚ◌, -ℚ◌, invℚ, ◌÷◌, nonneg, lift₂}
use Rattle.math.specs.Values.{value}
use Rattle.math.specs.Directed.{exceeds, lower, sum_down, product_down, quotient_down}
use Rattle.math.specs.Tight.{add_t, sub_t, low_of, mul_t, quotient, div_t, four_fifths_t}
use Rattle.math.specs.Root.{root_in, root, nearest_root, root_of, sqrt_f}
use Rattle.math.specs.Scalars.{sharp, union_s, intersect_s, middle, width_s, value_or, add_s, sub_s, corners, mul_s, inverse_s, div_s, four_fifths_s, geop, interpolate_s}
use Rattle.model.specs.Vector.{interpolate_v}
use Rattle.model.specs.NurbCurve.{domain, in_domain, mid_parameter, weights_positive}
use Rattle.model.specs.KnotInsertion.{highest, insertion_span, alpha, blend, knots_with, points_with, insert_once, insert_times, is_bezier, level, triangle, sides, bezier_knots, bezier_cut, boehm_cut, cut_by, full_cut}
use Rattle.model.specs.Split.{split_by, split, split_mid, from_by, up_to_by, restrict}
use Rattle.model.specs.Aabb.{unions, place, aabb, could_overlap, along_by, along, meets, could_meet}
use Rattle.model.specs.FatLine.{abscissa, greville, crossing, zeros_by, fat_line_zeros, cartesian, distance, distances, path_length, extent, to_f64, widest, carried_by, carried_width, restricts, halves}
use Rattle.model.specs.Subdivide.{positive_zero, joined, complete, after, ended, step, stop, advance, answered}
use Rattle.model.specs.Contains.{axis, narrowed, clip, carried, hand_on, hand_both, shrink, clipped, visit, could_contain}
use Rattle.model.specs.Layout.{point_at, points_of, slot_words}
use Rattle.model.specs.Call.{Call, curve_of, as_piece, dim_fits, degree_fits, count_fits, lengths_fit, numbers_usable, bounds_ordered, weights_fit, rising, multiplicity_ok, knots_valid, knots_fit, stated, area_fits, first_failed, or_else, revision_fits, revision_refusal, sizes_refusal, curve_refusal, question_refusal, refusal, searched_by, searched, answer_to}
use Rattle.model.specs.Paper.{Result, None-found, enclosed, spent, refused, Paper, paper}

-- A text for the program, line by line; `points` has the numbers of all `point` lines.
pub record Text : Type 0 where
  pub dim : ℕ
  pub degree : ℕ
  pub count : ℕ
  pub nodes : ℕ
  pub resolution : ℕ
  pub knots : List ℕ
  pub points : List ℕ
  pub box : List ℕ

-- A row of the table.
pub data Row : Type 0 where
  -- The call of a text in a revision, and the seven values that it prints. The first is 0 for none, 1 for enclosed, 2 for spent and 100 + N for refused-N; then come visited, cuts, depth, pending, lo and hi,
  -- where 0 stands for `-`.
  prints : ℕ → Text → List ℕ → Row
  -- The path of a text, cut down to two parameters: the number of cuts.
  cuts : Text → ℕ → ℕ → ℕ → Row
  -- Two numbers, and the bounds of their sum.
  sums : ℕ → ℕ → ℕ → ℕ → Row
  -- Two numbers, and the bounds of their product.
  products : ℕ → ℕ → ℕ → ℕ → Row
  -- A number, and its root.
  roots : ℕ → ℕ → Row

abbrev floats : List ℕ → List Float
floats l = map (λ b. of_bits binary64 b) l

-- The call of a text in a revision; the program lends 8,192 numbers.
abbrev pub call_of : ℕ → Text → Call
call_of rev t = record {
  rev = rev;
  curve = curve_of t.dim t.degree t.count (floats t.knots) (floats t.points);
  box = floats t.box;
  resolution = of_bits binary64 t.resolution;
  nodes = t.nodes;
  work_len = 8192;
}

abbrev word : Result → ℕ
word None-found = 0
word enclosed = 1
word spent = 2
word (refused n) = 100 + n

abbrev ends : Option Scalar → List ℕ
ends none = 0 ∷ 0 ∷ []
ends (some x) = to_bits binary64 x.lo ∷ to_bits binary64 x.hi ∷ []

abbrev printed : Paper → List ℕ
printed a = word a.result ∷ a.visited ∷ a.cuts ∷ a.depth ∷ a.pending ∷ ends a.bounds

abbrev alike : List ℕ → List ℕ → Bool
alike [] [] = true
alike [] (y ∷ ys) = false
alike (x ∷ xs) [] = false
alike (x ∷ xs) (y ∷ ys) = eqb x y && alike xs ys

abbrev number : ℕ → Scalar
number b = sharp (of_bits binary64 b)

-- What the row says is what the definitions give. All of them are open here, so that each row is decided by computation.
unfoldable pub right : Row → Bool
unfolding zip_with add sub mul div lt le eq is_nan neg of_int to_bits of_bits
    next_up next_down min_f max_f root_in root nearest_root root_of sqrt_f union_s intersect_s middle width_s value_or add_s sub_s corners mul_s inverse_s div_s four_fifths_s interpolate_s
    all count position foldl
    interpolate_v domain in_domain mid_parameter weights_positive
    highest insertion_span alpha blend knots_with points_with insert_once insert_times is_bezier level triangle sides bezier_knots bezier_cut boehm_cut cut_by full_cut
    split_by split split_mid from_by up_to_by restrict
    unions place aabb could_overlap along_by along meets could_meet
    abscissa greville crossing zeros_by fat_line_zeros cartesian distance distances path_length extent to_f64 widest carried_by carried_width restricts halves
    positive_zero joined complete after ended step stop advance answered
    axis narrowed clip carried hand_on hand_both shrink clipped visit could_contain
    point_at points_of slot_words dim_fits degree_fits count_fits lengths_fit numbers_usable bounds_ordered weights_fit rising multiplicity_ok knots_valid knots_fit stated area_fits first_failed or_else revision_fits revision_refusal sizes_refusal curve_refusal question_refusal refusal searched_by searched
    exceeds lower sum_down product_down quotient_down add_t sub_t low_of mul_t quotient div_t four_fifths_t value ℚ mk ◌+ℚ◌ ◌*ℚ◌ -ℚ◌ invℚ ◌÷◌ nonneg lift₂
right (prints rev t expected) = alike (printed (paper (answer_to (call_of rev t)))) expected
right (cuts t lo hi n) = eqb (restrict geop t.degree (of_bits binary64 lo) (of_bits binary64 hi) (as_piece (call_of 1 t).curve)).cuts n
right (sums a b lo hi) = alike (ends (some (add_s (number a) (number b)))) (lo ∷ hi ∷ [])
right (products a b lo hi) = alike (ends (some (mul_s (number a) (number b)))) (lo ∷ hi ∷ [])
right (roots a r) = eqb (to_bits binary64 (sqrt_f (of_bits binary64 a))) r
