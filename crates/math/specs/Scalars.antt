-- scalars/mod.rs: an interval of doubles, and what each operation on it gives, over IEEE 754. Definitions only.
-- The operations that round form a record, `Arithmetic`, and `geop` is the one that the Rust has. What is built on them takes the record as an argument.
use Rattle.std.specs.Prelude.{ℕ, Bool, true, false, cond, ◌&&◌, eqb, pos, Float}
use Rattle.std.specs.Float.{nan, inf, fin, binary64}
use Rattle.std.specs.Float.Ieee.{add, sub, mul, div, lt, le, eq, of_int}
use Rattle.math.specs.Neighbours.{next_up, next_down}
use Rattle.math.specs.Picks.{min_f, max_f}
use Rattle.math.specs.declared.scalars.Scalar.{Scalar}
use Rattle.math.specs.declared.bounds.Bounds.{Bounds}
use Rattle.math.specs.Divided.{Divided}
use Rattle.std.specs.Prelude.{Some, None}

-- ---- doubles

abbrev pub zero_f : Float
zero_f = fin false 0 (pos 0)

abbrev pub one_f : Float
one_f = fin false 1 (pos 0)

abbrev pub two_f : Float
two_f = fin false 1 (pos 1)

-- ---- intervals that no operation made

-- from_f64, lower, upper: the interval of one value
abbrev pub sharp : Float → Scalar
sharp v = record { lo = v; hi = v }

-- what a list is read as where it has no element: no bound at all
abbrev pub absent : Scalar
absent = sharp nan

abbrev pub ZERO : Scalar
ZERO = sharp zero_f

abbrev pub ONE : Scalar
ONE = sharp one_f

abbrev pub TWO : Scalar
TWO = sharp two_f

abbrev pub ENTIRE : Scalar
ENTIRE = record { lo = inf true; hi = inf false }

-- ---- comparisons: what some pair of values could do, and what every pair does

abbrev pub could_be_equal : Scalar → Scalar → Bool
could_be_equal x y = le x.lo y.hi && le y.lo x.hi

abbrev pub definitely_greater : Scalar → Scalar → Bool
definitely_greater x y = lt y.hi x.lo

abbrev pub definitely_less : Scalar → Scalar → Bool
definitely_less x y = lt x.hi y.lo

abbrev pub is_subset_of : Scalar → Scalar → Bool
is_subset_of x y = le y.lo x.lo && le x.hi y.hi

abbrev pub is_exactly : Scalar → Scalar → Bool
is_exactly x y = is_subset_of x y && is_subset_of y x

-- Rust's == on a Scalar: bound by bound, the two zeros counting as one
abbrev pub is_same : Scalar → Scalar → Bool
is_same x y = eq x.lo y.lo && eq x.hi y.hi

-- zero lies in x
abbrev pub has_zero : Scalar → Bool
has_zero x = le x.lo zero_f && le zero_f x.hi

-- x lies in 0 to 1
abbrev pub in_unit : Scalar → Bool
in_unit x = le zero_f x.lo && le x.hi one_f

-- ---- bounds that are taken over, or rounded to the nearest and not widened

-- to_f64, sharpen: the middle
unfoldable pub middle : Scalar → Float
middle x = div binary64 (add binary64 x.lo x.hi) two_f

-- width: never below zero
unfoldable pub width_s : Scalar → Float
width_s x = max_f (sub binary64 x.hi x.lo) zero_f

-- union: from the lesser lo to the greater hi
unfoldable pub union_s : Scalar → Scalar → Scalar
union_s x y = record { lo = min_f x.lo y.lo; hi = max_f x.hi y.hi }

-- intersect: what lies in both; of two that do not meet, the narrower, the first on a tie
unfoldable pub intersect_s : Scalar → Scalar → Scalar
intersect_s x y =
    let lo = max_f x.lo y.lo in
    let hi = min_f x.hi y.hi in
    cond (le lo hi) (record { lo = lo; hi = hi })
    (cond (le (sub binary64 x.hi x.lo) (sub binary64 y.hi y.lo)) x y)

-- ---- the operations that round

-- what a division gave, or d where it failed
unfoldable pub value_or : Divided → Scalar → Scalar
value_or (Some x) d = x
value_or None d = d

pub record Arithmetic : Type 0 where
  pub add : Scalar → Scalar → Scalar
  pub sub : Scalar → Scalar → Scalar
  pub mul : Scalar → Scalar → Scalar
  pub div : Scalar → Scalar → Divided
  pub four_fifths : Scalar

-- ---- the Rust's: each computed bound is moved outward by one double, also where the operation was exact

abbrev pub widened : Float → Float → Scalar
widened a b = record { lo = next_down a; hi = next_up b }

unfoldable pub add_s : Scalar → Scalar → Scalar
add_s x y = widened (add binary64 x.lo y.lo) (add binary64 x.hi y.hi)

unfoldable pub sub_s : Scalar → Scalar → Scalar
sub_s x y = widened (sub binary64 x.lo y.hi) (sub binary64 x.hi y.lo)

-- the least and the greatest of four, a NaN passed over, as a fold that starts from an infinity
abbrev pub least4 : Float → Float → Float → Float → Float
least4 a b c d = min_f (min_f (min_f (min_f (inf false) a) b) c) d

abbrev pub most4 : Float → Float → Float → Float → Float
most4 a b c d = max_f (max_f (max_f (max_f (inf true) a) b) c) d

-- the least and the greatest of the four products of two intervals' bounds: their product before it is widened
unfoldable pub corners : Scalar → Scalar → Bounds
corners x y =
    let a = mul binary64 x.lo y.lo in
    let b = mul binary64 x.lo y.hi in
    let c = mul binary64 x.hi y.lo in
    let d = mul binary64 x.hi y.hi in
    record { lo = least4 a b c d; hi = most4 a b c d }

unfoldable pub mul_s : Scalar → Scalar → Scalar
mul_s x y = let c = corners x y in widened c.lo c.hi

-- the widened reciprocal
unfoldable pub inverse_s : Scalar → Scalar
inverse_s y = widened (div binary64 one_f y.hi) (div binary64 one_f y.lo)

-- an error where the divisor holds zero; else the product with the widened reciprocal
unfoldable pub div_s : Scalar → Scalar → Divided
div_s x y = cond (has_zero y) None (Some (mul_s x (inverse_s y)))

-- from_ratio
abbrev pub ratio_of : ℕ → ℕ → Float
ratio_of n d = div binary64 (of_int binary64 (pos n)) (of_int binary64 (pos d))

unfoldable pub from_ratio : ℕ → ℕ → Divided
from_ratio n d = cond (eqb d 0) None (Some (widened (ratio_of n d) (ratio_of n d)))

-- from_ratio(4, 5)
unfoldable pub four_fifths_s : Scalar
four_fifths_s = widened (ratio_of 4 5) (ratio_of 4 5)

abbrev pub geop : Arithmetic
geop = record { add = add_s; sub = sub_s; mul = mul_s; div = div_s; four_fifths = four_fifths_s }

-- ---- interpolate

-- both are the same, and t lies in 0 to 1: every point between them is in the first
abbrev pub same_operands : Scalar → Scalar → Scalar → Bool
same_operands a b t = is_exactly a b && in_unit t

-- a + t (b - a), and (1 - t) a + t b
abbrev pub via_delta : Arithmetic → Scalar → Scalar → Scalar → Scalar
via_delta ar a b t = ar.add a (ar.mul t (ar.sub b a))

abbrev pub via_weights : Arithmetic → Scalar → Scalar → Scalar → Scalar
via_weights ar a b t = ar.add (ar.mul (ar.sub ONE t) a) (ar.mul t b)

-- the first operand where `same_operands` says so, else the meeting of the two forms
unfoldable pub interpolate_s : Arithmetic → Scalar → Scalar → Scalar → Scalar
interpolate_s ar a b t = cond (same_operands a b t) a (intersect_s (via_delta ar a b t) (via_weights ar a b t))
