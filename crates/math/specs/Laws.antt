-- What the arithmetic promises beyond the contracts of its functions: every law of it that the proofs of geometry and of the crates above
-- cite, one field to a law, with the law's own name. proofs/Laws.antt and proofs/Bools.antt hand the laws out, and proofs/Promised.antt has one instance of
-- each record, which holds the law to its statement here. Definitions only.
use Rattle.std.specs.Prelude.{◌≡◌, ◌⊎◌, Bool, true, false, not, ◌&&◌, ◌||◌, cond, ℕ, ◌*◌, ◌≤◌, ◌<◌, T, eqb, ℤ, Float}
use Rattle.std.specs.Float.{fin, Format, binary64}
use Rattle.std.specs.Float.Ieee.{up, down, fits, is_nan, add, mul, lt, le, eq, ne}
use Rattle.exact.specs.Rational.{◌≤ℚ◌}
use Rattle.math.specs.Digits.{Reading}
use Rattle.math.specs.Neighbours.{next_up}
use Rattle.math.specs.Picks.{max_f}
use Rattle.math.specs.Root.{sqrt_f}
use Rattle.std.specs.Option.{unwrap_or}
use Rattle.math.specs.Divided.{Divided}
use Rattle.math.specs.Scalars.{Arithmetic, zero_f, ENTIRE, union_s, value_or, sub_s, div_s, interpolate_s, geop}
use Rattle.math.specs.Values.{value}
use Rattle.math.specs.Tight.{tight}
use Rattle.math.specs.Revision.{arithmetic}
use Rattle.math.specs.Bounds.{widen_b, difference_b, join_b, pick_b, divisor_of, over_s, over_b}
use Rattle.math.specs.Factors.{fraction_of, between_s}
use Rattle.math.specs.Encloses.{Encloses, InOrder}
use Rattle.math.specs.Tightest.{Tightest}
use Rattle.math.specs.declared.scalars.Scalar.{Scalar}
use Rattle.math.specs.declared.revision.Fraction.{Fraction}
use Rattle.math.specs.declared.bounds.Bounds.{Bounds}
use Rattle.math.specs.declared.bounds.Divisor.{Divisor}

-- ---- doubles

-- a number is what is no NaN: an infinity counts as one
abbrev pub number : Float → Bool
number x = not (is_nan x)

-- of doubles: their order, the numbers that they are, a NaN, squares and sums
pub record DoubleLaws : Type 0 where
  -- ---- the order
  -- what is at most something is a number
  pub le_number_l : (x y : Float) → T (le x y) → T (number x)
  -- what something is at most is a number
  pub le_number_r : (x y : Float) → T (le x y) → T (number y)
  -- a number is at most itself
  pub le_self : (x : Float) → T (number x) → T (le x x)
  -- x is at most z where it is at most y, and y at most z
  pub le_trans : (x y z : Float) → T (le x y) → T (le y z) → T (le x z)
  -- x is below z where it is below y, and y at most z
  pub lt_le : (x y z : Float) → T (lt x y) → T (le y z) → T (lt x z)
  -- x is below z where it is at most y, and y below z
  pub le_lt : (x y z : Float) → T (le x y) → T (lt y z) → T (lt x z)
  -- x is at most y where it is below y
  pub lt→le_f : (x y : Float) → T (lt x y) → T (le x y)
  -- where x is below y, y is not at most x
  pub lt_not_le : (x y : Float) → T (lt x y) → T (le y x) → ⊥
  -- ---- the numbers that finite doubles are
  -- two that count as equal are one number
  pub eq→value : (s : Bool) (m : ℕ) (e : ℤ) (t : Bool) (n : ℕ) (d : ℤ)
      → T (eq (fin s m e) (fin t n d)) → value (fin s m e) ≡ value (fin t n d)
  -- two that are one number count as equal
  pub value→eq : (s : Bool) (m : ℕ) (e : ℤ) (t : Bool) (n : ℕ) (d : ℤ)
      → value (fin s m e) ≡ value (fin t n d) → T (eq (fin s m e) (fin t n d))
  -- two of one sign and one size that a format holds are written alike (the sizes are m * 2 ^ e and n * 2 ^ d, and 2 ^ e is up e / down e)
  pub unique : (f : Format) (s : Bool) (m : ℕ) (e : ℤ) (n : ℕ) (d : ℤ) → T (fits f (fin s m e)) → T (fits f (fin s n d))
      → m * up e * down d ≡ n * up d * down e → fin s m e ≡ fin s n d
  -- ---- a NaN
  -- what differs from itself is a NaN
  pub ne_nan : (x : Float) → ne x x ≡ true → is_nan x ≡ true
  -- what does not differ from itself is no NaN
  pub no_nan : (x : Float) → ne x x ≡ false → T (not (is_nan x))
  -- ---- squares and sums
  -- a square, rounded, is not below zero where it is a number
  pub square_nonneg : (x : Float) → T (number (mul binary64 x x)) → T (le zero_f (mul binary64 x x))
  -- where a sum is a number, what was added are numbers
  pub add_number : (a b : Float) → T (number (add binary64 a b)) → T (number a) × T (number b)
  -- the sum, rounded, of two doubles that are not below zero is at least each of them
  pub add_grows : (a b : Float) → T (fits binary64 a) → T (fits binary64 b) → T (le zero_f a) → T (le zero_f b)
      → T (le a (add binary64 a b)) × T (le b (add binary64 a b))

-- of finite doubles: the order of their numbers, and what their bit patterns say
pub record ReadingLaws : Type 0 where
  -- one that is at most another is a number that is at most the other's
  pub le→value : (s : Bool) (m : ℕ) (e : ℤ) (t : Bool) (n : ℕ) (d : ℤ)
      → T (le (fin s m e) (fin t n d)) → value (fin s m e) ≤ℚ value (fin t n d)
  -- the bit pattern of one that is a double says its sign and its size
  pub reading : (s : Bool) (m : ℕ) (e : ℤ) → T (fits binary64 (fin s m e)) → Reading s m e

-- ---- picks

-- of the greater of two doubles
pub record PickLaws : Type 1 where
  -- the greater of two is one of them: what holds of both holds of it
  pub max_either : (P : Float → Type 0) (a b : Float) → P a → P b → P (max_f a b)
  -- the greater of two is at least the first, where that is a number
  pub max_left : (a b : Float) → T (number a) → T (le a (max_f a b))
  -- the greater of two is at least the second, where that is a number
  pub max_second : (a b : Float) → T (number b) → T (le b (max_f a b))

-- ---- intervals

-- both bounds are doubles, of which either may be a NaN (proofs/Intervals/Bounds.antt has this and the next two as records)
abbrev pub AreDoubles : Bounds → Type 0
AreDoubles b = T (fits binary64 b.lo) × T (fits binary64 b.hi)

-- both bounds are doubles, and no NaN
abbrev pub AreNumbers : Bounds → Type 0
AreNumbers b = AreDoubles b × (is_nan b.lo ≡ false) × (is_nan b.hi ≡ false)

-- bounds of a kind can be put together before they are widened: what comes out is of that kind, and widened it is the union of both
-- widened
abbrev pub Gathers : (Bounds → Bounds → Bounds) → (Bounds → Type 0) → (Bounds → Scalar) → Type 0
Gathers gather Kind widen = (a b : Bounds) → Kind a → Kind b → Kind (gather a b) × (widen (gather a b) ≡ union_s (widen a) (widen b))

-- of intervals: bounds that are not widened yet, divisors and fractions that are at hand
pub record IntervalLaws : Type 0 where
  -- ---- bounds of revision 1 that are not widened yet
  -- those of a difference are doubles
  pub difference_doubles : (x y : Scalar) → AreDoubles (difference_b x y)
  -- those of a quotient are numbers
  pub over_numbers : (x : Scalar) (d : Divisor) → AreNumbers (over_b x d)
  -- those of a difference, widened, are the difference
  pub widen_difference : (x y : Scalar) → widen_b (difference_b x y) ≡ sub_s x y
  -- those of a quotient by w, widened, are the quotient, or the whole line where the division fails
  pub widen_over_own : (x w : Scalar) → widen_b (over_b x (divisor_of w)) ≡ value_or (div_s x w) ENTIRE
  -- bounds that are doubles can be joined first, and widened once
  pub doubles_join : Gathers join_b AreDoubles widen_b
  -- bounds that are numbers can be picked by one comparison each first, and widened once
  pub numbers_pick : Gathers pick_b AreNumbers widen_b
  -- ---- divisors with their reciprocal at hand
  -- over the divisor made of w, x is the quotient by w, or the whole line where the division fails
  pub over_own : (x w : Scalar) → over_s x (divisor_of w) ≡ value_or (div_s x w) ENTIRE
  -- a divisor that was made of some interval was made of the value that it has
  pub divisor_own : (d : Divisor) (w : Scalar) → d ≡ divisor_of w → d ≡ divisor_of d.value
  -- ---- divisions
  -- what a division gave, or d, in the library's words
  pub value_or_is : (q : Divided) (d : Scalar) → unwrap_or q d ≡ value_or q d
  -- ---- fractions, in every arithmetic
  -- a fraction that was made of alpha has that alpha
  pub fraction_own : (ar : Arithmetic) (f : Fraction) (alpha : Scalar) → f ≡ fraction_of ar alpha → f.alpha ≡ alpha
  -- to go a fraction that was made of some interval is to interpolate by its alpha
  pub between_own : (ar : Arithmetic) (a b : Scalar) (f : Fraction) (alpha : Scalar) → f ≡ fraction_of ar alpha
      → between_s ar a b f ≡ interpolate_s ar a b f.alpha

-- ---- revisions

-- of the arithmetic of each revision
pub record RevisionLaws : Type 0 where
  -- where revision 2 is in force, the arithmetic is the tightest
  pub second_is : (b : Bool) → b ≡ true → arithmetic b ≡ tight
  -- where it is not, the arithmetic is the Rust's
  pub first_is : (b : Bool) → b ≡ false → arithmetic b ≡ geop
  -- the Rust's arithmetic has what soundness needs of one: its results hold the exact results
  pub geop_encloses : Encloses geop
  -- the tightest arithmetic has it, too
  pub tight_encloses : Encloses tight
  -- and so has that of either revision
  pub encloses : (second : Bool) → Encloses (arithmetic second)
  -- in either revision results are in order where the operands are, but for the products that are exempt
  pub arithmetic_in_order : (second : Bool) → InOrder (arithmetic second) (encloses second).exempt
  -- revision 2's results are the least intervals of doubles that hold the exact results, and it fails to divide exactly by what holds zero
  pub tight_tightest : Tightest tight

-- ---- the square root

-- of the rounded root
pub record SqrtLaws : Type 0 where
  -- the root of a double is a double
  pub sqrt_fits : (x : Float) → T (fits binary64 x) → T (fits binary64 (sqrt_f x))
  -- the root of a double that is not below zero is a number, and not below zero
  pub sqrt_nonneg : (x : Float) → T (fits binary64 x) → T (le zero_f x) → T (le zero_f (sqrt_f x))
  -- a limit l is below the root of q where the rounded square of the double above l is below q
  pub square_decides : (l q : Float) → T (fits binary64 l) → T (fits binary64 q)
      → T (lt (mul binary64 (next_up l) (next_up l)) q) → T (lt l (sqrt_f q))

-- ---- tests

-- of tests, of `&&` and `||`, and of answers by cases
pub record TestLaws : Type 1 where
  -- ---- a test as a fact
  -- a test that is true holds
  pub yes : (b : Bool) → b ≡ true → T b
  -- a test that is false does not hold
  pub no : (b : Bool) → b ≡ false → T b → ⊥
  -- a test holds, or its opposite does
  pub decide : (b : Bool) → T b ⊎ T (not b)
  -- a test and its opposite do not both hold
  pub never : (b : Bool) → T (not b) → T b → ⊥
  -- of two whole numbers the first is at most the second, or the second below the first
  pub compare_le : (a b : ℕ) → (a ≤ b) ⊎ (b < a)
  -- two tests that imply one another are the same
  pub same_test : (p q : Bool) → (T p → T q) → (T q → T p) → p ≡ q
  -- two whole numbers that are equal pass the test of equality
  pub same_eqb : (a b : ℕ) → a ≡ b → T (eqb a b)
  -- ---- and, or
  -- `&&` holds where both hold
  pub and_i : (a b : Bool) → T a → T b → T (a && b)
  -- where `&&` holds, the first does
  pub and_l : (a b : Bool) → T (a && b) → T a
  -- where `&&` holds, the second does
  pub and_r : (a b : Bool) → T (a && b) → T b
  -- where `&&` is true, both are
  pub and_both : (s t : Bool) → (s && t) ≡ true → (s ≡ true) × (t ≡ true)
  -- `||` holds where the first does
  pub or_l : (a b : Bool) → T a → T (a || b)
  -- `||` holds where the second does
  pub or_r : (a b : Bool) → T b → T (a || b)
  -- where `||` holds, one of the two does
  pub or_split : (a b : Bool) → T (a || b) → T a ⊎ T b
  -- where the first is true, `&&` is the second
  pub and_yes : (t u : Bool) → t ≡ true → u ≡ (t && u)
  -- where the first is false, `&&` is the first
  pub and_no : (t u : Bool) → t ≡ false → t ≡ (t && u)
  -- where the first is true, `||` is the first
  pub or_yes : (t u : Bool) → t ≡ true → t ≡ (t || u)
  -- where the first is false, `||` is the second
  pub or_no : (t u : Bool) → t ≡ false → u ≡ (t || u)
  -- ---- an answer by cases
  -- where the test is true it is the first
  pub pick_yes : {X : Type 0} (t : Bool) (a b : X) → t ≡ true → a ≡ cond t a b
  -- where the test is false it is the second
  pub pick_no : {X : Type 0} (t : Bool) (a b : X) → t ≡ false → b ≡ cond t a b
  -- what is so of the first where the test holds, and of the second where it does not, is so of the answer
  pub pick : {X : Type 0} (P : X → Type 0) (t : Bool) (x y : X) → (T t → P x) → (T (not t) → P y) → P (cond t x y)
  -- where the test holds, what is so of the first is so of the answer
  pub taken : {X : Type 0} (P : X → Type 0) (t : Bool) (x y : X) → T t → P x → P (cond t x y)
