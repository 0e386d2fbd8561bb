-- IEEE 754's squareRoot for doubles (5.4.1): the root of the exact number that the operand is, rounded to the nearest double. Definitions only.
-- It is defined by whole numbers, so that it computes. What it is worth among the exact numbers is said in RootLaws.antt.
use Rattle.std.specs.Prelude.{ℕ, zero, suc, ◌+◌, ◌-◌, ◌*◌, ◌/◌, ◌^◌, true, false, cond, leb, ltb, ℤ, Float}
use Rattle.std.specs.Float.{nan, inf, fin, binary64}
use Rattle.std.specs.Float.Ieee.{size, units, up, down}

-- ---- the root of a whole number

-- The greatest r with r * r ≤ n, for an n below 4 ^ d. That of n / 4, doubled, is the result but for its last binary digit, and the digit is 1 where the square allows it.
unfoldable pub root_in : ℕ → ℕ → ℕ
root_in zero n = 0
root_in (suc d) n = let r = 2 * root_in d (n / 4) in cond (leb (suc r * suc r) n) (suc r) r

-- The greatest r with r * r ≤ n, for every n: one of d binary digits is below 2 ^ d, and so below 4 ^ d.
unfoldable pub root : ℕ → ℕ
unfolding root_in
root n = root_in (size n) n

-- ---- the root, rounded

-- q, or q + 1 where √y lies above q and a half, all times 2 ^ k. That is so where (2 q + 1) * 2 ^ k < 2 √y, which is compared by the squares of both sides.
unfoldable pub nearest_root : ℕ → ℕ → ℕ → ℕ
nearest_root y q k = cond (ltb ((2 * q + 1) * (2 * q + 1) * 4 ^ k) (4 * y)) (suc q) q

-- The double nearest to √y * 2 ^ -1074, where y is not 0: y is the operand in units of 2 ^ -2148, the square of the least positive double, so that √y is the root in units of
-- the least positive double. `units` reads a number of those as a double.
-- Rounding is to the 53 binary digits of a significand. The whole part of √y has 53 + k digits. The 53 leading ones are q, which is also the whole part of the root of
-- y / 4 ^ k, and the rest decides between q and q + 1. If q + 1 is 2 ^ 53, `units` takes it as the power of two that it is.
-- The operand is a double, so no tie arises: y is then a multiple of 4 ^ k, while √y at q and a half would make 4 * y / 4 ^ k the square of 2 q + 1, which is odd. So `ltb`
-- decides alone, and the rule that a tie goes to the even one has no case.
-- No root is subnormal and none overflows: from 2 ^ -1074 to below 2 ^ 1024, the roots go from 2 ^ -537 to 2 ^ 512. So 53 digits are always there, and `units` gives no infinity.
unfoldable pub root_of : ℕ → Float
unfolding root nearest_root units
root_of y =
    let k = size (root y) - 53 in
    units binary64 false (nearest_root y (root (y / 4 ^ k)) k) k

-- ---- the operation

-- The number m * 2 ^ e in units of 2 ^ -2148. A double, a subnormal one too, is a whole number of 2 ^ -1074, so the division has no remainder.
abbrev pub square_units : ℕ → ℤ → ℕ
square_units m e = m * up e * 2 ^ 1074 / down e * 2 ^ 1074

-- A NaN gives a NaN (6.2). Below zero, the negative infinity included, there is no root: the operation is invalid and gives a NaN (7.2). The positive infinity is its own
-- root (6.1). A zero keeps its sign: the root of -0 is -0 (5.4.1, 6.3). Every other operand is a positive number, subnormal or not, and its root is rounded, with
-- a positive sign (6.3).
unfoldable pub sqrt_f : Float → Float
unfolding root_of
sqrt_f nan = nan
sqrt_f (inf true) = nan
sqrt_f (inf false) = inf false
sqrt_f (fin s zero e) = fin s zero e
sqrt_f (fin true (suc m) e) = nan
sqrt_f (fin false (suc m) e) = root_of (square_units (suc m) e)
