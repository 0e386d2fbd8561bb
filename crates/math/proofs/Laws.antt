-- The published laws: what the proofs of geometry and of the crates above lean on beyond the contracts of the arithmetic. Each group passes
-- on laws that are proved in the file that it names; facts about tests alone are in Bools.

-- ---- doubles

-- the order of doubles: `number` is what is no NaN; of two that compare both are numbers
pub use Rattle.math.proofs.Doubles.Order.{number, le_number_l, le_number_r, le_self, le_trans, lt_le, le_lt, lt→le_f, lt_not_le}
-- two finite doubles count as equal exactly where they are one number, and are in the order of their numbers
pub use Rattle.math.proofs.Doubles.Values.{eq→value, le→value, value→eq}
-- a finite double's bit pattern says its sign and its size
pub use Rattle.math.proofs.Tight.Readings.{reading}
-- two finite doubles of one sign that are one number are written alike
pub use Rattle.math.proofs.Doubles.Held.{unique}
-- what differs from itself is a NaN, and nothing else does
pub use Rattle.math.proofs.Doubles.Tests.{ne_nan, no_nan}
-- a square is not below zero, and a sum of two that are not is at least each of them
pub use Rattle.math.proofs.Doubles.Nonneg.{square_nonneg, add_number, add_grows}
-- ---- picks

-- the greater is one of the two, and at least each
pub use Rattle.math.proofs.Doubles.Least.{max_either, max_left, max_second}
-- ---- intervals

-- bounds of revision 1 that are not widened yet: what a difference and a quotient are once they are widened, and of which kind they are
pub use Rattle.math.proofs.Intervals.Bounds.{AreDoubles, AreNumbers, difference_doubles, over_numbers, widen_difference, widen_over_own}
-- bounds are widened once, after they are joined, or picked where they are numbers
pub use Rattle.math.proofs.Intervals.Bounds.{Gathers, doubles_join, numbers_pick}
-- a divisor that was made of an interval divides as that does
pub use Rattle.math.proofs.Intervals.Bounds.{over_own, divisor_own}
pub use Rattle.math.proofs.Paper.{value_or_is}
-- a fraction has its alpha, and to go it is to interpolate
pub use Rattle.math.proofs.Intervals.Factors.{fraction_own, between_own}
-- the Rust's arithmetic encloses
pub use Rattle.math.proofs.Intervals.Instance.{geop_encloses}
-- so does the tightest, and it is the tightest; in either revision the arithmetic encloses and keeps intervals in order
pub use Rattle.math.proofs.Tight.Instance.{tight_encloses}
pub use Rattle.math.proofs.Tight.Quotients.{tight_tightest}
pub use Rattle.math.proofs.Tight.Revisions.{second_is, first_is, encloses, arithmetic_in_order}
-- ---- the square root

-- the root of a double is a double, and not below zero where the operand is not; a limit is below a root where the square of the next double says so
pub use Rattle.math.proofs.root.Over.{sqrt_fits, sqrt_nonneg, square_decides}
