-- Each law that specs/Laws.antt states, from where it is proved, so that the checker holds the statement to the law. Assumes nothing.
use mathlib.Core.Logic.{◌↔◌}
use Rattle.math.specs.Laws.{DoubleLaws, ReadingLaws, PickLaws, IntervalLaws, RevisionLaws, SqrtLaws, TestLaws}
use Rattle.math.specs.Laws as S
use Rattle.math.specs.Bounds.{widen_b, difference_b, join_b, pick_b, over_b}
use Rattle.math.specs.declared.bounds.Bounds.{Bounds}
use Rattle.math.proofs.Laws.{le_number_l, le_number_r, le_self, le_trans, lt_le, le_lt, lt→le_f, lt_not_le}
use Rattle.math.proofs.Laws.{eq→value, le→value, value→eq, unique, reading, ne_nan, no_nan, square_nonneg, add_number, add_grows}
use Rattle.math.proofs.Laws.{max_either, max_left, max_second}
use Rattle.math.proofs.Laws.{AreDoubles, AreNumbers, difference_doubles, over_numbers, widen_difference, widen_over_own}
use Rattle.math.proofs.Laws.{doubles_join, numbers_pick}
use Rattle.math.proofs.Laws.{over_own, divisor_own, value_or_is, fraction_own, between_own}
use Rattle.math.proofs.Laws.{second_is, first_is, geop_encloses, tight_encloses, encloses, arithmetic_in_order, tight_tightest}
use Rattle.math.proofs.Laws.{sqrt_fits, sqrt_nonneg, square_decides}
use Rattle.math.proofs.Bools.{yes, no, decide, never, compare_le, same_test, same_eqb, and_i, and_l, and_r, and_both}
use Rattle.math.proofs.Bools.{or_l, or_r, or_split, and_yes, and_no, or_yes, or_no, pick_yes, pick_no, pick, taken}

-- ---- doubles, picks
pub doubles : DoubleLaws
doubles = record {
  le_number_l = le_number_l;
  le_number_r = le_number_r;
  le_self = le_self;
  le_trans = le_trans;
  lt_le = lt_le;
  le_lt = le_lt;
  lt→le_f = lt→le_f;
  lt_not_le = lt_not_le;
  eq→value = eq→value;
  value→eq = value→eq;
  unique = unique;
  ne_nan = ne_nan;
  no_nan = no_nan;
  square_nonneg = square_nonneg;
  add_number = add_number;
  add_grows = add_grows;
}

pub readings : ReadingLaws
readings = record { le→value = le→value; reading = reading }

pub picks : PickLaws
picks = record { max_either = max_either; max_left = max_left; max_second = max_second }

-- ---- intervals

-- the kinds of bounds that the laws have as records are those of the statements
pub are-doubles : (b : Bounds) → AreDoubles b ↔ S.AreDoubles b
are-doubles b = (λ h. (h.low, h.high), λ h. record { low = h.0; high = h.1 })

pub are_numbers : (b : Bounds) → AreNumbers b ↔ S.AreNumbers b
are_numbers b =
    (λ h. ((are-doubles b).0 h.doubles, h.low, h.high), λ h. record { doubles = (are-doubles b).1 h.0; low = h.1; high = h.2 })

pub intervals : IntervalLaws
intervals = record {
  difference_doubles = λ x y. (are-doubles (difference_b x y)).0 (difference_doubles x y);
  over_numbers = λ x d. (are_numbers (over_b x d)).0 (over_numbers x d);
  widen_difference = widen_difference;
  widen_over_own = widen_over_own;
  doubles_join = join;
  numbers_pick = choose;
  over_own = over_own;
  divisor_own = divisor_own;
  value_or_is = value_or_is;
  fraction_own = fraction_own;
  between_own = between_own;
}
  where
    join : S.Gathers join_b S.AreDoubles widen_b
    join a b h k =
        let A = (are-doubles a).1 h in
        let B = (are-doubles b).1 k in
        ((are-doubles (join_b a b)).0 (doubles_join.keeps a b A B), doubles_join.union a b A B)

    choose : S.Gathers pick_b S.AreNumbers widen_b
    choose a b h k =
        let A = (are_numbers a).1 h in
        let B = (are_numbers b).1 k in
        ((are_numbers (pick_b a b)).0 (numbers_pick.keeps a b A B), numbers_pick.union a b A B)

-- ---- revisions
pub revisions : RevisionLaws
revisions = record {
  second_is = second_is;
  first_is = first_is;
  geop_encloses = geop_encloses;
  tight_encloses = tight_encloses;
  encloses = encloses;
  arithmetic_in_order = arithmetic_in_order;
  tight_tightest = tight_tightest;
}

-- ---- the square root
pub roots : SqrtLaws
roots = record { sqrt_fits = sqrt_fits; sqrt_nonneg = sqrt_nonneg; square_decides = square_decides }

-- ---- tests
pub tests : TestLaws
tests = record {
  yes = yes;
  no = no;
  decide = decide;
  never = never;
  compare_le = compare_le;
  same_test = same_test;
  same_eqb = same_eqb;
  and_i = and_i;
  and_l = and_l;
  and_r = and_r;
  and_both = and_both;
  or_l = or_l;
  or_r = or_r;
  or_split = or_split;
  and_yes = and_yes;
  and_no = and_no;
  or_yes = or_yes;
  or_no = or_no;
  pick_yes = pick_yes;
  pick_no = pick_no;
  pick = pick;
  taken = taken;
}
