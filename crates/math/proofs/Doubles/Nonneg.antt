-- Doubles that are not below zero: squares are, and a sum of two is at least each of them. Assumes nothing.
use mathlib.Core.Path.{sym, subst}
use mathlib.Core.Bool.{Bool, true, false}
use mathlib.Core.List.{[], ◌∷◌}
use Prim.Native.Nat.{ℕ, ◌*◌}
use lib.IntN.{ℤ, pos}
use lib.Dec.{T}
use lib.Ieee.{Float, nan, inf, fin, binary64, up, down, fits, is_nan, add, mul, le}
use Rattle.solver.proofs.Ring.{by_rep, read}
use Rattle.exact.specs.Rational.{ℚ, ◌+ℚ◌, 0ℚ, ◌≤ℚ◌, nn_of}
use Rattle.exact.proofs.Field.{ℚring}
use Rattle.exact.proofs.Order.{le_by}
use Rattle.math.specs.Scalars.{zero_f}
use Rattle.math.specs.Values.{value}
use Rattle.math.proofs.Doubles.Values.{value_zero, value-nonneg, le→value, value→le}
use Rattle.math.proofs.Doubles.Order.{number}
use Rattle.math.proofs.Doubles.Rounding.{rounds_ge, round-nonneg, nonneg}
use Rattle.math.proofs.Doubles.Operations.{add_rounds}

-- ---- what is not below zero
pub at_least_zero : (x : Float) → T (nonneg x) → T (le zero_f x)
unfolding le
at_least_zero nan h = absurd h
at_least_zero (inf true) h = absurd h
at_least_zero (inf false) h = tt
at_least_zero (fin true m e) h = absurd h
at_least_zero (fin false m e) h =
    unfold le in value→le false 0 (pos 0) false m e
    (subst (λ (z : ℚ). z ≤ℚ value (fin false m e)) (sym (value_zero false (pos 0))) (value-nonneg m e))

-- its number is not below zero
pub worth : (s : Bool) (m : ℕ) (e : ℤ) → T (le zero_f (fin s m e)) → 0ℚ ≤ℚ value (fin s m e)
worth s m e h = subst (λ (z : ℚ). z ≤ℚ value (fin s m e)) (value_zero false (pos 0)) (le→value false 0 (pos 0) s m e h)

-- a square that is a number is not
pub square_nonneg : (x : Float) → T (number (mul binary64 x x)) → T (le zero_f (mul binary64 x x))
unfolding mul is_nan
square_nonneg nan h = absurd h
square_nonneg (inf true) h = unfold le in tt
square_nonneg (inf false) h = unfold le in tt
square_nonneg (fin true m e) h = at_least_zero _ (round-nonneg binary64 (m * up e * (m * up e)) (down e * down e))
square_nonneg (fin false m e) h = at_least_zero _ (round-nonneg binary64 (m * up e * (m * up e)) (down e * down e))

-- ---- sums
-- a sum that is a number is one of numbers
pub add_number : (a b : Float) → T (number (add binary64 a b)) → T (number a) × T (number b)
unfolding add is_nan
add_number nan b h = absurd h
add_number (inf s) nan h = absurd h
add_number (inf s) (inf t) h = (tt, tt)
add_number (inf s) (fin t n d) h = (tt, tt)
add_number (fin s m e) nan h = absurd h
add_number (fin s m e) (inf t) h = (tt, tt)
add_number (fin s m e) (fin t n d) h = (tt, tt)

more : (x y : ℚ) → 0ℚ ≤ℚ y → x ≤ℚ x +ℚ y
more x y h = le_by (nn_of h) (by_rep ℚring (x ∷ y ∷ []) (search read depth 9) (search read depth 9) tt)

more' : (x y : ℚ) → 0ℚ ≤ℚ x → y ≤ℚ x +ℚ y
more' x y h = le_by (nn_of h) (by_rep ℚring (x ∷ y ∷ []) (search read depth 9) (search read depth 9) tt)

-- a sum of two that are not below zero is at least each of them
pub add_grows : (a b : Float) → T (fits binary64 a) → T (fits binary64 b) → T (le zero_f a) → T (le zero_f b)
    → T (le a (add binary64 a b)) × T (le b (add binary64 a b))
add_grows nan b A B h k = absurd (unfold le in h)
add_grows (inf true) b A B h k = absurd (unfold le in h)
add_grows (inf false) nan A B h k = absurd (unfold le in k)
add_grows (inf false) (inf true) A B h k = absurd (unfold le in k)
add_grows (inf false) (inf false) A B h k = unfold le add in (tt, tt)
add_grows (inf false) (fin t n d) A B h k = unfold le add in (tt, tt)
add_grows (fin s m e) nan A B h k = absurd (unfold le in k)
add_grows (fin s m e) (inf true) A B h k = absurd (unfold le in k)
add_grows (fin s m e) (inf false) A B h k = unfold le add in (tt, tt)
add_grows (fin s m e) (fin t n d) A B h k =
    let r = add_rounds s m e t n d in
    let x = value (fin s m e) in
    let y = value (fin t n d) in
    (rounds_ge _ _ r s m e A (more x y (worth t n d k)), rounds_ge _ _ r t n d B (more' x y (worth s m e h)))
