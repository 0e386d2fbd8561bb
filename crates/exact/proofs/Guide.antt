-- How to prove an identity, a consequence of equations, and an inequality between rationals: a worked example of each, and what to do when one fails.
use mathlib.Core.Path.{◌≡◌}
use mathlib.Core.List.{[], ◌∷◌}
use Prim.Native.Nat.{ℕ}
use Rattle.solver.proofs.Ring.{by_rep, by_eq, read}
use Rattle.exact.specs.Rational.{ℚ, ◌+ℚ◌, ◌*ℚ◌, -ℚ◌, ◌-ℚ◌, 0ℚ, 1ℚ, invℚ, ◌÷◌, ◌≤ℚ◌, ◌<ℚ◌, lerp, ratio}
use Rattle.exact.proofs.Field.{ℚring}
use Rattle.exact.proofs.Order.{le_by, sub-inv, cone}

-- ---- an identity

-- `by_rep` multiplies both sides out and compares them. It is given a list of atoms: the variables, and each larger term that is to count as one. `search read`
-- finds how each side is made from the atoms with sum, product, negative, 0 and 1; the last argument is always `tt`.
squares : (x y : ℚ) → (x +ℚ y) *ℚ (x -ℚ y) ≡ x *ℚ x -ℚ y *ℚ y
squares x y = by_rep ℚring (x ∷ y ∷ []) (search read depth 9) (search read depth 9) tt

-- A larger atom is written in parentheses where it holds an operator: `◌∷◌` binds tighter than `◌÷◌`.
twice : (a c : ℕ) → (1ℚ +ℚ 1ℚ) *ℚ (a ÷ c) ≡ a ÷ c +ℚ a ÷ c
twice a c = by_rep ℚring ((a ÷ c) ∷ []) (search read depth 9) (search read depth 9) tt

-- ---- a consequence of equations

-- `by_eq ℚring k h` uses h : p ≡ q once, k times: of the goal x ≡ y it leaves x + k q ≡ y + k p. A division is first stated over a variable i, with the
-- hypothesis that i times the divisor is 1.
parts-eq : (t u v i : ℚ) → i *ℚ (v -ℚ u) ≡ 1ℚ → (t -ℚ u) *ℚ i +ℚ (v -ℚ t) *ℚ i ≡ 1ℚ
parts-eq t u v i h = by_eq ℚring 1ℚ h (by_rep ℚring (t ∷ u ∷ v ∷ i ∷ []) (search read depth 12) (search read depth 12) tt)

-- Then i is the inverse, and `sub-inv` gives the hypothesis wherever u is below v.
parts : (t u v : ℚ) → u <ℚ v → ratio t u v +ℚ (v -ℚ t) *ℚ invℚ (v -ℚ u) ≡ 1ℚ
unfolding ratio
parts t u v h = parts-eq t u v (invℚ (v -ℚ u)) (sub-inv h)

-- ---- an inequality

-- `le_by` proves x ≤ y from a certificate: a number z that is at least zero, and the identity y - x ≡ z. Write z as sums and products of differences of what
-- the hypotheses put in order, and `search cone` proves that it is at least zero.
between : (a x y : ℚ) → 0ℚ ≤ℚ a → x ≤ℚ y → x ≤ℚ lerp a x y
unfolding lerp
between a x y h k = le_by {z = a *ℚ (y -ℚ x)} (search cone depth 9) (by_rep ℚring (a ∷ x ∷ y ∷ []) (search read depth 12) (search read depth 12) tt)

-- ---- when one fails

-- If `search read` finds nothing, one of three things is wrong. The depth is too small: it must exceed the number of operations that stand one inside the
-- other, and 9, 12 and 20 are the usual choices. Or an atom is missing: everything but sum, product, negative, 0 and 1 must stand in the list, an inverse, a
-- knot `u j` and a fraction such as `2 ÷ 1` too, exactly as it stands in the goal; there may be fourteen. Or a definition is shut: name it on an `unfolding` line.
-- If `tt` is refused, the two sides are not the same polynomial. After `by_eq` look at the factor's sign first. If k hypotheses are needed, there are k `by_eq`, one
-- inside the other; find the factors on paper, from the difference of the two sides.
-- If `search cone` finds nothing, give z in the form in which it is to be taken apart, or write the proof: `nn_add _ _ (nn_of h) (nn_mul _ _ (nn_le s) (nn_of k))`.
