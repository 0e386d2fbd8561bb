-- The widened least of the four products of two intervals' bounds lies below x y, for x in the one and y in the other, and the widened greatest above, unless
-- one interval is the whole line and the other is zero. The upper bound is the mirror image of the lower one. Assumes nothing.
use mathlib.Core.Path.{◌≡◌, sym, ap, ◌∙◌, subst}
use mathlib.Core.List.{[], ◌∷◌}
use mathlib.Core.Logic.{inl, inr}
use lib.Dec.{T}
use lib.Ieee.{Float, binary64, mul, neg, le, fits}
use lib.Ieee.Fits.{mul-fits, neg-fits}
use Rattle.solver.proofs.Ring.{by_rep, read}
use Rattle.exact.specs.Rational.{ℚ, ◌*ℚ◌, -ℚ◌}
use Rattle.exact.proofs.Field.{ℚring}
use Rattle.math.specs.Neighbours.{next_up, next_down}
use Rattle.math.specs.Values.{Below, Above}
use Rattle.math.specs.Scalars.{least4, most4}
use Rattle.math.proofs.Doubles.Order.{number, below-neg, above-neg}
use Rattle.math.proofs.Doubles.Mirror.{neg-neg}
use Rattle.math.proofs.Doubles.Rounding.{Under, Over, under-neg, down-below, down-neg}
use Rattle.math.proofs.Doubles.Least.{least_fits, least_a, least_b, least_c, least_d, most_is}
use Rattle.math.proofs.Intervals.Corners.{Clear, clear-neg, corner, mul-neg}

-- m is no larger than r, if that is a number
abbrev NoMore : Float → Float → Type 0
NoMore m r = T (number r) → T (le m r)

module _ (x y : ℚ) (a b c d : Float) (A : Below a x) (B : Above b x) (C : Below c y) (D : Above d y) (u : Clear a b c d) where
  under_all : (m : Float) → T (fits binary64 m) → NoMore m (mul binary64 a c) → NoMore m (mul binary64 a d) → NoMore m (mul binary64 b c) → NoMore m (mul binary64 b d) → Under (next_down m) (x *ℚ y)
  under_all m F ac ad bc bd = elim (corner x y a b c d A B C D u) [
    | inl k ↦ elim k [ inl l ↦ down-below m _ _ F (ac l.is_number) l | inr l ↦ down-below m _ _ F (ad l.is_number) l ]
    | inr k ↦ elim k [ inl l ↦ down-below m _ _ F (bc l.is_number) l | inr l ↦ down-below m _ _ F (bd l.is_number) l ]
  ]

  abbrev ac : Float
  ac = mul binary64 a c

  abbrev ad : Float
  ad = mul binary64 a d

  abbrev bc : Float
  bc = mul binary64 b c

  abbrev bd : Float
  bd = mul binary64 b d

  pub mul-below : Under (next_down (least4 ac ad bc bd)) (x *ℚ y)
  mul-below =
      under_all (least4 ac ad bc bd) (least_fits ac ad bc bd (mul-fits binary64 a c) (mul-fits binary64 a d) (mul-fits binary64 b c) (mul-fits binary64 b d))
      (least_a ac ad bc bd) (least_b ac ad bc bd) (least_c ac ad bc bd) (least_d ac ad bc bd)

-- the same for -x, whose bounds are -b and -a
module _ (x y : ℚ) (a b c d : Float) (A : Below a x) (B : Above b x) (C : Below c y) (D : Above d y) (u : Clear a b c d) where
  abbrev least : Float
  least = least4 (neg (mul binary64 a c)) (neg (mul binary64 a d)) (neg (mul binary64 b c)) (neg (mul binary64 b d))

  turned : (z w : Float) → NoMore least (neg (mul binary64 z w)) → NoMore least (mul binary64 (neg z) w)
  turned z w h = subst (λ (r : Float). NoMore least r) (sym (mul-neg z w)) h

  negated : Under (next_down least) (-ℚ x *ℚ y)
  negated =
      let na = neg (mul binary64 a c) in
      let nb = neg (mul binary64 a d) in
      let nc = neg (mul binary64 b c) in
      let nd = neg (mul binary64 b d) in
      under_all (-ℚ x) y (neg b) (neg a) c d (above-neg b x B) (below-neg a x A) C D (clear-neg a b c d u) least
      (least_fits na nb nc nd (neg-fits binary64 (mul binary64 a c) (mul-fits binary64 a c)) (neg-fits binary64 (mul binary64 a d) (mul-fits binary64 a d)) (neg-fits binary64 (mul binary64 b c) (mul-fits binary64 b c)) (neg-fits binary64 (mul binary64 b d) (mul-fits binary64 b d)))
      (turned b c (least_c na nb nc nd)) (turned b d (least_d na nb nc nd)) (turned a c (least_a na nb nc nd)) (turned a d (least_b na nb nc nd))

  up_neg : (m : Float) → neg (next_down m) ≡ next_up (neg m)
  up_neg m = ap (λ (z : Float). neg (next_down z)) (sym (neg-neg m)) ∙ down-neg (neg m)

  pub mul-above : Over (next_up (most4 (mul binary64 a c) (mul binary64 a d) (mul binary64 b c) (mul binary64 b d))) (x *ℚ y)
  mul-above =
      subst (λ (r : Float). Over (next_up r) (x *ℚ y)) (sym (most_is (mul binary64 a c) (mul binary64 a d) (mul binary64 b c) (mul binary64 b d)))
      (subst (λ (r : Float). Over r (x *ℚ y)) (up_neg least)
      (subst (λ (v : ℚ). Over (neg (next_down least)) v) (by_rep ℚring (x ∷ y ∷ []) (search read) (search read) tt) (under-neg (next_down least) (-ℚ x *ℚ y) negated)))
