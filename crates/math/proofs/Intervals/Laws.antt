-- What follows for every arithmetic that encloses: `interpolate` holds every point between. Assumes nothing.
use mathlib.Core.Path.{◌≡◌, subst}
use mathlib.Core.List.{[], ◌∷◌}
use mathlib.Core.Bool.{true, false}
use lib.IntN.{pos}
use lib.Dec.{T}
use lib.Ieee.{Float, nan, inf, fin, le}
use Rattle.solver.proofs.Ring.{by_rep, read}
use Rattle.exact.specs.Rational.{ℚ, ◌+ℚ◌, ◌*ℚ◌, -ℚ◌, ◌-ℚ◌, 0ℚ, 1ℚ, lerp, ◌≤ℚ◌}
use Rattle.exact.proofs.Field.{ℚring}
use Rattle.exact.proofs.Order.{lerp_ge, lerp_le}
use Rattle.exact.proofs.Embed.{÷_one}
use Rattle.math.specs.declared.scalars.Scalar.{Scalar}
use Rattle.math.specs.Scalars.{Arithmetic, ONE, zero_f, one_f, is_exactly, in_unit, same_operands, via_delta, via_weights, interpolate_s, intersect_s}
use Rattle.math.specs.Values.{value, Below, Above, Holds}
use Rattle.math.specs.Encloses.{Encloses, Tame}
use Rattle.math.proofs.Bools.{and_l, and_r, pick}
use Rattle.math.proofs.Doubles.Values.{value_zero}
use Rattle.math.proofs.Doubles.Order.{le_below, le_above}
use Rattle.math.proofs.Intervals.Tests.{one_holds, exactly_holds, intersect_holds}

-- ---- a point between two numbers of one interval lies in it
below-lerp : (f : Float) (a x y : ℚ) → 0ℚ ≤ℚ a → a ≤ℚ 1ℚ → Below f x → Below f y → Below f (lerp a x y)
below-lerp nan a x y h k p q = p
below-lerp (inf true) a x y h k p q = tt
below-lerp (inf false) a x y h k p q = p
below-lerp (fin s m e) a x y h k p q = lerp_ge h k p q

above-lerp : (f : Float) (a x y : ℚ) → 0ℚ ≤ℚ a → a ≤ℚ 1ℚ → Above f x → Above f y → Above f (lerp a x y)
above-lerp nan a x y h k p q = p
above-lerp (inf true) a x y h k p q = p
above-lerp (inf false) a x y h k p q = tt
above-lerp (fin s m e) a x y h k p q = lerp_le h k p q

lerp_holds : (s : Scalar) (a x y : ℚ) → 0ℚ ≤ℚ a → a ≤ℚ 1ℚ → Holds s x → Holds s y → Holds s (lerp a x y)
lerp_holds s a x y h k p q = record { low = below-lerp s.lo a x y h k p.low q.low; high = above-lerp s.hi a x y h k p.high q.high }

-- a number in an interval that lies in 0 to 1
unit_low : (t : Scalar) (a : ℚ) → T (in_unit t) → Holds t a → 0ℚ ≤ℚ a
unit_low t a u h = subst (λ (z : ℚ). z ≤ℚ a) (value_zero false (pos 0)) (le_below zero_f t.lo a (and_l (le zero_f t.lo) (le t.hi one_f) u) h.low)

unit_high : (t : Scalar) (a : ℚ) → T (in_unit t) → Holds t a → a ≤ℚ 1ℚ
unit_high t a u h = subst (λ (z : ℚ). a ≤ℚ z) one_is (le_above t.hi one_f a (and_r (le zero_f t.lo) (le t.hi one_f) u) h.high)
  where
    one_is : value one_f ≡ 1ℚ
    one_is = unfold value in ÷_one

delta-form : (α x y : ℚ) → x +ℚ α *ℚ (y -ℚ x) ≡ lerp α x y
unfolding lerp
delta-form α x y = by_rep ℚring (α ∷ x ∷ y ∷ []) (search read depth 9) (search read depth 9) tt

module _ (ar : Arithmetic) (E : Encloses ar) where
  -- THE LAW of interpolate
  pub interpolate_holds : (a b t : Scalar) (α x y : ℚ) → Tame ar E a b t → Holds t α → Holds a x → Holds b y → Holds (interpolate_s ar a b t) (lerp α x y)
  unfolding interpolate_s
  interpolate_holds a b t α x y w T' A B =
      pick (λ (s : Scalar). Holds s (lerp α x y)) (same_operands a b t) a (intersect_s (via_delta ar a b t) (via_weights ar a b t))
      (λ u. lerp_holds a α x y (unit_low t α (and_r (is_exactly a b) (in_unit t) u) T') (unit_high t α (and_r (is_exactly a b) (in_unit t) u) T') A (exactly_holds a b y (and_l (is_exactly a b) (in_unit t) u) B))
      (λ _. intersect_holds (via_delta ar a b t) (via_weights ar a b t) (lerp α x y) delta weights)
    where
      delta : Holds (via_delta ar a b t) (lerp α x y)
      delta = subst (λ (q : ℚ). Holds (via_delta ar a b t) q) (delta-form α x y)
          (E.add_holds a (ar.mul t (ar.sub b a)) x (α *ℚ (y -ℚ x)) A (E.mul_holds t (ar.sub b a) α (y -ℚ x) w.delta T' (E.sub_holds b a y x B A)))

      weights : Holds (via_weights ar a b t) (lerp α x y)
      weights = unfold lerp in
          E.add_holds (ar.mul (ar.sub ONE t) a) (ar.mul t b) ((1ℚ -ℚ α) *ℚ x) (α *ℚ y)
          (E.mul_holds (ar.sub ONE t) a (1ℚ -ℚ α) x w.first (E.sub_holds ONE t 1ℚ α one_holds T') A)
          (E.mul_holds t b α y w.second T' B)
