-- Weights that hold exact ones above zero: their hi is above zero, and refusal 11's test is the Rust's. Assumes nothing.
use mathlib.Core.Path.{◌≡◌, refl, sym, ap, ◌∙◌, subst}
use mathlib.Core.Bool.{Bool, true, false, not, ◌&&◌}
use mathlib.Core.List.{List, [], ◌∷◌}
use Prim.Native.Nat.{ℕ}
use native.Mathlib.Omega.{arith}
use lib.Dec.{T}
use lib.IntN.{pos}
use lib.Ieee.{Float, nan, inf, fin, lt, le}
use lib.Ieee.Bits.{is_true}
use Rattle.exact.specs.Rational.{ℚ, 0ℚ, ◌<ℚ◌}
use Rattle.exact.proofs.Order.{lt_le_trans}
use Rattle.lists.specs.Lists.{all}
use Rattle.math.specs.declared.scalars.Scalar.{Scalar}
use Rattle.math.specs.Scalars.{zero_f, has_zero}
use Rattle.math.specs.Values.{value, Above}
use Rattle.math.proofs.Bools.{and_i}
use Rattle.math.proofs.Doubles.Values.{value_zero, value→lt}
use Rattle.math.proofs.Doubles.Order.{number, below_number, lt_not_le, lt→le_f, total-order}
use Rattle.math.proofs.Intervals.Tests.{zero_holds}
use Rattle.model.specs.Vector.{Vector, coordinate}
use Rattle.model.specs.NurbCurve.{weights_positive}
use Rattle.model.specs.Enclosure.{Every}
use Rattle.model.specs.Weights.{Weighs, WeightsAbove}
use Rattle.model.proofs.Proper.Blend.{Solid, coordinate_proper}

-- ---- one weight

-- a bound above a number above zero is above zero
bound-above : (x : Float) (q : ℚ) → 0ℚ <ℚ q → Above x q → T (lt zero_f x)
bound-above nan q h k = absurd k
bound-above (inf true) q h k = absurd k
bound-above (inf false) q h k = unfold lt in tt
bound-above (fin s m e) q h k =
    value→lt false 0 (pos 0) s m e (subst (λ (z : ℚ). z <ℚ value (fin s m e)) (sym (value_zero false (pos 0))) (lt_le_trans h k))

weight_high : (w : Scalar) → Weighs w → T (lt zero_f w.hi)
weight_high w s = bound-above w.hi s.number s.above s.holds.high

-- it could be zero where its lo is not above zero
weight_zero : (w : Scalar) → Weighs w → has_zero w ≡ not (lt zero_f w.lo)
weight_zero w s = go (lt zero_f w.lo) refl
  where
    never-le : (b : Bool) → (T b → ⊥) → b ≡ false
    never-le true n = absurd (n tt)
    never-le false n = refl

    low-number : T (number w.lo)
    low-number = below_number w.lo s.number s.holds.low

    zero_number : T (number zero_f)
    zero_number = below_number zero_f 0ℚ zero_holds.low

    go : (z : Bool) → lt zero_f w.lo ≡ z → le w.lo zero_f && le zero_f w.hi ≡ not z
    go true e = ap (λ (b : Bool). b && le zero_f w.hi) (never-le (le w.lo zero_f) (λ t. lt_not_le zero_f w.lo (subst T (sym e) tt) t))
    go false e =
        let low : T (le w.lo zero_f) = total-order w.lo zero_f low-number zero_number (subst (λ (b : Bool). T (not b)) (sym e) tt) in
        ap (λ (b : Bool). b && le zero_f w.hi) (is_true (le w.lo zero_f) low)
        ∙ is_true (le zero_f w.hi) (lt→le_f zero_f w.hi (weight_high w s))

twice-not : (b : Bool) → b ≡ not (not b)
twice-not true = refl
twice-not false = refl

-- ---- the weights of points in order
module _ (dim : ℕ) where
  -- refusal 11 and the Rust's panic are one
  pub weights_same : (points : List Vector) → Every (Solid dim) points → weights_positive dim points ≡ all (λ q. not (has_zero (coordinate q dim))) points
  unfolding all weights_positive
  weights_same [] S = refl
  weights_same (q ∷ qs) S =
      ap (λ (b : Bool). b && weights_positive dim qs) (twice-not (lt zero_f (coordinate q dim).lo) ∙ ap not (sym (weight_zero (coordinate q dim) S.0.weight)))
      ∙ ap (λ (b : Bool). not (has_zero (coordinate q dim)) && b) (weights_same qs S.1)

  weighs_each : (points : List Vector) → Every (Solid dim) points → Every (λ q. Weighs (coordinate q dim)) points
  weighs_each [] S = tt
  weighs_each (q ∷ qs) S = (S.0.weight, weighs_each qs S.1)

  bounds-each : (points : List Vector) → Every (Solid dim) points
      → Every (λ q. T (le (coordinate q dim).lo (coordinate q dim).hi && lt zero_f (coordinate q dim).hi)) points
  bounds-each [] S = tt
  bounds-each (q ∷ qs) S =
      let w = coordinate q dim in
      (and_i (le w.lo w.hi) (lt zero_f w.hi) (coordinate_proper dim q dim S.0 (omega arith)).order (weight_high w S.0.weight), bounds-each qs S.1)

  pub weights-above : (points : List Vector) → Every (Solid dim) points → WeightsAbove dim points
  weights-above points S = record { exact = weighs_each points S; bounds = bounds-each points S; panic = weights_same points S }
