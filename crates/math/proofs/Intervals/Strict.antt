-- A number that lies strictly inside an interval: what a widened result holds. Such an interval is not [0, 0]. Assumes nothing.
use mathlib.Core.Path.{subst, ◌∙◌}
use mathlib.Core.Bool.{false}
use lib.IntN.{pos}
use lib.Dec.{T}
use lib.Ieee.{Float, nan, inf, fin, eq}
use Rattle.exact.specs.Rational.{ℚ, 0ℚ, ◌<ℚ◌, lt→not_le}
use Rattle.exact.proofs.Order.{lt→le}
use Rattle.math.specs.declared.scalars.Scalar.{Scalar}
use Rattle.math.specs.Scalars.{ZERO, zero_f, is_same}
use Rattle.math.specs.Values.{Holds}
use Rattle.math.proofs.Bools.{and_l, and_r}
use Rattle.math.proofs.Doubles.Values.{value_zero, eq→value}
use Rattle.math.proofs.Doubles.Rounding.{Under, Over, under-below, over-above}

pub record Strict (x : Scalar) (q : ℚ) : Type 0 where
  pub low : Under x.lo q
  pub high : Over x.hi q

pub strict_holds : (x : Scalar) (q : ℚ) → Strict x q → Holds x q
strict_holds x q h = record { low = under-below x.lo q h.low; high = over-above x.hi q h.high }

zero_under : (f : Float) (q : ℚ) → T (eq f zero_f) → Under f q → 0ℚ <ℚ q
zero_under nan q e h = absurd h
zero_under (inf s) q e h = unfold eq in absurd e
zero_under (fin s m k) q e h = subst (λ (z : ℚ). z <ℚ q) (eq→value s m k false 0 (pos 0) e ∙ value_zero false (pos 0)) h

zero_over : (f : Float) (q : ℚ) → T (eq f zero_f) → Over f q → q <ℚ 0ℚ
zero_over nan q e h = absurd h
zero_over (inf s) q e h = unfold eq in absurd e
zero_over (fin s m k) q e h = subst (λ (z : ℚ). q <ℚ z) (eq→value s m k false 0 (pos 0) e ∙ value_zero false (pos 0)) h

pub strict_thick : (x : Scalar) (q : ℚ) → Strict x q → T (is_same x ZERO) → ⊥
strict_thick x q h t = lt→not_le (zero_under x.lo q (and_l (eq x.lo zero_f) (eq x.hi zero_f) t) h.low) (lt→le (zero_over x.hi q (and_r (eq x.lo zero_f) (eq x.hi zero_f) t) h.high))
