-- The widened sum of two lower bounds lies below the sum of what they bound, and so above. Assumes nothing.
use mathlib.Core.Path.{refl}
use mathlib.Core.Bool.{true, false}
use lib.Ieee.{Float, nan, inf, fin, binary64, add}
use lib.Ieee.Fits.{add-fits}
use Rattle.exact.specs.Rational.{ℚ, ◌+ℚ◌}
use Rattle.exact.proofs.Order.{add-mono}
use Rattle.math.specs.Neighbours.{next_up, next_down}
use Rattle.math.specs.Values.{Below, Above}
use Rattle.math.proofs.Doubles.Rounding.{Under, Over, Lows, Highs, lows-mono, highs_mono, lows-inf, highs_inf, lows-down, highs_up}
use Rattle.math.proofs.Doubles.Operations.{add_rounds}

module _ (p q : ℚ) where
  -- before it is widened: the two sides of each pair of doubles
  sums : (x y : Float)
      → (Below x p → Below y q → Lows (add binary64 x y) (p +ℚ q)) × (Above x p → Above y q → Highs (add binary64 x y) (p +ℚ q))
  unfolding add
  sums nan y = (λ h _. absurd h, λ h _. absurd h)
  sums (inf s) nan = (λ _ k. absurd k, λ _ k. absurd k)
  sums (fin s m e) nan = (λ _ k. absurd k, λ _ k. absurd k)
  sums (inf true) (inf true) = (λ _ _. lows-inf (inf true) (p +ℚ q) refl, λ h _. absurd h)
  sums (inf true) (inf false) = (λ _ k. absurd k, λ h _. absurd h)
  sums (inf true) (fin t n d) = (λ _ _. lows-inf (inf true) (p +ℚ q) refl, λ h _. absurd h)
  sums (inf false) (inf true) = (λ h _. absurd h, λ _ k. absurd k)
  sums (inf false) (inf false) = (λ h _. absurd h, λ _ _. highs_inf (inf false) (p +ℚ q) refl)
  sums (inf false) (fin t n d) = (λ h _. absurd h, λ _ _. highs_inf (inf false) (p +ℚ q) refl)
  sums (fin s m e) (inf true) = (λ _ _. lows-inf (inf true) (p +ℚ q) refl, λ _ k. absurd k)
  sums (fin s m e) (inf false) = (λ _ k. absurd k, λ _ _. highs_inf (inf false) (p +ℚ q) refl)
  sums (fin s m e) (fin t n d) = (
    λ h k. lows-mono (add binary64 (fin s m e) (fin t n d)) _ (p +ℚ q) (add-mono h k) (add_rounds s m e t n d).lows,
    λ h k. highs_mono (add binary64 (fin s m e) (fin t n d)) _ (p +ℚ q) (add-mono h k) (add_rounds s m e t n d).highs,
  )

  pub add-below : (x y : Float) → Below x p → Below y q → Under (next_down (add binary64 x y)) (p +ℚ q)
  add-below x y h k = lows-down (add binary64 x y) (p +ℚ q) (add-fits binary64 x y) ((sums x y).0 h k)

  pub add-above : (x y : Float) → Above x p → Above y q → Over (next_up (add binary64 x y)) (p +ℚ q)
  add-above x y h k = highs_up (add binary64 x y) (p +ℚ q) (add-fits binary64 x y) ((sums x y).1 h k)
