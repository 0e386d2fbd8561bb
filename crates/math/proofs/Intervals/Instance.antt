-- The Rust's arithmetic meets the record of laws: `geop_encloses`. Assumes nothing.
use mathlib.Core.Path.{◌≡◌}
use mathlib.Core.Logic.{inl, inr}
use mathlib.Core.Bool.{true, false, not, ◌&&◌}
use lib.IntN.{pos}
use lib.Dec.{T, not_T}
use lib.Ieee.{Float, nan, inf, fin, binary64, eq, le, fits, sub}
use Rattle.exact.specs.Rational.{ℚ}
use Rattle.math.specs.declared.scalars.Scalar.{Scalar}
use Rattle.std.specs.Prelude.{Some}
use Rattle.math.specs.Scalars.{geop, sharp, sub_s, div_s, ZERO, ONE, ENTIRE, is_same}
use Rattle.math.specs.Values.{Holds}
use Rattle.math.specs.Encloses.{Encloses, is_clash, Between}
use Rattle.math.proofs.Bools.{and_l, and_r, or_split}
use Rattle.math.proofs.Doubles.Next.{next_up-fits, next_down-fits}
use Rattle.math.proofs.Intervals.Strict.{strict_thick}
use Rattle.math.proofs.Intervals.Geop.{add_holds, sub_holds, mul_holds, div_holds, div_fails, ratio_holds, sub-strict, div-strict}
use Rattle.math.proofs.Intervals.Alpha.{gap-geop, alpha_low, alpha-strict, rest_high, rest-strict}

-- a factor that is neither [0, 0] nor ENTIRE clashes with nothing
clear-factor : (x s : Scalar) → (T (is_same x ZERO) → ⊥) → (T (is_same x ENTIRE) → ⊥) → T (not (is_clash x s))
clear-factor x s z w = not_T (is_clash x s) (λ (t : T (is_clash x s)). elim (or_split (is_same x ENTIRE && is_same s ZERO) (is_same x ZERO && is_same s ENTIRE) t) [
  | inl k ↦ w (and_l (is_same x ENTIRE) (is_same s ZERO) k)
  | inr k ↦ z (and_l (is_same x ZERO) (is_same s ENTIRE) k)
])

-- nor do two of which neither is [0, 0]
clear_thick : (x s : Scalar) → (T (is_same x ZERO) → ⊥) → (T (is_same s ZERO) → ⊥) → T (not (is_clash x s))
clear_thick x s z w = not_T (is_clash x s) (λ (t : T (is_clash x s)). elim (or_split (is_same x ENTIRE && is_same s ZERO) (is_same x ZERO && is_same s ENTIRE) t) [
  | inl k ↦ w (and_r (is_same x ENTIRE) (is_same s ZERO) k)
  | inr k ↦ z (and_l (is_same x ZERO) (is_same s ENTIRE) k)
])

low_kept : (f : Float) → T (le (fin true 1 (pos 103)) f) → T (eq f (inf true)) → ⊥
low_kept nan h t = unfold eq in t
low_kept (inf true) h t = unfold le in h
low_kept (inf false) h t = unfold eq in t
low_kept (fin s m e) h t = unfold eq in t

high_kept : (f : Float) → T (le f (fin false 1 (pos 105))) → T (eq f (inf false)) → ⊥
high_kept nan h t = unfold eq in t
high_kept (inf true) h t = unfold eq in t
high_kept (inf false) h t = unfold le in h
high_kept (fin s m e) h t = unfold eq in t

slope_clear : (a b s c d : Scalar) (x y z w : ℚ) → div_s a b ≡ Some s → Holds a x → Holds b y → Holds c z → Holds d w → T (not (is_clash s (sub_s c d)))
slope_clear a b s c d x y z w e A B C D = clear_thick s (sub_s c d) (strict_thick s _ (div-strict a b s x y e A B)) (strict_thick (sub_s c d) _ (sub-strict c d z w C D))

module _ (a t b : Float) (f s : Scalar) (w : Between a t b) (e : div_s (sub_s (sharp t) (sharp a)) (sub_s (sharp b) (sharp a)) ≡ Some f) where
  alpha_clear : T (not (is_clash f s))
  alpha_clear = clear-factor f s (strict_thick f _ (alpha-strict a t b w f e)) (λ (k : T (is_same f ENTIRE)). low_kept f.lo (alpha_low a t b w f e) (and_l (eq f.lo (inf true)) (eq f.hi (inf false)) k))

  rest_clear : T (not (is_clash (sub_s ONE f) s))
  rest_clear = clear-factor (sub_s ONE f) s (strict_thick (sub_s ONE f) _ (rest-strict a t b w f e)) (λ (k : T (is_same (sub_s ONE f) ENTIRE)). high_kept (sub_s ONE f).hi (rest_high a t b w f e) (and_r (eq (sub_s ONE f).lo (inf true)) (eq (sub_s ONE f).hi (inf false)) k))

sub_doubles : (a b : Scalar) → T (fits binary64 (sub_s a b).lo) × T (fits binary64 (sub_s a b).hi)
unfolding sub_s
sub_doubles a b = (next_down-fits (sub binary64 a.lo b.hi), next_up-fits (sub binary64 a.hi b.lo))

pub geop_encloses : Encloses geop
geop_encloses = record {
  exempt = is_clash;
  add_holds = add_holds;
  sub_holds = sub_holds;
  mul_holds = mul_holds;
  div_holds = div_holds;
  div_fails = div_fails;
  ratio_holds = ratio_holds;
  exempt_only = λ a b t. t;
  slope_clear = slope_clear;
  alpha_clear = alpha_clear;
  rest_clear = rest_clear;
  gap = gap-geop;
  sub_doubles = sub_doubles;
}
