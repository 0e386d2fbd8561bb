-- How far t lies along the way from a to b: for three doubles a < t < b of moderate size the divisor b - a does not hold zero, and neither the quotient (t - a) / (b - a) nor one
-- less it is the whole line. The numerator's lower bound is not negative, and the reciprocal's at least -1, so no product of their bounds is very low. Assumes nothing.
use mathlib.Core.Path.{◌≡◌, refl, sym, ap, ap₂, ◌∙◌, subst}
use mathlib.Core.List.{[], ◌∷◌}
use mathlib.Core.Bool.{Bool, true, false, cond}
use Prim.Native.Nat.{◌^◌}
use native.Mathlib.Omega.{arith}
use lib.IntN.{pos}
use lib.Dec.{T}
use lib.Pow.{pow_pos}
use lib.Ieee.{Float, nan, inf, fin, binary64, low, fits, lt, le, sub}
use lib.Ieee.Fits.{sub-fits}
use Rattle.solver.proofs.Ring.{by_rep, by_eq, read}
use Rattle.exact.specs.Rational.{ℚ, ◌+ℚ◌, ◌*ℚ◌, -ℚ◌, ◌-ℚ◌, 0ℚ, 1ℚ, invℚ, ◌÷◌, signed, ◌≤ℚ◌, ◌<ℚ◌, nn_of, lt→not_le}
use Rattle.exact.proofs.Field.{ℚring, nn_add}
use Rattle.exact.proofs.Order.{le_by, le_refl as ≤-refl, lt_le_trans}
use Rattle.exact.proofs.Embed.{÷_pos}
use Rattle.math.specs.Neighbours.{next_up, next_down}
use Rattle.math.specs.declared.scalars.Scalar.{Scalar}
use Rattle.std.specs.Prelude.{Some, None}
use Rattle.math.specs.Scalars.{sharp, zero_f, one_f, ONE, sub_s, mul_s, div_s, inverse_s, has_zero}
use Rattle.math.specs.Values.{value, Below, Holds}
use Rattle.math.specs.Encloses.{Between}
use Rattle.math.proofs.Doubles.Values.{lt→value, le→value}
use Rattle.math.proofs.Doubles.Order.{le_below, meet_le, le_lt, le_trans}
use Rattle.math.proofs.Doubles.Rounding.{Under, rounds_le}
use Rattle.math.proofs.Doubles.NextLeast.{next_up-least}
use Rattle.math.proofs.Doubles.Grid.{grid, two_steps}
use Rattle.math.proofs.Intervals.Quotient.{minus_one, low_inverse, inverse-strict}
use Rattle.math.proofs.Intervals.Strict.{Strict, strict_holds}
use Rattle.math.proofs.Intervals.Geop.{sub-strict, sub_holds, div-strict, zero_held}
use Rattle.math.proofs.Intervals.Tests.{one_holds}
use Rattle.math.proofs.Intervals.Sizes.{big, small, tiny, tiny2, sub-rounds, tiny_is, tiny2_is, small_is, twice, Finite, moderate, between_moderate, low_bound, high_bound, apart-bound, span-width, mul-bounded}

-- ---- three doubles
module _ (a t b : Float) (w : Between a t b) where
  pub fa : Finite a
  fa = moderate a w.moderate_a

  pub ft : Finite t
  ft = moderate t (between_moderate a t b w)

  pub fb : Finite b
  fb = moderate b w.moderate_b

  abbrev pub A : Float
  A = fin fa.s fa.m fa.e

  abbrev pub T' : Float
  T' = fin ft.s ft.m ft.e

  abbrev pub B : Float
  B = fin fb.s fb.m fb.e

  FA : T (fits binary64 A)
  FA = subst (λ (z : Float). T (fits binary64 z)) fa.is w.double_a

  FT : T (fits binary64 T')
  FT = subst (λ (z : Float). T (fits binary64 z)) ft.is w.double_t

  FB : T (fits binary64 B)
  FB = subst (λ (z : Float). T (fits binary64 z)) fb.is w.double_b

  at : value A <ℚ value T'
  at = lt→value fa.s fa.m fa.e ft.s ft.m ft.e (subst (λ (z : Float). T (lt z T')) fa.is (subst (λ (z : Float). T (lt a z)) ft.is w.from))

  tb : value T' <ℚ value B
  tb = lt→value ft.s ft.m ft.e fb.s fb.m fb.e (subst (λ (z : Float). T (lt z B)) ft.is (subst (λ (z : Float). T (lt t z)) fb.is w.upto))

  two : value tiny2 ≤ℚ value B -ℚ value A
  two =
      let x = grid fa.s fa.m fa.e FA in
      let y = grid ft.s ft.m ft.e FT in
      let z = grid fb.s fb.m fb.e FB in
      let D = 2 ^ low binary64 in
      subst (λ (v : ℚ). v ≤ℚ value B -ℚ value A) (sym tiny2_is) (subst (λ (v : ℚ). 2 ÷ D ≤ℚ v) (ap₂ ◌-ℚ◌ (sym z.1) (sym x.1))
      (two_steps D (pow_pos (low binary64)) fa.s ft.s fb.s x.0 y.0 z.0 (subst (λ (v : ℚ). v <ℚ signed ft.s (y.0 ÷ D)) x.1 (subst (λ (v : ℚ). value A <ℚ v) y.1 at)) (subst (λ (v : ℚ). v <ℚ signed fb.s (z.0 ÷ D)) y.1 (subst (λ (v : ℚ). value T' <ℚ v) z.1 tb))))

  holds_a : Holds (sharp a) (value A)
  holds_a = subst (λ (z : Float). Holds (sharp z) (value A)) (sym fa.is) (record { low = ≤-refl (value A); high = ≤-refl (value A) })

  holds_t : Holds (sharp t) (value T')
  holds_t = subst (λ (z : Float). Holds (sharp z) (value T')) (sym ft.is) (record { low = ≤-refl (value T'); high = ≤-refl (value T') })

  holds_b : Holds (sharp b) (value B)
  holds_b = subst (λ (z : Float). Holds (sharp z) (value B)) (sym fb.is) (record { low = ≤-refl (value B); high = ≤-refl (value B) })

  -- b - a does not hold zero: its lower bound is above zero
  pub gap-geop : Holds (sub_s (sharp b) (sharp a)) 0ℚ → ⊥
  unfolding sub_s
  gap-geop h = none (next_down (sub binary64 b a)) (subst (λ (z : Float). T (le tiny (next_down (sub binary64 z a)))) (sym fb.is) (subst (λ (z : Float). T (le tiny (next_down (sub binary64 B z)))) (sym fa.is) (apart-bound fa.s fa.m fa.e FA fb.s fb.m fb.e FB two))) h.low
    where
      none : (f : Float) → T (le tiny f) → Below f 0ℚ → ⊥
      none f h k = lt→not_le (÷_pos 1 (2 ^ low binary64) (omega arith) (pow_pos (low binary64))) (subst (λ (z : ℚ). z ≤ℚ 0ℚ) tiny_is (le_below tiny f 0ℚ h k))

  -- the numerator's bounds lie in 0 to 2^102
  num_low : T (le zero_f (sub_s (sharp t) (sharp a)).lo)
  unfolding sub_s
  num_low = subst (λ (z : Float). T (le zero_f (next_down (sub binary64 z a)))) (sym ft.is) (subst (λ (z : Float). T (le zero_f (next_down (sub binary64 T' z)))) (sym fa.is) (low_bound fa.s fa.m fa.e FA ft.s ft.m ft.e FT at))

  num_high : T (le (sub_s (sharp t) (sharp a)).hi (big 102))
  unfolding sub_s
  num_high = subst (λ (z : Float). T (le (next_up (sub binary64 z a)) (big 102))) (sym ft.is) (subst (λ (z : Float). T (le (next_up (sub binary64 T' z)) (big 102))) (sym fa.is) (high_bound fa.s fa.m fa.e FA ft.s ft.m ft.e FT (span-width (value A) (value T') fa.low_by ft.high_by)))

  num_holds : Holds (sub_s (sharp t) (sharp a)) (value T' -ℚ value A)
  num_holds = sub_holds (sharp t) (sharp a) (value T') (value A) holds_t holds_a

  den_holds : Holds (sub_s (sharp b) (sharp a)) (value B -ℚ value A)
  den_holds = sub_holds (sharp b) (sharp a) (value B) (value A) holds_b holds_a

  den_pos : 0ℚ <ℚ value B -ℚ value A
  den_pos = lt_le_trans (subst (λ (z : ℚ). 0ℚ <ℚ z) (sym tiny2_is) (÷_pos 2 (2 ^ low binary64) (omega arith) (pow_pos (low binary64)))) two

  num-ordered : T (le (sub_s (sharp t) (sharp a)).lo (sub_s (sharp t) (sharp a)).hi)
  num-ordered = meet_le _ _ _ num_holds.low num_holds.high

  module _ (f : Scalar) (e : div_s (sub_s (sharp t) (sharp a)) (sub_s (sharp b) (sharp a)) ≡ Some f) where
    clear_zero : has_zero (sub_s (sharp b) (sharp a)) ≡ false
    clear_zero = go (has_zero (sub_s (sharp b) (sharp a))) refl
      where
        go : (z : Bool) → has_zero (sub_s (sharp b) (sharp a)) ≡ z → has_zero (sub_s (sharp b) (sharp a)) ≡ false
        go true p = absurd (gap-geop ((zero_held (sub_s (sharp b) (sharp a))).0 (subst T (sym p) tt)))
        go false p = p

    quotient_is : mul_s (sub_s (sharp t) (sharp a)) (inverse_s (sub_s (sharp b) (sharp a))) ≡ f
    quotient_is = value_inj (unfold div_s in (sym (ap (λ (z : Bool). cond z None (Some (mul_s (sub_s (sharp t) (sharp a)) (inverse_s (sub_s (sharp b) (sharp a)))))) clear_zero) ∙ e))
      where
        value_inj : {x y : Scalar} → Some x ≡ Some y → x ≡ y
        value_inj {x} {y} h = cc

    inv_low : T (le minus_one (inverse_s (sub_s (sharp b) (sharp a))).lo)
    unfolding inverse_s
    inv_low = low_inverse (sub_s (sharp b) (sharp a)).hi (value B -ℚ value A) den_pos den_holds.high

    inv_holds : Holds (inverse_s (sub_s (sharp b) (sharp a))) (invℚ (value B -ℚ value A))
    inv_holds = strict_holds _ _ (inverse-strict (sub_s (sharp b) (sharp a)) (value B -ℚ value A) den_holds clear_zero)

    -- the quotient's lower bound is at least -2^103
    pub alpha_low : T (le (small 103) f.lo)
    alpha_low = subst (λ (z : Scalar). T (le (small 103) z.lo)) quotient_is
        (mul-bounded (sub_s (sharp t) (sharp a)) (inverse_s (sub_s (sharp b) (sharp a))) num_low (le_trans _ _ (big 102) num-ordered num_high) (le_trans zero_f _ _ num_low num-ordered) num_high inv_low
        (le_trans minus_one _ _ inv_low (meet_le _ _ _ inv_holds.low inv_holds.high)))

    -- the quotient's number
    pub alpha-strict : Strict f ((value T' -ℚ value A) *ℚ invℚ (value B -ℚ value A))
    alpha-strict = div-strict (sub_s (sharp t) (sharp a)) (sub_s (sharp b) (sharp a)) f (value T' -ℚ value A) (value B -ℚ value A) e num_holds den_holds

    pub rest-strict : Strict (sub_s ONE f) (1ℚ -ℚ (value T' -ℚ value A) *ℚ invℚ (value B -ℚ value A))
    rest-strict = sub-strict ONE f 1ℚ _ one_holds (strict_holds f _ alpha-strict)

    -- one less the quotient: the upper bound is at most 2^105
    pub rest_high : T (le (sub_s ONE f).hi (big 105))
    unfolding sub_s
    rest_high = next_up-least (sub binary64 one_f f.lo) (sub-fits binary64 one_f f.lo) (big 105) (unfold fits in tt) (le_lt (sub binary64 one_f f.lo) (big 104) (big 105) (under f.lo alpha_low alpha-strict.low) (unfold lt in tt))
      where
        under : (g : Float) → T (le (small 103) g) → Under g ((value T' -ℚ value A) *ℚ invℚ (value B -ℚ value A)) → T (le (sub binary64 one_f g) (big 104))
        under nan h k = absurd k
        under (inf true) h k = unfold le in absurd h
        under (inf false) h k = absurd k
        under (fin s m e) h k = rounds_le (sub binary64 one_f (fin s m e)) (value one_f -ℚ value (fin s m e)) (sub-rounds false 1 (pos 0) s m e) false 1 (pos 104) (unfold fits in tt) (bound (le→value true 1 (pos 103) s m e h))
          where
            one_less : value one_f ≤ℚ value (big 103)
            one_less = le→value false 1 (pos 0) false 1 (pos 103) (unfold le in tt)

            bound : value (small 103) ≤ℚ value (fin s m e) → value one_f -ℚ value (fin s m e) ≤ℚ value (big 104)
            bound l = subst (λ (z : ℚ). value one_f -ℚ value (fin s m e) ≤ℚ z) (twice 103) (le_by {z = (value (big 103) -ℚ value one_f) +ℚ (value (fin s m e) -ℚ value (small 103))} (nn_add _ _ (nn_of one_less) (nn_of l)) (eq (value (big 103)) (value (small 103)) (value one_f) (value (fin s m e)) (small_is 103)))
              where
                eq : (g l o v : ℚ) → l ≡ -ℚ g → g +ℚ g -ℚ (o -ℚ v) ≡ (g -ℚ o) +ℚ (v -ℚ l)
                eq g l o v e = by_eq ℚring 1ℚ e (by_rep ℚring (g ∷ l ∷ o ∷ v ∷ []) (search read depth 9) (search read depth 9) tt)
