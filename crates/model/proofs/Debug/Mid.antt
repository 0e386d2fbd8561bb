-- The parameter at which a piece is halved is no NaN: the interval of which it is the middle has no very low bound. Assumes nothing.
use mathlib.Core.Path.{◌≡◌, refl, sym, ap, ◌∙◌, subst}
use mathlib.Core.List.{[], ◌∷◌}
use mathlib.Core.Bool.{true, false}
use lib.IntN.{pos}
use lib.Dec.{T}
use lib.Ieee.{Float, nan, inf, fin, binary64, add, mul, div, lt, le, fits, is_nan}
use lib.Ieee.Fits.{add-fits, mul-fits}
use Rattle.solver.proofs.Ring.{by_rep, by_eq, read}
use Rattle.exact.specs.Rational.{ℚ, ◌+ℚ◌, ◌*ℚ◌, -ℚ◌, ◌-ℚ◌, 0ℚ, 1ℚ, ◌≤ℚ◌}
use Rattle.exact.proofs.Field.{ℚring}
use Rattle.exact.proofs.Order.{le_by, cone, add-mono}
use Rattle.exact.proofs.Embed.{÷_one}
use Rattle.math.specs.Neighbours.{next_up, next_down}
use Rattle.math.specs.declared.scalars.Scalar.{Scalar}
use Rattle.math.specs.Divided.{Divided}
use Rattle.std.specs.Prelude.{Some}
use Rattle.math.specs.Scalars.{geop, zero_f, one_f, two_f, sharp, TWO, ENTIRE, middle, value_or, add_s, corners, mul_s, inverse_s, div_s, least4}
use Rattle.math.specs.Values.{value, Below, Above, Holds, Proper}
use Rattle.math.proofs.Doubles.Values.{value_zero, le→value}
use Rattle.math.proofs.Doubles.Order.{number, le_trans, lt_le, le_lt}
use Rattle.math.proofs.Doubles.Rounding.{Rounds, rounds_ge, rounds_le}
use Rattle.math.proofs.Doubles.Operations.{add_rounds, mul-rounds, div-rounds}
use Rattle.math.proofs.Doubles.NextLeast.{next_up-least, next_down-greatest}
use Rattle.math.proofs.Doubles.Least.{least_above, least_fits}
use Rattle.math.proofs.Intervals.Sizes.{big, small, small_is, twice, Finite, moderate}
use Rattle.math.proofs.Intervals.Tests.{sharp_holds, holds_proper, proper_holds}
use Rattle.math.proofs.Intervals.Proper.{geop_in_order}
use Rattle.model.specs.NurbCurve.{mid_parameter}
use Rattle.model.proofs.Sound.Base.{Known}
use Rattle.model.proofs.Proper.Blend.{known_proper}

pub two_proper : Proper TWO
two_proper = holds_proper TWO (value two_f) (sharp_holds false 1 (pos 1))

-- ---- the sum of two moderate doubles
module _ (a b : Float) (ka : Known a) (kb : Known b) where
  f : Finite a
  f = moderate a ka.moderate

  g : Finite b
  g = moderate b kb.moderate

  abbrev A : Float
  A = fin f.s f.m f.e

  abbrev B : Float
  B = fin g.s g.m g.e

  rounds : Rounds (add binary64 a b) (value A +ℚ value B)
  rounds = subst (λ (z : Float). Rounds (add binary64 z b) (value A +ℚ value B)) (sym f.is) (subst (λ (z : Float). Rounds (add binary64 A z) (value A +ℚ value B)) (sym g.is) (add_rounds f.s f.m f.e g.s g.m g.e))

  from : T (le (small 101) (add binary64 a b))
  from = rounds_ge (add binary64 a b) (value A +ℚ value B) rounds true 1 (pos 101) (unfold fits in tt) (subst (λ (z : ℚ). z ≤ℚ value A +ℚ value B) low (add-mono f.low_by g.low_by))
    where
      both : (x y : ℚ) (u w : ℚ) → x ≡ -ℚ u → y ≡ -ℚ w → u +ℚ u ≡ w → x +ℚ x ≡ y
      both x y u w p q r = ap (λ (z : ℚ). z +ℚ z) p ∙ minus u ∙ ap (λ (z : ℚ). -ℚ z) r ∙ sym q
        where
          minus : (u : ℚ) → (-ℚ u) +ℚ (-ℚ u) ≡ -ℚ (u +ℚ u)
          minus u = by_rep ℚring (u ∷ []) (search read) (search read) tt

      low : value (small 100) +ℚ value (small 100) ≡ value (small 101)
      low = both (value (small 100)) (value (small 101)) (value (big 100)) (value (big 101)) (small_is 100) (small_is 101) (twice 100)

  upto : T (le (add binary64 a b) (big 101))
  upto = rounds_le (add binary64 a b) (value A +ℚ value B) rounds false 1 (pos 101) (unfold fits in tt) (subst (λ (z : ℚ). value A +ℚ value B ≤ℚ z) (twice 100) (add-mono f.high_by g.high_by))

  -- ---- a double of size at most 2^102, times one from 0 to 1
  product : (x y : Float) → T (le (small 102) x) → T (le x (big 102)) → T (le zero_f y) → T (le y one_f) → T (le (small 102) (mul binary64 x y))
  product nan y h k l m = unfold le in absurd h
  product (inf true) y h k l m = unfold le in absurd h
  product (inf false) y h k l m = unfold le in absurd k
  product (fin s p e) nan h k l m = unfold le in absurd l
  product (fin s p e) (inf true) h k l m = unfold le in absurd l
  product (fin s p e) (inf false) h k l m = unfold le in absurd m
  product (fin s p e) (fin t n d) h k l m = rounds_ge (mul binary64 (fin s p e) (fin t n d)) (value (fin s p e) *ℚ value (fin t n d)) (mul-rounds s p e t n d) true 1 (pos 102) (unfold fits in tt)
      (bound (value (fin s p e)) (value (fin t n d)) top (le→value true 1 (pos 102) s p e h) (subst (λ (z : ℚ). z ≤ℚ value (fin t n d)) (value_zero false (pos 0)) (le→value false 0 (pos 0) t n d l)) (subst (λ (z : ℚ). value (fin t n d) ≤ℚ z) one_is (le→value t n d false 1 (pos 0) m)))
    where
      one_is : value one_f ≡ 1ℚ
      one_is = unfold value in ÷_one

      top : 0ℚ ≤ℚ value (big 102)
      top = subst (λ (z : ℚ). z ≤ℚ value (big 102)) (value_zero false (pos 0)) (le→value false 0 (pos 0) false 1 (pos 102) (unfold le in tt))

      bound : (u w : ℚ) → 0ℚ ≤ℚ value (big 102) → value (small 102) ≤ℚ u → 0ℚ ≤ℚ w → w ≤ℚ 1ℚ → value (small 102) ≤ℚ u *ℚ w
      bound u w o p q r = le_by {z = (u -ℚ value (small 102)) *ℚ (w -ℚ 0ℚ) +ℚ (value (big 102) -ℚ 0ℚ) *ℚ (1ℚ -ℚ w)} (search cone depth 9) (eq (value (big 102)) (value (small 102)) u w (small_is 102))
        where
          eq : (k l u w : ℚ) → l ≡ -ℚ k → u *ℚ w -ℚ l ≡ (u -ℚ l) *ℚ (w -ℚ 0ℚ) +ℚ (k -ℚ 0ℚ) *ℚ (1ℚ -ℚ w)
          eq k l u w e = by_eq ℚring (w -ℚ 1ℚ) e (by_rep ℚring (k ∷ l ∷ u ∷ w ∷ []) (search read depth 12) (search read depth 12) tt)

  abbrev s : Scalar
  s = add_s (sharp a) (sharp b)

  lo-from : T (le (small 102) (add_s (sharp a) (sharp b)).lo)
  unfolding add_s
  lo-from = next_down-greatest (add binary64 a b) (add-fits binary64 a b) (small 102) (unfold fits in tt) (lt_le (small 102) (small 101) (add binary64 a b) (unfold lt in tt) from)

  hi-upto : T (le (add_s (sharp a) (sharp b)).hi (big 102))
  unfolding add_s
  hi-upto = next_up-least (add binary64 a b) (add-fits binary64 a b) (big 102) (unfold fits in tt) (le_lt (add binary64 a b) (big 101) (big 102) upto (unfold lt in tt))

  pub sum_proper : Proper (add_s (sharp a) (sharp b))
  sum_proper = geop_in_order.add_proper (sharp a) (sharp b) (known_proper a ka) (known_proper b kb)

  abbrev i : Scalar
  i = inverse_s TWO

  i_lo : T (le zero_f (inverse_s TWO).lo) × T (le (inverse_s TWO).lo one_f)
  unfolding inverse_s le next_down lib.Ieee.neg next_up div lib.Ieee.of_bits lib.Ieee.to_bits
  i_lo = (tt, tt)

  i_hi : T (le zero_f (inverse_s TWO).hi) × T (le (inverse_s TWO).hi one_f)
  unfolding inverse_s le next_up div lib.Ieee.of_bits lib.Ieee.to_bits
  i_hi = (tt, tt)

  low : T (le (small 103) (mul_s (add_s (sharp a) (sharp b)) (inverse_s TWO)).lo)
  unfolding mul_s corners
  low =
      let w = mul binary64 s.lo i.lo in
      let x = mul binary64 s.lo i.hi in
      let y = mul binary64 s.hi i.lo in
      let z = mul binary64 s.hi i.hi in
      let lu = le_trans s.lo s.hi (big 102) sum_proper.order hi-upto in
      let hf = le_trans (small 102) s.lo s.hi lo-from sum_proper.order in
      next_down-greatest (least4 w x y z) (least_fits w x y z (mul-fits binary64 s.lo i.lo) (mul-fits binary64 s.lo i.hi) (mul-fits binary64 s.hi i.lo) (mul-fits binary64 s.hi i.hi)) (small 103) (unfold fits in tt)
      (lt_le (small 103) (small 102) (least4 w x y z) (unfold lt in tt)
      (least_above (small 102) w x y z (unfold le in tt) (λ _. product s.lo i.lo lo-from lu i_lo.0 i_lo.1) (λ _. product s.lo i.hi lo-from lu i_hi.0 i_hi.1) (λ _. product s.hi i.lo hf hi-upto i_lo.0 i_lo.1) (λ _. product s.hi i.hi hf hi-upto i_hi.0 i_hi.1)))

  -- ---- the middle of an interval with no very low bound
  halved : (y : Float) → T (number y) → T (number (div binary64 y two_f))
  halved nan n = unfold is_nan in absurd n
  halved (inf t) n = unfold div is_nan in tt
  halved (fin t m e) n = (div-rounds t m e false 0 (pos 1)).lows.is_number

  whole : (l h : Float) (q : ℚ) → T (le (small 103) l) → Below l q → Above h q → T (number (add binary64 l h))
  whole nan h q k u w = absurd u
  whole (inf true) h q k u w = unfold le in absurd k
  whole (inf false) h q k u w = absurd u
  whole (fin t m e) nan q k u w = absurd w
  whole (fin t m e) (inf true) q k u w = absurd w
  whole (fin t m e) (inf false) q k u w = unfold add is_nan in tt
  whole (fin t m e) (fin t' m' e') q k u w = (add_rounds t m e t' m' e').lows.is_number

  quotient : div_s (add_s (sharp a) (sharp b)) TWO ≡ Some (mul_s (add_s (sharp a) (sharp b)) (inverse_s TWO))
  unfolding div_s le
  quotient = refl

  -- THE MIDDLE
  pub mid_number : T (number (mid_parameter geop a b))
  unfolding mid_parameter middle
  mid_number = subst (λ (r : Divided). T (number (div binary64 (add binary64 (value_or r ENTIRE).lo (value_or r ENTIRE).hi) two_f))) (sym quotient)
      (unfold value_or in halved (add binary64 x.lo x.hi) (whole x.lo x.hi w.0 low w.1.low w.1.high))
    where
      x : Scalar
      x = mul_s (add_s (sharp a) (sharp b)) (inverse_s TWO)

      w : (q : ℚ) × Holds (mul_s (add_s (sharp a) (sharp b)) (inverse_s TWO)) q
      w = proper_holds x (geop_in_order.div_proper (add_s (sharp a) (sharp b)) TWO x sum_proper two_proper quotient)
