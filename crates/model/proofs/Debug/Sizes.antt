-- The sizes of a piece, and the choices that are made by them: no test of an interval fires. Assumes nothing.
use mathlib.Core.Path.{◌≡◌, refl, sym, subst}
use mathlib.Core.Bool.{Bool, true, false, cond, ◌&&◌, ◌||◌}
use mathlib.Core.List.{List, map}
use Prim.Native.Nat.{ℕ}
use lib.Dec.{T}
use lib.IntN.{pos}
use lib.Ieee.{Float, nan, inf, fin, binary64, sub, div, lt, le, is_nan, fits}
use Rattle.exact.specs.Rational.{◌-ℚ◌}
use Rattle.lists.specs.Lists.{tab, foldl}
use Rattle.math.specs.declared.scalars.Scalar.{Scalar}
use Rattle.math.specs.Neighbours.{next_up, next_down}
use Rattle.math.specs.Picks.{min_f, max_f}
use Rattle.math.specs.Scalars.{geop, zero_f, sharp, width_s, union_s, mul_s, four_fifths_s, middle}
use Rattle.math.specs.Values.{value, Proper}
use Rattle.math.proofs.Doubles.Order.{number, le_number_r, le_trans, le_self}
use Rattle.math.proofs.Doubles.Least.{min_left, max_left, max_second, min-either, max_either}
use Rattle.math.proofs.Doubles.Rounding.{rounds_le}
use Rattle.math.proofs.Intervals.Sizes.{big, moderate, sub-rounds, span-width}
use Rattle.math.proofs.Intervals.Instance.{geop_encloses}
use Rattle.math.proofs.Intervals.Proper.{geop_in_order}
use Rattle.model.specs.Vector.{Vector, coordinate}
use Rattle.model.specs.NurbCurve.{domain, in_domain}
use Rattle.model.specs.FatLine.{path_length, cartesian, extent, to_f64, widest, carried_by, carried_width, restricts, halves}
use Rattle.model.specs.Contains.{carried}
use Rattle.model.specs.Tested as tested
use Rattle.model.specs.Tested.{fine, ◌>>=◌}
use Rattle.model.specs.Debug as debug
use Rattle.model.proofs.Every.{every_any, fold-keeps}
use Rattle.model.proofs.Sound.Base.{Known}
use Rattle.model.proofs.Sound.Visit.Weights.{Heavy, weight-clear}
use Rattle.model.proofs.Proper.Blend.{known_proper}
use Rattle.model.proofs.Debug.Ops.{formed_fine, sharp_fine, mul_fine, union_fine, width_fine, ratio_fine}
use Rattle.model.proofs.Debug.Lists.{tab_fine, map_fine}
use Rattle.model.proofs.Debug.Insert.{known_fine}

-- ---- plain doubles that are no NaN: `max` from 0 on passes over one
zero_number : T (number zero_f)
zero_number = unfold is_nan in tt

max_number : (a b : Float) → T (number a) → T (number (max_f a b))
max_number a b n = le_number_r a (max_f a b) (max_left a b n)

pub extent_number : (dim : ℕ) (points : List Vector) → T (number (extent dim points))
unfolding extent
extent_number dim points = max_number zero_f (path_length (map (λ q. cartesian dim q) points)) zero_number

carried_by_number : (dim : ℕ) (w : Float) (q : Vector) → T (number w) → T (number (carried_by dim w q))
unfolding carried_by
carried_by_number dim w q n =
    let l = tab dim (λ k. div binary64 (to_f64 (width_s (coordinate q k))) (middle (coordinate q dim))) in
    fold-keeps (λ (f : Float). T (number f)) (λ (_ : Float). Unit {0}) max_f (λ b x h _. max_number b x h) w l n (every_any l)

pub carried_number : (dim : ℕ) (box : List Scalar) (points : List Vector) → T (number (carried dim box points))
unfolding carried carried_width
carried_number dim box points = max_number (foldl (λ w q. carried_by dim w q) zero_f points) (widest (map (λ e. to_f64 (width_s e)) box))
    (fold-keeps (λ (f : Float). T (number f)) (λ (_ : Vector). Unit {0}) (λ w q. carried_by dim w q) (λ w q h _. carried_by_number dim w q h) zero_f points zero_number (every_any points))

pub carried_fine : (dim : ℕ) (box : List Scalar) (points : List Vector) → debug.carried dim box points ≡ fine (carried dim box points)
unfolding debug.carried
carried_fine dim box points = rw (
  map_fine (λ (_ : Scalar). Unit {0}) tested.width (λ x. sharp (width_s x)) (λ x _. width_fine x) box (every_any box),
  map_fine (λ (_ : Vector). Unit {0}) (λ q. tested.tab dim (λ k. tested.width (coordinate q k))) (λ q. tab dim (λ k. sharp (width_s (coordinate q k))))
      (λ q _. tab_fine dim (λ k. tested.width (coordinate q k)) (λ k. sharp (width_s (coordinate q k))) (λ k _. width_fine (coordinate q k))) points (every_any points),
) refl

-- ---- the domain and its width
module _ (a b : Float) (ka : Known a) (kb : Known b) where
  pub domain_fine : debug.domain a b ≡ fine (domain a b)
  unfolding debug.domain domain
  domain_fine = rw (known_fine a ka, known_fine b kb) (union_fine (sharp a) (sharp b) (known_proper a ka) (known_proper b kb))

  -- a difference of two of them is at most 2^101
  apart : (x y : Float) → Known x → Known y → T (le (sub binary64 y x) (big 101))
  apart x y kx ky =
      let f = moderate x kx.moderate in
      let g = moderate y ky.moderate in
      subst (λ (z : Float). T (le (sub binary64 z x) (big 101))) (sym g.is) (subst (λ (z : Float). T (le (sub binary64 (fin g.s g.m g.e) z) (big 101))) (sym f.is)
      (rounds_le (sub binary64 (fin g.s g.m g.e) (fin f.s f.m f.e)) (value (fin g.s g.m g.e) -ℚ value (fin f.s f.m f.e)) (sub-rounds g.s g.m g.e f.s f.m f.e) false 1 (pos 101) (unfold fits in tt)
      (span-width (value (fin f.s f.m f.e)) (value (fin g.s g.m g.e)) f.low_by g.high_by)))

  wide : T (le (width_s (domain a b)) (big 101))
  unfolding width_s domain union_s
  wide = max_either (λ (f : Float). T (le f (big 101))) (sub binary64 (max_f a b) (min_f a b)) zero_f
      (apart (min_f a b) (max_f a b) (min-either Known a b ka kb) (max_either Known a b ka kb)) (unfold le in tt)

  width_proper : Proper (sharp (width_s (domain a b)))
  width_proper = between (width_s (domain a b)) (unfold width_s in max_second (sub binary64 (domain a b).hi (domain a b).lo) zero_f zero_number) wide
    where
      between : (w : Float) → T (le zero_f w) → T (le w (big 101)) → Proper (sharp w)
      between nan h k = unfold le in absurd k
      between (inf true) h k = unfold le in absurd h
      between (inf false) h k = unfold le in absurd k
      between (fin s m e) h k = record { order = le_self (fin s m e) (unfold is_nan in tt); low = unfold lt in tt; high = unfold lt in tt }

  ratio-heavy : Heavy four_fifths_s
  unfolding four_fifths_s lt next_down lib.Ieee.neg next_up div lib.Ieee.of_int lib.Ieee.of_bits lib.Ieee.to_bits
  ratio-heavy = tt

  most_fine : tested.mul (sharp (width_s (domain a b))) four_fifths_s ≡ fine (mul_s (sharp (width_s (domain a b))) four_fifths_s)
  most_fine = mul_fine (sharp (width_s (domain a b))) four_fifths_s width_proper geop_in_order.ratio_proper (weight-clear geop geop_encloses (sharp (width_s (domain a b))) four_fifths_s ratio-heavy)

  -- ---- the two choices
  module _ (size carried : Float) (s : T (number size)) (c : T (number carried)) where
    pub restricts_fine : (hat : Scalar) → T (number hat.lo) → T (number hat.hi) → debug.restricts a b hat size carried ≡ fine (restricts geop a b hat size carried)
    unfolding debug.restricts restricts
    restricts_fine hat l h = rw (sharp_fine size s, sharp_fine carried c) (go (lt carried size))
      where
        most : Scalar
        most = mul_s (sharp (width_s (domain a b))) four_fifths_s

        narrow : (z : Bool)
            → cond z (tested.sharp hat.lo >>= λ l. cond (in_domain a b l.lo) (fine true) (tested.sharp hat.hi >>= λ h. fine (in_domain a b h.lo))) (fine false) ≡ fine (z && (in_domain a b hat.lo || in_domain a b hat.hi))
        narrow true = rw (sharp_fine hat.lo l, sharp_fine hat.hi h) (either (in_domain a b hat.lo) (in_domain a b hat.hi))
          where
            either : (x y : Bool) → cond x (fine true) (fine y) ≡ fine (x || y)
            either true y = refl
            either false y = refl
        narrow false = refl

        go : (z : Bool)
            → cond z (debug.domain a b >>= λ d. tested.width d >>= λ r. tested.four_fifths >>= λ f. tested.mul r f >>= λ most. tested.width hat >>= λ w.
            cond (lt w.hi most.lo) (tested.sharp hat.lo >>= λ l. cond (in_domain a b l.lo) (fine true) (tested.sharp hat.hi >>= λ h. fine (in_domain a b h.lo))) (fine false)) (fine false)
            ≡ fine (z && lt (width_s hat) most.lo && (in_domain a b hat.lo || in_domain a b hat.hi))
        go true = rw (domain_fine, width_fine (domain a b), ratio_fine, most_fine, width_fine hat) (narrow (lt (width_s hat) most.lo))
        go false = refl

    pub halves_fine : (resolution : Float) → T (number resolution) → debug.halves a b size carried resolution ≡ fine (halves a b size carried resolution)
    unfolding debug.halves halves tested.union
    halves_fine resolution r = rw (
      sharp_fine carried c,
      sharp_fine resolution r,
      formed_fine (min_f carried resolution) (max_f carried resolution) (le_trans (min_f carried resolution) carried (max_f carried resolution) (min_left carried resolution c) (max_left carried resolution c)),
      sharp_fine (max_f carried resolution) (max_number carried resolution c),
      sharp_fine size s,
    ) (go (lt (max_f carried resolution) size) (lt carried size))
      where
        go : (x y : Bool) → cond x (cond y (debug.domain a b >>= λ d. tested.width d >>= λ w. fine (lt resolution w.lo)) (fine false)) (fine false) ≡ fine (x && y && lt resolution (width_s (domain a b)))
        go true true = rw (domain_fine, width_fine (domain a b)) refl
        go true false = refl
        go false y = refl
