-- `lower r v` is the greatest double at most v, where r is v rounded to the nearest; and so the lower bounds of sum, product and quotient. Assumes nothing.
use mathlib.Core.Logic.{inl, inr}
use mathlib.Core.Bool.{Bool, true, false, not}
use Prim.Native.Nat.{ℕ}
use lib.IntN.{ℤ}
use lib.Dec.{T}
use lib.Ieee.{Float, nan, inf, fin, binary64, lt, le, fits, is_nan}
use Rattle.exact.specs.Rational.{ℚ, -ℚ◌, ◌-ℚ◌, nonneg, nn_in, nn_out, le_in, nn_of, ◌≤ℚ◌, ◌<ℚ◌, lt→not_le}
use Rattle.math.proofs.Bools.{decide, never, pick}
use Rattle.math.proofs.Doubles.Order.{number, total-order, below_number, le_below}
use Rattle.math.proofs.Doubles.Rounding.{Rounds, lows-down, under-below, rounds_ge}
use Rattle.math.proofs.Doubles.Next.{next_down-fits}
use Rattle.math.proofs.Doubles.NextLeast.{next_down-greatest}
use Rattle.math.specs.Neighbours.{next_down}
use Rattle.math.specs.Values.{value, Below}
use Rattle.math.specs.Directed.{exceeds, lower}

-- ---- what `exceeds` says
le_test : (p q : ℚ) → T (nonneg (q -ℚ p)) → p ≤ℚ q
le_test p q t = le_in (nn_in t)

test_le : (p q : ℚ) → p ≤ℚ q → T (nonneg (q -ℚ p))
test_le p q h = nn_out (nn_of h)

pub exceeds-no : (r : Float) (v : ℚ) → T (number r) → T (not (exceeds r v)) → Below r v
unfolding exceeds is_nan
exceeds-no nan v n t = absurd n
exceeds-no (inf true) v n t = tt
exceeds-no (inf false) v n t = absurd t
exceeds-no (fin s m e) v n t = le_test (value (fin s m e)) v (twice (nonneg (v -ℚ value (fin s m e))) t)
  where
    twice : (b : Bool) → T (not (not b)) → T b
    twice true u = tt
    twice false u = u

pub exceeds-yes : (r : Float) (v : ℚ) → T (exceeds r v) → Below r v → ⊥
unfolding exceeds
exceeds-yes nan v t h = t
exceeds-yes (inf true) v t h = t
exceeds-yes (inf false) v t h = h
exceeds-yes (fin s m e) v t h = never (nonneg (v -ℚ value (fin s m e))) t (test_le (value (fin s m e)) v h)

pub over-exceeds : (s : Bool) (m : ℕ) (e : ℤ) (v : ℚ) → v <ℚ value (fin s m e) → T (exceeds (fin s m e) v)
over-exceeds s m e v l = elim (decide (exceeds (fin s m e) v)) [ inl t ↦ t | inr n ↦ absurd (lt→not_le l (exceeds-no (fin s m e) v (unfold is_nan in tt) n)) ]

-- ---- the greatest double at most v
pub record Greatest (r : Float) (v : ℚ) : Type 0 where
  pub held : T (fits binary64 r)
  pub below : Below r v
  pub most : (w : Float) → T (fits binary64 w) → Below w v → T (le w r)

module _ (r : Float) (v : ℚ) (R : Rounds r v) where
  stays : T (not (exceeds r v)) → Greatest r v
  stays t = record { held = R.held; below = exceeds-no r v R.lows.is_number t; most = most }
    where
      most : (w : Float) → T (fits binary64 w) → Below w v → T (le w r)
      most nan F h = absurd h
      most (inf true) F h = bottom r R.lows.is_number
        where
          bottom : (x : Float) → T (number x) → T (le (inf true) x)
          bottom nan n = unfold is_nan in absurd n
          bottom (inf true) n = unfold le in tt
          bottom (inf false) n = unfold le in tt
          bottom (fin s m e) n = unfold le in tt
      most (inf false) F h = absurd h
      most (fin s m e) F h = rounds_ge r v R s m e F h

  moves : T (exceeds r v) → Greatest (next_down r) v
  moves t = record {
    held = next_down-fits r;
    below = under-below (next_down r) v (lows-down r v R.held R.lows);
    most = λ w F h. next_down-greatest r R.held w F (under w h);
  }
    where
      under : (w : Float) → Below w v → T (lt w r)
      under w h = elim (decide (lt w r)) [
        | inl y ↦ y
        | inr n ↦ absurd (exceeds-yes r v t (le_below r w v (total-order r w R.lows.is_number (below_number w v h) n) h))
      ]

  -- THE LAW
  pub lower-greatest : Greatest (lower r v) v
  unfolding lower
  lower-greatest = pick (λ (x : Float). Greatest x v) (exceeds r v) (next_down r) r moves stays
