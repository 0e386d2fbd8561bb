-- The Greville abscissae of known knots, as intervals, hold the exact ones. Assumes nothing.
use mathlib.Core.Path.{◌≡◌, refl, sym, ◌∙◌, subst}
use mathlib.Core.List.{List, [], ◌∷◌}
use mathlib.Core.Option.{some, some-injective}
use mathlib.Core.Bool.{Bool, true, false}
use Prim.Native.Nat.{ℕ, zero, suc, ◌+◌, ◌^◌, ◌≤◌, ◌<◌}
use native.Mathlib.Nat.{le_trans as ℕ-trans}
use native.Mathlib.Omega.{arith}
use lib.Dec.{lit≤}
use lib.IntN.{pos}
use lib.ListN.{length, get_or}
use lib.Ieee.{Float, nan, inf, fin, binary64, prec, of_int, round}
use lib.Ieee.Exact.{HasValue}
use lib.Ieee.Back.{round_whole}
use Rattle.solver.proofs.Ring.{by_rep, read}
use Rattle.exact.specs.Rational.{ℚ, ◌+ℚ◌, ◌*ℚ◌, 0ℚ, invℚ, whole, ◌<ℚ◌, lt→not_le}
use Rattle.exact.specs.Hull.{sum, ξ}
use Rattle.exact.proofs.Field.{ℚring}
use Rattle.exact.proofs.Order.{le_refl, le_trans, le_antisym}
use Rattle.exact.proofs.Splines.Hull.{deg-pos}
use Rattle.lists.specs.Lists.{tab, foldl}
use Rattle.lists.proofs.Part.{length_part, get_or_part}
use Rattle.lists.proofs.Tab.{length-tab, get_or-tab}
use Rattle.math.specs.declared.scalars.Scalar.{Scalar}
use Rattle.math.specs.Divided.{Divided}
use Rattle.std.specs.Prelude.{Some, None}
use Rattle.math.specs.Scalars.{Arithmetic, sharp, absent, ZERO, ENTIRE, value_or}
use Rattle.math.specs.Values.{value, Holds}
use Rattle.math.specs.Encloses.{Encloses}
use Rattle.math.proofs.Doubles.Values.{value_is}
use Rattle.math.proofs.Intervals.Tests.{sharp_holds, zero_holds}
use Rattle.model.specs.NurbCurve.{knot}
use Rattle.model.specs.FatLine.{window, abscissa, greville}
use Rattle.model.proofs.Sound.Base.{values, Knots}
use Rattle.model.proofs.Sound.Known.{sharp_known}

-- ---- the degree as a double
valued : (x : Float) (s : Bool) (a c : ℕ) → HasValue x s a c → Holds (sharp x) (value x)
valued nan s a c h = absurd h
valued (inf t) s a c h = absurd h
valued (fin t m e) s a c h = sharp_holds t m e

pub whole_holds : (n : ℕ) → n ≤ 2 ^ prec binary64 → Holds (sharp (of_int binary64 (pos n))) (whole n)
unfolding of_int
whole_holds n h = let r = round_whole binary64 false n h in subst (λ (z : ℚ). Holds (sharp (round binary64 false n 1)) z) (value_is (round binary64 false n 1) false n 1 (omega arith) r) (valued (round binary64 false n 1) false n 1 r)

-- a sharp interval holds one number
alone : (x : Float) (a b : ℚ) → Holds (sharp x) a → Holds (sharp x) b → a ≡ b
alone nan a b h k = absurd h.low
alone (inf true) a b h k = absurd h.high
alone (inf false) a b h k = absurd h.low
alone (fin s m e) a b h k = le_antisym (le_trans h.high k.low) (le_trans k.high h.low)

-- ---- sums of knots
plus_0 : (x : ℚ) → x ≡ x +ℚ 0ℚ
plus_0 x = by_rep ℚring (x ∷ []) (search read) (search read) tt

regroup : (x y z : ℚ) → x +ℚ y +ℚ z ≡ x +ℚ (y +ℚ z)
regroup x y z = by_rep ℚring (x ∷ y ∷ z ∷ []) (search read) (search read) tt

-- the mean, as the interval and as the exact abscissa have it
mean_is : (s i : ℚ) → (0ℚ +ℚ s) *ℚ i ≡ i *ℚ s
mean_is s i = by_rep ℚring (s ∷ i ∷ []) (search read) (search read) tt

-- intervals that hold the n abscissae
pub record Abscissae (p n : ℕ) (ks : List Float) (ξs : List Scalar) : Type 0 where
  pub long : length ξs ≡ n
  pub at : (i : ℕ) → i < n → Holds (get_or ξs i absent) (ξ p (values ks) i)

module _ (ar : Arithmetic) (E : Encloses ar) where
  pub sum_holds : (l : List Float) (a : Scalar) (x : ℚ) (u : ℕ → ℚ) (j : ℕ) → Holds a x → ((m : ℕ) → m < length l → Holds (sharp (get_or l m nan)) (u (j + m)))
      → Holds (foldl (λ s y. ar.add s (sharp y)) a l) (x +ℚ sum u (length l) j)
  unfolding foldl sum
  sum_holds [] a x u j h k = subst (λ (z : ℚ). Holds a z) (plus_0 x) h
  sum_holds (f ∷ l) a x u j h k =
      subst (λ (z : ℚ). Holds (foldl (λ s y. ar.add s (sharp y)) (ar.add a (sharp f)) l) z) (regroup x (u j) (sum u (length l) (suc j)))
      (sum_holds l (ar.add a (sharp f)) (x +ℚ u j) u (suc j) (E.add_holds a (sharp f) x (u j) h (subst (λ (z : ℕ). Holds (sharp f) (u z)) first (k zero (omega arith))))
      (λ m b. subst (λ (z : ℕ). Holds (sharp (get_or l m nan)) (u z)) (next m) (k (suc m) (omega arith))))
    where
      first : j + zero ≡ j
      first = omega arith

      next : (m : ℕ) → j + suc m ≡ suc j + m
      next m = omega arith

  -- a quotient by a sharp interval that does not hold 0
  over_holds : (a : Scalar) (f : Float) (x y : ℚ) → 0ℚ <ℚ y → Holds a x → Holds (sharp f) y → Holds (value_or (ar.div a (sharp f)) ENTIRE) (x *ℚ invℚ y)
  unfolding value_or
  over_holds a f x y o h k = go (ar.div a (sharp f)) refl
    where
      go : (r : Divided) → ar.div a (sharp f) ≡ r → Holds (value_or r ENTIRE) (x *ℚ invℚ y)
      go (Some c) e = E.div_holds a (sharp f) c x y e h k
      go None e = absurd (lt→not_le (subst (λ (z : ℚ). 0ℚ <ℚ z) (alone f y 0ℚ k ((E.div_fails a (sharp f)).0 e)) o) (le_refl 0ℚ))

  -- ---- the abscissae
  module _ (p n : ℕ) (ks : List Float) (1≤p : 1 ≤ p) (p≤7 : p ≤ 7) (K : Knots p n ks) where
    pub abscissa_holds : (i : ℕ) → i < n → Holds (abscissa ar p (window p ks i)) (ξ p (values ks) i)
    unfolding abscissa ξ
    abscissa_holds i l =
        subst (λ (z : ℚ). Holds (abscissa ar p (window p ks i)) z) (mean_is (sum (values ks) p (suc i)) (invℚ (whole p)))
        (over_holds (foldl (λ s u. ar.add s (sharp u)) ZERO (window p ks i)) (of_int binary64 (pos p)) (0ℚ +ℚ sum (values ks) p (suc i)) (whole p) (deg-pos p 1≤p) total (whole_holds p (ℕ-trans p≤7 (lit≤ tt))))
      where
        room : suc i + p ≤ length ks
        room = omega (arith, K.long)

        size : length (window p ks i) ≡ p
        size = length_part ks (suc i) p room

        each : (m : ℕ) → m < length (window p ks i) → Holds (sharp (get_or (window p ks i) m nan)) (values ks (suc i + m))
        each m b = let b' = subst (λ (z : ℕ). m < z) size b in subst (λ (f : Float). Holds (sharp f) (values ks (suc i + m))) (sym (get_or_part ks (suc i) p m nan b')) (sharp_known (knot ks (suc i + m)) (K.known (suc i + m) (omega arith)))

        total : Holds (foldl (λ s u. ar.add s (sharp u)) ZERO (window p ks i)) (0ℚ +ℚ sum (values ks) p (suc i))
        total =
            subst (λ (z : ℕ). Holds (foldl (λ s u. ar.add s (sharp u)) ZERO (window p ks i)) (0ℚ +ℚ sum (values ks) z (suc i))) size
            (sum_holds (window p ks i) ZERO 0ℚ (values ks) (suc i) zero_holds each)

    means : Abscissae p n ks (tab n (λ i. abscissa ar p (window p ks i)))
    means = record {
      long = length-tab n f;
      at = λ i l. subst (λ (s : Scalar). Holds s (ξ p (values ks) i)) (sym (get_or-tab n f i absent l)) (abscissa_holds i l);
    }
      where
        f : ℕ → Scalar
        f i = abscissa ar p (window p ks i)

  -- a degree from 1 on has abscissae
  pub greville-found : (p n : ℕ) (ks : List Float) → 1 ≤ p → p ≤ 7 → Knots p n ks → (ξs : List Scalar) × (greville ar p n ks ≡ some ξs) × Abscissae p n ks ξs
  unfolding greville
  greville-found zero n ks 1≤p p≤7 K = absurd (omega arith)
  greville-found (suc p) n ks 1≤p p≤7 K = (tab n (λ i. abscissa ar (suc p) (window (suc p) ks i)), refl, means (suc p) n ks 1≤p p≤7 K)

  -- and these are they
  pub greville_holds : (p n : ℕ) (ks : List Float) (ξs : List Scalar) → 1 ≤ p → p ≤ 7 → Knots p n ks → greville ar p n ks ≡ some ξs → Abscissae p n ks ξs
  greville_holds p n ks ξs 1≤p p≤7 K e =
      let r = greville-found p n ks 1≤p p≤7 K in
      subst (λ (l : List Scalar). Abscissae p n ks l) (some-injective r.0 ξs (sym r.1 ∙ e)) r.2
