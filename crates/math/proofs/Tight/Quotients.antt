-- Revision 2's quotient is the tightest, for intervals with infinite bounds too, and so are the bounds of 4 / 5. By a divisor that is not bounded above, what is not below zero comes as near to zero
-- as any number, and no nearer. With the laws of Hulls that makes `tight_tightest`. Assumes nothing.
use mathlib.Core.Path.{◌≡◌, refl, sym, ap, ◌∙◌, subst}
use mathlib.Core.List.{[], ◌∷◌}
use mathlib.Core.Logic.{inl, inr}
use mathlib.Core.Bool.{Bool, true, false, not, cond}
use Prim.Native.Nat.{ℕ, zero, suc}
use native.Mathlib.Omega.{arith}
use lib.IntN.{ℤ, pos}
use lib.Dec.{T}
use lib.Ieee.{Float, nan, inf, fin, binary64, unlike, div, neg, lt, le, fits}
use lib.Ieee.Fits.{neg-fits}
use Rattle.solver.proofs.Ring.{by_rep, by_eq, read}
use Rattle.exact.specs.Rational.{ℚ, ◌+ℚ◌, ◌*ℚ◌, -ℚ◌, ◌-ℚ◌, 0ℚ, 1ℚ, invℚ, ◌÷◌, ◌≤ℚ◌, ◌<ℚ◌, nn_of, lt→not_le}
use Rattle.exact.proofs.Field.{ℚring, nn_mul, nn_add, nn_inv}
use Rattle.exact.proofs.Order.{le_by, nn_le, le_or_lt, lt→le, lt_le_trans, neg-neg, neg_0, neg-mono, 0<1, pos-inv}
use Rattle.exact.proofs.Embed.{signed-inv}
use Rattle.math.specs.Scalars.{zero_f, has_zero}
use Rattle.math.specs.Values.{value, Below, Above, Holds, Proper}
use Rattle.math.specs.declared.scalars.Scalar.{Scalar}
use Rattle.std.specs.Prelude.{Some, None}
use Rattle.math.proofs.Bools.{pick}
use Rattle.math.proofs.Doubles.Values.{value_zero, value-neg, value-above, value-under, value→le}
use Rattle.math.proofs.Intervals.Geop.{zero_held}
use Rattle.math.proofs.Intervals.Quotient.{not_zero}
use Rattle.math.proofs.Intervals.Tests.{proper_holds}
use Rattle.math.specs.Directed.{quotient_down}
use Rattle.math.specs.Tight.{tight, div_t, quotient, over, four_fifths_t}
use Rattle.math.specs.Tightest.{Hull, Results, Tightest}
use Rattle.math.proofs.Tight.Ends.{quotient-greatest, quotient_fits}
use Rattle.math.proofs.Tight.Instance.{quotient_holds, div_fails, is_low, not_low, four_fifths_lem, four_fifths_turned, ratio_holds}
use Rattle.math.proofs.Tight.Limits.{mirrored, mirror_back, mirror_proper, flip, turned, Bounding, Falls, Rises, falls_low, End, low_end, high_end}
use Rattle.math.proofs.Tight.Hulls.{sum_hull, difference_hull, product_hull}

abbrev Quotients : Scalar → Scalar → ℚ → Type 0
Quotients a b = Results (λ x y. x *ℚ invℚ y) a b

-- ---- what goes to the negative infinity, and what goes to zero

-- what falls, over a v above zero
quotients_fall : (a b : Scalar) (v : ℚ) → 0ℚ <ℚ v → Holds b v → Falls (λ q. Holds a q) → Falls (Quotients a b)
quotients_fall a b v P h f = λ k. let x = f (k *ℚ v) in
    (x.0 *ℚ invℚ v, (x.0, v, x.1, h, refl), le_by (nn_mul (k *ℚ v -ℚ x.0) (invℚ v) (nn_of x.2) (nn_inv v (nn_le (lt→le P)))) (by_eq ℚring (-ℚ k) (pos-inv v P) (by_rep ℚring (k ∷ v ∷ invℚ v ∷ x.0 ∷ []) (search read depth 9) (search read depth 9) tt)))

-- an x that is not below zero, over what rises: no number above zero is a bound
no_bound : (a b : Scalar) (x : ℚ) → 0ℚ ≤ℚ x → Holds a x → Rises (λ q. Holds b q) → (v : ℚ) → 0ℚ <ℚ v → ((q : ℚ) → Quotients a b q → v ≤ℚ q) → ⊥
no_bound a b x X h f v P k =
    let y = f (x *ℚ invℚ v +ℚ 1ℚ) in
    let Y : 0ℚ <ℚ y.0 = lt_le_trans 0<1 (le_by {z = (y.0 -ℚ (x *ℚ invℚ v +ℚ 1ℚ)) +ℚ (x -ℚ 0ℚ) *ℚ invℚ v} (nn_add _ _ (nn_of y.2) (nn_mul _ _ (nn_of X) (nn_inv v (nn_le (lt→le P))))) (by_rep ℚring (x ∷ invℚ v ∷ y.0 ∷ []) (search read depth 9) (search read depth 9) tt)) in
    lt→not_le P (le_by {z = (x *ℚ invℚ y.0 -ℚ v) *ℚ (y.0 -ℚ 0ℚ) +ℚ (v -ℚ 0ℚ) *ℚ (y.0 -ℚ (x *ℚ invℚ v +ℚ 1ℚ))}
    (nn_add _ _ (nn_mul _ _ (nn_of (k _ (x, y.0, h, y.1, refl))) (nn_of (lt→le Y))) (nn_mul _ _ (nn_of (lt→le P)) (nn_of y.2)))
    (by_eq ℚring x (pos-inv v P) (by_eq ℚring (-ℚ x) (pos-inv y.0 Y) (by_rep ℚring (x ∷ v ∷ invℚ v ∷ y.0 ∷ invℚ y.0 ∷ []) (search read depth 12) (search read depth 12) tt))))

to_zero : (a b : Scalar) (x : ℚ) → 0ℚ ≤ℚ x → Holds a x → Rises (λ q. Holds b q) → (w : Float) → ((q : ℚ) → Quotients a b q → Below w q) → (s : Bool) → T (le w (fin s 0 (pos 0)))
to_zero a b x X h f nan k s = let y = f 0ℚ in absurd (k _ (x, y.0, h, y.1, refl))
to_zero a b x X h f (inf true) k s = unfold le in tt
to_zero a b x X h f (inf false) k s = let y = f 0ℚ in absurd (k _ (x, y.0, h, y.1, refl))
to_zero a b x X h f (fin t n d) k s = elim (le_or_lt (value (fin t n d)) 0ℚ) [
  | inl l ↦ value→le t n d s 0 (pos 0) (subst (λ (z : ℚ). value (fin t n d) ≤ℚ z) (sym (value_zero s (pos 0))) l)
  | inr l ↦ absurd (no_bound a b x X h f (value (fin t n d)) l k)
]

-- ---- the lower bound, by a divisor above zero
module _ (a b : Scalar) (A : Proper a) (B : Proper b) (z : Holds b 0ℚ → ⊥) (w : Float) (k : Bounding (Quotients a b) w) where
  -- a zero is no end of the divisor
  clear_end : (t : Bool) (d : ℤ) → Holds b (value (fin t zero d)) → ⊥
  clear_end t d h = z (subst (λ (q : ℚ). Holds b q) (value_zero t d) h)

  -- of what is not below zero, by the upper end
  by_most : (p r : Float) → End a p → End b r → T (le zero_f p) → T (lt p (inf false)) → T (lt (inf true) r) → T (le w (quotient_down p r))
  by_most nan r g h o u v = absurd g
  by_most (inf true) r g h o u v = unfold le in absurd o
  by_most (inf false) r g h o u v = unfold lt in absurd u
  by_most (fin s m e) nan g h o u v = absurd h
  by_most (fin s m e) (inf true) g h o u v = unfold lt in absurd v
  by_most (fin s m e) (inf false) g h o u v = unfold quotient_down div in to_zero a b (value (fin s m e)) (not_low (fin s m e) o) g h w k.1 (unlike s false)
  by_most (fin s m e) (fin t zero d) g h o u v = absurd (clear_end t d h)
  by_most (fin s m e) (fin t (suc n) d) g h o u v = (quotient-greatest s m e t n d).most w k.0 (k.1 _ (_, _, g, h, refl))

  -- of what is below zero, by the lower end, which is above zero
  by_least : (p r : Float) → End a p → End b r → T (lt p (inf false)) → T (le zero_f r) → T (lt r (inf false)) → T (le w (quotient_down p r))
  by_least p nan g h u o v = absurd h
  by_least p (inf true) g h u o v = unfold le in absurd o
  by_least p (inf false) g h u o v = unfold lt in absurd v
  by_least p (fin t zero d) g h u o v = absurd (clear_end t d h)
  by_least nan (fin t (suc n) d) g h u o v = absurd g
  by_least (inf false) (fin t (suc n) d) g h u o v = unfold lt in absurd u
  by_least (inf true) (fin true (suc n) d) g h u o v = absurd (lt→not_le (value-under n d) (not_low (fin true (suc n) d) o))
  by_least (inf true) (fin false (suc n) d) g h u o v = unfold quotient_down div in falls_low (Quotients a b) (quotients_fall a b (value (fin false (suc n) d)) (value-above n d) h g) w k.1
  by_least (fin s m e) (fin t (suc n) d) g h u o v = (quotient-greatest s m e t n d).most w k.0 (k.1 _ (_, _, g, h, refl))

  over_low : T (le zero_f b.lo) → T (le w (over a.lo b.lo b.hi))
  over_low o = pick (λ (f : Float). T (le w (quotient_down a.lo f))) (le zero_f a.lo) b.hi b.lo
      (λ t. by_most a.lo b.hi (low_end a A) (high_end b B) t A.low B.high)
      (λ _. by_least a.lo b.lo (low_end a A) (low_end b B) A.low o B.low)

-- ---- the mirrored divisor
mirror-clear : (b : Scalar) → (Holds b 0ℚ → ⊥) → Holds (mirrored b) 0ℚ → ⊥
mirror-clear b z h = z (subst (λ (q : ℚ). Holds b q) neg_0 (mirror_back b 0ℚ h))

-- one that does not lie above zero lies below it
below_zero : (b : Scalar) → Proper b → (Holds b 0ℚ → ⊥) → T (not (le zero_f b.lo)) → T (le zero_f (neg b.hi))
below_zero b B z n = go b.hi (λ h. z (record { low = is_low b.lo y.0 y.1.low n; high = h })) y.1.high
  where
    y : (x : ℚ) × Holds b x
    y = proper_holds b B

    go : (g : Float) → (Above g 0ℚ → ⊥) → Above g y.0 → T (le zero_f (neg g))
    go nan c h = absurd h
    go (inf true) c h = absurd h
    go (inf false) c h = absurd (c tt)
    go (fin t n d) c h = elim (le_or_lt 0ℚ (value (fin t n d))) [
      | inl l ↦ absurd (c l)
      | inr l ↦ unfold neg in value→le false 0 (pos 0) (not t) n d (subst (λ (q : ℚ). q ≤ℚ value (fin (not t) n d)) (sym (value_zero false (pos 0))) (subst (λ (q : ℚ). 0ℚ ≤ℚ q) (sym (unfold neg in value-neg (fin t n d))) (subst (λ (q : ℚ). q ≤ℚ -ℚ value (fin t n d)) neg_0 (neg-mono (lt→le l)))))
    ]

module _ (a b : Scalar) (A : Proper a) (B : Proper b) (e : has_zero b ≡ false) where
  clear : Holds b 0ℚ → ⊥
  clear h = subst T e ((zero_held b).1 h)

  -- the inverse of a mirrored number
  turn_inv : (y : ℚ) → Holds (mirrored b) y → invℚ y ≡ -ℚ invℚ (-ℚ y)
  turn_inv y h = ap invℚ (sym (neg-neg y)) ∙ signed-inv true (-ℚ y) (invℚ (-ℚ y)) (not_zero b (-ℚ y) (mirror_back b y h) e)

  -- the quotients with the dividend mirrored, the divisor, and both
  dividend : (q : ℚ) → Quotients (mirrored a) b q → Quotients a b (-ℚ q)
  dividend q p = (-ℚ p.0, p.1, mirror_back a p.0 p.2, p.3, ap (λ (v : ℚ). -ℚ v) p.4 ∙ by_rep ℚring (p.0 ∷ invℚ p.1 ∷ []) (search read) (search read) tt)

  divisor : (q : ℚ) → Quotients a (mirrored b) q → Quotients a b (-ℚ q)
  divisor q p = (p.0, -ℚ p.1, p.2, mirror_back b p.1 p.3, ap (λ (v : ℚ). -ℚ v) (p.4 ∙ ap (λ (v : ℚ). p.0 *ℚ v) (turn_inv p.1 p.3)) ∙ by_rep ℚring (p.0 ∷ invℚ (-ℚ p.1) ∷ []) (search read) (search read) tt)

  both : (q : ℚ) → Quotients (mirrored a) (mirrored b) q → Quotients a b q
  both q p = (-ℚ p.0, -ℚ p.1, mirror_back a p.0 p.2, mirror_back b p.1 p.3, p.4 ∙ ap (λ (v : ℚ). p.0 *ℚ v) (turn_inv p.1 p.3) ∙ by_rep ℚring (p.0 ∷ invℚ (-ℚ p.1) ∷ []) (search read) (search read) tt)

  quotient_low : (w : Float) → Bounding (Quotients a b) w → T (le w (quotient a b).lo)
  unfolding quotient
  quotient_low w k = pick (λ (r : Scalar). T (le w r.lo)) (le zero_f b.lo) _ _
      (λ o. over_low a b A B clear w k o)
      (λ n. over_low (mirrored a) (mirrored b) (mirror_proper a A) (mirror_proper b B) (mirror-clear b clear) w (k.0, λ q p. k.1 q (both q p)) (below_zero b B clear n))

  quotient_high : (w : Float) → T (fits binary64 w) → ((q : ℚ) → Quotients a b q → Above w q) → T (le (quotient a b).hi w)
  unfolding quotient
  quotient_high w F h = pick (λ (r : Scalar). T (le r.hi w)) (le zero_f b.lo) _ _
      (λ o. flip w _ (over_low (mirrored a) b (mirror_proper a A) B clear (neg w) (neg-fits binary64 w F, λ q p. turned w q (h (-ℚ q) (dividend q p))) o))
      (λ n. flip w _ (over_low a (mirrored b) A (mirror_proper b B) (mirror-clear b clear) (neg w) (neg-fits binary64 w F, λ q p. turned w q (h (-ℚ q) (divisor q p))) (below_zero b B clear n)))

  quotient-doubles : T (fits binary64 (quotient a b).lo) × T (fits binary64 (quotient a b).hi)
  unfolding quotient
  quotient-doubles = pick (λ (r : Scalar). T (fits binary64 r.lo) × T (fits binary64 r.hi)) (le zero_f b.lo) _ _
      (λ _. (quotient_fits _ _, neg-fits binary64 _ (quotient_fits _ _)))
      (λ _. (quotient_fits _ _, neg-fits binary64 _ (quotient_fits _ _)))

  pub quotient_hull : Hull (quotient a b) (Quotients a b)
  quotient_hull = record {
    doubles = quotient-doubles;
    holds = λ q p. subst (λ (v : ℚ). Holds (quotient a b) v) (sym p.4) (quotient_holds a b p.0 p.1 p.2 p.3 e);
    low = λ w F h. quotient_low w (F, h);
    high = quotient_high;
  }

-- ---- 4 / 5
pub ratio_hull : Hull four_fifths_t (λ q. q ≡ 4 ÷ 5)
ratio_hull = record {
  doubles = unfold four_fifths_t in (quotient_fits _ _, neg-fits binary64 _ (quotient_fits _ _));
  holds = λ q p. subst (λ (v : ℚ). Holds four_fifths_t v) (sym p) ratio_holds;
  low = λ w F h. unfold four_fifths_t in (quotient-greatest false 1 (pos 2) false 4 (pos 0)).most w F (subst (λ (v : ℚ). Below w v) (sym four_fifths_lem) (h (4 ÷ 5) refl));
  high = λ w F h. unfold four_fifths_t neg in flip w _ ((quotient-greatest true 1 (pos 2) false 4 (pos 0)).most (neg w) (neg-fits binary64 w F) (turned w _ (subst (λ (v : ℚ). Above w v) (sym four_fifths_turned) (h (4 ÷ 5) refl))));
}

-- THE LAWS
pub tight_tightest : Tightest tight
tight_tightest = record { sum = sum_hull; difference = difference_hull; product = product_hull; quotient = divided; fails = div_fails; ratio = ratio_hull }
  where
    divided : (a b c : Scalar) → Proper a → Proper b → div_t a b ≡ Some c → Hull c (Quotients a b)
    divided a b c A B e = go (has_zero b) refl (unfold div_t in e)
      where
        go : (t : Bool) → has_zero b ≡ t → cond t None (Some (quotient a b)) ≡ Some c → Hull c (Quotients a b)
        go true p q = let y : ◌≡◌ {A = ℕ} 0 1 = cc in absurd (omega arith)
        go false p q = let y : quotient a b ≡ c = cc in subst (λ (s : Scalar). Hull s (Quotients a b)) y (quotient_hull a b A B p)
