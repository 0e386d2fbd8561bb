-- What `past`, `is_near` and `passes` of src/digits.rt find: on which side of a size the product of two others lies. Assumes nothing.
use mathlib.Core.Path.{◌≡◌, refl, sym, ap, ◌∙◌}
use mathlib.Core.Bool.{Bool, true, false, cond}
use Prim.Native.Nat.{ℕ, zero, suc, ◌+◌, ◌-◌, ◌*◌, ◌^◌, ◌≤◌, ◌<◌}
use native.Mathlib.Nat.{mul-le-mul}
use native.Mathlib.Omega.{arith}
use lib.Dec.{eqb, leb, ltb, leb→le, ltb→lt}
use Rattle.std.proofs.Common.{Ordering, Less, Equal, Greater}
use Rattle.std.specs.Ordering.{nat_cmp, ordering_reverse, is_lt, is_gt}
use Rattle.std.proofs.lemmas.Cmp.{nat_cmp_total}
use Rattle.math.specs.Digits.{digits_of, shift_of, size_of, is_past, is_near}
use Rattle.math.proofs.Bools.{yes, and_both}
use Rattle.math.proofs.Tight.Wholes.{side_at, by_up}

-- ---- which side is asked for
abbrev asked : Ordering → Bool → Bool
asked o more = cond more (is_gt o) (is_lt o)

below-test : (a b : ℕ) → is_lt (nat_cmp a b) ≡ ltb a b
below-test a b = picks (ltb a b) (eqb a b)
  where
    picks : (x y : Bool) → is_lt (cond x Less (cond y Equal Greater)) ≡ x
    picks true y = refl
    picks false true = refl
    picks false false = refl

above-test : (a b : ℕ) → is_gt (nat_cmp a b) ≡ ltb b a
above-test a b = ap is_gt (nat_cmp_total.antisymm a b) ∙ turned (nat_cmp b a) ∙ below-test b a
  where
    turned : (o : Ordering) → is_gt (ordering_reverse o) ≡ is_lt o
    turned Less = refl
    turned Equal = refl
    turned Greater = refl

asked_is : (a b : ℕ) (more : Bool) → asked (nat_cmp a b) more ≡ is_past a b more
asked_is a b true = above-test a b
asked_is a b false = below-test a b

-- ---- at most one doubling
pub near_is : (up off : ℕ) → is_near up off ≡ true → (up ≤ off) × (off < up + 2)
near_is up off e = let h = and_both (leb up off) (ltb off (up + 2)) e in (leb→le up off (yes (leb up off) h.0), ltb→lt off (up + 2) (yes (ltb off (up + 2)) h.1))

-- w doubled d times, for a d of 0 or 1
once : (w d : ℕ) → d < 2 → w * (d + 1) * 2 ^ 52 ≡ w * 2 ^ 52 * 2 ^ d
once w zero h = omega arith
once w (suc zero) h = omega arith
once w (suc (suc d)) h = absurd (no h)
  where
    no : suc (suc d) < 2 → ⊥
    no h = omega arith

-- it still fits
pub once-fits : (w up off : ℕ) → w < 2 ^ 53 → (up ≤ off) × (off < up + 2) → w * (off - up + 1) < 2 ^ 54
once-fits w up off h o = omega (arith, mul-le-mul (below w h) (two o.0 o.1))
  where
    below : (w : ℕ) → w < 2 ^ 53 → w ≤ 9007199254740991
    below w h = omega arith

    two : up ≤ off → off < up + 2 → off - up + 1 ≤ 2
    two p q = omega arith

module _ (x y z m n w i j l p : ℕ) (em : m ≡ digits_of x) (en : n ≡ digits_of y) (ew : w ≡ digits_of z) (ei : i ≡ shift_of x) (ej : j ≡ shift_of y) (el : l ≡ shift_of z) (ep : p ≡ m * n) where
  pub by_near : (t : ℕ) (r more : Bool) → t ≡ w * (l + 1022 - (i + j) + 1) * 2 ^ 52 → (i + j ≤ l + 1022) × (l + 1022 < i + j + 2) → r ≡ is_past p t more → r ≡ is_past (size_of x * size_of y) (size_of z * 2 ^ 1074) more
  by_near t r more et o e =
      e ∙ sym (asked_is p t more)
      ∙ ap (λ (s : Ordering). asked s more) (by_up x y z m n w i j l p _ em en ew ei ej el ep (w * 2 ^ 52) refl o.0 (side_at _ _ _ _ refl (et ∙ once w (l + 1022 - (i + j)) (small o.0 o.1))))
      ∙ asked_is (size_of x * size_of y) (size_of z * 2 ^ 1074) more
    where
      small : i + j ≤ l + 1022 → l + 1022 < i + j + 2 → l + 1022 - (i + j) < 2
      small p q = omega arith
