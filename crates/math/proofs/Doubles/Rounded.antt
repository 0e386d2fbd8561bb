-- A value of the format that lies strictly below a fraction's rounded value is smaller than the fraction, and one strictly above it is larger.
-- By `round`'s order and its fixed points alone: no unit in the last place is measured. Assumes nothing.
use mathlib.Core.Path.{◌≡◌, refl, sym, ap, ◌∙◌, subst}
use mathlib.Core.Logic.{inl, inr}
use Prim.Native.Nat.{ℕ, zero, suc, ◌+◌, ◌-◌, ◌*◌, ◌/◌, ◌%◌, ◌^◌, ◌<◌, compare}
use native.Mathlib.Omega.{arith}
use mathlib.Core.Bool.{Bool, true, false, ◌&&◌, ◌||◌, cond}
use lib.IntN.{ℤ}
use lib.Dec.{T, ltb, eqb, ltb→lt, eqb→eq}
use lib.Ieee.{Float, nan, inf, fin, Format, low, prec, emax, up, down, nearest, size, odd, units, round, neg, fits, lt, le}
use lib.Ieee.Fits.{down_pos, and_l, and_r, round_is}
use lib.Ieee.Order.{round_mono}
use Rattle.math.proofs.Bools.{or_split, compare_le}
use Rattle.math.proofs.Doubles.Held.{round_own}

-- ---- x < y and y ≤ x
both : (a b : ℕ) (r : Bool) → T (ltb a b) → T (ltb b a || (eqb b a && r)) → ⊥
both a b r t u = elim (or_split (ltb b a) (eqb b a && r) u) [
  | inl v ↦ no a b (ltb→lt a b t) (ltb→lt b a v)
  | inr v ↦ same a b (ltb→lt a b t) (eqb→eq b a (and_l (eqb b a) r v))
]
  where
    no : (x y : ℕ) → x < y → y < x → ⊥
    no x y h k = omega arith

    same : (x y : ℕ) → x < y → y ≡ x → ⊥
    same x y h k = omega arith

-- for a value that is not negative on the left
anti_left : (m : ℕ) (e : ℤ) (y : Float) → T (lt (fin false m e) y) → T (le y (fin false m e)) → ⊥
unfolding lt le
anti_left m e nan t u = t
anti_left m e (inf true) t u = t
anti_left m e (inf false) t u = u
anti_left m e (fin true n d) t u = t
anti_left m e (fin false n d) t u = both (m * up e * down d) (n * up d * down e) true t u

anti_right : (m : ℕ) (e : ℤ) (y : Float) → T (le (fin false m e) y) → T (lt y (fin false m e)) → ⊥
unfolding lt le
anti_right m e nan u t = t
anti_right m e (inf true) u t = u
anti_right m e (inf false) u t = t
anti_right m e (fin true n d) u t = pos-clash (m * up e * down d) (n * up d * down e) (and_r (eqb (m * up e * down d) (n * up d * down e)) (eqb (m * up e * down d) 0) u) (and_l (eqb (m * up e * down d) (n * up d * down e)) (eqb (m * up e * down d) 0) u) t
  where
    pos-clash : (a b : ℕ) → T (eqb a 0) → T (eqb a b) → T (ltb 0 (b + a)) → ⊥
    pos-clash a b p q r = no a b (eqb→eq a 0 p) (eqb→eq a b q) (ltb→lt 0 (b + a) r)
      where
        no : (x y : ℕ) → x ≡ 0 → x ≡ y → 0 < y + x → ⊥
        no x y h k l = omega arith
anti_right m e (fin false n d) u t = both (n * up d * down e) (m * up e * down d) true t u

-- ---- the two laws, above zero
module _ (f : Format) (m : ℕ) (e : ℤ) (F : T (fits f (fin false m e))) (a c : ℕ) (C : 0 < c) where
  pub under : T (lt (fin false m e) (round f false a c)) → m * up e * c < a * down e
  under t = elim (compare_le (a * down e) (m * up e * c)) [
    | inl h ↦ absurd (anti_left m e (round f false a c) t (subst (λ (x : Float). T (le (round f false a c) x)) (round_own f false m e F) (round_mono f a c (m * up e) (down e) C (down_pos e) h)))
    | inr h ↦ h
  ]

  pub over : T (lt (round f false a c) (fin false m e)) → a * down e < m * up e * c
  over t = elim (compare_le (m * up e * c) (a * down e)) [
    | inl h ↦ absurd (anti_right m e (round f false a c) (subst (λ (x : Float). T (le x (round f false a c))) (round_own f false m e F) (round_mono f (m * up e) (down e) a c (down_pos e) C h)) t)
    | inr h ↦ h
  ]

-- ---- the sign passes through `round`
pub neg-odd : (d : ℕ) (q k l : ℕ) → odd d true q k l ≡ neg (odd d false q k l)
unfolding odd neg
neg-odd d zero k l = refl
neg-odd d (suc q) k l = refl

neg-inf : inf true ≡ neg (inf false)
unfolding neg
neg-inf = refl

neg-units : (f : Format) (q k : ℕ) → units f true q k ≡ neg (units f false q k)
unfolding units
neg-units f q k = go (ltb (q * 2 ^ k) (2 ^ (low f + suc (emax f))))
  where
    go : (b : Bool) → cond b (odd (suc (prec f)) true q k (low f)) (inf true) ≡ neg (cond b (odd (suc (prec f)) false q k (low f)) (inf false))
    go true = neg-odd (suc (prec f)) q k (low f)
    go false = neg-inf

pub neg-round : (f : Format) (a c : ℕ) → round f true a c ≡ neg (round f false a c)
neg-round f a c =
    let n = a * 2 ^ low f in
    let k = size (n / c) - prec f in
    let u = c * 2 ^ k in
    round_is f true a c ∙ neg-units f (nearest (n / u) (compare (n % u * 2) u)) k ∙ sym (ap neg (round_is f false a c))
