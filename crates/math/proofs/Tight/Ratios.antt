-- What `above_quotient` finds in each of the four kinds of a rounded quotient, and what `divides` and `quotient_down` test and choose. Assumes nothing.
use mathlib.Core.Path.{◌≡◌, sym, ap, ap₂, ◌∙◌, subst}
use mathlib.Core.Logic.{inl, inr}
use mathlib.Core.Bool.{Bool, true, false, not, ◌&&◌, true≢false, false≢true}
use Prim.Native.Nat.{ℕ, zero, suc, ◌+◌, ◌-◌, ◌*◌, ◌^◌, ◌≤◌, ◌<◌}
use native.Mathlib.Omega.{arith}
use lib.IntN.{ℤ}
use lib.Dec.{T, not_T, eqb, ltb, lt→ltb}
use lib.Ieee.{Float, nan, inf, fin, binary64, unlike, div, fits, to_bits, is_nan, eq, ne, up, down}
use lib.Ieee.Fits.{div-fits}
use lib.Ieee.Bits.{is_false, is_true}
use Rattle.exact.specs.Rational.{ℚ, ◌*ℚ◌, invℚ}
use Rattle.math.specs.RootLaws.{is_finite}
use Rattle.math.specs.Scalars.{zero_f}
use Rattle.math.specs.Values.{value}
use Rattle.math.specs.Digits.{size_of, is_past}
use Rattle.math.specs.Directed.{exceeds, is_zero, lower, quotient_down}
use Rattle.math.proofs.Bools.{compare_le, and_l, pick_yes, pick_no}
use Rattle.math.proofs.Doubles.Tests.{nonzero}
use Rattle.math.proofs.Doubles.Operations.{div-rounds, div_is}
use Rattle.math.proofs.Intervals.Corners.{zero_eq}
use Rattle.math.proofs.Tight.Readings.{reading}
use Rattle.math.proofs.Tight.Products.{sign_of, round-sign, quotient-plus, quotient-minus}
use Rattle.math.proofs.Tight.Kinds.{mag, mag_is, mag-plus, mag-minus, under-minus, not-plus, plus, minus}

eq_nonzero : (s : Bool) (m : ℕ) (e : ℤ) → eq (fin s (suc m) e) zero_f ≡ false
unfolding eq
eq_nonzero s m e = is_false (eq (fin s (suc m) e) zero_f) (not_T (eq (fin s (suc m) e) zero_f) (λ t. nonzero m e (and_l (eqb (suc m * up e * 1) (0 * 1 * down e)) _ t)))

pub nonzero_test : (b : Float) → is_finite b ≡ true → ne b zero_f ≡ not (is_zero b)
unfolding ne
nonzero_test nan h = absurd (false≢true h)
nonzero_test (inf s) h = absurd (false≢true h)
nonzero_test (fin s zero e) h = ap not (is_true (eq (fin s zero e) zero_f) (zero_eq s e))
nonzero_test (fin s (suc m) e) h = ap not (eq_nonzero s m e)

-- ---- the quotient
quotient-sign : (s : Bool) (m : ℕ) (e : ℤ) (t : Bool) (n : ℕ) (d : ℤ) → sign_of (div binary64 (fin s m e) (fin t (suc n) d)) ≡ unlike s t
quotient-sign s m e t n d = ap sign_of (div_is s m e t n d) ∙ round-sign binary64 (unlike s t) (m * up e * down d) (suc n * up d * down e)

module _ (s : Bool) (m : ℕ) (e : ℤ) (t : Bool) (n : ℕ) (d : ℤ) (F : T (fits binary64 (fin s m e))) (G : T (fits binary64 (fin t (suc n) d))) (p : Float) (P : p ≡ div binary64 (fin s m e) (fin t (suc n) d)) where
  abbrev fraction : ℚ
  fraction = value (fin s m e) *ℚ invℚ (value (fin t (suc n) d))

  q_held : T (fits binary64 p)
  q_held = subst (λ (x : Float). T (fits binary64 x)) (sym P) (div-fits binary64 (fin s m e) (fin t (suc n) d))

  q_plus : (k : ℕ) (c : ℤ) → p ≡ fin false k c → ltb (size_of (mag (fin s m e)) * 2 ^ 1074) (size_of (to_bits binary64 p) * size_of (mag (fin t (suc n) d))) ≡ exceeds p fraction
  q_plus k c q =
      let H : T (fits binary64 (fin false k c)) = subst (λ (x : Float). T (fits binary64 x)) q q_held in
      let r = reading false k c H in
      sized (to_bits binary64 p) _ (mag (fin t (suc n) d)) _ (mag (fin s m e)) _ (ap (to_bits binary64) q ∙ r.at ∙ none r.bits) (mag_is t (suc n) d G) (mag_is s m e F)
      ∙ quotient-plus s m e t n d F G k c (sym (quotient-sign s m e t n d) ∙ ap sign_of (sym P ∙ q)) H
      ∙ ap (λ (x : Float). exceeds x fraction) (sym q)
    where
      none : (b : ℕ) → 0 + b ≡ b
      none b = omega arith

      sized : (x x' y y' z z' : ℕ) → x ≡ x' → y ≡ y' → z ≡ z' → ltb (size_of z * 2 ^ 1074) (size_of x * size_of y) ≡ ltb (size_of z' * 2 ^ 1074) (size_of x' * size_of y')
      sized x x' y y' z z' ex ey ez = ap₂ (λ (v w : ℕ). ltb v w) (ap (λ (v : ℕ). size_of v * 2 ^ 1074) ez) (ap₂ (λ (v w : ℕ). size_of v * size_of w) ex ey)

  q_minus : (k : ℕ) (c : ℤ) → p ≡ fin true k c → ltb (size_of (to_bits binary64 p - 0x8000_0000_0000_0000) * size_of (mag (fin t (suc n) d))) (size_of (mag (fin s m e)) * 2 ^ 1074) ≡ exceeds p fraction
  q_minus k c q =
      let H : T (fits binary64 (fin true k c)) = subst (λ (x : Float). T (fits binary64 x)) q q_held in
      let r = reading true k c H in
      sized (to_bits binary64 p - 0x8000_0000_0000_0000) _ (mag (fin t (suc n) d)) _ (mag (fin s m e)) _ (ap (λ (x : Float). to_bits binary64 x - 0x8000_0000_0000_0000) q ∙ ap (λ (z : ℕ). z - 0x8000_0000_0000_0000) r.at ∙ off r.bits) (mag_is t (suc n) d G) (mag_is s m e F)
      ∙ quotient-minus s m e t n d F G k c (sym (quotient-sign s m e t n d) ∙ ap sign_of (sym P ∙ q)) H
      ∙ ap (λ (x : Float). exceeds x fraction) (sym q)
    where
      off : (b : ℕ) → 0x8000_0000_0000_0000 + b - 0x8000_0000_0000_0000 ≡ b
      off b = omega arith

      sized : (x x' y y' z z' : ℕ) → x ≡ x' → y ≡ y' → z ≡ z' → ltb (size_of x * size_of y) (size_of z * 2 ^ 1074) ≡ ltb (size_of x' * size_of y') (size_of z' * 2 ^ 1074)
      sized x x' y y' z z' ex ey ez = ap₂ (λ (v w : ℕ). ltb v w) (ap₂ (λ (v w : ℕ). size_of v * size_of w) ex ey) (ap (λ (v : ℕ). size_of v * 2 ^ 1074) ez)

pub record Divides (a b q : Float) : Type 0 where
  pub held_a : T (fits binary64 a)
  pub held_b : T (fits binary64 b)
  pub finite_a : is_finite a ≡ true
  pub finite_b : is_finite b ≡ true
  pub nonzero_b : is_zero b ≡ false
  pub is : q ≡ div binary64 a b

pub over-plus : (a b q : Float) → Divides a b q → to_bits binary64 q < 0x7ff0_0000_0000_0000
    → ltb (size_of (mag a) * 2 ^ 1074) (size_of (to_bits binary64 q) * size_of (mag b)) ≡ exceeds q (value a *ℚ invℚ (value b))
over-plus nan b q f h = absurd (false≢true f.finite_a)
over-plus (inf s) b q f h = absurd (false≢true f.finite_a)
over-plus (fin s m e) nan q f h = absurd (false≢true f.finite_b)
over-plus (fin s m e) (inf t) q f h = absurd (false≢true f.finite_b)
over-plus (fin s m e) (fin t zero d) q f h = absurd (true≢false f.nonzero_b)
over-plus (fin s m e) (fin t (suc n) d) q f h =
    let k = plus q (q_held s m e t n d f.held_a f.held_b q f.is) h in
    q_plus s m e t n d f.held_a f.held_b q f.is k.k k.c k.is

pub over-minus : (a b q : Float) → Divides a b q → is_nan q ≡ false → 0x8000_0000_0000_0000 ≤ to_bits binary64 q → to_bits binary64 q < 0xfff0_0000_0000_0000
    → ltb (size_of (to_bits binary64 q - 0x8000_0000_0000_0000) * size_of (mag b)) (size_of (mag a) * 2 ^ 1074) ≡ exceeds q (value a *ℚ invℚ (value b))
over-minus nan b q f N g h = absurd (false≢true f.finite_a)
over-minus (inf s) b q f N g h = absurd (false≢true f.finite_a)
over-minus (fin s m e) nan q f N g h = absurd (false≢true f.finite_b)
over-minus (fin s m e) (inf t) q f N g h = absurd (false≢true f.finite_b)
over-minus (fin s m e) (fin t zero d) q f N g h = absurd (true≢false f.nonzero_b)
over-minus (fin s m e) (fin t (suc n) d) q f N g h =
    let k = minus q (q_held s m e t n d f.held_a f.held_b q f.is) N g h in
    q_minus s m e t n d f.held_a f.held_b q f.is k.k k.c k.is

pub quotient_number : (a b : Float) → is_finite a ≡ true → is_finite b ≡ true → is_zero b ≡ false → is_nan (div binary64 a b) ≡ false
quotient_number nan b x y z = absurd (false≢true x)
quotient_number (inf s) b x y z = absurd (false≢true x)
quotient_number (fin s m e) nan x y z = absurd (false≢true y)
quotient_number (fin s m e) (inf t) x y z = absurd (false≢true y)
quotient_number (fin s m e) (fin t zero d) x y z = absurd (true≢false z)
quotient_number (fin s m e) (fin t (suc n) d) x y z = is_false (is_nan (div binary64 (fin s m e) (fin t (suc n) d))) (div-rounds s m e t n d).lows.is_number

-- a finite quotient, of either sign: above where its product with the divisor is too large, and, below zero, too small
pub over_sized : (a b q : Float) (r : Bool) (u v : ℕ) → Divides a b q → is_nan q ≡ false → to_bits binary64 q < 0x1_0000_0000_0000_0000 → mag q < 0x7ff0_0000_0000_0000 → u ≡ mag b → v ≡ mag a
    → r ≡ is_past (size_of (mag q) * size_of u) (size_of v * 2 ^ 1074) (ltb (to_bits binary64 q) 0x8000_0000_0000_0000) → r ≡ exceeds q (value a *ℚ invℚ (value b))
over_sized a b q r u v f N t h eu ev e =
    e ∙ ap₂ (λ (x y : ℕ). is_past (size_of (mag q) * size_of x) (size_of y * 2 ^ 1074) (ltb (to_bits binary64 q) 0x8000_0000_0000_0000)) eu ev
    ∙ elim (compare_le 0x8000_0000_0000_0000 (to_bits binary64 q)) [
      | inl g ↦ by-sides (to_bits binary64 q - 0x8000_0000_0000_0000) false (mag-minus q t g) (not-plus q g) ∙ over-minus a b q f N g (under-minus q t h g)
      | inr l ↦ by-sides (to_bits binary64 q) true (mag-plus q l) (is_true (ltb (to_bits binary64 q) 0x8000_0000_0000_0000) (lt→ltb _ _ l)) ∙ over-plus a b q f (subst (λ (z : ℕ). z < 0x7ff0_0000_0000_0000) (mag-plus q l) h)
    ]
  where
    by-sides : (z : ℕ) (m : Bool) → mag q ≡ z → ltb (to_bits binary64 q) 0x8000_0000_0000_0000 ≡ m
        → is_past (size_of (mag q) * size_of (mag b)) (size_of (mag a) * 2 ^ 1074) (ltb (to_bits binary64 q) 0x8000_0000_0000_0000) ≡ is_past (size_of z * size_of (mag b)) (size_of (mag a) * 2 ^ 1074) m
    by-sides z m p q = ap₂ (λ (z : ℕ) (m : Bool). is_past (size_of z * size_of (mag b)) (size_of (mag a) * 2 ^ 1074) m) p q

-- ---- the choice
pub quotient-chosen : (a b : Float) → (is_finite a && is_finite b && not (is_zero b)) ≡ true → lower (div binary64 a b) (value a *ℚ invℚ (value b)) ≡ quotient_down a b
unfolding quotient_down
quotient-chosen a b h = pick_yes _ _ _ h

pub quotient-passed : (a b : Float) → (is_finite a && is_finite b && not (is_zero b)) ≡ false → div binary64 a b ≡ quotient_down a b
unfolding quotient_down
quotient-passed a b h = pick_no _ _ _ h
