-- What `above_product` finds in each of the four kinds of a rounded product, and what `unbounded_product` and `product_down` choose. Assumes nothing.
use mathlib.Core.Path.{◌≡◌, refl, sym, ap, ap₂, ◌∙◌, subst}
use mathlib.Core.Logic.{inl, inr}
use mathlib.Core.Bool.{Bool, true, false, ◌&&◌, cond, true≢false, false≢true, ◌||◌}
use Prim.Native.Nat.{ℕ, zero, suc, ◌+◌, ◌-◌, ◌*◌, ◌^◌, ◌≤◌, ◌<◌}
use native.Mathlib.Omega.{arith}
use lib.IntN.{ℤ}
use lib.Dec.{T, eqb, ltb, eqb-suc-zero, leb, le→leb}
use lib.Ieee.{Float, nan, inf, fin, binary64, unlike, mul, fits, to_bits, is_nan, up, down}
use lib.Ieee.Fits.{mul-fits}
use lib.Ieee.Bits.{is_false, is_true}
use Rattle.exact.specs.Rational.{ℚ, ◌*ℚ◌}
use Rattle.math.specs.Neighbours.{next_down}
use Rattle.math.specs.RootLaws.{is_finite}
use Rattle.math.specs.Scalars.{zero_f}
use Rattle.math.specs.Values.{value}
use Rattle.math.specs.Digits.{size_of, is_past}
use Rattle.math.specs.Directed.{exceeds, is_zero, is_infinite, lower, product_down}
use Rattle.math.proofs.Bools.{compare_le}
use Rattle.math.proofs.Doubles.Operations.{mul-rounds}
use Rattle.math.proofs.Tight.Readings.{reading}
use Rattle.math.proofs.Tight.Products.{sign_of, round-sign, product-plus, product-minus}
use Rattle.math.proofs.Tight.Kinds.{mag, mag_is, mag-plus, mag-minus, under-minus, not-minus, plus, minus}

-- ---- the product
product-sign : (s : Bool) (m : ℕ) (e : ℤ) (t : Bool) (n : ℕ) (d : ℤ) → sign_of (mul binary64 (fin s m e) (fin t n d)) ≡ unlike s t
unfolding mul
product-sign s m e t n d = round-sign binary64 (unlike s t) (m * up e * (n * up d)) (down e * down d)

module _ (s : Bool) (m : ℕ) (e : ℤ) (t : Bool) (n : ℕ) (d : ℤ) (F : T (fits binary64 (fin s m e))) (G : T (fits binary64 (fin t n d))) (p : Float) (P : p ≡ mul binary64 (fin s m e) (fin t n d)) where
  abbrev exactly : ℚ
  exactly = value (fin s m e) *ℚ value (fin t n d)

  held : T (fits binary64 p)
  held = subst (λ (x : Float). T (fits binary64 x)) (sym P) (mul-fits binary64 (fin s m e) (fin t n d))

  p_plus : (k : ℕ) (c : ℤ) → p ≡ fin false k c → ltb (size_of (mag (fin s m e)) * size_of (mag (fin t n d))) (size_of (to_bits binary64 p) * 2 ^ 1074) ≡ exceeds p exactly
  p_plus k c q =
      let H : T (fits binary64 (fin false k c)) = subst (λ (x : Float). T (fits binary64 x)) q held in
      let r = reading false k c H in
      sized (mag (fin s m e)) _ (mag (fin t n d)) _ (to_bits binary64 p) _ (mag_is s m e F) (mag_is t n d G) (ap (to_bits binary64) q ∙ r.at ∙ none r.bits)
      ∙ product-plus s m e t n d F G k c (sym (product-sign s m e t n d) ∙ ap sign_of (sym P ∙ q)) H
      ∙ ap (λ (x : Float). exceeds x exactly) (sym q)
    where
      none : (b : ℕ) → 0 + b ≡ b
      none b = omega arith

      sized : (x x' y y' z z' : ℕ) → x ≡ x' → y ≡ y' → z ≡ z' → ltb (size_of x * size_of y) (size_of z * 2 ^ 1074) ≡ ltb (size_of x' * size_of y') (size_of z' * 2 ^ 1074)
      sized x x' y y' z z' ex ey ez = ap₂ (λ (v w : ℕ). ltb v w) (ap₂ (λ (v w : ℕ). size_of v * size_of w) ex ey) (ap (λ (v : ℕ). size_of v * 2 ^ 1074) ez)

  p_minus : (k : ℕ) (c : ℤ) → p ≡ fin true k c → ltb (size_of (to_bits binary64 p - 0x8000_0000_0000_0000) * 2 ^ 1074) (size_of (mag (fin s m e)) * size_of (mag (fin t n d))) ≡ exceeds p exactly
  p_minus k c q =
      let H : T (fits binary64 (fin true k c)) = subst (λ (x : Float). T (fits binary64 x)) q held in
      let r = reading true k c H in
      sized (mag (fin s m e)) _ (mag (fin t n d)) _ (to_bits binary64 p - 0x8000_0000_0000_0000) _ (mag_is s m e F) (mag_is t n d G) (ap (λ (x : Float). to_bits binary64 x - 0x8000_0000_0000_0000) q ∙ ap (λ (z : ℕ). z - 0x8000_0000_0000_0000) r.at ∙ off r.bits)
      ∙ product-minus s m e t n d F G k c (sym (product-sign s m e t n d) ∙ ap sign_of (sym P ∙ q)) H
      ∙ ap (λ (x : Float). exceeds x exactly) (sym q)
    where
      off : (b : ℕ) → 0x8000_0000_0000_0000 + b - 0x8000_0000_0000_0000 ≡ b
      off b = omega arith

      sized : (x x' y y' z z' : ℕ) → x ≡ x' → y ≡ y' → z ≡ z' → ltb (size_of z * 2 ^ 1074) (size_of x * size_of y) ≡ ltb (size_of z' * 2 ^ 1074) (size_of x' * size_of y')
      sized x x' y y' z z' ex ey ez = ap₂ (λ (v w : ℕ). ltb v w) (ap (λ (v : ℕ). size_of v * 2 ^ 1074) ez) (ap₂ (λ (v w : ℕ). size_of v * size_of w) ex ey)

-- THE LAWS, for finite factors
pub record Factors (a b p : Float) : Type 0 where
  pub held_a : T (fits binary64 a)
  pub held_b : T (fits binary64 b)
  pub finite_a : is_finite a ≡ true
  pub finite_b : is_finite b ≡ true
  pub is : p ≡ mul binary64 a b

pub above-plus : (a b p : Float) → Factors a b p → to_bits binary64 p < 0x7ff0_0000_0000_0000
    → ltb (size_of (mag a) * size_of (mag b)) (size_of (to_bits binary64 p) * 2 ^ 1074) ≡ exceeds p (value a *ℚ value b)
above-plus nan b p f h = absurd (false≢true f.finite_a)
above-plus (inf s) b p f h = absurd (false≢true f.finite_a)
above-plus (fin s m e) nan p f h = absurd (false≢true f.finite_b)
above-plus (fin s m e) (inf t) p f h = absurd (false≢true f.finite_b)
above-plus (fin s m e) (fin t n d) p f h =
    let q = plus p (held s m e t n d f.held_a f.held_b p f.is) h in
    p_plus s m e t n d f.held_a f.held_b p f.is q.k q.c q.is

pub above-minus : (a b p : Float) → Factors a b p → is_nan p ≡ false → 0x8000_0000_0000_0000 ≤ to_bits binary64 p → to_bits binary64 p < 0xfff0_0000_0000_0000
    → ltb (size_of (to_bits binary64 p - 0x8000_0000_0000_0000) * 2 ^ 1074) (size_of (mag a) * size_of (mag b)) ≡ exceeds p (value a *ℚ value b)
above-minus nan b p f N g h = absurd (false≢true f.finite_a)
above-minus (inf s) b p f N g h = absurd (false≢true f.finite_a)
above-minus (fin s m e) nan p f N g h = absurd (false≢true f.finite_b)
above-minus (fin s m e) (inf t) p f N g h = absurd (false≢true f.finite_b)
above-minus (fin s m e) (fin t n d) p f N g h =
    let q = minus p (held s m e t n d f.held_a f.held_b p f.is) N g h in
    p_minus s m e t n d f.held_a f.held_b p f.is q.k q.c q.is

-- a rounded product is a number
pub product_number : (a b : Float) → is_finite a ≡ true → is_finite b ≡ true → is_nan (mul binary64 a b) ≡ false
product_number nan b x y = absurd (false≢true x)
product_number (inf s) b x y = absurd (false≢true x)
product_number (fin s m e) nan x y = absurd (false≢true y)
product_number (fin s m e) (inf t) x y = absurd (false≢true y)
product_number (fin s m e) (fin t n d) x y = is_false (is_nan (mul binary64 (fin s m e) (fin t n d))) (mul-rounds s m e t n d).lows.is_number

-- a finite product, of either sign: above where its size is more than the exact one, and, below zero, less
pub above-sized : (a b p : Float) (r : Bool) (u v : ℕ) → Factors a b p → is_nan p ≡ false → to_bits binary64 p < 0x1_0000_0000_0000_0000 → mag p < 0x7ff0_0000_0000_0000 → u ≡ mag a → v ≡ mag b
    → r ≡ is_past (size_of u * size_of v) (size_of (mag p) * 2 ^ 1074) (leb 0x8000_0000_0000_0000 (to_bits binary64 p)) → r ≡ exceeds p (value a *ℚ value b)
above-sized a b p r u v f N t h eu ev e =
    e ∙ ap₂ (λ (x y : ℕ). is_past (size_of x * size_of y) (size_of (mag p) * 2 ^ 1074) (leb 0x8000_0000_0000_0000 (to_bits binary64 p))) eu ev
    ∙ elim (compare_le 0x8000_0000_0000_0000 (to_bits binary64 p)) [
      | inl g ↦ by-sides (to_bits binary64 p - 0x8000_0000_0000_0000) true (mag-minus p t g) (is_true (leb 0x8000_0000_0000_0000 (to_bits binary64 p)) (le→leb _ _ g)) ∙ above-minus a b p f N g (under-minus p t h g)
      | inr l ↦ by-sides (to_bits binary64 p) false (mag-plus p l) (not-minus p l) ∙ above-plus a b p f (subst (λ (z : ℕ). z < 0x7ff0_0000_0000_0000) (mag-plus p l) h)
    ]
  where
    by-sides : (z : ℕ) (m : Bool) → mag p ≡ z → leb 0x8000_0000_0000_0000 (to_bits binary64 p) ≡ m
        → is_past (size_of (mag a) * size_of (mag b)) (size_of (mag p) * 2 ^ 1074) (leb 0x8000_0000_0000_0000 (to_bits binary64 p)) ≡ is_past (size_of (mag a) * size_of (mag b)) (size_of z * 2 ^ 1074) m
    by-sides z m p q = ap₂ (λ (z : ℕ) (m : Bool). is_past (size_of (mag a) * size_of (mag b)) (size_of z * 2 ^ 1074) m) p q

-- ---- products that are not of two finite factors
pub at_number : (a b : Float) → (is_finite a && is_finite b) ≡ false → is_nan (mul binary64 a b) ≡ false → mul binary64 a b ≡ product_down a b
unfolding product_down mul is_nan
at_number nan b f h = refl
at_number (inf s) nan f h = refl
at_number (inf s) (inf t) f h = refl
at_number (inf s) (fin t zero d) f h = absurd (true≢false h)
at_number (inf s) (fin t (suc n) d) f h = refl
at_number (fin s m e) nan f h = absurd (true≢false h)
at_number (fin s zero e) (inf t) f h = absurd (true≢false h)
at_number (fin s (suc m) e) (inf t) f h = refl
at_number (fin s m e) (fin t n d) f h = absurd (true≢false f)

pub at_nan_left : (a b : Float) → is_nan a ≡ true → mul binary64 a b ≡ product_down a b
unfolding product_down mul is_nan
at_nan_left nan b h = refl
at_nan_left (inf s) b h = absurd (false≢true h)
at_nan_left (fin s m e) b h = absurd (false≢true h)

pub at_nan_right : (a b : Float) → is_nan b ≡ true → mul binary64 a b ≡ product_down a b
unfolding product_down mul is_nan
at_nan_right a (inf t) h = absurd (false≢true h)
at_nan_right a (fin t n d) h = absurd (false≢true h)
at_nan_right nan nan h = refl
at_nan_right (inf s) nan h = refl
at_nan_right (fin s zero e) nan h = refl
at_nan_right (fin s (suc m) e) nan h = refl

infinite_number : (b u : Bool) → b ≡ false → is_nan (cond b nan (inf u)) ≡ false
unfolding is_nan
infinite_number true u h = absurd (true≢false h)
infinite_number false u h = refl

pub at_zero : (a b : Float) → (is_finite a && is_finite b) ≡ false → is_nan (mul binary64 a b) ≡ true → is_nan a ≡ false → is_nan b ≡ false → zero_f ≡ product_down a b
unfolding product_down mul is_nan
at_zero nan b f h x y = absurd (true≢false x)
at_zero (inf s) nan f h x y = absurd (true≢false y)
at_zero (inf true) (inf true) f h x y = absurd (false≢true h)
at_zero (inf true) (inf false) f h x y = absurd (false≢true h)
at_zero (inf false) (inf true) f h x y = absurd (false≢true h)
at_zero (inf false) (inf false) f h x y = absurd (false≢true h)
at_zero (inf s) (fin t zero d) f h x y = refl
at_zero (inf s) (fin t (suc n) d) f h x y = absurd (false≢true (sym (unfold is_nan in infinite_number (eqb (suc n) 0) (unlike s t) (eqb-suc-zero n)) ∙ h))
at_zero (fin s m e) nan f h x y = absurd (true≢false y)
at_zero (fin s zero e) (inf t) f h x y = refl
at_zero (fin s (suc m) e) (inf t) f h x y = absurd (false≢true (sym (unfold is_nan in infinite_number (eqb (suc m) 0) (unlike s t) (eqb-suc-zero m)) ∙ h))
at_zero (fin s m e) (fin t n d) f h x y = absurd (true≢false f)

-- ---- the choice between p and the double before it
pub product-chosen : (a b : Float) → is_finite a ≡ true → is_finite b ≡ true → lower (mul binary64 a b) (value a *ℚ value b) ≡ product_down a b
product-chosen a b x y = unfold product_down in sym (ap (λ (t : Bool). cond t (lower (mul binary64 a b) (value a *ℚ value b)) (cond ((is_zero a && is_infinite b) || (is_infinite a && is_zero b)) zero_f (mul binary64 a b))) (both (is_finite a) (is_finite b) x y))
  where
    both : (s t : Bool) → s ≡ true → t ≡ true → (s && t) ≡ true
    both s t x y = ap₂ ◌&&◌ x y

pub moved-or-stayed : (p : Float) (v : ℚ) (r : Bool) → r ≡ exceeds p v → cond r (next_down p) p ≡ lower p v
moved-or-stayed p v r e = unfold lower in ap (λ (t : Bool). cond t (next_down p) p) e
