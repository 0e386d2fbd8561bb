-- Comparisons of known doubles are comparisons of their numbers, and a known bound of an interval is a bound of the numbers in it. Assumes nothing.
use mathlib.Core.Path.{◌≡◌, sym, ap, ◌∙◌, subst}
use mathlib.Core.Logic.{inl, inr}
use mathlib.Core.Bool.{not}
use lib.Dec.{T}
use lib.Ieee.{Float, fin, lt, le, eq}
use Rattle.exact.specs.Rational.{ℚ, ◌≤ℚ◌, ◌<ℚ◌}
use Rattle.exact.proofs.Order.{le_refl, le_or_lt}
use Rattle.math.specs.Scalars.{sharp}
use Rattle.math.specs.Values.{value, Below, Above, Holds}
use Rattle.math.proofs.Bools.{never}
use Rattle.math.proofs.Doubles.Order.{lt_not_le}
use Rattle.math.proofs.Doubles.Values.{value→lt, value→le, eq→value, value→eq}
use Rattle.math.proofs.Intervals.Sizes.{moderate}
use Rattle.model.proofs.Sound.Base.{Known}

-- ---- from numbers to tests
pub sharp_known : (x : Float) → Known x → Holds (sharp x) (value x)
sharp_known x k = let f = moderate x k.moderate in subst (λ (z : Float). Holds (sharp z) (value z)) (sym f.is) (record { low = le_refl (value (fin f.s f.m f.e)); high = le_refl (value (fin f.s f.m f.e)) })

pub lt_known : (x y : Float) → Known x → Known y → value x <ℚ value y → T (lt x y)
lt_known x y k l h =
    let f = moderate x k.moderate in
    let g = moderate y l.moderate in
    subst (λ (z : Float). T (lt z y)) (sym f.is) (subst (λ (z : Float). T (lt (fin f.s f.m f.e) z)) (sym g.is) (value→lt f.s f.m f.e g.s g.m g.e (subst (λ (z : Float). value z <ℚ value (fin g.s g.m g.e)) f.is (subst (λ (z : Float). value x <ℚ value z) g.is h))))

pub le_known : (x y : Float) → Known x → Known y → value x ≤ℚ value y → T (le x y)
le_known x y k l h =
    let f = moderate x k.moderate in
    let g = moderate y l.moderate in
    subst (λ (z : Float). T (le z y)) (sym f.is) (subst (λ (z : Float). T (le (fin f.s f.m f.e) z)) (sym g.is) (value→le f.s f.m f.e g.s g.m g.e (subst (λ (z : Float). value z ≤ℚ value (fin g.s g.m g.e)) f.is (subst (λ (z : Float). value x ≤ℚ value z) g.is h))))

pub eq_known : (x y : Float) → Known x → Known y → T (eq x y) → value x ≡ value y
eq_known x y k l h =
    let f = moderate x k.moderate in
    let g = moderate y l.moderate in
    ap value f.is ∙ eq→value f.s f.m f.e g.s g.m g.e (subst (λ (z : Float). T (eq z (fin g.s g.m g.e))) f.is (subst (λ (z : Float). T (eq x z)) g.is h)) ∙ sym (ap value g.is)

pub known_eq : (x y : Float) → Known x → Known y → value x ≡ value y → T (eq x y)
known_eq x y k l h =
    let f = moderate x k.moderate in
    let g = moderate y l.moderate in
    subst (λ (z : Float). T (eq z y)) (sym f.is) (subst (λ (z : Float). T (eq (fin f.s f.m f.e) z)) (sym g.is) (value→eq f.s f.m f.e g.s g.m g.e (sym (ap value f.is) ∙ h ∙ ap value g.is)))

-- ---- from tests to numbers
pub not_lt_known : (x y : Float) → Known x → Known y → T (not (lt x y)) → value y ≤ℚ value x
not_lt_known x y k l n = elim (le_or_lt (value y) (value x)) [
  | inl h ↦ h
  | inr h ↦ absurd (never (lt x y) n (lt_known x y k l h))
]

pub le_value : (x y : Float) → Known x → Known y → T (le x y) → value x ≤ℚ value y
le_value x y k l t = elim (le_or_lt (value x) (value y)) [
  | inl h ↦ h
  | inr h ↦ absurd (lt_not_le y x (lt_known y x l k h) t)
]

pub lt_value : (x y : Float) → Known x → Known y → T (lt x y) → value x <ℚ value y
lt_value x y k l t = elim (le_or_lt (value y) (value x)) [
  | inr h ↦ h
  | inl h ↦ absurd (lt_not_le x y t (le_known y x l k h))
]

-- ---- the bounds of an interval
pub low_value : (x : Float) (q : ℚ) → Known x → Below x q → value x ≤ℚ q
low_value x q k = subst (λ (z : Float). Below z q → value z ≤ℚ q) (sym (moderate x k.moderate).is) (λ b. b)

pub high_value : (x : Float) (q : ℚ) → Known x → Above x q → q ≤ℚ value x
high_value x q k = subst (λ (z : Float). Above z q → q ≤ℚ value z) (sym (moderate x k.moderate).is) (λ b. b)
