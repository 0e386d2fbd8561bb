-- The order of doubles, infinities included, and the numbers that they bound: le is a total order on all but NaN, and x ≤ y exactly where every number that y bounds from
-- below x bounds too. Assumes nothing.
use mathlib.Core.Path.{sym, subst}
use mathlib.Core.List.{[], ◌∷◌}
use mathlib.Core.Logic.{inl, inr}
use mathlib.Core.Bool.{Bool, true, false, not}
use lib.Dec.{T}
use lib.Ieee.{Float, nan, inf, fin, neg, lt, le, eq, is_nan}
use Rattle.solver.proofs.Ring.{by_rep, read}
use Rattle.exact.specs.Rational.{ℚ, -ℚ◌, ◌-ℚ◌, 0ℚ, 1ℚ, ◌≤ℚ◌, nn_of, lt→not_le}
use Rattle.exact.proofs.Field.{ℚring}
use Rattle.exact.proofs.Order.{le_by, le_refl, le_trans as ≤_trans, le_or_lt, 0<1, neg-mono}
use Rattle.math.specs.Values.{value, Below, Above}
use Rattle.math.proofs.Bools.{decide, or_l}
use Rattle.math.proofs.Doubles.Values.{value-neg, lt→value, value→lt, le→value, value→le}

-- ---- numbers
abbrev pub number : Float → Bool
number x = not (is_nan x)

pub number_neg : (x : Float) → T (number x) → T (number (neg x))
unfolding is_nan neg
number_neg nan t = t
number_neg (inf s) t = t
number_neg (fin s m e) t = t

pub le_number_l : (x y : Float) → T (le x y) → T (number x)
unfolding le is_nan
le_number_l nan y t = t
le_number_l (inf s) y t = tt
le_number_l (fin s m e) y t = tt

pub le_number_r : (x y : Float) → T (le x y) → T (number y)
unfolding le is_nan
le_number_r nan nan t = t
le_number_r (inf s) nan t = t
le_number_r (fin s m e) nan t = t
le_number_r x (inf s) t = tt
le_number_r x (fin s m e) t = tt

pub below_number : (x : Float) (q : ℚ) → Below x q → T (number x)
unfolding is_nan
below_number nan q h = absurd h
below_number (inf s) q h = tt
below_number (fin s m e) q h = tt

pub above_number : (x : Float) (q : ℚ) → Above x q → T (number x)
unfolding is_nan
above_number nan q h = absurd h
above_number (inf s) q h = tt
above_number (fin s m e) q h = tt

-- ---- bounds of one number
pub below-mono : (x : Float) (p q : ℚ) → p ≤ℚ q → Below x p → Below x q
below-mono nan p q h b = b
below-mono (inf true) p q h b = tt
below-mono (inf false) p q h b = b
below-mono (fin s m e) p q h b = ≤_trans b h

pub above-mono : (x : Float) (p q : ℚ) → p ≤ℚ q → Above x q → Above x p
above-mono nan p q h b = b
above-mono (inf true) p q h b = b
above-mono (inf false) p q h b = tt
above-mono (fin s m e) p q h b = ≤_trans h b

-- the mirror image
pub below-neg : (x : Float) (q : ℚ) → Below x q → Above (neg x) (-ℚ q)
unfolding neg
below-neg nan q h = h
below-neg (inf true) q h = tt
below-neg (inf false) q h = h
below-neg (fin s m e) q h = subst (λ (z : ℚ). -ℚ q ≤ℚ z) (sym (unfold neg in value-neg (fin s m e))) (neg-mono h)

pub above-neg : (x : Float) (q : ℚ) → Above x q → Below (neg x) (-ℚ q)
unfolding neg
above-neg nan q h = h
above-neg (inf true) q h = h
above-neg (inf false) q h = tt
above-neg (fin s m e) q h = subst (λ (z : ℚ). z ≤ℚ -ℚ q) (sym (unfold neg in value-neg (fin s m e))) (neg-mono h)

-- x ≤ q ≤ y
pub meet_le : (x y : Float) (q : ℚ) → Below x q → Above y q → T (le x y)
unfolding le
meet_le nan y q h k = absurd h
meet_le (inf false) y q h k = absurd h
meet_le (inf true) nan q h k = absurd k
meet_le (inf true) (inf true) q h k = absurd k
meet_le (inf true) (inf false) q h k = tt
meet_le (inf true) (fin t n d) q h k = tt
meet_le (fin s m e) nan q h k = absurd k
meet_le (fin s m e) (inf true) q h k = absurd k
meet_le (fin s m e) (inf false) q h k = tt
meet_le (fin s m e) (fin t n d) q h k = value→le s m e t n d (≤_trans h k)

-- ---- a lesser double bounds what a greater one bounds from below, and the other way round above
pub le_below : (x y : Float) (q : ℚ) → T (le x y) → Below y q → Below x q
unfolding le
le_below nan y q h b = absurd h
le_below (inf true) y q h b = tt
le_below (inf false) nan q h b = absurd b
le_below (inf false) (inf true) q h b = absurd h
le_below (inf false) (inf false) q h b = b
le_below (inf false) (fin t n d) q h b = absurd h
le_below (fin s m e) nan q h b = absurd b
le_below (fin s m e) (inf true) q h b = absurd h
le_below (fin s m e) (inf false) q h b = absurd b
le_below (fin s m e) (fin t n d) q h b = ≤_trans (le→value s m e t n d h) b

pub le_above : (x y : Float) (q : ℚ) → T (le x y) → Above x q → Above y q
unfolding le
le_above nan y q h b = absurd h
le_above (inf true) y q h b = absurd b
le_above (inf false) nan q h b = absurd h
le_above (inf false) (inf true) q h b = absurd h
le_above (inf false) (inf false) q h b = tt
le_above (inf false) (fin t n d) q h b = absurd h
le_above (fin s m e) nan q h b = absurd h
le_above (fin s m e) (inf true) q h b = absurd h
le_above (fin s m e) (inf false) q h b = tt
le_above (fin s m e) (fin t n d) q h b = ≤_trans b (le→value s m e t n d h)

no_less : (x : ℚ) → x ≤ℚ x -ℚ 1ℚ → ⊥
no_less x h = lt→not_le 0<1 (le_by (nn_of h) (by_rep ℚring (x ∷ []) (search read) (search read) tt))

-- and that is all that ≤ says
bounds_le : (x y : Float) → T (number x) → T (number y) → ((q : ℚ) → Below y q → Below x q) → T (le x y)
unfolding le is_nan
bounds_le nan y n k f = absurd n
bounds_le (inf s) nan n k f = absurd k
bounds_le (inf true) (inf true) n k f = tt
bounds_le (inf true) (inf false) n k f = tt
bounds_le (inf true) (fin t m d) n k f = tt
bounds_le (inf false) (inf true) n k f = absurd (f 0ℚ tt)
bounds_le (inf false) (inf false) n k f = tt
bounds_le (inf false) (fin t m d) n k f = absurd (f (value (fin t m d)) (le_refl (value (fin t m d))))
bounds_le (fin s m e) nan n k f = absurd k
bounds_le (fin s m e) (inf true) n k f = absurd (no_less (value (fin s m e)) (f (value (fin s m e) -ℚ 1ℚ) tt))
bounds_le (fin s m e) (inf false) n k f = tt
bounds_le (fin s m e) (fin t j d) n k f = value→le s m e t j d (f (value (fin t j d)) (le_refl (value (fin t j d))))

-- ---- a total order
pub le_trans : (x y z : Float) → T (le x y) → T (le y z) → T (le x z)
le_trans x y z h k = bounds_le x z (le_number_l x y h) (le_number_r y z k) (λ q b. le_below x y q h (le_below y z q k b))

pub le_self : (x : Float) → T (number x) → T (le x x)
le_self x n = bounds_le x x n n (λ q b. b)

pub lt→le_f : (x y : Float) → T (lt x y) → T (le x y)
unfolding le
lt→le_f x y t = or_l (lt x y) (eq x y) t

pub lt_not_le : (x y : Float) → T (lt x y) → T (le y x) → ⊥
unfolding lt le
lt_not_le nan y h k = absurd h
lt_not_le (inf s) nan h k = absurd h
lt_not_le (inf true) (inf true) h k = absurd h
lt_not_le (inf true) (inf false) h k = absurd k
lt_not_le (inf false) (inf t) h k = absurd h
lt_not_le (inf true) (fin t n d) h k = absurd k
lt_not_le (inf false) (fin t n d) h k = absurd h
lt_not_le (fin s m e) nan h k = absurd h
lt_not_le (fin s m e) (inf true) h k = absurd h
lt_not_le (fin s m e) (inf false) h k = absurd k
lt_not_le (fin s m e) (fin t n d) h k = lt→not_le (lt→value s m e t n d h) (le→value t n d s m e k)

pub total-order : (x y : Float) → T (number x) → T (number y) → T (not (lt y x)) → T (le x y)
unfolding lt le is_nan
total-order nan y n k t = absurd n
total-order (inf s) nan n k t = absurd k
total-order (inf true) (inf true) n k t = tt
total-order (inf true) (inf false) n k t = tt
total-order (inf false) (inf true) n k t = absurd t
total-order (inf false) (inf false) n k t = tt
total-order (inf true) (fin u j d) n k t = tt
total-order (inf false) (fin u j d) n k t = absurd t
total-order (fin s m e) nan n k t = absurd k
total-order (fin s m e) (inf true) n k t = absurd t
total-order (fin s m e) (inf false) n k t = tt
total-order (fin s m e) (fin u j d) n k t = elim (le_or_lt (value (fin s m e)) (value (fin u j d))) [
  | inl h ↦ value→le s m e u j d h
  | inr h ↦ absurd (neither (lt (fin u j d) (fin s m e)) t (value→lt u j d s m e h))
]
  where
    neither : (b : Bool) → T (not b) → T b → ⊥
    neither true t u = t
    neither false t u = u

pub lt_le : (x y z : Float) → T (lt x y) → T (le y z) → T (lt x z)
lt_le x y z h l = elim (decide (lt x z)) [
  | inl t ↦ t
  | inr n ↦ absurd (lt_not_le x y h (le_trans y z x l (total-order z x (le_number_r y z l) (le_number_l x y (lt→le_f x y h)) n)))
]

pub le_lt : (x y z : Float) → T (le x y) → T (lt y z) → T (lt x z)
le_lt x y z l h = elim (decide (lt x z)) [
  | inl t ↦ t
  | inr n ↦ absurd (lt_not_le y z h (le_trans z x y (total-order z x (le_number_r y z (lt→le_f y z h)) (le_number_l x y l) n) l))
]

pub lt_self : (x : Float) → T (lt x x) → ⊥
lt_self x t = lt_not_le x x t (lt→le_f x x t)

-- the mirror image
pub neg_le : (x y : Float) → T (le x y) → T (le (neg y) (neg x))
unfolding neg le
neg_le nan y h = absurd h
neg_le (inf s) nan h = absurd h
neg_le (inf true) (inf true) h = tt
neg_le (inf true) (inf false) h = tt
neg_le (inf false) (inf true) h = absurd h
neg_le (inf false) (inf false) h = tt
neg_le (inf true) (fin t n d) h = tt
neg_le (inf false) (fin t n d) h = absurd h
neg_le (fin s m e) nan h = absurd h
neg_le (fin s m e) (inf true) h = absurd h
neg_le (fin s m e) (inf false) h = tt
neg_le (fin s m e) (fin t n d) h =
    value→le (not t) n d (not s) m e
    (subst (λ (z : ℚ). z ≤ℚ value (fin (not s) m e)) (sym (unfold neg in value-neg (fin t n d))) (subst (λ (z : ℚ). -ℚ value (fin t n d) ≤ℚ z) (sym (unfold neg in value-neg (fin s m e))) (neg-mono (le→value s m e t n d h))))
