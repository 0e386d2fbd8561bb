-- The order of doubles: its mirror image below zero, and the order of two values by their sizes. Assumes nothing.
use mathlib.Core.Path.{◌≡◌, refl, sym, ap, subst}
use Prim.Native.Nat.{ℕ, ◌*◌, ◌<◌}
use native.Mathlib.Nat.{add_comm, mul_comm, mul_assoc, mul_left_comm, mul-lt-mul_of_pos_right, lt_of_mul-lt-mul_right, lt_of_lt_of_le, lt_of_le_of_lt, le_of_eq, mul-pos}
use mathlib.Core.Bool.{Bool, true, false, true≢false}
use lib.Dec.{T, ltb, lt→ltb}
use lib.Ieee.{Float, nan, inf, fin, up, down, neg, lt}
use lib.Ieee.Fits.{down_pos}
use lib.Ieee.Exact.{HasValue}

pub neg-neg : (x : Float) → neg (neg x) ≡ x
unfolding neg
neg-neg nan = refl
neg-neg (inf true) = refl
neg-neg (inf false) = refl
neg-neg (fin true m e) = refl
neg-neg (fin false m e) = refl

pub neg_lt : (x y : Float) → T (lt x y) → T (lt (neg y) (neg x))
unfolding lt neg
neg_lt nan y t = absurd t
neg_lt (inf s) nan t = absurd t
neg_lt (inf true) (inf true) t = absurd t
neg_lt (inf true) (inf false) t = tt
neg_lt (inf false) (inf u) t = absurd t
neg_lt (inf true) (fin u n d) t = tt
neg_lt (inf false) (fin u n d) t = absurd t
neg_lt (fin s m e) nan t = absurd t
neg_lt (fin s m e) (inf true) t = absurd t
neg_lt (fin s m e) (inf false) t = tt
neg_lt (fin true m e) (fin true n d) t = t
neg_lt (fin true m e) (fin false n d) t = subst (λ (z : ℕ). T (ltb 0 z)) (add_comm (m * up e * down d) (n * up d * down e)) t
neg_lt (fin false m e) (fin true n d) t = absurd t
neg_lt (fin false m e) (fin false n d) t = t

pub lt_neg : (x y : Float) → lt (neg y) (neg x) ≡ lt x y
lt_neg x y = go (lt (neg y) (neg x)) (lt x y) (λ t. subst (λ (z : Float). T (lt z y)) (neg-neg x) (subst (λ (z : Float). T (lt (neg (neg x)) z)) (neg-neg y) (neg_lt (neg y) (neg x) t))) (neg_lt x y)
  where
    go : (a b : Bool) → (T a → T b) → (T b → T a) → a ≡ b
    go true true f g = refl
    go false false f g = refl
    go true false f g = absurd (f tt)
    go false true f g = absurd (g tt)

-- x / de is a / c and y / dd is b / c, so a < b gives x / de < y / dd
cross : (x y de dd a b c : ℕ) → 0 < de → 0 < dd → x * c ≡ a * de → y * c ≡ b * dd → a < b → x * dd < y * de
cross x y de dd a b c DE DD p q h =
    let l : x * dd * c ≡ a * (de * dd) = simp (mul_assoc, mul_comm, mul_left_comm) (simp (mul_assoc, mul_comm, mul_left_comm) at (ap (λ (z : ℕ). z * dd) p)) in
    let r : y * de * c ≡ b * (de * dd) = simp (mul_assoc, mul_comm, mul_left_comm) (simp (mul_assoc, mul_comm, mul_left_comm) at (ap (λ (z : ℕ). z * de) q)) in
    lt_of_mul-lt-mul_right c (lt_of_le_of_lt (le_of_eq l) (lt_of_lt_of_le (mul-lt-mul_of_pos_right h (mul-pos DE DD)) (le_of_eq (sym r))))

pub lt_of_values : (x y : Float) (a b c : ℕ) → HasValue x false a c → HasValue y false b c → a < b → T (lt x y)
unfolding lt
lt_of_values nan y a b c p q h = absurd p
lt_of_values (inf s) y a b c p q h = absurd p
lt_of_values (fin true m e) y a b c p q h = absurd (true≢false p.0)
lt_of_values (fin false m e) nan a b c p q h = absurd q
lt_of_values (fin false m e) (inf s) a b c p q h = absurd q
lt_of_values (fin false m e) (fin true n d) a b c p q h = absurd (true≢false q.0)
lt_of_values (fin false m e) (fin false n d) a b c p q h =
    lt→ltb (m * up e * down d) (n * up d * down e) (cross (m * up e) (n * up d) (down e) (down d) a b c (down_pos e) (down_pos d) p.1 q.1 h)

-- a finite value is below the positive infinity
pub lt_inf : (x : Float) (s : Bool) (a c : ℕ) → HasValue x s a c → T (lt x (inf false))
unfolding lt
lt_inf nan s a c p = absurd p
lt_inf (inf t) s a c p = absurd p
lt_inf (fin t m e) s a c p = tt
