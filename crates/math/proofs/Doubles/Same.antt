-- Two doubles that are equal in order have the same neighbours: they are one double, or two zeros. Assumes nothing.
use mathlib.Core.Path.{◌≡◌, refl, sym, ap, subst}
use mathlib.Core.Bool.{Bool, true, false, ◌||◌, beq}
use Prim.Native.Nat.{ℕ, zero, suc, ◌*◌}
use lib.IntN.{ℤ}
use lib.Dec.{T, eqb, eqb→eq}
use lib.Ieee.{Float, nan, inf, fin, binary64, up, down, le, eq, fits, neg}
use lib.Ieee.Fits.{neg-fits}
use Rattle.exact.specs.Rational.{ℚ, 0ℚ, ◌≤ℚ◌, lt→not_le}
use Rattle.exact.proofs.Order.{le_antisym}
use Rattle.math.specs.Neighbours.{next_up, next_down}
use Rattle.math.specs.Values.{value}
use Rattle.math.proofs.Bools.{and_l}
use Rattle.math.proofs.Doubles.Values.{value-nonneg, value_nonpos, value-above, value-under, le→value, value→eq}
use Rattle.math.proofs.Doubles.Order.{neg_le}
use Rattle.math.proofs.Doubles.Held.{unique}

-- one sign: the same double
module _ (s : Bool) (m : ℕ) (e : ℤ) (n : ℕ) (d : ℤ) where
  one_sign : T (fits binary64 (fin s m e)) → T (fits binary64 (fin s n d)) → value (fin s m e) ≡ value (fin s n d) → fin s m e ≡ fin s n d
  unfolding eq
  one_sign F G v =
      let h : T (eqb (m * up e * down d) (n * up d * down e)) = and_l (eqb (m * up e * down d) (n * up d * down e)) (beq s s || eqb (m * up e * down d) 0) (value→eq s m e s n d v) in
      unique binary64 s m e n d F G (eqb→eq (m * up e * down d) (n * up d * down e) h)

-- two signs: two zeros
two_signs : (m : ℕ) (e : ℤ) (n : ℕ) (d : ℤ) → value (fin false m e) ≡ value (fin true n d) → next_up (fin false m e) ≡ next_up (fin true n d)
unfolding next_up
two_signs zero e zero d v = refl
two_signs (suc m) e n d v = absurd (lt→not_le (value-above m e) (subst (λ (z : ℚ). z ≤ℚ 0ℚ) (sym v) (value_nonpos n d)))
two_signs zero e (suc n) d v = absurd (lt→not_le (value-under n d) (subst (λ (z : ℚ). 0ℚ ≤ℚ z) v (value-nonneg zero e)))

by_signs : (s : Bool) (m : ℕ) (e : ℤ) (t : Bool) (n : ℕ) (d : ℤ) → T (fits binary64 (fin s m e)) → T (fits binary64 (fin t n d)) → value (fin s m e) ≡ value (fin t n d) → next_up (fin s m e) ≡ next_up (fin t n d)
by_signs true m e true n d F G v = ap next_up (one_sign true m e n d F G v)
by_signs false m e false n d F G v = ap next_up (one_sign false m e n d F G v)
by_signs false m e true n d F G v = two_signs m e n d v
by_signs true m e false n d F G v = sym (two_signs n d m e (sym v))

-- THE LAWS
up_same : (x y : Float) → T (fits binary64 x) → T (fits binary64 y) → T (le x y) → T (le y x) → next_up x ≡ next_up y
up_same nan y F G h k = unfold le in absurd h
up_same (inf s) nan F G h k = unfold le in absurd h
up_same (inf true) (inf true) F G h k = refl
up_same (inf false) (inf false) F G h k = refl
up_same (inf true) (inf false) F G h k = unfold le in absurd k
up_same (inf false) (inf true) F G h k = unfold le in absurd h
up_same (inf true) (fin t n d) F G h k = unfold le in absurd k
up_same (inf false) (fin t n d) F G h k = unfold le in absurd h
up_same (fin s m e) nan F G h k = unfold le in absurd h
up_same (fin s m e) (inf true) F G h k = unfold le in absurd h
up_same (fin s m e) (inf false) F G h k = unfold le in absurd k
up_same (fin s m e) (fin t n d) F G h k = by_signs s m e t n d F G (le_antisym (le→value s m e t n d h) (le→value t n d s m e k))

pub down_same : (x y : Float) → T (fits binary64 x) → T (fits binary64 y) → T (le x y) → T (le y x) → next_down x ≡ next_down y
unfolding next_down
down_same x y F G h k = ap neg (up_same (neg x) (neg y) (neg-fits binary64 x F) (neg-fits binary64 y G) (neg_le y x k) (neg_le x y h))
