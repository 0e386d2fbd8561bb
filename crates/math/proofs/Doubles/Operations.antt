-- The sum, the product and the quotient of two finite doubles round the exact sum, product and quotient of their numbers. Assumes nothing.
use mathlib.Core.Path.{◌≡◌, sym, ap, ap₂, ◌∙◌, subst}
use mathlib.Core.List.{[], ◌∷◌}
use mathlib.Core.Bool.{Bool, true, false, not, cond}
use Prim.Native.Nat.{ℕ, suc, ◌+◌, ◌-◌, ◌*◌, ◌≤◌, ◌<◌}
use native.Mathlib.Nat.{mul-pos, mul_comm, zero-lt-suc, le_of_lt}
use native.Mathlib.Omega.{arith}
use lib.IntN.{ℤ}
use lib.Dec.{T, ltb, eqb, ltb→lt, nltb→le, eqb-suc-zero}
use lib.Ieee.{Float, nan, inf, fin, binary64, up, down, unlike, round, sum, add, mul, div}
use lib.Ieee.Fits.{up_pos, down_pos}
use Rattle.solver.proofs.Ring.{by_rep, by_eq, read}
use Rattle.exact.specs.Rational.{ℚ, ◌+ℚ◌, ◌*ℚ◌, -ℚ◌, ◌-ℚ◌, 1ℚ, invℚ, ◌÷◌, signed}
use Rattle.exact.proofs.Field.{ℚring}
use Rattle.exact.proofs.Embed.{÷_wide, ÷_add, ÷_sub, ÷_mul, ÷_eq, ÷_one, signed_mul, signed-inv}
use Rattle.math.specs.Values.{value}
use Rattle.math.proofs.Bools.{pick}
use Rattle.math.proofs.Doubles.Rounding.{Rounds, rounds_at, round-rounds}

-- ---- the sum of ±a / c and ±b / c
module _ (a b c : ℕ) (C : 0 < c) where
  -- b - a and a - b over c
  rest : b ≤ a → (a - b) ÷ c ≡ a ÷ c -ℚ b ÷ c
  rest h = ÷_sub a b c C h

  rest' : a ≤ b → (b - a) ÷ c ≡ b ÷ c -ℚ a ÷ c
  rest' h = ÷_sub b a c C h

  none : b ≤ a → a ≤ b → a - b ≡ b - a
  none h k = omega arith

  minus : (x y z : ℚ) → x ≡ y -ℚ z → -ℚ x ≡ z +ℚ -ℚ y
  minus x y z e = by_eq ℚring (-ℚ 1ℚ) e (by_rep ℚring (x ∷ y ∷ z ∷ []) (search read) (search read) tt)

  swap : (x y z : ℚ) → x ≡ y -ℚ z → x ≡ -ℚ z +ℚ y
  swap x y z e = by_eq ℚring 1ℚ e (by_rep ℚring (x ∷ y ∷ z ∷ []) (search read) (search read) tt)

  both : (x y : ℚ) → -ℚ (x +ℚ y) ≡ -ℚ x +ℚ -ℚ y
  both x y = by_rep ℚring (x ∷ y ∷ []) (search read) (search read) tt

  sum-rounds : (s t : Bool) → Rounds (sum binary64 s a t b c) (signed s (a ÷ c) +ℚ signed t (b ÷ c))
  unfolding sum
  sum-rounds false false = rounds_at _ _ _ (sym (÷_add a b c C)) (round-rounds (a + b) c C false)
  sum-rounds true true = rounds_at _ _ _ (ap (λ (z : ℚ). -ℚ z) (sym (÷_add a b c C)) ∙ both (a ÷ c) (b ÷ c)) (round-rounds (a + b) c C true)
  sum-rounds false true = pick (λ (r : Float). Rounds r (a ÷ c +ℚ -ℚ (b ÷ c))) (ltb a b) (round binary64 true (b - a) c) (round binary64 false (a - b) c)
      (λ h. rounds_at _ _ _ (minus _ _ _ (rest' (le_of_lt (ltb→lt a b h)))) (round-rounds (b - a) c C true))
      (λ h. rounds_at _ _ _ (rest (nltb→le a b h)) (round-rounds (a - b) c C false))
  sum-rounds true false = pick (λ (r : Float). Rounds r (-ℚ (a ÷ c) +ℚ b ÷ c)) (ltb a b) (round binary64 false (b - a) c) (round binary64 (ltb b a) (a - b) c)
      (λ h. rounds_at _ _ _ (swap _ _ _ (rest' (le_of_lt (ltb→lt a b h)))) (round-rounds (b - a) c C false))
      (λ h. by_sign (ltb b a) (nltb→le a b h) (ltb→lt b a) (nltb→le b a))
    where
      by_sign : (t : Bool) → b ≤ a → (T t → b < a) → (T (not t) → a ≤ b) → Rounds (round binary64 t (a - b) c) (-ℚ (a ÷ c) +ℚ b ÷ c)
      by_sign true h g k = rounds_at _ _ _ (minus _ _ _ (rest h) ∙ turn (a ÷ c) (b ÷ c)) (round-rounds (a - b) c C true)
        where
          turn : (x y : ℚ) → y +ℚ -ℚ x ≡ -ℚ x +ℚ y
          turn x y = by_rep ℚring (x ∷ y ∷ []) (search read) (search read) tt
      by_sign false h g k = rounds_at _ _ _ (ap (λ (z : ℕ). z ÷ c) (none h (k tt)) ∙ swap _ _ _ (rest' (k tt))) (round-rounds (a - b) c C false)

module _ (s : Bool) (m : ℕ) (e : ℤ) (t : Bool) (n : ℕ) (d : ℤ) where
  -- THE LAWS of sum and product
  pub add_rounds : Rounds (add binary64 (fin s m e) (fin t n d)) (value (fin s m e) +ℚ value (fin t n d))
  unfolding add value
  add_rounds = rounds_at _ _ _
      (ap₂ ◌+ℚ◌ (ap (signed s) (sym (÷_wide (m * up e) (down e) (down d) (down_pos e) (down_pos d))))
      (ap (signed t) (sym (÷_wide (n * up d) (down d) (down e) (down_pos d) (down_pos e) ∙ ap (λ (z : ℕ). (n * up d * down e) ÷ z) (mul_comm (down d) (down e))))))
      (sum-rounds (m * up e * down d) (n * up d * down e) (down e * down d) (mul-pos (down_pos e) (down_pos d)) s t)

  pub mul-rounds : Rounds (mul binary64 (fin s m e) (fin t n d)) (value (fin s m e) *ℚ value (fin t n d))
  unfolding mul value
  mul-rounds = rounds_at _ _ _
      (sym (signed_mul s t ((m * up e) ÷ down e) ((n * up d) ÷ down d) ∙ ap (signed (unlike s t)) (÷_mul (m * up e) (n * up d) (down e) (down d) (down_pos e) (down_pos d))))
      (round-rounds (m * up e * (n * up d)) (down e * down d) (mul-pos (down_pos e) (down_pos d)) (unlike s t))

-- the quotient, by what is not zero
module _ (s : Bool) (m : ℕ) (e : ℤ) (t : Bool) (n : ℕ) (d : ℤ) where
  top : 0 < suc n * up d
  top = mul-pos (zero-lt-suc n) (up_pos d)

  inverse_is : invℚ (value (fin t (suc n) d)) ≡ signed t (down d ÷ (suc n * up d))
  unfolding value
  inverse_is = signed-inv t ((suc n * up d) ÷ down d) (down d ÷ (suc n * up d))
      (÷_mul (suc n * up d) (down d) (down d) (suc n * up d) (down_pos d) top ∙ ÷_eq (suc n * up d * down d) 1 (down d * (suc n * up d)) 1 (mul-pos (down_pos d) top) (omega arith) (nat (suc n * up d) (down d)) ∙ ÷_one)
    where
      nat : (x y : ℕ) → x * y * 1 ≡ 1 * (y * x)
      nat x y = omega arith

  pub div_is : div binary64 (fin s m e) (fin t (suc n) d) ≡ round binary64 (unlike s t) (m * up e * down d) (suc n * up d * down e)
  unfolding div
  div_is = ap (λ (b : Bool). cond b (cond (eqb m 0) nan (inf (unlike s t))) (round binary64 (unlike s t) (m * up e * down d) (suc n * up d * down e))) (eqb-suc-zero n)

  exact : value (fin s m e) *ℚ signed t (down d ÷ (suc n * up d)) ≡ signed (unlike s t) ((m * up e * down d) ÷ (suc n * up d * down e))
  unfolding value
  exact =
      signed_mul s t ((m * up e) ÷ down e) (down d ÷ (suc n * up d))
      ∙ ap (signed (unlike s t)) (÷_mul (m * up e) (down d) (down e) (suc n * up d) (down_pos e) top ∙ ap (λ (z : ℕ). (m * up e * down d) ÷ z) (mul_comm (down e) (suc n * up d)))

  pub div-rounds : Rounds (div binary64 (fin s m e) (fin t (suc n) d)) (value (fin s m e) *ℚ invℚ (value (fin t (suc n) d)))
  div-rounds =
      subst (λ (r : Float). Rounds r (value (fin s m e) *ℚ invℚ (value (fin t (suc n) d)))) (sym div_is)
      (rounds_at _ _ _ (sym (ap (λ (z : ℚ). value (fin s m e) *ℚ z) inverse_is ∙ exact)) (round-rounds (m * up e * down d) (suc n * up d * down e) (mul-pos top (down_pos e)) (unlike s t)))
