-- Every double is a whole number of the least positive one, 2^-1074. So two that differ are at least that far apart, and two with another between them twice as far. Assumes nothing.
use mathlib.Core.Path.{◌≡◌, sym, ap, ap₂, ◌∙◌, subst}
use mathlib.Core.List.{[], ◌∷◌}
use mathlib.Core.Bool.{Bool, true, false}
use Prim.Native.Nat.{ℕ, zero, suc, ◌+◌, ◌-◌, ◌*◌, ◌^◌, ◌≤◌, ◌<◌}
use native.Mathlib.Nat.{mul-le-mul_right, lt_of_mul-lt-mul_right}
use native.Mathlib.Omega.{arith}
use lib.IntN.{ℤ}
use lib.Dec.{T}
use lib.Pow.{pow_pos}
use lib.Ieee.{fin, binary64, low, up, down, fits}
use lib.Ieee.Fits.{down_pos}
use Rattle.solver.proofs.Ring.{by_rep, read}
use Rattle.exact.specs.Rational.{ℚ, ◌+ℚ◌, -ℚ◌, ◌-ℚ◌, 0ℚ, ◌÷◌, signed, ◌≤ℚ◌, ◌<ℚ◌, nn_of, not_le→lt, lt→not_le}
use Rattle.exact.proofs.Field.{ℚring}
use Rattle.exact.proofs.Order.{le_by}
use Rattle.exact.proofs.Embed.{÷_eq, ÷_le, ÷_lt⁻¹, ÷_add, ÷_sub, ÷_zero}
use Rattle.math.specs.Values.{value}
use Rattle.math.proofs.Doubles.Values.{value_zero}
use Rattle.math.proofs.Doubles.Held.{held}

signed_zero : (s : Bool) (c : ℕ) → signed s (0 ÷ c) ≡ 0ℚ
signed_zero true c = ap (λ (z : ℚ). -ℚ z) (÷_zero c) ∙ by_rep ℚring [] (search read) (search read) tt
signed_zero false c = ÷_zero c

-- ---- on the grid
pub grid : (s : Bool) (m : ℕ) (e : ℤ) → T (fits binary64 (fin s m e)) → (n : ℕ) × (value (fin s m e) ≡ signed s (n ÷ 2 ^ low binary64))
grid s zero e F = (0, value_zero s e ∙ sym (signed_zero s (2 ^ low binary64)))
grid s (suc m) e F = let h = held binary64 s m e F in (suc m * 2 ^ h.j, unfold value in ap (signed s) (÷_eq (suc m * up e) (suc m * 2 ^ h.j) (down e) (2 ^ low binary64) (down_pos e) (pow_pos (low binary64)) h.is))

-- raised by k steps it is not negative
raised : (D : ℕ) → 0 < D → (s : Bool) (n k : ℕ) → n ≤ k → (N : ℕ) × (signed s (n ÷ D) +ℚ k ÷ D ≡ N ÷ D)
raised D d false n k h = (n + k, ÷_add n k D d)
raised D d true n k h = (k - n, sym (÷_sub k n D d h ∙ turn (k ÷ D) (n ÷ D)))
  where
    turn : (x y : ℚ) → x -ℚ y ≡ -ℚ y +ℚ x
    turn x y = by_rep ℚring (x ∷ y ∷ []) (search read) (search read) tt

module _ (D : ℕ) (d : 0 < D) (x y o : ℚ) (nx ny : ℕ) (ex : x +ℚ o ≡ nx ÷ D) (ey : y +ℚ o ≡ ny ÷ D) where
  below_steps : x <ℚ y → nx < ny
  below_steps h = lt_of_mul-lt-mul_right D (÷_lt⁻¹ nx ny D D d d (subst (λ (z : ℚ). z <ℚ ny ÷ D) ex (subst (λ (z : ℚ). x +ℚ o <ℚ z) ey (shift h))))
    where
      shift : x <ℚ y → x +ℚ o <ℚ y +ℚ o
      shift h = not_le→lt (λ k. lt→not_le h (le_by (nn_of k) (by_rep ℚring (x ∷ y ∷ o ∷ []) (search read) (search read) tt)))

  apart : (k : ℕ) → nx + k ≤ ny → k ÷ D ≤ℚ y -ℚ x
  apart k h = subst (λ (z : ℚ). k ÷ D ≤ℚ z) (÷_sub ny nx D d (omega arith) ∙ ap₂ ◌-ℚ◌ (sym ey) (sym ex) ∙ drop y x o) (÷_le k (ny - nx) D D d d (mul-le-mul_right D (omega arith)))
    where
      drop : (y x o : ℚ) → (y +ℚ o) -ℚ (x +ℚ o) ≡ y -ℚ x
      drop y x o = by_rep ℚring (y ∷ x ∷ o ∷ []) (search read) (search read) tt

-- THE LAWS: one step, and two
pub one_step : (D : ℕ) → 0 < D → (s t : Bool) (m n : ℕ) → signed s (m ÷ D) <ℚ signed t (n ÷ D) → 1 ÷ D ≤ℚ signed t (n ÷ D) -ℚ signed s (m ÷ D)
one_step D d s t m n h =
    let a = raised D d s m (m + n) (omega arith) in
    let b = raised D d t n (m + n) (omega arith) in
    apart D d _ _ _ a.0 b.0 a.1 b.1 1 (more a.0 b.0 (below_steps D d _ _ _ a.0 b.0 a.1 b.1 h))
  where
    more : (x y : ℕ) → x < y → x + 1 ≤ y
    more x y h = omega arith

pub two_steps : (D : ℕ) → 0 < D → (s t u : Bool) (m n k : ℕ) → signed s (m ÷ D) <ℚ signed t (n ÷ D) → signed t (n ÷ D) <ℚ signed u (k ÷ D) → 2 ÷ D ≤ℚ signed u (k ÷ D) -ℚ signed s (m ÷ D)
two_steps D d s t u m n k h g =
    let a = raised D d s m (m + n + k) (omega arith) in
    let b = raised D d t n (m + n + k) (omega arith) in
    let c = raised D d u k (m + n + k) (omega arith) in
    apart D d _ _ _ a.0 c.0 a.1 c.1 2 (more a.0 b.0 c.0 (below_steps D d _ _ _ a.0 b.0 a.1 b.1 h) (below_steps D d _ _ _ b.0 c.0 b.1 c.1 g))
  where
    more : (x y z : ℕ) → x < y → y < z → x + 2 ≤ z
    more x y z h k = omega arith
