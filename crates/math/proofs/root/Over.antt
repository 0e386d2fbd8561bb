-- The root of a double that is not below zero is a double that is not below zero, and a limit is below it where a square says so,
-- with no root taken. Assumes nothing.
use mathlib.Core.Path.{sym, subst}
use mathlib.Core.Logic.{inl, inr}
use mathlib.Core.Bool.{true, false}
use mathlib.Core.List.{[], ◌∷◌}
use Prim.Native.Nat.{ℕ, zero, suc}
use lib.IntN.{ℤ, pos}
use lib.Dec.{T}
use lib.Ieee.{Float, nan, inf, fin, binary64, fits, is_nan, mul, lt, le, neg}
use lib.Ieee.Fits.{nan-fits}
use Rattle.solver.proofs.Ring.{by_rep, read}
use Rattle.exact.specs.Rational.{ℚ, ◌*ℚ◌, 0ℚ, ◌≤ℚ◌, lt→not_le}
use Rattle.exact.proofs.Field.{ℚring}
use Rattle.exact.proofs.Order.{le_trans as ≤ℚ-trans, mul_mono}
use Rattle.math.specs.Neighbours.{next_up, next_down}
use Rattle.math.specs.Root.{sqrt_f}
use Rattle.math.specs.RootLaws.{is_finite, SqrtEncloses}
use Rattle.math.specs.Scalars.{zero_f}
use Rattle.math.specs.Values.{value}
use Rattle.math.proofs.Bools.{decide}
use Rattle.math.proofs.Doubles.Values.{value_zero, value-under, le→value, value→le}
use Rattle.math.proofs.Doubles.Order.{number, le_number_l, le_trans, lt→le_f, lt_not_le, total-order, le_lt}
use Rattle.math.proofs.Doubles.Next.{upward, next_up-fits, next_up-above, next_down-below}
use Rattle.math.proofs.Doubles.NextLeast.{next_up-least}
use Rattle.math.proofs.Doubles.Operations.{mul-rounds}
use Rattle.math.proofs.Doubles.Nonneg.{at_least_zero, worth, square_nonneg}
use Rattle.math.proofs.root.Law.{root-fits, sqrt-encloses}

-- ---- finite doubles
finite_number : (x : Float) → T (is_finite x) → T (number x)
unfolding is_nan
finite_number nan h = h
finite_number (inf s) h = absurd h
finite_number (fin s m e) h = tt

finite_upward : (x : Float) → T (is_finite x) → T (upward x)
finite_upward nan h = h
finite_upward (inf s) h = absurd h
finite_upward (fin s m e) h = tt

finite_downward : (x : Float) → T (is_finite x) → T (upward (neg x))
unfolding neg
finite_downward nan h = h
finite_downward (inf s) h = absurd h
finite_downward (fin s m e) h = tt

finite-worth : (x : Float) → T (is_finite x) → T (le zero_f x) → 0ℚ ≤ℚ value x
finite-worth nan h k = absurd h
finite-worth (inf s) h k = absurd h
finite-worth (fin s m e) h k = worth s m e k

worth-finite : (x : Float) → T (is_finite x) → 0ℚ ≤ℚ value x → T (le zero_f x)
worth-finite nan h k = absurd h
worth-finite (inf s) h k = absurd h
worth-finite (fin s m e) h k = value→le false 0 (pos 0) s m e (subst (λ (z : ℚ). z ≤ℚ value (fin s m e)) (sym (value_zero false (pos 0))) k)

-- ---- roots
pub sqrt_fits : (x : Float) → T (fits binary64 x) → T (fits binary64 (sqrt_f x))
sqrt_fits nan F = unfold sqrt_f in F
sqrt_fits (inf true) F = unfold sqrt_f in nan-fits binary64
sqrt_fits (inf false) F = unfold sqrt_f in F
sqrt_fits (fin s zero e) F = unfold sqrt_f in F
sqrt_fits (fin true (suc m) e) F = unfold sqrt_f in nan-fits binary64
sqrt_fits (fin false (suc m) e) F = root-fits m e F

-- the root of a double above zero is not below zero
root-nonneg : (m : ℕ) (e : ℤ) → T (fits binary64 (fin false (suc m) e)) → T (le zero_f (sqrt_f (fin false (suc m) e)))
root-nonneg m e F =
    let E = sqrt-encloses m e F in
    let r = sqrt_f (fin false (suc m) e) in
    le_trans zero_f (next_down r) r (worth-finite (next_down r) E.finite_down E.nonneg)
    (lt→le_f (next_down r) r (next_down-below r (root-fits m e F) (finite_downward r E.finite)))

pub sqrt_nonneg : (x : Float) → T (fits binary64 x) → T (le zero_f x) → T (le zero_f (sqrt_f x))
sqrt_nonneg nan F h = absurd (unfold le in h)
sqrt_nonneg (inf true) F h = absurd (unfold le in h)
sqrt_nonneg (inf false) F h = unfold sqrt_f in h
sqrt_nonneg (fin s zero e) F h = unfold sqrt_f in h
sqrt_nonneg (fin true (suc m) e) F h = absurd (lt→not_le (value-under m e) (worth true (suc m) e h))
sqrt_nonneg (fin false (suc m) e) F h = root-nonneg m e F

-- ---- a limit and the root of a square above the next double's
squares-mono : (x y : ℚ) → 0ℚ ≤ℚ x → x ≤ℚ y → x *ℚ x ≤ℚ y *ℚ y
squares-mono x y h k =
    ≤ℚ-trans (mul_mono h k)
    (subst (λ (z : ℚ). z ≤ℚ y *ℚ y) (by_rep ℚring (x ∷ y ∷ []) (search read depth 9) (search read depth 9) tt) (mul_mono (≤ℚ-trans h k) k))

module _ (l : Float) (m : ℕ) (e : ℤ) (F : T (fits binary64 (fin false (suc m) e))) where
  abbrev q : Float
  q = fin false (suc m) e

  abbrev r : Float
  r = sqrt_f (fin false (suc m) e)

  E : SqrtEncloses q r
  E = sqrt-encloses m e F

  -- no double t with r below t has a square below q
  not-under : (u : Float) → T (is_finite u) → 0ℚ ≤ℚ value u → value q ≤ℚ value u *ℚ value u
      → (t : Float) → T (le u t) → T (lt (mul binary64 t t) q) → ⊥
  not-under nan f w a t h k = f
  not-under (inf s) f w a t h k = f
  not-under (fin s n d) f w a nan h k = unfold le in h
  not-under (fin s n d) f w a (inf true) h k = unfold le in h
  not-under (fin s n d) f w a (inf false) h k = unfold lt mul in k
  not-under (fin s n d) f w a (fin t j c) h k =
      lt→not_le ((mul-rounds t j c t j c).highs.over (fin false (suc m) e) F k)
      (≤ℚ-trans a (squares-mono (value (fin s n d)) (value (fin t j c)) w (le→value s n d t j c h)))

  root_over : (t : Float) → T (fits binary64 t) → T (lt l t) → T (lt (mul binary64 t t) q) → T (lt l r)
  root_over t G h k = elim (decide (lt l r)) [
    | inl y ↦ y
    | inr n ↦
        let a : T (le r l) = total-order r l (finite_number r E.finite) (le_number_l l t (lt→le_f l t h)) n in
        let b : T (le (next_up r) t) = next_up-least r (root-fits m e F) t G (le_lt r l t a h) in
        let d : T (lt r (next_up r)) = next_up-above r (root-fits m e F) (finite_upward r E.finite) in
        let c : T (le zero_f (next_up r)) = le_trans zero_f r (next_up r) (root-nonneg m e F) (lt→le_f r (next_up r) d) in
        absurd (not-under (next_up r) E.finite_up (finite-worth (next_up r) E.finite_up c) E.above t b k)
  ]

-- Squares decide a length: where the square of the double above l is below q, l is below the root of q.
pub square_decides : (l q : Float) → T (fits binary64 l) → T (fits binary64 q)
    → T (lt (mul binary64 (next_up l) (next_up l)) q) → T (lt l (sqrt_f q))
square_decides l q L F h =
    let s = mul binary64 (next_up l) (next_up l) in
    by l q L F (le_lt zero_f s q (square_nonneg (next_up l) (le_number_l s q (lt→le_f s q h))) h) h
  where
    by : (l q : Float) → T (fits binary64 l) → T (fits binary64 q) → T (lt zero_f q)
        → T (lt (mul binary64 (next_up l) (next_up l)) q) → T (lt l (sqrt_f q))
    by l nan L F p h = absurd (unfold lt in p)
    by l (inf true) L F p h = absurd (unfold lt in p)
    by nan (inf false) L F p h = absurd (unfold next_up mul lt in h)
    by (inf false) (inf false) L F p h = absurd (unfold next_up mul lt in h)
    by (inf true) (inf false) L F p h = unfold sqrt_f lt in tt
    by (fin t n d) (inf false) L F p h = unfold sqrt_f lt in tt
    by l (fin t zero e) L F p h =
        let z : value (fin t zero e) ≤ℚ value zero_f = subst (λ (z : ℚ). z ≤ℚ value zero_f) (sym (value_zero t e)) (worth false 0 (pos 0) (at_least_zero zero_f tt)) in
        absurd (lt_not_le zero_f (fin t zero e) p (value→le t zero e false 0 (pos 0) z))
    by l (fin true (suc m) e) L F p h = absurd (lt→not_le (value-under m e) (worth true (suc m) e (lt→le_f zero_f (fin true (suc m) e) p)))
    by nan (fin false (suc m) e) L F p h = absurd (unfold next_up mul lt in h)
    by (inf false) (fin false (suc m) e) L F p h = absurd (unfold next_up mul lt in h)
    by (inf true) (fin false (suc m) e) L F p h = root_over (inf true) m e F (next_up (inf true)) (next_up-fits (inf true)) (next_up-above (inf true) L tt) h
    by (fin t n d) (fin false (suc m) e) L F p h = root_over (fin t n d) m e F (next_up (fin t n d)) (next_up-fits (fin t n d)) (next_up-above (fin t n d) L tt) h
