-- The span search, in any knots, whether they rise or not: no span above the one that is found holds t, and where none holds t it is the first. Assumes nothing.
use Prim.Native.Nat.{ℕ, zero, suc, ◌+◌, ◌≤◌, ◌<◌}
use mathlib.Core.Path.{◌≡◌, refl, sym, ◌∙◌, subst}
use mathlib.Core.Bool.{Bool, true, false, cond}
use mathlib.Core.List.{List, [], ◌∷◌, map}
use native.Mathlib.Nat.{lt_of_not-le}
use native.Mathlib.Decide.{dec_le}
use native.Mathlib.Omega.{arith}
use lib.Dec.{T}
use lib.IntN.{pos}
use lib.Ieee.{Float, binary64, lt, of_int}
use Rattle.model.specs.KnotInsertion.{holds_at, highest, insertion_span}

-- Every span that holds t is at most the one that is found.
pub highest-top : (ks : List Float) (t : Float) (p n j : ℕ) → p ≤ j → j < p + n → holds_at ks t j ≡ true → j ≤ highest ks t p n
unfolding highest
highest-top ks t p zero j a b e = omega arith
highest-top ks t p (suc n) j a b e = go (λ below. highest-top ks t p n j a below e) (holds_at ks t (p + n)) refl
  where
    not_top : holds_at ks t (p + n) ≡ false → j ≡ p + n → j < p + n
    not_top g s = absurd (subst T (sym (subst (λ (i : ℕ). holds_at ks t i ≡ true) s e) ∙ g) tt)

    lower : holds_at ks t (p + n) ≡ false → j < p + n
    lower g = elim (dec_le (p + n) j) [
      | yes h ↦ not_top g (omega (arith, h))
      | no h ↦ lt_of_not-le h
    ]

    go : (j < p + n → j ≤ highest ks t p n) → (z : Bool) → holds_at ks t (p + n) ≡ z → j ≤ cond z (p + n) (highest ks t p n)
    go rest true _ = omega arith
    go rest false g = rest (lower g)

-- Where no span holds t, the first one is found.
pub highest_none : (ks : List Float) (t : Float) (p n : ℕ) → ((j : ℕ) → p ≤ j → j < p + n → holds_at ks t j ≡ false) → highest ks t p n ≡ p
unfolding highest
highest_none ks t p zero none = refl
highest_none ks t p (suc n) none = go (highest_none ks t p n (λ j a b. none j a (omega arith))) (holds_at ks t (p + n)) (none (p + n) (omega arith) (omega arith))
  where
    go : highest ks t p n ≡ p → (z : Bool) → z ≡ false → cond z (p + n) (highest ks t p n) ≡ p
    go rest true e = absurd (subst T e tt)
    go rest false _ = rest

-- A whole number as a double.
abbrev whole : ℕ → Float
whole n = of_int binary64 (pos n)

-- Two examples by computation. Among 0, 3, 1, 3 the first and the third span hold 2; among 5, 6, 7 none does.
two_hold : insertion_span 0 3 (map whole (0 ∷ 3 ∷ 1 ∷ 3 ∷ [])) (whole 2) ≡ 2
unfolding insertion_span highest lt of_int
two_hold = refl

none_holds : insertion_span 0 2 (map whole (5 ∷ 6 ∷ 7 ∷ [])) (whole 2) ≡ 0
unfolding insertion_span highest lt of_int
none_holds = refl
