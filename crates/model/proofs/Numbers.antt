-- The numbers of the refusals: none is 0, and what `?` hands on keeps its number. Assumes nothing.
use Rattle.std.specs.Prelude.{◌≡◌, ◌≤◌, ℕ, zero, suc, true, false, refl, Result, Ok, Err, is_err, IsErrAnd}
use Rattle.std.proofs.Common.{ap, sym, arith}
use mathlib.Core.Bool.{true≢false}
use Rattle.model.specs.declared.refusal.Refusal.{Refusal}
use Rattle.model.specs.declared.refusal.Refusal.TheVariants.{Dim, Degree, Count, Length, Value, Order, Weight, Knots}
use Rattle.model.specs.declared.refusal.Refusal.TheVariants.{Nodes, Work, Piece, Text, Cart, Room, Revision, Sheet}
use Rattle.model.specs.Numbers.{number_of, refusal_of, code_of}

-- No refusal has the number 0.
pub some_number : (e : Refusal) → number_of e ≡ 0 → ⊥
some_number Dim h = omega (arith, h)
some_number Degree h = omega (arith, h)
some_number Count h = omega (arith, h)
some_number Length h = omega (arith, h)
some_number Value h = omega (arith, h)
some_number Order h = omega (arith, h)
some_number Weight h = omega (arith, h)
some_number Knots h = omega (arith, h)
some_number Nodes h = omega (arith, h)
some_number Work h = omega (arith, h)
some_number Piece h = omega (arith, h)
some_number Text h = omega (arith, h)
some_number Cart h = omega (arith, h)
some_number Room h = omega (arith, h)
some_number Revision h = omega (arith, h)
some_number Sheet h = omega (arith, h)

-- A refusal is the one that has its number.
pub refusal-of-number : (e : Refusal) → refusal_of (number_of e) ≡ e
refusal-of-number Dim = refl
refusal-of-number Degree = refl
refusal-of-number Count = refl
refusal-of-number Length = refl
refusal-of-number Value = refl
refusal-of-number Order = refl
refusal-of-number Weight = refl
refusal-of-number Knots = refl
refusal-of-number Nodes = refl
refusal-of-number Work = refl
refusal-of-number Piece = refl
refusal-of-number Text = refl
refusal-of-number Cart = refl
refusal-of-number Room = refl
refusal-of-number Revision = refl
refusal-of-number Sheet = refl

-- A number from 1 to 11 is that of its refusal.
pub number-of-refusal : (n : ℕ) → 1 ≤ n → n ≤ 11 → number_of (refusal_of n) ≡ n
number-of-refusal zero low high = absurd (omega (arith, low))
number-of-refusal (suc zero) low high = refl
number-of-refusal (suc (suc zero)) low high = refl
number-of-refusal (suc (suc (suc zero))) low high = refl
number-of-refusal (suc (suc (suc (suc zero)))) low high = refl
number-of-refusal (suc (suc (suc (suc (suc zero))))) low high = refl
number-of-refusal (suc (suc (suc (suc (suc (suc zero)))))) low high = refl
number-of-refusal (suc (suc (suc (suc (suc (suc (suc zero))))))) low high = refl
number-of-refusal (suc (suc (suc (suc (suc (suc (suc (suc zero)))))))) low high = refl
number-of-refusal (suc (suc (suc (suc (suc (suc (suc (suc (suc zero))))))))) low high = refl
number-of-refusal (suc (suc (suc (suc (suc (suc (suc (suc (suc (suc zero)))))))))) low high = refl
number-of-refusal (suc (suc (suc (suc (suc (suc (suc (suc (suc (suc (suc zero))))))))))) low high = refl
number-of-refusal (suc (suc (suc (suc (suc (suc (suc (suc (suc (suc (suc (suc n)))))))))))) low high = absurd (omega (arith, high))

module _ {A : Type 0} where
  -- What `?` hands on has the number of the refusal that it found.
  pub handed : (r : Result A Refusal) (e : Refusal) → IsErrAnd r (λ x. x ≡ e) → code_of r ≡ number_of e
  handed (Ok x) e h = absurd h
  handed (Err x) e h = ap number_of h

  -- Where nothing is wrong, the number is 0.
  pub code_none : (r : Result A Refusal) → is_err r ≡ false → code_of r ≡ 0
  code_none (Ok x) h = refl
  code_none (Err x) h = absurd (true≢false h)

  -- Where something is, it is not.
  pub code_some : (r : Result A Refusal) → is_err r ≡ true → code_of r ≡ 0 → ⊥
  code_some (Ok x) h k = true≢false (sym h)
  code_some (Err x) h k = some_number x k
