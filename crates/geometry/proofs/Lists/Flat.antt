-- Laws of intervals that stand as numbers, lo and hi side by side: how long they are, what a loop that writes them leaves, and what is read back. Assumes nothing.
use mathlib.Core.Path.{◌≡◌, refl, ap}
use mathlib.Core.List.{List, [], ◌∷◌, ◌++◌}
use Prim.Native.Nat.{ℕ, zero, suc, ◌+◌, ◌*◌, ◌<◌}
use native.Mathlib.Nat.{not-suc-le-zero}
use native.Mathlib.Omega.{arith}
use lib.ListN.{length, get_or}
use lib.Ieee.{Float}
use Rattle.math.specs.declared.scalars.Scalar.{Scalar}
use Rattle.math.specs.Scalars.{absent}
use Rattle.model.specs.Layout.{scalar_at, flat}

pub length-flat : (xs : List Scalar) → length (flat xs) ≡ 2 * length xs
unfolding flat
length-flat [] = refl
length-flat (x ∷ xs) = let e : length (flat xs) ≡ 2 * length xs = length-flat xs in omega arith

pub flat-snoc : (xs : List Scalar) (x : Scalar) → flat (xs ++ (x ∷ [])) ≡ flat xs ++ (x.lo ∷ x.hi ∷ [])
unfolding flat
flat-snoc [] x = refl
flat-snoc (y ∷ xs) x = ap (λ (r : List Float). y.lo ∷ y.hi ∷ r) (flat-snoc xs x)

-- interval number i of those that stand there
scalar_at-flat : (xs : List Scalar) (i : ℕ) → i < length xs → scalar_at (flat xs) i ≡ get_or xs i absent
unfolding flat
scalar_at-flat [] i h = absurd (not-suc-le-zero h)
scalar_at-flat (x ∷ xs) zero h = refl
scalar_at-flat (x ∷ xs) (suc i) h =
    let e : 2 * suc i ≡ suc (suc (2 * i)) = omega arith in
    let g : suc (suc (2 * i)) + 1 ≡ suc (suc (2 * i + 1)) = omega arith in
    let r : scalar_at (flat xs) i ≡ get_or xs i absent = scalar_at-flat xs i (omega arith) in
    rw (e, g) r
