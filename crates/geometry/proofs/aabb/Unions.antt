-- Unions of a family of intervals, one after the other: by intervals, and by bounds that are gathered first and closed once, at the end. Assumes nothing.
use mathlib.Core.Path.{◌≡◌, refl, sym, ◌∙◌}
use mathlib.Core.List.{List, [], ◌∷◌, ◌++◌}
use Prim.Native.Nat.{ℕ, ◌+◌, ◌≤◌}
use native.Mathlib.Numerals.{add-one}
use native.Mathlib.Omega.{arith}
use lib.ListN.{length}
use Rattle.lists.specs.Lists.{tab, foldl}
use Rattle.lists.proofs.Tab.{length-tab}
use Rattle.lists.proofs.Fold.{foldl-append}
use Rattle.math.specs.declared.scalars.Scalar.{Scalar}
use Rattle.math.specs.declared.bounds.Bounds.{Bounds}
use Rattle.math.specs.Scalars.{union_s}
use Rattle.model.specs.Aabb.{unions}

-- ---- intervals

-- one more behind some
unions-snoc : (xs : List Scalar) (y : Scalar) → 1 ≤ length xs → unions (xs ++ (y ∷ [])) ≡ union_s (unions xs) y
unfolding unions foldl
unions-snoc [] y h = absurd (omega arith)
unions-snoc (x ∷ xs) y h = foldl-append union_s x xs (y ∷ [])

-- the first alone
pub unions_first : (f : ℕ → Scalar) → f 0 ≡ unions (tab 1 f)
unfolding unions foldl
unions_first f = refl

-- one turn of a loop that has taken in the first n of them
pub unions_turn : (f : ℕ → Scalar) (n : ℕ) (all x r : Scalar) → 1 ≤ n → all ≡ unions (tab n f) → x ≡ f n → r ≡ union_s all x → r ≡ unions (tab (n + 1) f)
unions_turn f n all x r h e g k =
    k ∙ (λ i. union_s (e i) (g i)) ∙ sym (rw add-one (unions-snoc (tab n f) (f n) (rw length-tab h)))

-- ---- bounds

-- Bounds of some kind, which are the interval x once they are closed.
pub record Gives (Kind : Bounds → Type 0) (close : Bounds → Scalar) (x : Scalar) (b : Bounds) : Type 0 where
  pub kind : Kind b
  pub is : close b ≡ x

module _ (Kind : Bounds → Type 0) (close : Bounds → Scalar) (f : ℕ → Scalar) where
  -- the first alone
  pub joined_first : (b : Bounds) → Gives Kind close (f 0) b → Gives Kind close (unions (tab 1 f)) b
  joined_first b B = record { kind = B.kind; is = B.is ∙ unions_first f }

  -- one turn of a loop that has gathered the first n of them, where the next two are put together to r
  pub joined_turn : (n : ℕ) (all b r : Bounds) → 1 ≤ n → Gives Kind close (unions (tab n f)) all → Gives Kind close (f n) b
      → (Kind all → Kind b → Kind r × (close r ≡ union_s (close all) (close b))) → Gives Kind close (unions (tab (n + 1) f)) r
  joined_turn n all b r h A B e =
      let p = e A.kind B.kind in
      record { kind = p.0; is = unions_turn f n (close all) (close b) (close r) h A.is B.is p.1 }
