-- How many intervals the points have that an insertion or a triangle makes of points of D intervals. Leans on the definitions alone.
use mathlib.Core.Path.{◌≡◌, refl, ap, ◌∙◌}
use mathlib.Core.Bool.{Bool, true, false, cond}
use mathlib.Core.List.{List, [], ◌∷◌, ◌++◌, zip_with}
use Prim.Native.Nat.{ℕ, zero, suc, ◌+◌, ◌-◌, ◌<◌}
use native.Mathlib.Decide.{dec_lt}
use native.Mathlib.Omega.{arith}
use lib.ListN.{length, take, drop, length-append, length-take, length-drop, get_or-append}
use lib.Seq.{get_or-take, get_or-drop, get_or-append-add}
use Rattle.lists.specs.Lists.{tab}
use Rattle.lists.proofs.Tab.{length-tab, get_or-tab}
use Rattle.math.specs.declared.scalars.Scalar.{Scalar}
use Rattle.math.specs.Scalars.{Arithmetic, is_same, ZERO, ONE}
use Rattle.model.specs.Vector.{Vector, interpolate_v}
use Rattle.model.specs.NurbCurve.{point}
use Rattle.model.specs.KnotInsertion.{blend}
use Rattle.geometry.specs.Slots.{Wide}

pub length-zip : {A B C : Type 0} (f : A → B → C) (xs : List A) (ys : List B) → length xs ≡ length ys → length (zip_with f xs ys) ≡ length xs
unfolding zip_with
length-zip f [] [] e = refl
length-zip f [] (y ∷ ys) e = absurd (omega arith)
length-zip f (x ∷ xs) [] e = absurd (omega arith)
length-zip f (x ∷ xs) (y ∷ ys) e = ap suc (length-zip f xs ys (omega arith))

pub length-between : (ar : Arithmetic) (D : ℕ) (a b : Vector) (α : Scalar) → length a ≡ D → length b ≡ D → length (interpolate_v ar a b α) ≡ D
unfolding interpolate_v
length-between ar D a b α e f = length-zip _ a b (omega arith) ∙ e

pub length-blend : (ar : Arithmetic) (D : ℕ) (α : Scalar) (a b : Vector) → length a ≡ D → length b ≡ D → length (blend ar α a b) ≡ D
unfolding blend
length-blend ar D α a b e f = either (is_same α ZERO) a _ e (either (is_same α ONE) b _ f (length-between ar D a b α e f))
  where
    either : (t : Bool) (x y : Vector) → length x ≡ D → length y ≡ D → length (cond t x y) ≡ D
    either true x y h g = h
    either false x y h g = g

-- ---- lists of such points

module _ (D : ℕ) where
  pub wide-tab : (n : ℕ) (f : ℕ → Vector) → ((j : ℕ) → j < n → length (f j) ≡ D) → Wide D (tab n f)
  wide-tab n f h i k = let g : i < n = rw (length-tab n f) at k in rw (get_or-tab n f i [] g) (h i g)

  pub wide-append : (xs ys : List Vector) → Wide D xs → Wide D ys → Wide D (xs ++ ys)
  wide-append xs ys h g i k = by (dec_lt i (length xs))
    where
      by : Dec (i < length xs) → length (point (xs ++ ys) i) ≡ D
      by (yes q) = rw (get_or-append xs ys [] i q) (h i q)
      by (no q) =
          let e : i ≡ length xs + (i - length xs) = omega arith in
          ap (λ (m : ℕ). length (point (xs ++ ys) m)) e
          ∙ ap length (get_or-append-add xs ys (i - length xs) [])
          ∙ g (i - length xs) (omega (arith, length-append xs ys))

  pub wide-take : (n : ℕ) (xs : List Vector) → Wide D xs → Wide D (take n xs)
  wide-take n xs h i k =
      let m : i < n = omega (arith, length-take n xs) in
      rw (get_or-take n xs i [] m) (h i (omega (arith, length-take n xs)))

  pub wide-drop : (n : ℕ) (xs : List Vector) → Wide D xs → Wide D (drop n xs)
  wide-drop n xs h i k = rw (get_or-drop n xs i []) (h (n + i) (omega (arith, length-drop n xs)))

  pub wide-cons : (x : Vector) (xs : List Vector) → length x ≡ D → Wide D xs → Wide D (x ∷ xs)
  wide-cons x xs e h = wide-append (x ∷ []) xs (λ i k. one i k) h
    where
      one : (i : ℕ) → i < 1 → length (point (x ∷ []) i) ≡ D
      one zero k = e
      one (suc i) k = absurd (omega arith)
