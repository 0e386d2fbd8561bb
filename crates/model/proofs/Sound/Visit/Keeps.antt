-- What each axis keeps of a hat the whole clip keeps; and the bounds of the zeros are doubles. Assumes nothing.
use mathlib.Core.Path.{◌≡◌, subst}
use mathlib.Core.List.{List, [], ◌∷◌}
use mathlib.Core.Bool.{Bool, true, false, cond}
use Prim.Native.Nat.{ℕ, zero, suc, ◌+◌, ◌<◌}
use native.Mathlib.Omega.{arith}
use lib.Dec.{T}
use lib.ListN.{length, get_or}
use lib.Ieee.{binary64, fits}
use lib.Ieee.Fits.{inf-fits}
use Rattle.lists.specs.Lists.{last_d}
use Rattle.math.specs.declared.scalars.Scalar.{Scalar}
use Rattle.math.specs.Divided.{Divided}
use Rattle.std.specs.Prelude.{Some, None}
use Rattle.math.specs.Scalars.{Arithmetic, ZERO, ENTIRE, absent, could_be_equal, union_s}
use Rattle.math.specs.Encloses.{Encloses}
use Rattle.model.specs.Vector.{Vector}
use Rattle.model.specs.Aabb.{unions}
use Rattle.model.specs.FatLine.{crossing, zeros_by, fat_line_zeros}
use Rattle.model.specs.Contains.{axis, narrowed, clip}
use Rattle.model.specs.Hat.{Hat}

-- ---- a hat, if there is one, has the property P
abbrev pub OfHat : (Scalar → Type 0) → Hat → Type 0
OfHat P None = Unit {0}
OfHat P (Some z) = P z

pub of_hat_if : (P : Scalar → Type 0) (b : Bool) (z : Scalar) → (T b → P z) → OfHat P (cond b (Some z) None)
of_hat_if P true z f = f tt
of_hat_if P false z f = tt

pub of_hat_or : (P : Scalar → Type 0) (b : Bool) (h : Hat) → OfHat P h → OfHat P (cond b h None)
of_hat_or P true h f = f
of_hat_or P false h f = tt

-- what each axis keeps the clip keeps; Q is what is known of the box
module _ (ar : Arithmetic) (dim : ℕ) (ps : List Vector) (ξs : List Scalar) (P : Scalar → Type 0) (Q : ℕ → Scalar → Type 0)
    (f : (k : ℕ) (e hat : Scalar) → Q k e → P hat → OfHat P (narrowed hat (fat_line_zeros ar ξs (axis ar dim k e ps)))) where
  pub clip-keeps : (es : List Scalar) (k : ℕ) (hat : Scalar) → ((j : ℕ) → j < length es → Q (k + j) (get_or es j absent)) → P hat → OfHat P (clip ar dim ps ξs hat k es)
  unfolding clip
  clip-keeps [] k hat b h = h
  clip-keeps (e ∷ es) k hat b h =
      go (narrowed hat (fat_line_zeros ar ξs (axis ar dim k e ps))) (f k e hat (subst (λ (z : ℕ). Q z e) here (b zero (omega arith))) h)
      (λ g. clip-keeps es (suc k) g (λ j m. subst (λ (z : ℕ). Q z (get_or es j absent)) (next j) (b (suc j) (omega arith))))
    where
      here : k + zero ≡ k
      here = omega arith

      next : (j : ℕ) → k + suc j ≡ suc k + j
      next j = omega arith

      go : (r : Hat) → OfHat P r → ((g : Scalar) → P g → OfHat P (clip ar dim ps ξs g (suc k) es)) → OfHat P (elim r [ None ↦ None | Some h ↦ clip ar dim ps ξs h (suc k) es ])
      go None y rec = tt
      go (Some g) y rec = rec g y

-- ---- an interval of doubles
pub record DoubleBounds (z : Scalar) : Type 0 where
  pub lo_double : T (fits binary64 z.lo)
  pub hi_double : T (fits binary64 z.hi)

-- whatever the polygon is
module _ (ar : Arithmetic) (E : Encloses ar) where
  crossing-doubles : (ξ₀ : Scalar) (q : Divided) → OfHat DoubleBounds (crossing ar ξ₀ q)
  unfolding crossing
  crossing-doubles ξ₀ None = record { lo_double = inf-fits binary64 true; hi_double = inf-fits binary64 false }
  crossing-doubles ξ₀ (Some q) = record { lo_double = (E.sub_doubles ξ₀ q).0; hi_double = (E.sub_doubles ξ₀ q).1 }

  -- whatever the band is
  band-doubles : (ξ₀ d₀ d s band : Scalar) → OfHat DoubleBounds (cond (could_be_equal (ar.add (union_s d₀ d) band) ZERO) (crossing ar ξ₀ (ar.div (ar.add d₀ band) s)) None)
  band-doubles ξ₀ d₀ d s band = of_hat_or DoubleBounds (could_be_equal (ar.add (union_s d₀ d) band) ZERO) _ (crossing-doubles ξ₀ (ar.div (ar.add d₀ band) s))

  by_doubles : (ξs ds : List Scalar) (ξ₀ d₀ : Scalar) (o : Divided) → OfHat DoubleBounds (zeros_by ar ξs ds ξ₀ d₀ o)
  unfolding zeros_by
  by_doubles ξs ds ξ₀ d₀ None = of_hat_if DoubleBounds (could_be_equal (unions ds) ZERO) ENTIRE (λ _. record { lo_double = inf-fits binary64 true; hi_double = inf-fits binary64 false })
  by_doubles ξs ds ξ₀ d₀ (Some s) = band-doubles ξ₀ d₀ (last_d ds absent) s _

  pub zeros-doubles : (ξs ds : List Scalar) → OfHat DoubleBounds (fat_line_zeros ar ξs ds)
  unfolding fat_line_zeros
  zeros-doubles ξs ds = by_doubles ξs ds (get_or ξs 0 absent) (get_or ds 0 absent) (ar.div (ar.sub (last_d ds absent) (get_or ds 0 absent)) (ar.sub (last_d ξs absent) (get_or ξs 0 absent)))
