-- A weight whose lo is above 0: its numbers are above 0, its products are enclosed, and a division by it never fails. Assumes nothing.
use mathlib.Core.Path.{◌≡◌, refl, sym, subst}
use mathlib.Core.Logic.{◌⊎◌, inl, inr}
use mathlib.Core.List.{List, []}
use mathlib.Core.Bool.{true, false, not, ◌&&◌}
use Prim.Native.Nat.{ℕ, ◌<◌}
use lib.Dec.{T}
use lib.ListN.{length}
use lib.IntN.{pos}
use lib.Ieee.{Float, nan, inf, fin, lt, le, eq}
use lib.Ieee.Bits.{is_true}
use Rattle.exact.specs.Rational.{ℚ, ◌-ℚ◌, ◌*ℚ◌, 0ℚ, invℚ, ◌<ℚ◌, lt→not_le}
use Rattle.exact.proofs.Order.{le_refl, lt_le_trans}
use Rattle.lists.proofs.Fold.{all_get_or}
use Rattle.math.specs.declared.scalars.Scalar.{Scalar}
use Rattle.math.specs.Divided.{Divided}
use Rattle.std.specs.Prelude.{Some, None}
use Rattle.math.specs.Scalars.{Arithmetic, zero_f, ZERO, ENTIRE, is_same, value_or}
use Rattle.math.specs.Values.{value, Below, Holds}
use Rattle.math.specs.Encloses.{Encloses}
use Rattle.math.proofs.Bools.{and_l, and_r, or_r, or_split, decide}
use Rattle.math.proofs.Doubles.Values.{value_zero, lt→value}
use Rattle.math.proofs.Doubles.Order.{lt_le, lt_not_le}
use Rattle.model.specs.Vector.{Vector, coordinate}
use Rattle.model.specs.NurbCurve.{point, weights_positive}
use Rattle.model.specs.Aabb.{place}

-- an interval whose lo is above 0
abbrev pub Heavy : Scalar → Type 0
Heavy s = T (lt zero_f s.lo)

pub heavy_at : (dim : ℕ) (points : List Vector) → T (weights_positive dim points) → (i : ℕ) → i < length points → Heavy (coordinate (point points i) dim)
unfolding weights_positive
heavy_at dim points w i l = subst T (sym (all_get_or (λ (q : Vector). lt zero_f (coordinate q dim).lo) points i [] (is_true _ w) l)) tt

above_zero : (l : Float) (x : ℚ) → T (lt zero_f l) → Below l x → 0ℚ <ℚ x
above_zero nan x t b = absurd b
above_zero (inf true) x t b = unfold lt in absurd t
above_zero (inf false) x t b = absurd b
above_zero (fin s m e) x t b = lt_le_trans (subst (λ (z : ℚ). z <ℚ value (fin s m e)) (value_zero false (pos 0)) (lt→value false 0 (pos 0) s m e t)) b

pub heavy-pos : (s : Scalar) (x : ℚ) → Heavy s → Holds s x → 0ℚ <ℚ x
heavy-pos s x t h = above_zero s.lo x t h.low

-- ---- products
not_zero : (s : Scalar) → Heavy s → T (is_same s ZERO) → ⊥
unfolding le
not_zero s t e = lt_not_le zero_f s.lo t (or_r (lt s.lo zero_f) (eq s.lo zero_f) (and_l (eq s.lo zero_f) (eq s.hi zero_f) e))

not-entire : (s : Scalar) → Heavy s → T (is_same s ENTIRE) → ⊥
unfolding le lt
not-entire s t e = lt_le zero_f s.lo (inf true) t (or_r (lt s.lo (inf true)) (eq s.lo (inf true)) (and_l (eq s.lo (inf true)) (eq s.hi (inf false)) e))

module _ (ar : Arithmetic) (E : Encloses ar) where
  pub weight-clear : (e w : Scalar) → Heavy w → T (not (E.exempt e w))
  weight-clear e w t = elim (decide (E.exempt e w)) [
    | inr n ↦ n
    | inl x ↦ absurd (go (or_split (is_same e ENTIRE && is_same w ZERO) (is_same e ZERO && is_same w ENTIRE) (E.exempt_only e w x)))
  ]
    where
      go : T (is_same e ENTIRE && is_same w ZERO) ⊎ T (is_same e ZERO && is_same w ENTIRE) → ⊥
      go (inl z) = not_zero w t (and_r (is_same e ENTIRE) (is_same w ZERO) z)
      go (inr z) = not-entire w t (and_r (is_same e ZERO) (is_same w ENTIRE) z)

  -- a coordinate less e times the weight
  pub less_holds : (a e w : Scalar) (x q y : ℚ) → Heavy w → Holds a x → Holds e q → Holds w y → Holds (ar.sub a (ar.mul e w)) (x -ℚ q *ℚ y)
  less_holds a e w x q y t h k l = E.sub_holds a (ar.mul e w) x (q *ℚ y) h (E.mul_holds e w q y (weight-clear e w t) k l)

  -- ---- quotients
  pub place_holds : (dim k : ℕ) (q : Vector) (x y : ℚ) → Heavy (coordinate q dim) → Holds (coordinate q k) x → Holds (coordinate q dim) y → Holds (place ar dim k q) (x *ℚ invℚ y)
  unfolding place value_or
  place_holds dim k q x y t h l = go (ar.div (coordinate q k) (coordinate q dim)) refl
    where
      go : (r : Divided) → ar.div (coordinate q k) (coordinate q dim) ≡ r → Holds (value_or r ENTIRE) (x *ℚ invℚ y)
      go (Some c) e = E.div_holds (coordinate q k) (coordinate q dim) c x y e h l
      go None e = absurd (lt→not_le (heavy-pos (coordinate q dim) 0ℚ t ((E.div_fails (coordinate q k) (coordinate q dim)).0 e)) (le_refl 0ℚ))
