-- The fat line loses no zero: where the spline of a control polygon is zero at t, the zeros of the polygon's intervals are found and hold t. Assumes nothing.
use mathlib.Core.Path.{◌≡◌, refl, sym, ◌∙◌, subst}
use mathlib.Core.List.{List, [], ◌∷◌, zip_with}
use mathlib.Core.Bool.{Bool, true, false, cond}
use Prim.Native.Nat.{ℕ, zero, ◌-◌, ◌≤◌, ◌<◌}
use native.Mathlib.Omega.{arith}
use lib.Dec.{T}
use lib.ListN.{length, get_or}
use Rattle.solver.proofs.Ring.{by_rep, read}
use Rattle.exact.specs.Rational.{ℚ, ◌+ℚ◌, ◌*ℚ◌, -ℚ◌, ◌-ℚ◌, 0ℚ, invℚ}
use Rattle.exact.specs.Hull.{In}
use Rattle.exact.proofs.Field.{ℚring, *ℚ_inv}
use Rattle.exact.proofs.Splines.Hull.{solve}
use Rattle.lists.proofs.Each.{get_or_zip, length-zip}
use Rattle.lists.specs.Lists.{last_d}
use Rattle.math.specs.declared.scalars.Scalar.{Scalar}
use Rattle.math.specs.Divided.{Divided}
use Rattle.std.specs.Prelude.{Some, None}
use Rattle.math.specs.Scalars.{Arithmetic, absent, ZERO, ENTIRE, could_be_equal, union_s}
use Rattle.math.specs.Values.{Holds}
use Rattle.math.specs.Encloses.{Encloses}
use Rattle.math.proofs.Intervals.Tests.{union_left, union_right, zero_holds, entire_holds}
use Rattle.model.specs.Aabb.{unions}
use Rattle.model.specs.FatLine.{offset, crossing, zeros_by, fat_line_zeros}
use Rattle.model.specs.Hat.{Hat}
use Rattle.model.proofs.Sound.Visit.Hulls.{could_equal, unions-between, two_ends}

-- a hat that holds t
abbrev pub Found : Hat → ℚ → Type 0
Found None t = ⊥
Found (Some z) t = Holds z t

pub found-over : (h : Hat) (t : ℚ) → Found h t → (z : Scalar) × (h ≡ Some z) × Holds z t
found-over None t f = absurd f
found-over (Some z) t f = (z, refl, f)

-- the test has passed
pub passes : (b : Bool) (h : Hat) (t : ℚ) → T b → Found h t → Found (cond b h None) t
passes true h t y f = f
passes false h t y f = absurd y

-- what the exact polygon (x i, d i) of n points, whose spline is zero at t, gives away of t
pub record Crosses (n : ℕ) (x d : ℕ → ℚ) (t : ℚ) : Type 0 where
  pub range : (a b : ℚ) → ((i : ℕ) → i < n → In a b (d i)) → In a b 0ℚ
  pub band : (s lo hi : ℚ) → ((i : ℕ) → i < n → In lo hi (d i -ℚ (d zero +ℚ s *ℚ (x i -ℚ x zero)))) → In lo hi (-ℚ (d zero +ℚ s *ℚ (t -ℚ x zero)))
  pub line : (s a b : ℚ) → ¬ (x (n - 1) -ℚ x zero ≡ 0ℚ) → s ≡ (d (n - 1) -ℚ d zero) *ℚ invℚ (x (n - 1) -ℚ x zero) → In a b (d zero) → In a b (d (n - 1))
      → In a b (d zero +ℚ s *ℚ (t -ℚ x zero))

cancels : (x : ℚ) → x +ℚ -ℚ x ≡ 0ℚ
cancels x = by_rep ℚring (x ∷ []) (search read) (search read) tt

abbrev IsValue : Divided → Type 0
IsValue (Some c) = Unit {0}
IsValue None = ⊥

module _ (ar : Arithmetic) (E : Encloses ar) where
  -- a divisor of a division that succeeds holds no zero
  pub divisor : (a b c : Scalar) (y : ℚ) → ar.div a b ≡ Some c → Holds b y → ¬ (y ≡ 0ℚ)
  divisor a b c y e h z = subst IsValue (sym e ∙ (E.div_fails a b).1 (subst (λ (x : ℚ). Holds b x) z h)) tt

  module _ (n : ℕ) (1≤n : 1 ≤ n) (ξs ds : List Scalar) (lξ : length ξs ≡ n) (ld : length ds ≡ n) (x d : ℕ → ℚ)
      (hx : (i : ℕ) → i < n → Holds (get_or ξs i absent) (x i)) (hd : (i : ℕ) → i < n → Holds (get_or ds i absent) (d i)) where
    abbrev ξ₀ : Scalar
    ξ₀ = get_or ξs 0 absent

    abbrev d₀ : Scalar
    d₀ = get_or ds 0 absent

    abbrev rise : Scalar
    rise = ar.sub (last_d ds absent) d₀

    abbrev run : Scalar
    run = ar.sub (last_d ξs absent) ξ₀

    first_x : Holds ξ₀ (x zero)
    first_x = hx zero 1≤n

    first_d : Holds d₀ (d zero)
    first_d = hd zero 1≤n

    last_x : Holds (last_d ξs absent) (x (n - 1))
    last_x = subst (λ (z : ℕ). Holds (get_or ξs (z - 1) absent) (x (n - 1))) (sym lξ) (hx (n - 1) (omega arith))

    last_d_lem : Holds (last_d ds absent) (d (n - 1))
    last_d_lem = subst (λ (z : ℕ). Holds (get_or ds (z - 1) absent) (d (n - 1))) (sym ld) (hd (n - 1) (omega arith))

    rise_holds : Holds rise (d (n - 1) -ℚ d zero)
    rise_holds = E.sub_holds _ _ _ _ last_d_lem first_d

    run_holds : Holds run (x (n - 1) -ℚ x zero)
    run_holds = E.sub_holds _ _ _ _ last_x first_x

    -- ---- where the chord has a slope
    module _ (s : Scalar) (es : ar.div rise run ≡ Some s) where
      abbrev σ : ℚ
      σ = (d (n - 1) -ℚ d zero) *ℚ invℚ (x (n - 1) -ℚ x zero)

      σ_holds : Holds s σ
      σ_holds = E.div_holds rise run s _ _ es rise_holds run_holds

      abbrev offsets : List Scalar
      offsets = zip_with (λ u y. offset ar s ξ₀ d₀ u y) ξs ds

      offsets_long : length offsets ≡ n
      offsets_long = length-zip (λ u y. offset ar s ξ₀ d₀ u y) ξs ds (omega (arith, lξ, ld)) ∙ ld

      offset_holds : (i : ℕ) → i < n → Holds (get_or offsets i absent) (d i -ℚ (d zero +ℚ σ *ℚ (x i -ℚ x zero)))
      offset_holds i l =
          subst (λ (z : Scalar). Holds z (d i -ℚ (d zero +ℚ σ *ℚ (x i -ℚ x zero)))) (sym (get_or_zip (λ u y. offset ar s ξ₀ d₀ u y) ξs ds i absent absent absent (subst (λ (z : ℕ). i < z) (sym lξ) l) (subst (λ (z : ℕ). i < z) (sym ld) l)))
          (E.sub_holds _ _ _ _ (hd i l) (E.add_holds _ _ _ _ first_d
          (E.mul_holds s (ar.sub (get_or ξs i absent) ξ₀) _ _ (E.slope_clear rise run s (get_or ξs i absent) ξ₀ _ _ _ _ es rise_holds run_holds (hx i l) first_x) σ_holds (E.sub_holds _ _ _ _ (hx i l) first_x))))

      -- any number that the band holds gives one that the crossing holds
      cross_holds : (δ t : ℚ) → Holds (unions offsets) δ → (¬ (σ ≡ 0ℚ) → t ≡ x zero -ℚ (d zero +ℚ δ) *ℚ invℚ σ) → Found (crossing ar ξ₀ (ar.div (ar.add d₀ (unions offsets)) s)) t
      unfolding crossing
      cross_holds δ t h r = go (ar.div (ar.add d₀ (unions offsets)) s) refl
        where
          go : (q : Divided) → ar.div (ar.add d₀ (unions offsets)) s ≡ q → Found (crossing ar ξ₀ q) t
          go None e = entire_holds t
          go (Some q) e =
              subst (λ (z : ℚ). Holds (ar.sub ξ₀ q) z) (sym (r (divisor (ar.add d₀ (unions offsets)) s q σ e σ_holds)))
              (E.sub_holds ξ₀ q _ _ first_x (E.div_holds (ar.add d₀ (unions offsets)) s q _ σ e (E.add_holds _ _ _ _ first_d h) σ_holds))

      module _ (t : ℚ) (cr : Crosses n x d t) where
        abbrev δ : ℚ
        δ = -ℚ (d zero +ℚ σ *ℚ (t -ℚ x zero))

        band_holds : Holds (unions offsets) δ
        band_holds = unions-between offsets n (λ i. d i -ℚ (d zero +ℚ σ *ℚ (x i -ℚ x zero))) δ offsets_long 1≤n offset_holds (λ a b f. cr.band σ a b f)

        line_holds : Holds (union_s d₀ (last_d ds absent)) (d zero +ℚ σ *ℚ (t -ℚ x zero))
        line_holds = two_ends (union_s d₀ (last_d ds absent)) (d zero) (d (n - 1)) _ (union_left _ _ _ first_d) (union_right _ _ _ last_d_lem)
            (λ a b f g. cr.line σ a b (divisor rise run s (x (n - 1) -ℚ x zero) es run_holds) refl f g)

        sloped : Found (zeros_by ar ξs ds ξ₀ d₀ (Some s)) t
        unfolding zeros_by
        sloped = passes (could_be_equal (ar.add (union_s d₀ (last_d ds absent)) (unions offsets)) ZERO) (crossing ar ξ₀ (ar.div (ar.add d₀ (unions offsets)) s)) t
            (could_equal _ ZERO 0ℚ (subst (λ (z : ℚ). Holds (ar.add (union_s d₀ (last_d ds absent)) (unions offsets)) z) (cancels (d zero +ℚ σ *ℚ (t -ℚ x zero))) (E.add_holds _ _ _ _ line_holds band_holds)) zero_holds)
            (cross_holds δ t band_holds (λ ne. solve t (x zero) (d zero) σ δ (*ℚ_inv σ ne) refl))

    -- THE FAT LINE
    pub zeros-found : (t : ℚ) → Crosses n x d t → Found (fat_line_zeros ar ξs ds) t
    unfolding fat_line_zeros
    zeros-found t cr = go (ar.div rise run) refl
      where
        go : (o : Divided) → ar.div rise run ≡ o → Found (zeros_by ar ξs ds ξ₀ d₀ o) t
        go (Some s) e = sloped s e t cr
        go None e = unfold zeros_by in
            passes (could_be_equal (unions ds) ZERO) (Some ENTIRE) t (could_equal (unions ds) ZERO 0ℚ (unions-between ds n d 0ℚ ld 1≤n hd (λ a b f. cr.range a b f)) zero_holds) (entire_holds t)
