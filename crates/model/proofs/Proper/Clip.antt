-- The abscissae, the zeros of a polygon and the clip: what is computed of intervals in order is in order. Assumes nothing.
use mathlib.Core.Path.{◌≡◌, refl}
use mathlib.Core.Bool.{not}
use mathlib.Core.List.{List, [], ◌∷◌, zip_with}
use mathlib.Core.Option.{Option, none, some}
use Prim.Native.Nat.{ℕ, zero, suc, ◌+◌, ◌-◌, ◌≤◌, ◌<◌}
use native.Mathlib.Nat.{le_trans as ℕ-trans}
use native.Mathlib.Omega.{arith}
use lib.Dec.{T, lit≤}
use lib.IntN.{pos}
use lib.ListN.{length, get_or, drop, length-map}
use lib.Ieee.{Float, binary64, of_int}
use Rattle.lists.specs.Lists.{last_d, foldl}
use Rattle.lists.proofs.Tab.{length-tab}
use Rattle.math.specs.declared.scalars.Scalar.{Scalar}
use Rattle.math.specs.Divided.{Divided}
use Rattle.std.specs.Prelude.{Some, None}
use Rattle.math.specs.Scalars.{Arithmetic, sharp, absent, ZERO, ENTIRE, could_be_equal, union_s, intersect_s}
use Rattle.math.specs.Values.{Proper}
use Rattle.math.specs.Encloses.{Encloses, InOrder}
use Rattle.math.proofs.Intervals.Tests.{holds_proper, proper_holds}
use Rattle.math.proofs.Intervals.Proper.{in_order_lem, zero_proper, entire_proper, union_proper, intersect_proper, quotient_proper}
use Rattle.model.specs.Vector.{Vector, coordinate}
use Rattle.model.specs.Aabb.{unions}
use Rattle.model.specs.FatLine.{window, abscissa, greville, offset, crossing, zeros_by, fat_line_zeros}
use Rattle.model.specs.Contains.{axis, narrowed, clip}
use Rattle.model.specs.Enclosure.{Every}
use Rattle.model.specs.Hat.{Hat}
use Rattle.model.proofs.Sound.Base.{Known}
use Rattle.model.proofs.Sound.Visit.Greville.{whole_holds}
use Rattle.model.proofs.Sound.Visit.Keeps.{OfHat, of_hat_if, of_hat_or, clip-keeps}
use Rattle.model.proofs.Sound.Visit.Weights.{Heavy, weight-clear}
use Rattle.model.proofs.Every.{every_at, every_take, every_drop, every-tab, every_map, every-zip, fold-keeps}
use Rattle.model.proofs.Proper.Blend.{Solid, coordinate_proper, known_proper}

unions_proper : (l : List Scalar) → Every Proper l → Proper (unions l)
unfolding unions
unions_proper [] S = entire_proper
unions_proper (x ∷ xs) S = fold-keeps Proper Proper union_s union_proper x xs S.0 S.1

-- the degree as a divisor
pub degree_proper : (p : ℕ) → p ≤ 7 → Proper (sharp (of_int binary64 (pos p)))
degree_proper p h = holds_proper _ _ (whole_holds p (ℕ-trans h (lit≤ tt)))

-- what is known of the abscissae, where there are any
pub record Given (n : ℕ) (ξs : List Scalar) : Type 0 where
  pub long : length ξs ≡ n
  pub each : Every Proper ξs

abbrev pub Givens : ℕ → Option (List Scalar) → Type 0
Givens n none = Unit {0}
Givens n (some ξs) = Given n ξs

-- a control polygon in order, of one point at least
pub record Polygon (ξs ds : List Scalar) : Type 0 where
  pub abscissae : Every Proper ξs
  pub values : Every Proper ds
  pub some_ξ : 0 < length ξs
  pub some_d : 0 < length ds

-- a point whose coordinates are in order, with a weight above zero
pub record Weighty (dim : ℕ) (q : Vector) : Type 0 where
  pub solid : Solid dim q
  pub heavy : Heavy (coordinate q dim)

module _ (ar : Arithmetic) (E : Encloses ar) where
  abbrev o : InOrder ar E.exempt
  o = in_order_lem ar E

  -- ---- the abscissae
  pub sum_proper : (s : Scalar) (u : Float) → Proper s → Known u → Proper (ar.add s (sharp u))
  sum_proper s u S k = o.add_proper s (sharp u) S (known_proper u k)

  pub total_proper : (knots : List Float) → Every Known knots → Proper (foldl (λ s u. ar.add s (sharp u)) ZERO knots)
  total_proper knots K = fold-keeps Proper Known (λ s u. ar.add s (sharp u)) sum_proper ZERO knots zero_proper K

  pub window_known : (p : ℕ) (ks : List Float) (i : ℕ) → Every Known ks → Every Known (window p ks i)
  window_known p ks i K = every_take Known p (drop (suc i) ks) (every_drop Known (suc i) ks K)

  pub greville_proper : (p n : ℕ) (ks : List Float) → p ≤ 7 → Every Known ks → Givens n (greville ar p n ks)
  unfolding greville abscissa
  greville_proper zero n ks h K = tt
  greville_proper (suc p) n ks h K = record {
    long = length-tab n (λ i. abscissa ar (suc p) (window (suc p) ks i));
    each = every-tab Proper n (λ i. abscissa ar (suc p) (window (suc p) ks i)) (λ i _. quotient_proper ar E _ _ ENTIRE (total_proper (window (suc p) ks i) (window_known (suc p) ks i K)) (degree_proper (suc p) h) entire_proper);
  }

  -- ---- the zeros
  module _ (ξs ds : List Scalar) (P : Polygon ξs ds) where
    abbrev ξ₀ : Scalar
    ξ₀ = get_or ξs 0 absent

    abbrev d₀ : Scalar
    d₀ = get_or ds 0 absent

    abbrev rise : Scalar
    rise = ar.sub (last_d ds absent) (get_or ds 0 absent)

    abbrev run : Scalar
    run = ar.sub (last_d ξs absent) (get_or ξs 0 absent)

    pub first_x : Proper (get_or ξs 0 absent)
    first_x = every_at Proper ξs 0 absent P.abscissae P.some_ξ

    pub first_d : Proper (get_or ds 0 absent)
    first_d = every_at Proper ds 0 absent P.values P.some_d

    pub last_x : Proper (last_d ξs absent)
    last_x = every_at Proper ξs (length ξs - 1) absent P.abscissae (omega (arith, P.some_ξ))

    pub last_d_lem : Proper (last_d ds absent)
    last_d_lem = every_at Proper ds (length ds - 1) absent P.values (omega (arith, P.some_d))

    pub rises : Proper (ar.sub (last_d ds absent) (get_or ds 0 absent))
    rises = o.sub_proper (last_d ds absent) d₀ last_d_lem first_d

    pub runs : Proper (ar.sub (last_d ξs absent) (get_or ξs 0 absent))
    runs = o.sub_proper (last_d ξs absent) ξ₀ last_x first_x

    -- where the chord has a slope s
    module _ (s : Scalar) (es : ar.div (ar.sub (last_d ds absent) (get_or ds 0 absent)) (ar.sub (last_d ξs absent) (get_or ξs 0 absent)) ≡ Some s) where
      pub slope : Proper s
      slope = o.div_proper rise run s rises runs es

      module _ (x y : Scalar) (U : Proper x) (W : Proper y) where
        pub far : Proper (ar.sub x (get_or ξs 0 absent))
        far = o.sub_proper x ξ₀ U first_x

        pub clear : T (not (E.exempt s (ar.sub x (get_or ξs 0 absent))))
        clear =
            let r = proper_holds rise rises in
            let n = proper_holds run runs in
            let u = proper_holds x U in
            let f = proper_holds ξ₀ first_x in
            E.slope_clear rise run s x ξ₀ r.0 n.0 u.0 f.0 es r.1 n.1 u.1 f.1

        pub climb : Proper (ar.mul s (ar.sub x (get_or ξs 0 absent)))
        climb = o.mul_proper s (ar.sub x ξ₀) slope far clear

        pub chord : Proper (ar.add (get_or ds 0 absent) (ar.mul s (ar.sub x (get_or ξs 0 absent))))
        chord = o.add_proper d₀ (ar.mul s (ar.sub x ξ₀)) first_d climb

        pub offset_proper : Proper (offset ar s (get_or ξs 0 absent) (get_or ds 0 absent) x y)
        offset_proper = o.sub_proper y (ar.add d₀ (ar.mul s (ar.sub x ξ₀))) W chord

      abbrev offs : List Scalar
      offs = zip_with (λ x y. offset ar s (get_or ξs 0 absent) (get_or ds 0 absent) x y) ξs ds

      pub band_proper : Proper (unions (zip_with (λ x y. offset ar s (get_or ξs 0 absent) (get_or ds 0 absent) x y) ξs ds))
      band_proper = unions_proper offs (every-zip Proper Proper Proper (λ x y. offset ar s ξ₀ d₀ x y) offset_proper ξs ds P.abscissae P.values)

      pub reach_proper : Proper (ar.add (get_or ds 0 absent) (unions (zip_with (λ x y. offset ar s (get_or ξs 0 absent) (get_or ds 0 absent) x y) ξs ds)))
      reach_proper = o.add_proper d₀ (unions offs) first_d band_proper

      crossing_proper : (q : Divided) → ar.div (ar.add (get_or ds 0 absent) (unions offs)) s ≡ q → OfHat Proper (crossing ar (get_or ξs 0 absent) q)
      unfolding crossing
      crossing_proper (Some q) e = o.sub_proper ξ₀ q first_x (o.div_proper (ar.add d₀ (unions offs)) s q reach_proper slope e)
      crossing_proper None e = entire_proper

    -- THE FAT LINE
    pub zeros_proper : OfHat Proper (fat_line_zeros ar ξs ds)
    unfolding fat_line_zeros zeros_by
    zeros_proper = go (ar.div rise run) refl
      where
        go : (r : Divided) → ar.div rise run ≡ r → OfHat Proper (zeros_by ar ξs ds ξ₀ d₀ r)
        go (Some s) e = of_hat_or Proper (could_be_equal (ar.add (union_s d₀ (last_d ds absent)) (unions (offs s e))) ZERO) _ (crossing_proper s e (ar.div (ar.add d₀ (unions (offs s e))) s) refl)
        go None e = of_hat_if Proper (could_be_equal (unions ds) ZERO) ENTIRE (λ _. entire_proper)

  -- ---- the clip
  pub narrowed_proper : (hat : Scalar) (z : Hat) → Proper hat → OfHat Proper z → OfHat Proper (narrowed hat z)
  unfolding narrowed
  narrowed_proper hat None h k = tt
  narrowed_proper hat (Some z) h k = of_hat_if Proper (could_be_equal z hat) (intersect_s hat z) (λ _. intersect_proper hat z h k)

  module _ (dim : ℕ) (points : List Vector) (S : Every (Weighty dim) points) where
    -- one axis
    module _ (k : ℕ) (e : Scalar) (h : k < dim) (U : Proper e) where
      pub times_proper : (q : Vector) → Weighty dim q → Proper (ar.mul e (coordinate q dim))
      times_proper q w = o.mul_proper e (coordinate q dim) U (coordinate_proper dim q dim w.solid (omega arith)) (weight-clear ar E e (coordinate q dim) w.heavy)

      less_proper : (q : Vector) → Weighty dim q → Proper (ar.sub (coordinate q k) (ar.mul e (coordinate q dim)))
      less_proper q w = o.sub_proper (coordinate q k) (ar.mul e (coordinate q dim)) (coordinate_proper dim q k w.solid (omega arith)) (times_proper q w)

      pub polygon : (ξs : List Scalar) → Given (length points) ξs → 0 < length points → Polygon ξs (axis ar dim k e points)
      unfolding axis
      polygon ξs G some-p = record {
        abscissae = G.each;
        values = every_map (Weighty dim) Proper (λ q. ar.sub (coordinate q k) (ar.mul e (coordinate q dim))) less_proper points S;
        some_ξ = omega (arith, G.long, some-p);
        some_d = omega (arith, length-map points (λ q. ar.sub (coordinate q k) (ar.mul e (coordinate q dim))), some-p);
      }

    -- THE CLIP
    pub clip_proper : (ξs : List Scalar) → Given (length points) ξs → 0 < length points → (es : List Scalar) (hat : Scalar) → length es ≤ dim → Every Proper es → Proper hat → OfHat Proper (clip ar dim points ξs hat 0 es)
    clip_proper ξs G some-p es hat l B h = clip-keeps ar dim points ξs Proper (λ k e. (k < dim) × Proper e) step es 0 hat at h
      where
        step : (k : ℕ) (e hat : Scalar) → (k < dim) × Proper e → Proper hat → OfHat Proper (narrowed hat (fat_line_zeros ar ξs (axis ar dim k e points)))
        step k e hat y h = narrowed_proper hat _ h (zeros_proper ξs (axis ar dim k e points) (polygon k e y.0 y.1 ξs G some-p))

        at : (j : ℕ) → j < length es → (0 + j < dim) × Proper (get_or es j absent)
        at j m = (omega arith, every_at Proper es j absent B m)
