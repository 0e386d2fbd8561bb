-- Cuts: no test fires. Assumes nothing.
use mathlib.Core.Path.{◌≡◌, refl}
use mathlib.Core.Bool.{Bool, true, false, cond, ◌&&◌}
use mathlib.Core.List.{List, [], ◌∷◌}
use Prim.Native.Nat.{ℕ, zero, suc, ◌-◌}
use lib.Dec.{T, eqb}
use lib.ListN.{length}
use lib.Ieee.{Float}
use Rattle.exact.specs.Rational.{0ℚ}
use Rattle.math.specs.declared.scalars.Scalar.{Scalar}
use Rattle.math.specs.Divided.{Divided}
use Rattle.std.specs.Prelude.{Some, None}
use Rattle.math.specs.Scalars.{geop, sharp, sub_s, div_s}
use Rattle.math.proofs.Bools.{and_r}
use Rattle.math.proofs.Intervals.Instance.{geop_encloses}
use Rattle.model.specs.Vector.{Vector, interpolate_v}
use Rattle.model.specs.NurbCurve.{Piece, knot}
use Rattle.model.specs.KnotInsertion.{is_bezier, level, triangle, bezier_cut, multiplicity, boehm_cut, cut_by, full_cut}
use Rattle.model.specs.Enclosure.{Every}
use Rattle.model.specs.Tested as tested
use Rattle.model.specs.Tested.{fine, ◌>>=◌}
use Rattle.model.specs.Debug as debug
use Rattle.model.proofs.Sound.Base.{values, Knots}
use Rattle.model.proofs.Sound.Restrict.{Strict}
use Rattle.model.proofs.Proper.Blend.{Solid, Gentle, known_proper, fraction_gentle}
use Rattle.model.proofs.Proper.Cut.{grouped, ungrown, known_a, known_b, before_b, level_solid}
use Rattle.model.proofs.Debug.Ops.{sub_fine, div_fine}
use Rattle.model.proofs.Debug.Lists.{zip_fine}
use Rattle.model.proofs.Debug.Insert.{known_fine, known_sub, vector_fine, times_fine}

module _ (dim : ℕ) where
  -- ---- the triangle
  module _ (α : Scalar) (g : Gentle geop geop_encloses α) where
    level_fine : (row : List Vector) → Every (Solid dim) row → debug.level α row ≡ fine (level geop α row)
    unfolding debug.level level
    level_fine [] S = refl
    level_fine (q ∷ qs) S = zip_fine (Solid dim) (Solid dim) (λ a b. debug.interpolate_v a b α) (λ a b. interpolate_v geop a b α) (λ a b A B. vector_fine α g a b A.all B.all) (q ∷ qs) qs S S.1

    triangle_fine : (n : ℕ) (row : List Vector) → Every (Solid dim) row → debug.triangle α n row ≡ fine (triangle geop α n row)
    unfolding debug.triangle triangle
    triangle_fine zero row S = refl
    triangle_fine (suc n) row S = rw (level_fine row S, triangle_fine n (level geop α row) (level_solid geop geop_encloses dim α g row S)) refl

    bezier_fine : (p : ℕ) (x : Float) (c : Piece) → Every (Solid dim) c.points → debug.bezier_cut p x α c ≡ fine (bezier_cut geop p x α c)
    unfolding debug.bezier_cut bezier_cut
    bezier_fine p x c S = rw (triangle_fine (suc p) c.points S) refl

  -- ---- at x strictly inside the domain
  module _ (p : ℕ) (x : Float) (c : Piece) (K : Knots p (length c.points) c.knots) (i : Strict p c x) (S : Every (Solid dim) c.points) where
    boehm_fine : debug.boehm_cut p x c ≡ fine (boehm_cut geop p x c)
    unfolding debug.boehm_cut boehm_cut
    boehm_fine =
        let g = grouped p x c K i in
        rw (times_fine dim p (length c.points) (values c.knots) (λ _ _. 0ℚ) x g.m g.s K.good i.known i.from i.upto (suc p - multiplicity x c.knots) zero c (ungrown p x c K i) S) refl

    abbrev a : Float
    a = knot c.knots p

    abbrev b : Float
    b = knot c.knots (suc p)

    abbrev along : Divided
    along = div_s (sub_s (sharp x) (sharp (knot c.knots p))) (sub_s (sharp (knot c.knots (suc p))) (sharp (knot c.knots p)))

    by_fine : T (is_bezier p (length c.points) c.knots) → (r : Divided) → along ≡ r → debug.cut_by p x c r ≡ fine (cut_by geop p x c true r)
    unfolding debug.cut_by cut_by
    by_fine t (Some α) e = bezier_fine α (fraction_gentle geop geop_encloses a x b (known_a p x c K i t) i.known (known_b p x c K i t) i.from (before_b p x c K i t) α e) p x c S
    by_fine t None e = boehm_fine

    -- THE CUT
    pub cut_fine : debug.full_cut p x c ≡ fine (full_cut geop p x c)
    unfolding debug.full_cut full_cut
    cut_fine = go (eqb (multiplicity x c.knots) 0 && is_bezier p (length c.points) c.knots) (and_r (eqb (multiplicity x c.knots) 0) (is_bezier p (length c.points) c.knots))
      where
        go : (z : Bool) → (T z → T (is_bezier p (length c.points) c.knots))
            → cond z (tested.sharp x >>= λ u. tested.sharp a >>= λ v. tested.sub u v >>= λ n. tested.sharp b >>= λ u'. tested.sharp a >>= λ v'. tested.sub u' v' >>= λ d. tested.div n d >>= λ r. debug.cut_by p x c r) (debug.boehm_cut p x c)
            ≡ fine (cut_by geop p x c z along)
        go true h =
            let ka = known_a p x c K i (h tt) in
            let kb = known_b p x c K i (h tt) in
            rw (
              known_fine x i.known,
              known_fine a ka,
              sub_fine (sharp x) (sharp a) (known_proper x i.known) (known_proper a ka),
              known_fine b kb,
              sub_fine (sharp b) (sharp a) (known_proper b kb) (known_proper a ka),
              div_fine (sub_s (sharp x) (sharp a)) (sub_s (sharp b) (sharp a)) (known_sub x a i.known ka) (known_sub b a kb ka),
            ) (by_fine (h tt) along refl)
        go false h = unfold cut_by in boehm_fine
