-- A piece cut in two, and a piece cut down to a hat: no test fires. Assumes nothing.
use mathlib.Core.Path.{◌≡◌, refl}
use mathlib.Core.Bool.{Bool, true, false, cond}
use Prim.Native.Nat.{ℕ}
use lib.Dec.{T}
use lib.ListN.{length}
use lib.Ieee.{Float, binary64, fits}
use Rattle.math.specs.Scalars.{geop, sharp, TWO, ENTIRE, middle, value_or, add_s, div_s}
use Rattle.math.proofs.Doubles.Order.{number}
use Rattle.math.proofs.Intervals.Instance.{geop_encloses}
use Rattle.model.specs.NurbCurve.{Piece, start, end, in_domain, mid_parameter}
use Rattle.model.specs.KnotInsertion.{left_of, right_of}
use Rattle.model.specs.Split.{uncut, both, split_by, split, split_mid, from_by, up_to_by, restrict}
use Rattle.model.specs.Enclosure.{Every}
use Rattle.model.specs.Tested.{fine, ◌>>=◌}
use Rattle.model.specs.Debug as debug
use Rattle.model.proofs.Sound.Base.{Known, Knots}
use Rattle.model.proofs.Sound.Restrict.{Strict, strict, mid-fits}
use Rattle.model.proofs.Sound.Visit.Within.{start_known, end_known}
use Rattle.model.proofs.Proper.Blend.{Solid, known_proper}
use Rattle.model.proofs.Proper.Split.{from_solid, from-knots}
use Rattle.model.proofs.Debug.Ops.{sharp_fine, add_fine, div_fine}
use Rattle.model.proofs.Debug.Insert.{known_fine}
use Rattle.model.proofs.Debug.Cut.{cut_fine}
use Rattle.model.proofs.Debug.Mid.{two_proper, sum_proper, mid_number}

mid_fine : (a b : Float) → Known a → Known b → debug.mid_parameter a b ≡ fine (mid_parameter geop a b)
unfolding debug.mid_parameter mid_parameter
mid_fine a b ka kb = rw (
  known_fine a ka,
  known_fine b kb,
  add_fine (sharp a) (sharp b) (known_proper a ka) (known_proper b kb),
  div_fine (add_s (sharp a) (sharp b)) TWO (sum_proper a b ka kb) two_proper,
  sharp_fine (middle (value_or (div_s (add_s (sharp a) (sharp b)) TWO) ENTIRE)) (unfold mid_parameter in mid_number a b ka kb),
) refl

module _ (dim p : ℕ) where
  module _ (c : Piece) (K : Knots p (length c.points) c.knots) (S : Every (Solid dim) c.points) where
    pub split_fine : debug.split_mid p c ≡ fine (split_mid geop p c)
    unfolding debug.split_mid split_mid split split_by
    split_fine = rw (mid_fine (start p c) (end c) (start_known p c K) (end_known p c K)) (go (in_domain (start p c) (end c) t) (strict p c t K (mid-fits geop (start p c) (end c))))
      where
        t : Float
        t = mid_parameter geop (start p c) (end c)

        go : (z : Bool) → (T z → Strict p c t) → cond z (debug.full_cut p t c >>= λ k. fine (both (left_of p k) (right_of k))) (fine uncut) ≡ fine (split_by geop p t c z)
        go true h = rw (cut_fine dim p t c K (h tt) S) refl
        go false h = refl

    from_fine : (x : Float) → T (fits binary64 x) → debug.from p x c ≡ fine (from_by geop p x c (in_domain (start p c) (end c) x))
    unfolding debug.from from_by
    from_fine x f = go (in_domain (start p c) (end c) x) (strict p c x K f)
      where
        go : (z : Bool) → (T z → Strict p c x) → cond z (debug.full_cut p x c >>= λ k. fine (record { piece = right_of k; cuts = 1 })) (fine (record { piece = c; cuts = 0 })) ≡ fine (from_by geop p x c z)
        go true h = rw (cut_fine dim p x c K (h tt) S) refl
        go false h = refl

    upto_fine : (x : Float) → T (fits binary64 x) → debug.up_to p x c ≡ fine (up_to_by geop p x c (in_domain (start p c) (end c) x))
    unfolding debug.up_to up_to_by
    upto_fine x f = go (in_domain (start p c) (end c) x) (strict p c x K f)
      where
        go : (z : Bool) → (T z → Strict p c x) → cond z (debug.full_cut p x c >>= λ k. fine (record { piece = left_of p k; cuts = 1 })) (fine (record { piece = c; cuts = 0 })) ≡ fine (up_to_by geop p x c z)
        go true h = rw (cut_fine dim p x c K (h tt) S) refl
        go false h = refl

  -- THE PIECE CUT DOWN
  pub restrict_fine : (c : Piece) → Knots p (length c.points) c.knots → Every (Solid dim) c.points → (lo hi : Float) → T (fits binary64 lo) → T (number lo) → T (fits binary64 hi) → T (number hi)
      → debug.restrict p lo hi c ≡ fine (restrict geop p lo hi c)
  unfolding debug.restrict restrict
  restrict_fine c K S lo hi f n g m =
      let a = (from_by geop p lo c (in_domain (start p c) (end c) lo)).piece in
      rw (
        sharp_fine lo n,
        sharp_fine hi m,
        from_fine c K S lo f,
        upto_fine a (from-knots geop geop_encloses dim p c K lo f) (from_solid geop geop_encloses dim p c K S lo f) hi g,
      ) refl
