-- The abscissae, the zeros of a polygon and the clip: no test of an interval fires. Assumes nothing.
use mathlib.Core.Path.{◌≡◌, refl}
use mathlib.Core.Bool.{Bool, true, false, cond}
use mathlib.Core.List.{List, [], ◌∷◌, zip_with}
use Prim.Native.Nat.{ℕ, zero, suc, ◌+◌, ◌≤◌, ◌<◌}
use native.Mathlib.Omega.{arith}
use lib.IntN.{pos}
use lib.ListN.{length, get_or}
use lib.Ieee.{Float, binary64, of_int}
use Rattle.lists.specs.Lists.{last_d, foldl}
use Rattle.math.specs.declared.scalars.Scalar.{Scalar}
use Rattle.math.specs.Divided.{Divided}
use Rattle.std.specs.Prelude.{Some, None}
use Rattle.math.specs.Scalars.{geop, sharp, absent, ZERO, could_be_equal, union_s, intersect_s, add_s, sub_s, mul_s, div_s}
use Rattle.math.specs.Values.{Proper}
use Rattle.math.proofs.Doubles.Order.{le_number_l}
use Rattle.math.proofs.Intervals.Instance.{geop_encloses}
use Rattle.math.proofs.Intervals.Proper.{geop_in_order, zero_proper, union_proper}
use Rattle.model.specs.Vector.{Vector, coordinate}
use Rattle.model.specs.Aabb.{unions}
use Rattle.model.specs.FatLine.{window, abscissa, greville, offset, crossing, zeros_by, fat_line_zeros}
use Rattle.model.specs.Contains.{axis, narrowed, clip}
use Rattle.model.specs.Enclosure.{Every}
use Rattle.model.specs.Hat.{Hat}
use Rattle.model.specs.Tested as tested
use Rattle.model.specs.Tested.{Tested, fine, ◌>>=◌}
use Rattle.model.specs.Debug as debug
use Rattle.model.proofs.Every.{every-zip}
use Rattle.model.proofs.Sound.Base.{Known}
use Rattle.model.proofs.Sound.Visit.Keeps.{OfHat}
use Rattle.model.proofs.Sound.Visit.Weights.{weight-clear}
use Rattle.model.proofs.Proper.Blend.{coordinate_proper, known_proper}
use Rattle.model.proofs.Proper.Clip.{Given, Polygon, Weighty, degree_proper, sum_proper, total_proper, window_known, first_x, first_d, last_x, last_d_lem, rises, runs, slope, far, clear, climb, chord, offset_proper, band_proper, reach_proper, zeros_proper, narrowed_proper, times_proper, polygon}
use Rattle.model.proofs.Debug.Ops.{sharp_fine, add_fine, sub_fine, mul_fine, div_fine, union_fine, intersect_fine}
use Rattle.model.proofs.Debug.Lists.{tab_fine, map_fine, zip_fine, fold_fine}
use Rattle.model.proofs.Debug.Insert.{known_fine}
use Rattle.model.proofs.Debug.Box.{unions_fine}

-- ---- the abscissae
abscissa_fine : (p : ℕ) → p ≤ 7 → (knots : List Float) → Every Known knots → debug.abscissa p knots ≡ fine (abscissa geop p knots)
unfolding debug.abscissa abscissa
abscissa_fine p p≤7 knots K = rw (
  fold_fine Proper Known (λ s u. tested.sharp u >>= λ x. tested.add s x) (λ s u. add_s s (sharp u)) adds (sum_proper geop geop_encloses) ZERO knots zero_proper K,
  sharp_fine (of_int binary64 (pos p)) (le_number_l _ _ (degree_proper p p≤7).order),
  div_fine (foldl (λ s u. add_s s (sharp u)) ZERO knots) (sharp (of_int binary64 (pos p))) (total_proper geop geop_encloses knots K) (degree_proper p p≤7),
) refl
  where
    adds : (s : Scalar) (u : Float) → Proper s → Known u → (tested.sharp u >>= λ x. tested.add s x) ≡ fine (add_s s (sharp u))
    adds s u S k = rw (known_fine u k) (add_fine s (sharp u) S (known_proper u k))

pub greville_fine : (p n : ℕ) (ks : List Float) → p ≤ 7 → Every Known ks → debug.greville p n ks ≡ fine (greville geop p n ks)
unfolding debug.greville greville
greville_fine zero n ks h K = refl
greville_fine (suc p) n ks h K =
    rw (tab_fine n (λ i. debug.abscissa (suc p) (window (suc p) ks i)) (λ i. abscissa geop (suc p) (window (suc p) ks i)) (λ i _. abscissa_fine (suc p) h (window (suc p) ks i) (window_known geop geop_encloses (suc p) ks i K))) refl

-- ---- the zeros
module _ (ξs ds : List Scalar) (P : Polygon ξs ds) where
  abbrev ξ₀ : Scalar
  ξ₀ = get_or ξs 0 absent

  abbrev d₀ : Scalar
  d₀ = get_or ds 0 absent

  abbrev dₙ : Scalar
  dₙ = last_d ds absent

  abbrev rise : Scalar
  rise = sub_s (last_d ds absent) (get_or ds 0 absent)

  abbrev run : Scalar
  run = sub_s (last_d ξs absent) (get_or ξs 0 absent)

  x₀ : Proper (get_or ξs 0 absent)
  x₀ = first_x geop geop_encloses ξs ds P

  y₀ : Proper (get_or ds 0 absent)
  y₀ = first_d geop geop_encloses ξs ds P

  yₙ : Proper (last_d ds absent)
  yₙ = last_d_lem geop geop_encloses ξs ds P

  -- where the chord has a slope s
  module _ (s : Scalar) (es : div_s (sub_s (last_d ds absent) (get_or ds 0 absent)) (sub_s (last_d ξs absent) (get_or ξs 0 absent)) ≡ Some s) where
    steep : Proper s
    steep = slope geop geop_encloses ξs ds P s es

    offset_fine : (x y : Scalar) → Proper x → Proper y → debug.offset s (get_or ξs 0 absent) (get_or ds 0 absent) x y ≡ fine (offset geop s (get_or ξs 0 absent) (get_or ds 0 absent) x y)
    unfolding debug.offset
    offset_fine x y U W = rw (
      sub_fine x ξ₀ U x₀,
      mul_fine s (sub_s x ξ₀) steep (far geop geop_encloses ξs ds P s es x y U W) (clear geop geop_encloses ξs ds P s es x y U W),
      add_fine d₀ (mul_s s (sub_s x ξ₀)) y₀ (climb geop geop_encloses ξs ds P s es x y U W),
      sub_fine y (add_s d₀ (mul_s s (sub_s x ξ₀))) W (chord geop geop_encloses ξs ds P s es x y U W),
    ) refl

    abbrev offs : List Scalar
    offs = zip_with (λ x y. offset geop s (get_or ξs 0 absent) (get_or ds 0 absent) x y) ξs ds

    band : Proper (unions (zip_with (λ x y. offset geop s (get_or ξs 0 absent) (get_or ds 0 absent) x y) ξs ds))
    band = band_proper geop geop_encloses ξs ds P s es

    crossing_fine : (q : Divided) → div_s (add_s (get_or ds 0 absent) (unions offs)) s ≡ q → debug.crossing (get_or ξs 0 absent) q ≡ fine (crossing geop (get_or ξs 0 absent) q)
    unfolding debug.crossing crossing
    crossing_fine (Some q) e = rw (sub_fine ξ₀ q x₀ (geop_in_order.div_proper (add_s d₀ (unions offs)) s q (reach_proper geop geop_encloses ξs ds P s es) steep e)) refl
    crossing_fine None e = refl

    sloped_fine : debug.zeros_by ξs ds (get_or ξs 0 absent) (get_or ds 0 absent) (Some s) ≡ fine (zeros_by geop ξs ds (get_or ξs 0 absent) (get_or ds 0 absent) (Some s))
    unfolding debug.zeros_by zeros_by
    sloped_fine = rw (
      zip_fine Proper Proper (λ x y. debug.offset s ξ₀ d₀ x y) (λ x y. offset geop s ξ₀ d₀ x y) offset_fine ξs ds P.abscissae P.values,
      unions_fine offs (every-zip Proper Proper Proper (λ x y. offset geop s ξ₀ d₀ x y) (offset_proper geop geop_encloses ξs ds P s es) ξs ds P.abscissae P.values),
      union_fine d₀ dₙ y₀ yₙ,
      add_fine (union_s d₀ dₙ) (unions offs) (union_proper d₀ dₙ y₀ yₙ) band,
    ) (go (could_be_equal (add_s (union_s d₀ dₙ) (unions offs)) ZERO))
      where
        go : (z : Bool) → cond z (tested.add d₀ (unions offs) >>= λ n. tested.div n s >>= λ q. debug.crossing ξ₀ q) (fine None) ≡ fine (cond z (crossing geop ξ₀ (div_s (add_s d₀ (unions offs)) s)) None)
        go true = rw (add_fine d₀ (unions offs) y₀ band, div_fine (add_s d₀ (unions offs)) s (reach_proper geop geop_encloses ξs ds P s es) steep) (crossing_fine (div_s (add_s d₀ (unions offs)) s) refl)
        go false = refl

  -- THE FAT LINE
  zeros_fine : debug.fat_line_zeros ξs ds ≡ fine (fat_line_zeros geop ξs ds)
  unfolding debug.fat_line_zeros fat_line_zeros
  zeros_fine = rw (
    sub_fine dₙ d₀ yₙ y₀,
    sub_fine (last_d ξs absent) ξ₀ (last_x geop geop_encloses ξs ds P) x₀,
    div_fine rise run (rises geop geop_encloses ξs ds P) (runs geop geop_encloses ξs ds P),
  ) (go (div_s rise run) refl)
    where
      go : (r : Divided) → div_s rise run ≡ r → debug.zeros_by ξs ds ξ₀ d₀ r ≡ fine (zeros_by geop ξs ds ξ₀ d₀ r)
      go (Some s) e = sloped_fine s e
      go None e = unfold debug.zeros_by zeros_by in rw (unions_fine ds P.values) refl

-- ---- the clip
narrowed_fine : (hat : Scalar) (z : Hat) → debug.narrowed hat z ≡ fine (narrowed hat z)
unfolding debug.narrowed narrowed
narrowed_fine hat None = refl
narrowed_fine hat (Some z) = go (could_be_equal z hat)
  where
    go : (b : Bool) → cond b (tested.intersect hat z >>= λ h. fine (Some h)) (fine None) ≡ fine (cond b (Some (intersect_s hat z)) None)
    go true = rw (intersect_fine hat z) refl
    go false = refl

module _ (dim : ℕ) (points : List Vector) (S : Every (Weighty dim) points) where
  axis_fine : (k : ℕ) (e : Scalar) → k < dim → Proper e → debug.axis dim k e points ≡ fine (axis geop dim k e points)
  unfolding debug.axis axis
  axis_fine k e h U = map_fine (Weighty dim) (λ q. tested.mul e (coordinate q dim) >>= λ m. tested.sub (coordinate q k) m) (λ q. sub_s (coordinate q k) (mul_s e (coordinate q dim))) one points S
    where
      one : (q : Vector) → Weighty dim q → (tested.mul e (coordinate q dim) >>= λ m. tested.sub (coordinate q k) m) ≡ fine (sub_s (coordinate q k) (mul_s e (coordinate q dim)))
      one q w = rw (mul_fine e (coordinate q dim) U (coordinate_proper dim q dim w.solid (omega arith)) (weight-clear geop geop_encloses e (coordinate q dim) w.heavy))
          (sub_fine (coordinate q k) (mul_s e (coordinate q dim)) (coordinate_proper dim q k w.solid (omega arith)) (times_proper geop geop_encloses dim points S k e h U q w))

  -- THE CLIP
  pub clip_fine : (ξs : List Scalar) → Given (length points) ξs → 0 < length points → (es : List Scalar) (k : ℕ) (hat : Scalar) → k + length es ≤ dim → Every Proper es → Proper hat
      → debug.clip dim points ξs hat k es ≡ fine (clip geop dim points ξs hat k es)
  unfolding debug.clip clip
  clip_fine ξs G some-p [] k hat l B h = refl
  clip_fine ξs G some-p (e ∷ es) k hat l B h =
      let ds = axis geop dim k e points in
      let P = polygon geop geop_encloses dim points S k e (omega arith) B.0 ξs G some-p in
      rw (axis_fine k e (omega arith) B.0, zeros_fine ξs ds P, narrowed_fine hat (fat_line_zeros geop ξs ds))
      (go (narrowed hat (fat_line_zeros geop ξs ds)) (narrowed_proper geop geop_encloses hat (fat_line_zeros geop ξs ds) h (zeros_proper geop geop_encloses ξs ds P)) (λ g p. clip_fine ξs G some-p es (suc k) g (omega arith) B.1 p))
    where
      go : (z : Hat) → OfHat Proper z → ((g : Scalar) → Proper g → debug.clip dim points ξs g (suc k) es ≡ fine (clip geop dim points ξs g (suc k) es))
          → ◌≡◌ {A = Tested Hat} (elim z [ None ↦ fine None | Some h ↦ debug.clip dim points ξs h (suc k) es ]) (fine (elim z [ None ↦ None | Some h ↦ clip geop dim points ξs h (suc k) es ]))
      go None y rest = refl
      go (Some g) y rest = rest g y
