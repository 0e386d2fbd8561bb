-- What a call that is accepted lends: its points, its box and its resolution are in order. Assumes nothing.
use mathlib.Core.Path.{◌≡◌, sym, subst}
use mathlib.Core.Bool.{Bool, ◌&&◌}
use mathlib.Core.List.{List, []}
use Prim.Native.Nat.{ℕ, suc, ◌+◌, ◌*◌, ◌≤◌, ◌<◌}
use native.Mathlib.Nat.{mul-le-mul_left, mul-suc, mul_assoc}
use native.Mathlib.Omega.{arith}
use lib.Dec.{T}
use lib.ListN.{length}
use lib.Ieee.{Float, nan, le}
use lib.Ieee.Bits.{is_true}
use Rattle.lists.specs.Lists.{all}
use Rattle.lists.proofs.Fold.{all_get_or}
use Rattle.lists.proofs.Tab.{length-tab, get_or-tab}
use Rattle.math.specs.declared.scalars.Scalar.{Scalar}
use Rattle.math.specs.Scalars.{zero_f, absent}
use Rattle.math.specs.Values.{Proper}
use Rattle.math.proofs.Bools.{and_l, and_r}
use Rattle.math.proofs.Doubles.Order.{number, le_number_r}
use Rattle.math.proofs.Intervals.Tests.{proper_holds}
use Rattle.math.proofs.Intervals.Proper.{moderate_proper}
use Rattle.model.specs.Vector.{Vector, coordinate}
use Rattle.model.specs.Layout.{scalar_at, scalars_of, point_at, points_of}
use Rattle.model.specs.Call.{Call, as_piece, box_of, question, usable, ordered, numbers_usable, bounds_ordered}
use Rattle.model.specs.Enclosure.{Doubles, Accepted, Every}
use Rattle.model.specs.Weights.{Weighs}
use Rattle.model.proofs.Checks.{CurvePasses, call_passes}
use Rattle.model.proofs.Every.{every-tab}
use Rattle.model.proofs.Sound.Accepted.{Checked, checked, sizes}
use Rattle.model.proofs.Sound.Visit.Door.{Bounded}
use Rattle.model.proofs.Sound.Visit.Weights.{Heavy, heavy_at, heavy-pos}
use Rattle.model.proofs.Proper.Blend.{Solid}
use Rattle.model.proofs.Proper.Visit.{Held, Asked}

module _ (c : Call) (d : Doubles c) (acc : Accepted c) where
  ch : Checked c
  ch = checked c d acc

  h : CurvePasses c.curve.dim c.box c.resolution c.curve
  h = (call_passes c acc).question.curve

  -- ---- checks 5 and 6
  abbrev Lists : Bool
  Lists = all usable c.curve.knots && all usable c.curve.points && all usable c.box

  numbers : T (all usable c.curve.knots && all usable c.curve.points && all usable c.box && usable c.resolution && le zero_f c.resolution)
  unfolding numbers_usable
  numbers = h.numbers

  orders : T (all ordered (scalars_of (suc c.curve.dim * c.curve.count) c.curve.points) && all ordered (box_of c))
  unfolding bounds_ordered
  orders = h.bounds

  points-usable : T (all usable c.curve.points)
  points-usable = and_r (all usable c.curve.knots) (all usable c.curve.points)
      (and_l (all usable c.curve.knots && all usable c.curve.points) (all usable c.box) (and_l Lists (usable c.resolution) (and_l (Lists && usable c.resolution) (le zero_f c.resolution) numbers)))

  pub resolution_number : T (number c.resolution)
  resolution_number = le_number_r zero_f c.resolution (and_r (Lists && usable c.resolution) (le zero_f c.resolution) numbers)

  ordered_at : (n : ℕ) (l : List Float) → T (all ordered (scalars_of n l)) → (j : ℕ) → j < n → T (le (scalar_at l j).lo (scalar_at l j).hi)
  ordered_at n l o j k = subst (λ (x : Scalar). T (ordered x)) (get_or-tab n (λ j. scalar_at l j) j absent k)
      (subst T (sym (all_get_or ordered (scalars_of n l) j absent (is_true _ o) (subst (λ (z : ℕ). j < z) (sym (length-tab n (λ j. scalar_at l j))) k))) tt)

  -- ---- the points
  pub point_proper : (j : ℕ) → j < suc c.curve.dim * c.curve.count → Proper (scalar_at c.curve.points j)
  point_proper j k = moderate_proper (scalar_at c.curve.points j) (subst T (sym (all_get_or usable c.curve.points (2 * j) nan (is_true _ points-usable) long)) tt)
      (ordered_at (suc c.curve.dim * c.curve.count) c.curve.points (and_l (all ordered (scalars_of (suc c.curve.dim * c.curve.count) c.curve.points)) (all ordered (box_of c)) orders) j k)
    where
      long : 2 * j < length c.curve.points
      long = omega (arith, (sizes c acc).points, mul_assoc 2 (suc c.curve.dim) c.curve.count)

  point_inside : (i j : ℕ) → i < c.curve.count → j < suc c.curve.dim → suc c.curve.dim * i + j < suc c.curve.dim * c.curve.count
  point_inside i j k l = let m : suc c.curve.dim * suc i ≤ suc c.curve.dim * c.curve.count = mul-le-mul_left (suc c.curve.dim) k in omega (arith, m, mul-suc (suc c.curve.dim) i)

  weighs : (i : ℕ) → i < c.curve.count → Weighs (coordinate (point_at (suc c.curve.dim) c.curve.points i) c.curve.dim)
  unfolding point_at points_of
  weighs i k =
      let x = proper_holds (coordinate (point_at (suc c.curve.dim) c.curve.points i) c.curve.dim) (subst Proper (sym at) (point_proper (suc c.curve.dim * i + c.curve.dim) (point_inside i c.curve.dim k (omega arith)))) in
      record { number = x.0; above = heavy-pos (coordinate (point_at (suc c.curve.dim) c.curve.points i) c.curve.dim) x.0 heavy x.1; holds = x.1 }
    where
      at : coordinate (point_at (suc c.curve.dim) c.curve.points i) c.curve.dim ≡ scalar_at c.curve.points (suc c.curve.dim * i + c.curve.dim)
      at = get_or-tab (suc c.curve.dim) (λ j. scalar_at c.curve.points (suc c.curve.dim * i + j)) c.curve.dim absent (omega arith)

      heavy : Heavy (coordinate (point_at (suc c.curve.dim) c.curve.points i) c.curve.dim)
      heavy = subst (λ (v : Vector). Heavy (coordinate v c.curve.dim)) (get_or-tab c.curve.count (λ i. point_at (suc c.curve.dim) c.curve.points i) i [] k)
          (heavy_at c.curve.dim (as_piece c.curve).points ch.weights i (subst (λ (n : ℕ). i < n) (sym (length-tab c.curve.count (λ i. point_at (suc c.curve.dim) c.curve.points i))) k))

  pub curve-held : Held c.curve.dim (as_piece c.curve)
  unfolding points_of point_at
  curve-held = every-tab (Solid c.curve.dim) c.curve.count (λ i. point_at (suc c.curve.dim) c.curve.points i) (λ i k. record {
    long = length-tab (suc c.curve.dim) (λ j. scalar_at c.curve.points (suc c.curve.dim * i + j));
    all = every-tab Proper (suc c.curve.dim) (λ j. scalar_at c.curve.points (suc c.curve.dim * i + j)) (λ j l. point_proper (suc c.curve.dim * i + j) (point_inside i j k l));
    weight = weighs i k;
  })

  -- ---- the box
  pub box-bounded : Every Bounded (box_of c)
  box-bounded = every-tab Bounded c.curve.dim (λ k. scalar_at c.box k) (λ k l. record { from = ch.box_known (2 * k) (omega (arith, ch.box_long)); upto = ch.box_known (2 * k + 1) (omega (arith, ch.box_long)) })

  box_proper : Every Proper (box_of c)
  box_proper = every-tab Proper c.curve.dim (λ k. scalar_at c.box k) (λ k l. moderate_proper (scalar_at c.box k) (ch.box_known (2 * k) (omega (arith, ch.box_long))).moderate
      (ordered_at c.curve.dim c.box (and_r (all ordered (scalars_of (suc c.curve.dim * c.curve.count) c.curve.points)) (all ordered (box_of c)) orders) k l))

  pub asked : Asked (question c)
  asked = record { low_degree = ch.low_degree; long = length-tab c.curve.dim (λ k. scalar_at c.box k); box = box_proper }
