-- Insertions: where the points of a piece are in order, so are the new ones. Assumes nothing.
use mathlib.Core.List.{List, []}
use Prim.Native.Nat.{ℕ, zero, suc, ◌+◌, ◌-◌, ◌<◌}
use native.Mathlib.Omega.{arith}
use lib.ListN.{length, take, drop}
use lib.Ieee.{Float}
use Rattle.exact.specs.Rational.{ℚ, ◌≤ℚ◌, ◌<ℚ◌}
use Rattle.exact.specs.Cut.{Good}
use Rattle.exact.proofs.Order.{le_trans, lt_le_trans}
use Rattle.lists.specs.Lists.{tab}
use Rattle.math.specs.Scalars.{Arithmetic}
use Rattle.math.specs.Values.{value}
use Rattle.math.specs.Encloses.{Encloses}
use Rattle.model.specs.Vector.{Vector}
use Rattle.model.specs.NurbCurve.{Piece, point}
use Rattle.model.specs.KnotInsertion.{alpha, blend, points_with, insert_once, insertion_span, insert_times}
use Rattle.model.specs.Enclosure.{Every}
use Rattle.model.proofs.Sound.Base.{values, Known}
use Rattle.model.proofs.Sound.Grow.{Grown, InSpan, grown-span, grown-once}
use Rattle.model.proofs.Every.{every_append, every-tab, every_take, every_drop, every_at}
use Rattle.model.proofs.Proper.Blend.{Solid, blend_solid}

-- ---- the two knots that the parameter of new point j lies between
module _ (p k : ℕ) (t : Float) (c : Piece) (f : InSpan p k t c) (j : ℕ) (h : j < p) where
  pub knot_low : values c.knots (suc (k - p + j)) ≤ℚ value t
  knot_low = le_trans (f.sorted.up (suc (k - p + j)) k (omega (arith, f.from)) (omega (arith, f.upto))) f.after

  pub knot_high : value t <ℚ values c.knots (suc (k - p + j) + p)
  knot_high = lt_le_trans f.before (f.sorted.up (suc k) (suc (k - p + j) + p) (omega (arith, f.from)) (omega (arith, f.from, f.upto)))

module _ (ar : Arithmetic) (E : Encloses ar) where
  -- ---- one insertion, in the span k that holds t
  module _ (dim p k : ℕ) (t : Float) (c : Piece) (f : InSpan p k t c) (S : Every (Solid dim) c.points) where
    abbrev ps : List Vector
    ps = c.points

    new : (j : ℕ) → j < p → Solid dim (blend ar (alpha ar p c.knots t (suc (k - p + j))) (point c.points (k - p + j)) (point c.points (suc (k - p + j))))
    new j h = blend_solid ar E p c.knots t (suc (k - p + j)) (f.known (suc (k - p + j)) (omega (arith, f.from, f.upto, f.long))) f.known_x (f.known (suc (k - p + j) + p) (omega (arith, f.from, f.upto, f.long)))
        (knot_low p k t c f j h) (knot_high p k t c f j h) dim (point ps (k - p + j)) (point ps (suc (k - p + j)))
        (every_at (Solid dim) ps (k - p + j) [] S (omega (arith, f.from, f.upto))) (every_at (Solid dim) ps (suc (k - p + j)) [] S (omega (arith, f.from, f.upto)))

    pub once_solid : Every (Solid dim) (insert_once ar p k t c).points
    unfolding insert_once points_with
    once_solid = every_append (Solid dim) (take (suc k - p) ps) _ (every_take (Solid dim) (suc k - p) ps S)
        (every_append (Solid dim) (tab p (λ j. blend ar (alpha ar p c.knots t (suc (k - p + j))) (point ps (k - p + j)) (point ps (suc (k - p + j))))) (drop k ps) (every-tab (Solid dim) p _ new) (every_drop (Solid dim) k ps S))

  -- ---- as many as are asked for; of `Grown` only what it says of the knots is needed, so it is asked for no coordinate
  pub times_solid : (dim p n : ℕ) (u : ℕ → ℚ) (C : ℕ → ℕ → ℚ) (x : Float) (m s : ℕ) → Good p n u → Known x → u p <ℚ value x → value x <ℚ u n
      → (j e : ℕ) (c : Piece) → Grown 0 p n u C x m s e c → Every (Solid dim) c.points → Every (Solid dim) (insert_times ar p x j c).points
  unfolding insert_times
  times_solid dim p n u C x m s good kx px xn zero e c r S = S
  times_solid dim p n u C x m s good kx px xn (suc j) e c r S =
      let k = insertion_span p (length c.points) c.knots x in
      times_solid dim p n u C x m s good kx px xn j (suc e) (insert_once ar p k x c) (grown-once ar E 0 p n u C x m s good kx px xn e c r)
      (once_solid dim p k x c (grown-span 0 p n u C x m s good kx px xn e c r) S)
