-- A visit of a piece whose points are in order: no test of an interval fires. Assumes nothing.
use mathlib.Core.Path.{◌≡◌, refl}
use mathlib.Core.Bool.{Bool, true, false, cond, ◌&&◌}
use mathlib.Core.List.{List}
use mathlib.Core.Option.{Option, none, some}
use Prim.Native.Nat.{ℕ}
use native.Mathlib.Omega.{arith}
use lib.Dec.{T}
use lib.ListN.{length}
use lib.Ieee.{Float}
use Rattle.math.specs.declared.scalars.Scalar.{Scalar}
use Rattle.math.specs.Scalars.{geop}
use Rattle.math.proofs.Doubles.Order.{number, le_number_r}
use Rattle.math.proofs.Intervals.Instance.{geop_encloses}
use Rattle.model.specs.NurbCurve.{Piece, start, end, domain, weights_positive}
use Rattle.model.specs.Split.{Halves, uncut, both, split_mid, Restricted, restrict}
use Rattle.model.specs.Aabb.{aabb, could_overlap}
use Rattle.model.specs.FatLine.{greville, extent, restricts, halves}
use Rattle.model.specs.Subdivide.{Question, dropped, reported, halved, bad_weight}
use Rattle.model.specs.Contains.{clip, carried, hand_on, hand_both, shrink, clipped, visit}
use Rattle.model.specs.Enclosure.{Every}
use Rattle.model.specs.Hat.{Hat}
use Rattle.std.specs.Prelude.{Some, None}
use Rattle.model.specs.Tested.{fine, ◌>>=◌}
use Rattle.model.specs.Debug as debug
use Rattle.model.proofs.Sound.Base.{Known, Knots}
use Rattle.model.proofs.Sound.Restrict.{Both}
use Rattle.model.proofs.Sound.Visit.Within.{Within, clip-within, start_known, end_known}
use Rattle.model.proofs.Proper.Split.{split_solid, restrict_solid}
use Rattle.model.proofs.Proper.Clip.{Givens, greville_proper}
use Rattle.model.proofs.Proper.Visit.{weighty, Held, Asked, some_points, knots_known, whole_proper}
use Rattle.model.proofs.Debug.Split.{split_fine, restrict_fine}
use Rattle.model.proofs.Debug.Box.{aabb_fine, boxed_fine}
use Rattle.model.proofs.Debug.Clip.{greville_fine, clip_fine}
use Rattle.model.proofs.Debug.Sizes.{extent_number, carried_number, carried_fine, domain_fine, restricts_fine, halves_fine}

-- ---- what is handed on
on_fine : (dim : ℕ) (r : Restricted) → Held dim r.piece → debug.hand_on dim r ≡ fine (hand_on dim r)
unfolding debug.hand_on hand_on
on_fine dim r S = rw (boxed_fine dim r.piece.points S) refl

both_fine : (dim : ℕ) (hat : Scalar) (s : Halves) → Both (λ l r. Held dim l × Held dim r) s → debug.hand_both dim hat s ≡ fine (hand_both dim hat s)
unfolding debug.hand_both hand_both
both_fine dim hat uncut S = refl
both_fine dim hat (both l r) S = rw (boxed_fine dim l.points S.0, boxed_fine dim r.points S.1) (go (weights_positive dim l.points))
  where
    go : (z : Bool) → cond z (fine (cond (weights_positive dim r.points) (halved l r) bad_weight)) (fine bad_weight) ≡ fine (cond (z && weights_positive dim r.points) (halved l r) bad_weight)
    go true = refl
    go false = refl

module _ (q : Question) (Q : Asked q) (R : T (number q.resolution)) (c : Piece) (K : Knots q.degree (length c.points) c.knots) (S : Held q.dim c) (w : T (weights_positive q.dim c.points)) where
  abbrev dim : ℕ
  dim = q.dim

  abbrev p : ℕ
  p = q.degree

  abbrev a : Float
  a = start q.degree c

  abbrev b : Float
  b = end c

  -- ---- what a hat makes of the piece
  hat_fine : (hat : Scalar) → Within (start q.degree c) (end c) hat → debug.shrink q c (Some hat) ≡ fine (shrink geop q c (Some hat))
  unfolding debug.shrink shrink
  hat_fine hat at = rw (carried_fine dim q.box c.points, restricts_fine a b ka kb size wide s v hat lo hi) (go (restricts geop a b hat size wide))
    where
      size : Float
      size = extent q.dim c.points

      wide : Float
      wide = carried q.dim q.box c.points

      s : T (number (extent q.dim c.points))
      s = extent_number dim c.points

      v : T (number (carried q.dim q.box c.points))
      v = carried_number dim q.box c.points

      ka : Known (start q.degree c)
      ka = start_known p c K

      kb : Known (end c)
      kb = end_known p c K

      lo : T (number hat.lo)
      lo = le_number_r a hat.lo at.from-lo

      hi : T (number hat.hi)
      hi = le_number_r a hat.hi at.from-hi

      half : (y : Bool) → cond y (debug.split_mid p c >>= λ s. debug.hand_both dim hat s) (fine (reported hat)) ≡ fine (cond y (hand_both dim hat (split_mid geop p c)) (reported hat))
      half true = rw (split_fine dim p c K S) (both_fine dim hat (split_mid geop p c) (split_solid geop geop_encloses dim p c K S))
      half false = refl

      go : (x : Bool)
          → cond x (debug.restrict p hat.lo hat.hi c >>= λ r. debug.hand_on dim r) (debug.halves a b size wide q.resolution >>= λ y. cond y (debug.split_mid p c >>= λ s. debug.hand_both dim hat s) (fine (reported hat)))
          ≡ fine (cond x (hand_on dim (restrict geop p hat.lo hat.hi c)) (cond (halves a b size wide q.resolution) (hand_both dim hat (split_mid geop p c)) (reported hat)))
      go true = rw (restrict_fine dim p c K S hat.lo hat.hi at.double-lo lo at.double-hi hi)
          (on_fine dim (restrict geop p hat.lo hat.hi c) (restrict_solid geop geop_encloses dim p c K S hat.lo hat.hi at.double-lo at.double-hi))
      go false = rw (halves_fine a b ka kb size wide s v q.resolution R) (half (halves a b size wide q.resolution))

  shrink_fine : (z : Hat) → ((hat : Scalar) → z ≡ Some hat → Within (start q.degree c) (end c) hat) → debug.shrink q c z ≡ fine (shrink geop q c z)
  shrink_fine None at = unfold debug.shrink shrink in refl
  shrink_fine (Some hat) at = hat_fine hat (at hat refl)

  clipped_fine : (g : Option (List Scalar)) → Givens (length c.points) g → debug.clipped q c g ≡ fine (clipped geop q c g)
  unfolding debug.clipped clipped
  clipped_fine none G = rw (domain_fine a b (start_known p c K) (end_known p c K)) refl
  clipped_fine (some ξs) G = rw (
    domain_fine a b (start_known p c K) (end_known p c K),
    clip_fine dim c.points (weighty dim c.points S w) ξs G (some_points p c K) q.box 0 (domain a b) (omega (arith, Q.long)) Q.box (whole_proper p c K),
  ) (shrink_fine (clip geop dim c.points ξs (domain a b) 0 q.box) (λ hat e. clip-within p c K geop geop_encloses dim ξs q.box hat e))

  -- THE VISIT
  pub visit-quiet : debug.visit q c ≡ fine (visit geop q c)
  unfolding debug.visit visit
  visit-quiet = rw (aabb_fine dim c.points S) (go (could_overlap (aabb geop dim c.points) q.box))
    where
      ks : Every Known c.knots
      ks = knots_known p c K

      go : (z : Bool) → cond z (debug.greville p (length c.points) c.knots >>= λ g. debug.clipped q c g) (fine dropped) ≡ fine (cond z (clipped geop q c (greville geop p (length c.points) c.knots)) dropped)
      go true = rw (greville_fine p (length c.points) c.knots Q.low_degree ks)
          (clipped_fine (greville geop p (length c.points) c.knots) (greville_proper geop geop_encloses p (length c.points) c.knots Q.low_degree ks))
      go false = refl
