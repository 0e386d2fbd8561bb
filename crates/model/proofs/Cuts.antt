-- The cuts of a restriction: at most 2 (`restrict-few`). A visit restricts only where a bound of the hat lies strictly inside the domain, so each restriction of a search makes 1 or 2
-- cuts, never 0 (`restriction-cuts`), and so does each whose piece is handed on (`visit-cuts`). For every arithmetic. Assumes nothing.
use Prim.Native.Nat.{ℕ, ◌+◌, ◌≤◌}
use native.Mathlib.Omega.{arith}
use mathlib.Core.Bool.{Bool, true, false, ◌&&◌, ◌||◌}
use mathlib.Core.List.{List}
use mathlib.Core.Option.{Option, none, some}
use lib.Dec.{T}
use lib.ListN.{length}
use lib.Ieee.{Float}
use Rattle.math.specs.declared.scalars.Scalar.{Scalar}
use Rattle.math.specs.Scalars.{Arithmetic, sharp, width_s, definitely_greater, definitely_less}
use Rattle.math.proofs.Bools.{and_r, pick}
use Rattle.model.specs.NurbCurve.{Piece, start, end, domain, in_domain, weights_positive}
use Rattle.model.specs.Split.{Halves, uncut, both, split_mid, Restricted, from_by, up_to_by, restrict}
use Rattle.model.specs.Aabb.{aabb, could_overlap}
use Rattle.model.specs.FatLine.{greville, restricts}
use Rattle.model.specs.Subdivide.{Question, Visit, dropped, reported, restricted, halved, bad_weight}
use Rattle.model.specs.Contains.{clip, hand_on, hand_both, shrink, clipped, visit}
use Rattle.model.specs.Hat.{Hat}
use Rattle.std.specs.Prelude.{Some, None}
use Rattle.model.proofs.Sound.Visits.{choices}

-- ---- a restriction
module _ (ar : Arithmetic) (p : ℕ) where
  -- one cut or none
  pub from-few : (t : Float) (c : Piece) (b : Bool) → (from_by ar p t c b).cuts ≤ 1
  unfolding from_by
  from-few t c true = omega arith
  from-few t c false = omega arith

  pub up_to_few : (t : Float) (c : Piece) (b : Bool) → (up_to_by ar p t c b).cuts ≤ 1
  unfolding up_to_by
  up_to_few t c true = omega arith
  up_to_few t c false = omega arith

  pub restrict-few : (lo hi : Float) (c : Piece) → (restrict ar p lo hi c).cuts ≤ 2
  unfolding restrict
  restrict-few lo hi c =
      let a = from_by ar p lo c (in_domain (start p c) (end c) lo) in
      omega (arith, from-few lo c (in_domain (start p c) (end c) lo), up_to_few hi a.piece (in_domain (start p a.piece) (end a.piece) hi))

  -- where lo or hi lies strictly inside there is a cut: hi is held to the whole domain where lo cuts nothing off
  pub restrict-cuts : (lo hi : Float) (c : Piece) → T (in_domain (start p c) (end c) lo || in_domain (start p c) (end c) hi) → 1 ≤ (restrict ar p lo hi c).cuts
  unfolding restrict
  restrict-cuts lo hi c h = by (in_domain (start p c) (end c) lo) h
    where
      last : (b : Bool) → T b → 1 ≤ 0 + (up_to_by ar p hi c b).cuts
      last true h = unfold up_to_by in omega arith
      last false h = absurd h

      by : (b : Bool) → T (b || in_domain (start p c) (end c) hi)
          → let a = from_by ar p lo c b in 1 ≤ a.cuts + (up_to_by ar p hi a.piece (in_domain (start p a.piece) (end a.piece) hi)).cuts
      by true h = unfold from_by in omega arith
      by false h = unfold from_by in last (in_domain (start p c) (end c) hi) h

-- ---- a visit

-- the test of a restriction asks that a bound of the hat lies strictly inside
restricts_inside : (ar : Arithmetic) (a b : Float) (hat : Scalar) (size w : Float) → T (restricts ar a b hat size w) → T (in_domain a b hat.lo || in_domain a b hat.hi)
unfolding restricts
restricts_inside ar a b hat size w t =
    and_r (definitely_greater (sharp size) (sharp w) && definitely_less (sharp (width_s hat)) (ar.mul (sharp (width_s (domain a b))) ar.four_fifths))
    (in_domain a b hat.lo || in_domain a b hat.hi) t

-- where the test passes there are 1 or 2 cuts
pub restriction-cuts : (ar : Arithmetic) (p : ℕ) (c : Piece) (hat : Scalar) (size w : Float) → T (restricts ar (start p c) (end c) hat size w)
    → (1 ≤ (restrict ar p hat.lo hat.hi c).cuts) × ((restrict ar p hat.lo hat.hi c).cuts ≤ 2)
restriction-cuts ar p c hat size w t =
    (restrict-cuts ar p hat.lo hat.hi c (restricts_inside ar (start p c) (end c) hat size w t), restrict-few ar p hat.lo hat.hi c)

-- A visit that hands on a piece cut down has cut it once or twice.
abbrev pub OneOrTwo : Visit → Type 0
OneOrTwo dropped = Unit {0}
OneOrTwo (reported t) = Unit {0}
OneOrTwo (restricted n c) = (1 ≤ n) × (n ≤ 2)
OneOrTwo (halved l r) = Unit {0}
OneOrTwo bad_weight = Unit {0}

module _ (ar : Arithmetic) (q : Question) where
  on-cuts : (r : Restricted) → (1 ≤ r.cuts) × (r.cuts ≤ 2) → OneOrTwo (hand_on q.dim r)
  unfolding hand_on
  on-cuts r h = pick OneOrTwo (weights_positive q.dim r.piece.points) (restricted r.cuts r.piece) bad_weight (λ _. h) (λ _. tt)

  both-cuts : (hat : Scalar) (s : Halves) → OneOrTwo (hand_both q.dim hat s)
  unfolding hand_both
  both-cuts hat uncut = tt
  both-cuts hat (both l r) = pick OneOrTwo (weights_positive q.dim l.points && weights_positive q.dim r.points) (halved l r) bad_weight (λ _. tt) (λ _. tt)

  shrink-cuts : (c : Piece) (h : Hat) → OneOrTwo (shrink ar q c h)
  shrink-cuts c None = unfold shrink in tt
  shrink-cuts c (Some hat) = choices ar q c hat OneOrTwo
      (λ t. on-cuts (restrict ar q.degree hat.lo hat.hi c) (restriction-cuts ar q.degree c hat _ _ t))
      (both-cuts hat (split_mid ar q.degree c)) tt

  clipped-cuts : (c : Piece) (g : Option (List Scalar)) → OneOrTwo (clipped ar q c g)
  unfolding clipped
  clipped-cuts c none = tt
  clipped-cuts c (some ξ) = shrink-cuts c (clip ar q.dim c.points ξ (domain (start q.degree c) (end c)) 0 q.box)

  pub visit-cuts : (c : Piece) → OneOrTwo (visit ar q c)
  unfolding visit
  visit-cuts c = pick OneOrTwo (could_overlap (aabb ar q.dim c.points) q.box) _ dropped (λ _. clipped-cuts c (greville ar q.degree (length c.points) c.knots)) (λ _. tt)
