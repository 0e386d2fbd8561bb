-- A visit makes accepted pieces of an accepted piece, and reports inside its domain; and it loses no hit. Assumes nothing.
use mathlib.Core.Path.{◌≡◌, refl, sym, subst}
use mathlib.Core.Logic.{◌⊎◌}
use mathlib.Core.List.{List}
use mathlib.Core.Bool.{true, false, ◌&&◌}
use mathlib.Core.Option.{Option, none, some}
use Prim.Native.Nat.{ℕ, suc, ◌≤◌, ◌<◌}
use native.Mathlib.Omega.{arith}
use lib.Dec.{T}
use lib.ListN.{length, get_or}
use lib.Ieee.{Float, fin, binary64, le, fits}
use lib.IntN.{pos}
use Rattle.exact.specs.Rational.{ℚ, ◌*ℚ◌, invℚ, ◌≤ℚ◌}
use Rattle.exact.proofs.Order.{le_trans}
use Rattle.math.specs.declared.scalars.Scalar.{Scalar}
use Rattle.math.specs.Scalars.{Arithmetic, absent, union_s}
use Rattle.math.specs.Values.{value, Holds}
use Rattle.math.specs.Encloses.{Encloses}
use Rattle.math.proofs.Bools.{and_l, and_r, and_i, pick, taken}
use Rattle.math.proofs.Doubles.Order.{le_trans as before}
use Rattle.math.proofs.Doubles.Least.{min-either, max_either}
use Rattle.model.specs.NurbCurve.{Piece, start, end, domain, weights_positive, mid_parameter}
use Rattle.model.specs.Split.{Halves, uncut, both, split_mid, Restricted, restrict}
use Rattle.model.specs.Aabb.{aabb, could_overlap}
use Rattle.model.specs.FatLine.{greville, restricts, halves, extent}
use Rattle.model.specs.Subdivide.{Question, Visit, dropped, reported, restricted, halved, bad_weight}
use Rattle.model.specs.Contains.{clip, carried, hand_on, hand_both, shrink, clipped, visit}
use Rattle.model.specs.Hat.{Hat}
use Rattle.std.specs.Prelude.{Some, None}
use Rattle.model.proofs.Sound.Base.{values, Known, Knots, Carries, lined}
use Rattle.model.proofs.Sound.Known.{le_value}
use Rattle.model.proofs.Sound.Restrict.{Sub, Both, restrict-sub, restrict-keeps, split-sub, split-keeps, mid-fits}
use Rattle.model.proofs.Sound.Search.{Fine, Kept}
use Rattle.model.proofs.Sound.Visit.Box.{box_overlaps}
use Rattle.model.proofs.Sound.Visit.Greville.{Abscissae, greville-found}
use Rattle.model.proofs.Sound.Visit.Clip.{clip-found}
use Rattle.model.proofs.Sound.Visit.Within.{Within, clip-within, domain-within, start_known, end_known, start_end}

-- ---- a double from a to b, and an interval whose bounds are
pub record Lies (a b : ℚ) (x : Float) : Type 0 where
  pub known : Known x
  pub from : a ≤ℚ value x
  pub upto : value x ≤ℚ b

pub record Inner (a b : ℚ) (s : Scalar) : Type 0 where
  pub low : Lies a b s.lo
  pub high : Lies a b s.hi

pub inner-union : (a b : ℚ) (s t : Scalar) → Inner a b s → Inner a b t → Inner a b (union_s s t)
unfolding union_s
inner-union a b s t h k = record { low = min-either (Lies a b) s.lo t.lo h.low k.low; high = max_either (Lies a b) s.hi t.hi h.high k.high }

between : (l u x : Float) → Known l → Known u → T (fits binary64 x) → T (le l x) → T (le x u) → Known x
between l u x kl ku f h k = record {
  double = f;
  moderate = and_i (le (fin true 1 (pos 100)) x) (le x (fin false 1 (pos 100)))
      (before (fin true 1 (pos 100)) l x (and_l (le (fin true 1 (pos 100)) l) (le l (fin false 1 (pos 100))) kl.moderate) h)
      (before x u (fin false 1 (pos 100)) k (and_r (le (fin true 1 (pos 100)) u) (le u (fin false 1 (pos 100))) ku.moderate));
}

pub within-inner : (a b : ℚ) (l u : Float) (s : Scalar) → Known l → Known u → a ≤ℚ value l → value u ≤ℚ b → Within l u s → Inner a b s
within-inner a b l u s kl ku al ub w = record { low = at s.lo w.double-lo w.from-lo w.upto-lo; high = at s.hi w.double-hi w.from-hi w.upto-hi }
  where
    at : (x : Float) → T (fits binary64 x) → T (le l x) → T (le x u) → Lies a b x
    at x f h k = let kx = between l u x kl ku f h k in record { known = kx; from = le_trans al (le_value l x kl kx h); upto = le_trans (le_value x u kx ku k) ub }

-- ---- an accepted piece of a search, on a domain from a to b
pub record Ok (dim p N : ℕ) (a b : ℚ) (c : Piece) : Type 0 where
  pub knots : Knots p (length c.points) c.knots
  pub small : length c.points ≤ N
  pub from : a ≤ℚ values c.knots p
  pub upto : values c.knots (length c.points) ≤ℚ b
  pub weights : T (weights_positive dim c.points)

sub-ok : (dim p N : ℕ) (a b : ℚ) (c s : Piece) → Ok dim p N a b c → Sub p c s → T (weights_positive dim s.points) → Ok dim p N a b s
sub-ok dim p N a b c s h k w = record { knots = k.knots; small = omega (arith, h.small, k.small); from = le_trans h.from k.from; upto = le_trans k.upto h.upto; weights = w }

-- ---- what holds of each choice that a hat leaves holds of the one that is made: of the restriction, where its test passed
pub choices : (ar : Arithmetic) (q : Question) (c : Piece) (hat : Scalar) (P : Visit → Type 0)
    → (T (restricts ar (start q.degree c) (end c) hat (extent q.dim c.points) (carried q.dim q.box c.points)) → P (hand_on q.dim (restrict ar q.degree hat.lo hat.hi c)))
    → P (hand_both q.dim hat (split_mid ar q.degree c)) → P (reported hat) → P (shrink ar q c (Some hat))
unfolding shrink
choices ar q c hat P down in_two whole =
    let size = extent q.dim c.points in
    let w = carried q.dim q.box c.points in
    pick P (restricts ar (start q.degree c) (end c) hat size w) _ _ down (λ _. pick P (halves (start q.degree c) (end c) size w q.resolution) _ _ (λ _. in_two) (λ _. whole))

module _ (ar : Arithmetic) (E : Encloses ar) (q : Question) (N : ℕ) (a b : ℚ) where
  abbrev dim : ℕ
  dim = q.dim

  abbrev p : ℕ
  p = q.degree

  abbrev Good : Piece → Type 0
  Good c = Ok q.dim q.degree N a b c

  -- ---- what is handed on is accepted
  on_fine : (c : Piece) (r : Restricted) → Ok q.dim q.degree N a b c → Sub q.degree c r.piece → Fine (Inner a b) (Ok q.dim q.degree N a b) (hand_on q.dim r)
  unfolding hand_on
  on_fine c r h s = pick (Fine (Inner a b) Good) (weights_positive dim r.piece.points) (restricted r.cuts r.piece) bad_weight (λ w. sub-ok dim p N a b c r.piece h s w) (λ _. tt)

  both_fine : (c : Piece) (hat : Scalar) (s : Halves) → Ok q.dim q.degree N a b c → Inner a b hat → Both (λ l r. Sub q.degree c l × Sub q.degree c r) s
      → Fine (Inner a b) (Ok q.dim q.degree N a b) (hand_both q.dim hat s)
  unfolding hand_both
  both_fine c hat uncut h i s = i
  both_fine c hat (both l r) h i s = pick (Fine (Inner a b) Good) (weights_positive dim l.points && weights_positive dim r.points) (halved l r) bad_weight
      (λ w. (sub-ok dim p N a b c l h s.0 (and_l (weights_positive dim l.points) (weights_positive dim r.points) w), sub-ok dim p N a b c r h s.1 (and_r (weights_positive dim l.points) (weights_positive dim r.points) w))) (λ _. tt)

  shrink_fine : (c : Piece) (h : Hat) → Ok q.dim q.degree N a b c → ((hat : Scalar) → h ≡ Some hat → Within (start q.degree c) (end c) hat)
      → Fine (Inner a b) (Ok q.dim q.degree N a b) (shrink ar q c h)
  shrink_fine c None k w = unfold shrink in tt
  shrink_fine c (Some hat) k w = choices ar q c hat (Fine (Inner a b) Good)
      (λ _. on_fine c (restrict ar p hat.lo hat.hi c) k (restrict-sub ar E p c hat.lo hat.hi k.knots at.double-lo at.double-hi))
      (both_fine c hat (split_mid ar p c) k inner halved-sub) inner
    where
      at : Within (start q.degree c) (end c) hat
      at = w hat refl

      inner : Inner a b hat
      inner = within-inner a b (start p c) (end c) hat (start_known p c k.knots) (end_known p c k.knots) k.from k.upto at

      halved-sub : Both (λ l r. Sub q.degree c l × Sub q.degree c r) (split_mid ar q.degree c)
      halved-sub = unfold split_mid in split-sub ar E p c (mid_parameter ar (start p c) (end c)) k.knots (mid-fits ar (start p c) (end c))

  -- THE VISIT MAKES ACCEPTED PIECES
  clipped_fine : (c : Piece) (g : Option (List Scalar)) → Ok q.dim q.degree N a b c → Fine (Inner a b) (Ok q.dim q.degree N a b) (clipped ar q c g)
  unfolding clipped
  clipped_fine c none k =
      within-inner a b (start p c) (end c) (domain (start p c) (end c)) (start_known p c k.knots) (end_known p c k.knots) k.from k.upto
      (domain-within (start p c) (end c) (start_known p c k.knots) (end_known p c k.knots) (start_end p c k.knots))
  clipped_fine c (some ξ) k = shrink_fine c (clip ar dim c.points ξ (domain (start p c) (end c)) 0 q.box) k (λ hat e. clip-within p c k.knots ar E dim ξ q.box hat e)

  pub visit_fine : (c : Piece) → Ok q.dim q.degree N a b c → Fine (Inner a b) (Ok q.dim q.degree N a b) (visit ar q c)
  unfolding visit
  visit_fine c k = pick (Fine (Inner a b) Good) (could_overlap (aabb ar dim c.points) q.box) _ dropped (λ _. clipped_fine c (greville ar p (length c.points) c.knots) k) (λ _. tt)

  -- THE VISIT LOSES NO HIT
  module _ (1≤p : 1 ≤ q.degree) (p≤7 : q.degree ≤ 7) (long : length q.box ≡ q.dim) (t : ℚ) (v x : ℕ → ℚ) (bx : (k : ℕ) → k < q.dim → Holds (get_or q.box k absent) (x k))
      (vx : (k : ℕ) → k < q.dim → v k *ℚ invℚ (v q.dim) ≡ x k) where
    abbrev Has : Piece → Type 0
    Has c = Carries (suc q.dim) q.degree t v c

    abbrev At : Scalar → Type 0
    At s = Holds s t

    on_kept : (r : Restricted) → Carries (suc q.dim) q.degree t v r.piece → Kept (λ s. Holds s t) (Carries (suc q.dim) q.degree t v) (hand_on q.dim r)
    unfolding hand_on
    on_kept r h = pick (Kept At Has) (weights_positive dim r.piece.points) (restricted r.cuts r.piece) bad_weight (λ _. h) (λ _. tt)

    both_kept : (hat : Scalar) (s : Halves) → Holds hat t → Both (λ l r. Carries (suc q.dim) q.degree t v l ⊎ Carries (suc q.dim) q.degree t v r) s
        → Kept (λ s. Holds s t) (Carries (suc q.dim) q.degree t v) (hand_both q.dim hat s)
    unfolding hand_both
    both_kept hat uncut h s = h
    both_kept hat (both l r) h s = pick (Kept At Has) (weights_positive dim l.points && weights_positive dim r.points) (halved l r) bad_weight (λ _. s) (λ _. tt)

    shrink_kept : (c : Piece) (hat : Scalar) → Ok q.dim q.degree N a b c → Carries (suc q.dim) q.degree t v c → Within (start q.degree c) (end c) hat → Holds hat t
        → Kept (λ s. Holds s t) (Carries (suc q.dim) q.degree t v) (shrink ar q c (Some hat))
    shrink_kept c hat k h w at = choices ar q c hat (Kept At Has)
        (λ _. on_kept (restrict ar p hat.lo hat.hi c) (restrict-keeps ar E p (suc dim) t v c hat k.knots w.double-lo w.double-hi at h))
        (both_kept hat (split_mid ar p c) at halved-keeps) at
      where
        halved-keeps : Both (λ l r. Carries (suc q.dim) q.degree t v l ⊎ Carries (suc q.dim) q.degree t v r) (split_mid ar q.degree c)
        halved-keeps = unfold split_mid in split-keeps ar E p (suc dim) t v c (mid_parameter ar (start p c) (end c)) k.knots (mid-fits ar (start p c) (end c)) h

    clipped_kept : (c : Piece) → Ok q.dim q.degree N a b c → Carries (suc q.dim) q.degree t v c
        → Kept (λ s. Holds s t) (Carries (suc q.dim) q.degree t v) (clipped ar q c (greville ar q.degree (length c.points) c.knots))
    unfolding clipped
    clipped_kept c k h =
        subst (λ (g : Option (List Scalar)). Kept At Has (clipped ar q c g)) (sym g.1)
        (subst (λ (z : Hat). Kept At Has (shrink ar q c z)) (sym f.1) (shrink_kept c f.0 k h (clip-within p c k.knots ar E dim g.0 q.box f.0 f.1) f.2))
      where
        g : (ξs : List Scalar) × (greville ar q.degree (length c.points) c.knots ≡ some ξs) × Abscissae q.degree (length c.points) c.knots ξs
        g = greville-found ar E p (length c.points) c.knots 1≤p p≤7 k.knots

        f : (hat : Scalar) × (clip ar q.dim c.points g.0 (domain (start q.degree c) (end c)) 0 q.box ≡ Some hat) × Holds hat t
        f = clip-found ar E dim p c k.knots k.weights t v h 1≤p p≤7 g.0 g.1 q.box long x bx vx

    pub visit_kept : (c : Piece) → Ok q.dim q.degree N a b c → Carries (suc q.dim) q.degree t v c → Kept (λ s. Holds s t) (Carries (suc q.dim) q.degree t v) (visit ar q c)
    unfolding visit
    visit_kept c k h = taken (Kept At Has) (could_overlap (aabb ar dim c.points) q.box) _ dropped overlaps (clipped_kept c k h)
      where
        overlaps : T (could_overlap (aabb ar q.dim c.points) q.box)
        overlaps = box_overlaps ar E dim p c (lined p (length c.points) c.knots k.knots) k.weights t v h q.box long x bx vx
