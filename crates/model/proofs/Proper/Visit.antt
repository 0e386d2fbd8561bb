-- A visit of a piece whose points are in order: what it reports is in order, and so are the points that it hands on. Assumes nothing.
use mathlib.Core.Path.{◌≡◌, refl}
use mathlib.Core.Bool.{◌&&◌}
use mathlib.Core.List.{List, [], ◌∷◌}
use mathlib.Core.Option.{Option, none, some}
use Prim.Native.Nat.{ℕ, ◌≤◌, ◌<◌}
use native.Mathlib.Omega.{arith}
use lib.Dec.{T}
use lib.ListN.{length}
use lib.Ieee.{Float, nan, lt}
use Rattle.exact.specs.Rational.{ℚ}
use Rattle.lists.specs.Lists.{all}
use Rattle.math.specs.declared.scalars.Scalar.{Scalar}
use Rattle.math.specs.Scalars.{Arithmetic, zero_f, sharp}
use Rattle.math.specs.Values.{Proper}
use Rattle.math.specs.Encloses.{Encloses}
use Rattle.math.proofs.Bools.{and_l, and_r, pick}
use Rattle.math.proofs.Intervals.Proper.{union_proper}
use Rattle.model.specs.Vector.{Vector, coordinate}
use Rattle.model.specs.NurbCurve.{Piece, start, end, domain, weights_positive}
use Rattle.model.specs.Split.{Halves, uncut, both, split_mid, Restricted, restrict}
use Rattle.model.specs.Aabb.{aabb, could_overlap}
use Rattle.model.specs.FatLine.{greville}
use Rattle.model.specs.Subdivide.{Question, dropped, restricted, halved, bad_weight}
use Rattle.model.specs.Contains.{clip, hand_on, hand_both, shrink, clipped, visit}
use Rattle.model.specs.Enclosure.{Every}
use Rattle.model.specs.Hat.{Hat}
use Rattle.std.specs.Prelude.{Some, None}
use Rattle.model.proofs.Sound.Base.{Known, Knots}
use Rattle.model.proofs.Sound.Restrict.{Both}
use Rattle.model.proofs.Sound.Search.{Fine, fine_both}
use Rattle.model.proofs.Sound.Visits.{Ok, Inner, choices, visit_fine}
use Rattle.model.proofs.Sound.Visit.Keeps.{OfHat}
use Rattle.model.proofs.Sound.Visit.Within.{Within, clip-within, start_known, end_known}
use Rattle.model.proofs.Every.{every_of}
use Rattle.model.proofs.Proper.Blend.{Solid, known_proper}
use Rattle.model.proofs.Proper.Split.{split_solid, restrict_solid}
use Rattle.model.proofs.Proper.Clip.{Given, Givens, Weighty, greville_proper, clip_proper}

pub domain_proper : (a b : Float) → Known a → Known b → Proper (domain a b)
unfolding domain
domain_proper a b ka kb = union_proper (sharp a) (sharp b) (known_proper a ka) (known_proper b kb)

-- ---- of a piece whose knots are in order
module _ (p : ℕ) (c : Piece) (K : Knots p (length c.points) c.knots) where
  pub some_points : 0 < length c.points
  some_points = omega (arith, K.good.room)

  pub knots_known : Every Known c.knots
  knots_known = every_of Known c.knots nan K.known

  pub whole_proper : Proper (domain (start p c) (end c))
  whole_proper = domain_proper (start p c) (end c) (start_known p c K) (end_known p c K)

-- points in order whose weights are above zero
pub weighty : (dim : ℕ) (points : List Vector) → Every (Solid dim) points → T (weights_positive dim points) → Every (Weighty dim) points
unfolding weights_positive all
weighty dim [] S w = tt
weighty dim (q ∷ qs) S w = (
  record { solid = S.0; heavy = and_l (lt zero_f (coordinate q dim).lo) (all (λ q. lt zero_f (coordinate q dim).lo) qs) w },
  weighty dim qs S.1 (and_r (lt zero_f (coordinate q dim).lo) (all (λ q. lt zero_f (coordinate q dim).lo) qs) w),
)

-- the points of a piece are in order
abbrev pub Held : ℕ → Piece → Type 0
Held dim c = Every (Solid dim) c.points

-- an accepted piece of a search whose points are in order
abbrev pub Well : ℕ → ℕ → ℕ → ℚ → ℚ → Piece → Type 0
Well dim p N a b c = Ok dim p N a b c × Held dim c

-- a question in order
pub record Asked (q : Question) : Type 0 where
  pub low_degree : q.degree ≤ 7
  pub long : length q.box ≡ q.dim
  pub box : Every Proper q.box

module _ (ar : Arithmetic) (E : Encloses ar) (q : Question) (Q : Asked q) where
  abbrev dim : ℕ
  dim = q.dim

  abbrev p : ℕ
  p = q.degree

  -- ---- what is handed on
  on-held : (r : Restricted) → Held q.dim r.piece → Fine Proper (Held q.dim) (hand_on q.dim r)
  unfolding hand_on
  on-held r S = pick (Fine Proper (Held dim)) (weights_positive dim r.piece.points) (restricted r.cuts r.piece) bad_weight (λ _. S) (λ _. tt)

  both-held : (hat : Scalar) (s : Halves) → Proper hat → Both (λ l r. Held q.dim l × Held q.dim r) s → Fine Proper (Held q.dim) (hand_both q.dim hat s)
  unfolding hand_both
  both-held hat uncut h S = h
  both-held hat (both l r) h S = pick (Fine Proper (Held dim)) (weights_positive dim l.points && weights_positive dim r.points) (halved l r) bad_weight (λ _. S) (λ _. tt)

  module _ (c : Piece) (K : Knots q.degree (length c.points) c.knots) (S : Held q.dim c) (w : T (weights_positive q.dim c.points)) where
    abbrev a : Float
    a = start q.degree c

    abbrev b : Float
    b = end c

    -- ---- what a hat makes of the piece
    hat_held : (hat : Scalar) → Proper hat → Within (start q.degree c) (end c) hat → Fine Proper (Held q.dim) (shrink ar q c (Some hat))
    hat_held hat h at = choices ar q c hat (Fine Proper (Held dim))
        (λ _. on-held (restrict ar p hat.lo hat.hi c) (restrict_solid ar E dim p c K S hat.lo hat.hi at.double-lo at.double-hi))
        (both-held hat (split_mid ar p c) h (split_solid ar E dim p c K S)) h

    shrink-held : (z : Hat) → OfHat Proper z → ((hat : Scalar) → z ≡ Some hat → Within (start q.degree c) (end c) hat) → Fine Proper (Held q.dim) (shrink ar q c z)
    shrink-held None h at = unfold shrink in tt
    shrink-held (Some hat) h at = hat_held hat h (at hat refl)

    -- ---- its hat
    hat_proper : (ξs : List Scalar) → Given (length c.points) ξs → OfHat Proper (clip ar q.dim c.points ξs (domain (start q.degree c) (end c)) 0 q.box)
    hat_proper ξs G = clip_proper ar E dim c.points (weighty dim c.points S w) ξs G (some_points p c K) q.box (domain a b) (omega (arith, Q.long)) Q.box (whole_proper p c K)

    clipped-held : (g : Option (List Scalar)) → Givens (length c.points) g → Fine Proper (Held q.dim) (clipped ar q c g)
    unfolding clipped
    clipped-held none G = whole_proper p c K
    clipped-held (some ξs) G = shrink-held (clip ar dim c.points ξs (domain a b) 0 q.box) (hat_proper ξs G) (λ hat e. clip-within p c K ar E dim ξs q.box hat e)

    seen-held : Fine Proper (Held q.dim) (visit ar q c)
    unfolding visit
    seen-held = let g = greville ar p (length c.points) c.knots in
        pick (Fine Proper (Held dim)) (could_overlap (aabb ar dim c.points) q.box) (clipped ar q c g) dropped (λ _. clipped-held g (greville_proper ar E p (length c.points) c.knots Q.low_degree (knots_known p c K))) (λ _. tt)

  -- THE VISIT
  pub visit_well : (N : ℕ) (u v : ℚ) (c : Piece) → Well q.dim q.degree N u v c → Fine (λ s. Inner u v s × Proper s) (Well q.dim q.degree N u v) (visit ar q c)
  visit_well N u v c W = fine_both (Inner u v) Proper (Ok dim p N u v) (Held dim) (visit ar q c) (visit_fine ar E q N u v c W.0) (seen-held c W.0.knots W.1 W.0.weights)
