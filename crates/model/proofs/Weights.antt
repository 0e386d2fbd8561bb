-- REFUSAL 11 IS THE RUST'S PANIC: `panics_alike` for every arithmetic that encloses, and `revision_panics` for either revision. Assumes nothing.
use mathlib.Core.Path.{subst}
use mathlib.Core.Bool.{Bool}
use Prim.Native.Nat.{ℕ, ◌≤◌}
use Rattle.exact.specs.Rational.{ℚ}
use Rattle.math.specs.Scalars.{Arithmetic}
use Rattle.math.specs.Revision.{arithmetic}
use Rattle.math.specs.Values.{value}
use Rattle.math.specs.Encloses.{Encloses}
use Rattle.math.proofs.Tight.Revisions.{encloses}
use Rattle.model.specs.NurbCurve.{Piece, start, end}
use Rattle.model.specs.Subdivide.{Question, Step, going, over, advance}
use Rattle.model.specs.Contains.{visit, begun}
use Rattle.model.specs.Call.{Call, as_piece, question}
use Rattle.model.specs.Enclosure.{Doubles, Accepted}
use Rattle.model.specs.Weights.{CutWeights, CutsWeighed, PanicsAlike}
use Rattle.model.proofs.Every.{every-imp}
use Rattle.model.proofs.Sound.Restrict.{Both}
use Rattle.model.proofs.Sound.Search.{Fine, Stands, stands}
use Rattle.model.proofs.Sound.Visit.Within.{clip-within}
use Rattle.model.proofs.Proper.Split.{split_solid, restrict_solid}
use Rattle.model.proofs.Proper.Weights.{weights-above}
use Rattle.model.proofs.Proper.Visit.{Held, Well, visit_well}
use Rattle.model.proofs.Proper.Lent.{curve-held, asked}
use Rattle.model.proofs.Enclosure.{whole-ok, Told, told-union}

module _ (ar : Arithmetic) (E : Encloses ar) (q : Question) (n : ℕ) (a b : ℚ) where
  -- the cuts of an accepted piece whose points are in order
  cut-weights : (s : Piece) → Well q.dim q.degree n a b s → CutWeights ar q s
  cut-weights s W = record {
    down = λ ξ hat e. let at = clip-within p s W.0.knots ar E dim ξ q.box hat e in
        weights-above dim _ (restrict_solid ar E dim p s W.0.knots W.1 hat.lo hat.hi at.double-lo at.double-hi);
    halves = λ l r e. let h = subst (Both (λ l r. Held dim l × Held dim r)) e (split_solid ar E dim p s W.0.knots W.1) in
        (weights-above dim l.points h.0, weights-above dim r.points h.1);
  }
    where
      dim : ℕ
      dim = q.dim

      p : ℕ
      p = q.degree

-- ---- an accepted call
module _ (ar : Arithmetic) (E : Encloses ar) (c : Call) (d : Doubles c) (acc : Accepted c) where
  abbrev q : Question
  q = question c

  abbrev a : ℚ
  a = value (start c.curve.degree (as_piece c.curve))

  abbrev b : ℚ
  b = value (end (as_piece c.curve))

  Good : Piece → Type 0
  Good s = Well c.curve.dim c.curve.degree c.curve.count a b s

  -- its visits make accepted pieces whose points are in order
  fine : (s : Piece) → Good s → Fine (Told c d acc ar E) Good (visit ar q s)
  unfolding Good
  fine = visit_well ar E q (asked c d acc) c.curve.count a b

  weighed : (z : Step) → Stands (visit ar q) c.nodes (Told c d acc ar E) Good (told-union c d acc ar E) fine z → CutsWeighed ar q z
  unfolding Good
  weighed (going s) h = every-imp (λ w. Good w.piece) (λ w. CutWeights ar q w.piece) (λ w k. cut-weights ar E q c.curve.count a b w.piece k) s.queue h.pieces
  weighed (over r) h = tt

  reached : 1 ≤ c.curve.degree → (k : ℕ) → CutsWeighed ar q (advance (visit ar q) c.nodes k (begun (as_piece c.curve)))
  unfolding Good
  reached one k = weighed (advance (visit ar q) c.nodes k (begun (as_piece c.curve)))
      (stands (visit ar q) c.nodes (Told c d acc ar E) Good (told-union c d acc ar E) fine k (begun (as_piece c.curve))
      (record { pieces = ((whole-ok c d acc one, curve-held c d acc), tt); inside = tt }))

-- THE LAW
pub panics_alike : (ar : Arithmetic) → Encloses ar → PanicsAlike ar
panics_alike ar E = record { cuts = reached ar E }

-- EITHER REVISION
pub revision_panics : (second : Bool) → PanicsAlike (arithmetic second)
revision_panics second = panics_alike (arithmetic second) (encloses second)
