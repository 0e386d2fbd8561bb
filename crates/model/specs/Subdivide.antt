-- solvers/subdivide.rs: the search around the visits, breadth-first. Definitions only.
-- What a visit makes of a piece is an argument. Between two visits the search is a state, so that it can pause there.
use Rattle.std.specs.Prelude.{ℕ, zero, suc, ◌+◌, max, cond, List, [], ◌∷◌, ◌++◌, length, ltb, Float}
use Rattle.std.proofs.Math.Option.{Option, none, some}
use Rattle.std.specs.Float.Ieee.{eq}
use Rattle.math.specs.declared.scalars.Scalar.{Scalar}
use Rattle.math.specs.Scalars.{zero_f, union_s}
use Rattle.model.specs.NurbCurve.{Piece}
use Rattle.model.specs.declared.subdivide.Counts.{Counts}
use Rattle.model.specs.declared.contains.Found.{Found}
use Rattle.model.specs.declared.refusal.Refusal.TheVariants as reason
use Rattle.model.specs.declared.contains.Found.TheVariants.{Nothing, Enclosed, Spent, Refused}

-- What stays the same through a search.
pub record Question : Type 0 where
  pub dim : ℕ
  pub degree : ℕ
  pub box : List Scalar
  pub resolution : Float
  pub nodes : ℕ

-- What a visit made of its piece.
pub data Visit : Type 0 where
  -- it holds nothing
  dropped : Visit
  -- it cannot be made smaller: its hat
  reported : Scalar → Visit
  -- cut down to its hat, by so many cuts
  restricted : ℕ → Piece → Visit
  -- cut in two
  halved : Piece → Piece → Visit
  -- a piece to hand on has a weight that is not above zero
  bad_weight : Visit

-- ---- the state between two visits

-- A piece that waits for its visit, and its depth: the number of halvings between it and the whole curve (request E5).
pub record Waiting : Type 0 where
  pub piece : Piece
  pub depth : ℕ

-- A piece of that depth.
abbrev pub at_depth : ℕ → Piece → Waiting
at_depth d c = record { piece = c; depth = d }

-- The counts at the start.
abbrev pub no_counts : Counts
no_counts = record { visited = 0; cuts = 0; depth = 0 }

-- One visit more, of a piece of depth d (the scope: visited; request E5: depth is the greatest of those visited).
abbrev pub with_visit : ℕ → Counts → Counts
with_visit d v = record { visited = suc v.visited; cuts = v.cuts; depth = max v.depth d }

-- So many cuts more.
abbrev pub with_cuts : ℕ → Counts → Counts
with_cuts n v = record { visited = v.visited; cuts = v.cuts + n; depth = v.depth }

-- The pieces that wait, the first in front; the counts; and the union of what was reported so far.
pub record State : Type 0 where
  pub queue : List Waiting
  pub counts : Counts
  pub found : Option Scalar

-- Where a search stands: it goes on from a state, or it is over.
pub data Step : Type 0 where
  going : State → Step
  over : Found → Step

-- A bound as it is given out, with no negative zero (the scope).
unfoldable pub positive_zero : Float → Float
positive_zero x = cond (eq x zero_f) zero_f x

-- Reports are joined by union (the scope).
unfoldable pub joined : Option Scalar → Scalar → Scalar
joined none t = t
joined (some s) t = union_s s t

-- The result when every piece was visited.
unfoldable pub complete : Option Scalar → Counts → Found
complete none v = Nothing v
complete (some t) v = Enclosed (positive_zero t.lo) (positive_zero t.hi) v

-- The result when a weight is not above zero.
abbrev pub failed_with : Counts → Found
failed_with v = Refused reason.Piece v

-- What the visit of a piece of depth d leaves, which v already counts, where cs wait behind that piece: what it hands on goes behind them. What was cut down keeps the depth, and both
-- halves have one more (request E5). Cuts are counted here, when the piece that was cut down is handed on; nothing else adds to them (request E2).
unfoldable pub after : List Waiting → ℕ → Counts → Option Scalar → Visit → Step
after cs d v f dropped = going (record { queue = cs; counts = v; found = f })
after cs d v f (reported t) = going (record { queue = cs; counts = v; found = some (joined f t) })
after cs d v f (restricted n c) = going (record { queue = cs ++ (at_depth d c ∷ []); counts = with_cuts n v; found = f })
after cs d v f (halved l r) = going (record { queue = cs ++ (at_depth (suc d) l ∷ at_depth (suc d) r ∷ []); counts = v; found = f })
after cs d v f bad_weight = over (failed_with v)

-- Whether the search is over before its next visit: no piece waits, or no visit is left for the first of them. The scope: pending counts that piece and those behind it.
unfoldable pub ended : ℕ → List Waiting → Counts → Option Scalar → Option Found
ended nodes [] v f = some (complete f v)
ended nodes (c ∷ cs) v f = cond (ltb v.visited nodes) none (some (Spent (suc (length cs)) v))

-- The visit of the first piece that waits. It does not look at the depth.
unfoldable pub step : (Piece → Visit) → List Waiting → Counts → Option Scalar → Step
step visit [] v f = over (complete f v)
step visit (c ∷ cs) v f = after cs c.depth (with_visit c.depth v) f (visit c.piece)

-- The search is over with a result, or stands at the state s.
unfoldable pub stop : State → Option Found → Step
stop s none = going s
stop s (some r) = over r

-- At most k visits from the state s. It stops sooner only when it is over; it goes on from there only if that takes another visit.
unfoldable pub advance : (Piece → Visit) → ℕ → ℕ → State → Step
advance visit nodes zero s = stop s (ended nodes s.queue s.counts s.found)
advance visit nodes (suc k) s =
    elim (ended nodes s.queue s.counts s.found) [
      | some r ↦ over r
      | none ↦ elim (step visit s.queue s.counts s.found) [ over r ↦ over r | going s' ↦ advance visit nodes k s' ]
    ]

-- After a pause, at most k visits more. The visits may be those of another arithmetic.
unfoldable pub resumed : (Piece → Visit) → ℕ → ℕ → Step → Step
resumed visit nodes k (over r) = over r
resumed visit nodes k (going s) = advance visit nodes k s

-- The result where a search stands. A search that may take all its nodes in one go is over.
unfoldable pub answered : Step → Found
answered (over r) = r
answered (going s) = Spent (length s.queue) s.counts
