-- What the counts of a search are held to, between its visits and in its answer (the scope; request E2: cuts; request E5: depth). Definitions only.
use Rattle.std.specs.Prelude.{ℕ, ◌+◌, ◌*◌, ◌≤◌, ◌<◌, ◌≡◌, length}
use Rattle.math.specs.Scalars.{Arithmetic}
use Rattle.model.specs.NurbCurve.{Piece}
use Rattle.model.specs.Subdivide.{Question, State, Step, going, over, advance}
use Rattle.model.specs.Contains.{visit, begun}
use Rattle.model.specs.Call.{Call, searched}
use Rattle.model.specs.Enclosure.{Every}
use Rattle.model.specs.declared.subdivide.Counts.{Counts}
use Rattle.model.specs.declared.contains.Found.{Found}
use Rattle.model.specs.declared.contains.Found.TheVariants.{Nothing, Enclosed, Spent, Refused}

-- The depth of the deepest of so many pieces visited: each but the first was handed on by one before it, so the depth stays below their number. It is 0 where nothing was visited.
pub record DepthWithin (v d : ℕ) : Type 0 where
  -- "It never exceeds visited."
  pub most : d ≤ v
  pub below : 0 < v → d < v

-- The counts of a search of so many nodes: there are no more visits than nodes, and at most two cuts a visit; so none
-- where nothing was visited.
pub record CountsWithin (nodes : ℕ) (v : Counts) : Type 0 where
  pub visits : v.visited ≤ nodes
  pub cuts : v.cuts ≤ 2 * v.visited
  pub deep : DepthWithin v.visited v.depth

-- The counts of an answer. A search is spent only when its nodes are used, and then at least one piece and at most nodes + 1 are left.
abbrev pub WithinNodes : ℕ → Found → Type 0
WithinNodes nodes (Nothing v) = CountsWithin nodes v
WithinNodes nodes (Enclosed lo hi v) = CountsWithin nodes v
WithinNodes nodes (Spent n v) = CountsWithin nodes v × (v.visited ≡ nodes) × (1 ≤ n) × (n ≤ nodes + 1)
WithinNodes nodes (Refused e v) = CountsWithin nodes v

-- The state of a search after j visits.
pub record Counted (j : ℕ) (s : State) : Type 0 where
  pub visits : s.counts.visited ≡ j
  pub cuts : s.counts.cuts ≤ 2 * j
  pub deep : DepthWithin j s.counts.depth
  -- At most j + 1 pieces wait, none of them deeper than j.
  pub pieces : length s.queue ≤ j + 1
  pub depths : Every (λ w. w.depth ≤ j) s.queue

-- Where a search of so many nodes stands that was to take m visits: it took them, and has one more to take; or it is over.
abbrev pub AfterVisits : ℕ → ℕ → Step → Type 0
AfterVisits nodes m (going s) = Counted m s × (m < nodes)
AfterVisits nodes m (over r) = WithinNodes nodes r

-- The counts of every search, after any number of visits, and of every call.
pub record CountsKept (ar : Arithmetic) : Type 0 where
  pub between : (q : Question) (c : Piece) (m : ℕ) → AfterVisits q.nodes m (advance (visit ar q) q.nodes m (begun c))
  pub answer : (c : Call) → WithinNodes c.nodes (searched ar c)
