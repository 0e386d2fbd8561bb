-- More nodes than a search needs change nothing (request E14). Definitions only.
use Rattle.std.specs.Prelude.{ℕ, ◌≤◌, ◌≡◌, List, Float}
use Rattle.lists.specs.Lists.{cleared}
use Rattle.math.specs.Scalars.{Arithmetic, zero_f}
use Rattle.model.specs.NurbCurve.{Piece}
use Rattle.model.specs.Subdivide.{Visit, State, Step, going, over, advance}
use Rattle.model.specs.Call.{Call, stated, searched, area_after}
use Rattle.model.specs.Enclosure.{Accepted, Completes}
use Rattle.model.specs.declared.contains.Found.{Found}
use Rattle.model.specs.declared.contains.Found.TheVariants.{Nothing, Enclosed, Spent, Refused}

-- A result other than spent: of a call that is accepted, its search completed or was refused by 11.
abbrev pub NotSpent : Found → Type 0
NotSpent (Nothing v) = Unit {0}
NotSpent (Enclosed lo hi v) = Unit {0}
NotSpent (Spent n v) = ⊥
NotSpent (Refused e v) = Unit {0}

-- Where a search stands, it has not run out of nodes.
abbrev pub NodesLeft : Step → Type 0
NodesLeft (going s) = Unit {0}
NodesLeft (over r) = NotSpent r

-- A search that has not run out of nodes after k visits stands at the same place with more nodes.
pub record SameSteps (visit : Piece → Visit) : Type 0 where
  pub same : (n m k : ℕ) (s : State) → n ≤ m → NodesLeft (advance visit n k s) → advance visit m k s ≡ advance visit n k s

-- The same call with m nodes, and a work area of so many words.
abbrev pub with_nodes : Call → ℕ → ℕ → Call
with_nodes c m words = record { rev = c.rev; curve = c.curve; box = c.box; resolution = c.resolution; nodes = m; work_len = words }

-- "Every larger number of nodes up to 4,096, a long enough work area being lent."
pub record Larger (c : Call) (m words : ℕ) : Type 0 where
  pub more : c.nodes ≤ m
  pub most : m ≤ 4096
  pub long : stated (with_nodes c m words) ≤ words

-- "A completed search gives the same result, bounds and counts"; so does one that is refused by 11. The work area is left as the definition says: as many words as are stated for
-- m nodes are 0, and the rest is as it was.
pub record MoreNodes (ar : Arithmetic) : Type 0 where
  pub completed : (c : Call) (m words : ℕ) → Larger c m words → Completes (searched ar c) → searched ar (with_nodes c m words) ≡ searched ar c
  pub unspent : (c : Call) (m words : ℕ) → Larger c m words → Accepted c → NotSpent (searched ar c) → searched ar (with_nodes c m words) ≡ searched ar c
  pub area : (c : Call) (m words : ℕ) → Larger c m words → Accepted c → (area : List Float) → area_after (with_nodes c m words) area ≡ cleared area (stated (with_nodes c m words)) zero_f
