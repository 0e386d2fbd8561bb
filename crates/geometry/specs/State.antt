-- How the state of the code is read as the state of the search: what a visit made of its piece, what was reported, and the pieces that wait in the ring. Definitions only.
use Rattle.std.specs.Prelude.{ℕ, suc, ◌+◌, ◌-◌, ◌*◌, ◌≤◌, ◌≡◌, Bool, true, false, List, [], ◌∷◌, length, drop, Float}
use Rattle.std.proofs.Math.Option.{Option, none, some}
use Rattle.lists.specs.Lists.{put}
use Rattle.lists.specs.Ring.{wrapped}
use Rattle.math.specs.declared.scalars.Scalar.{Scalar}
use Rattle.math.specs.Scalars.{Arithmetic}
use Rattle.model.specs.NurbCurve.{Piece}
use Rattle.model.specs.Subdivide.{Question, Visit, dropped, reported, restricted, halved, bad_weight, State, Step, going, over, with_visit, with_cuts, joined, advance, answered}
use Rattle.model.specs.Contains.{visit, begun}
use Rattle.model.specs.Layout.{scalars_of}
use Rattle.model.specs.declared.contains.Found.{Found}
use Rattle.model.specs.Enclosure.{Every}
use Rattle.geometry.specs.Slots.{words_of, depth_from, word, piece_at, depth_at, Held, DepthIs, Fit}
use Rattle.geometry.specs.Ring.{waiting, Ring, Beside}
use Rattle.geometry.specs.declared.slots.Shape.{Shape}
use Rattle.geometry.specs.declared.subdivide.Outcome.{Outcome}
use Rattle.geometry.specs.declared.subdivide.Outcome.TheVariants.{Dropped, Reported, Restricted, Halved, BadWeight}
use Rattle.std.specs.Prelude.{Some, None}
use Rattle.model.specs.Hat.{Hat}
use Rattle.geometry.specs.declared.subdivide.Search.{Search}

-- What was reported so far: an interval, or nothing.
abbrev pub found_of : Hat → Option Scalar
found_of None = none
found_of (Some t) = some t

-- What a visit made of its piece, where l is the memory it left, and the slots at a and b hold what it hands on.
unfoldable pub outcome_of : Shape → List Float → ℕ → ℕ → Outcome → Visit
outcome_of s l a b Dropped = dropped
outcome_of s l a b (Reported t) = reported t
outcome_of s l a b (Restricted n) = restricted n (piece_at s l a)
outcome_of s l a b Halved = halved (piece_at s l a) (piece_at s l b)
outcome_of s l a b BadWeight = bad_weight

-- The slots of what is handed on hold pieces.
abbrev pub HandedOn : Shape → List Float → ℕ → ℕ → Outcome → Type 0
HandedOn s l a b Dropped = Unit {0}
HandedOn s l a b (Reported t) = Unit {0}
HandedOn s l a b (Restricted n) = Held s l a
HandedOn s l a b Halved = Held s l a × Held s l b
HandedOn s l a b BadWeight = Unit {0}

-- The visit of the piece c that came out as o: what it is read as, and that it wrote to the slots at a and b alone.
pub record Visited (see : Visit) (s : Shape) (a b : ℕ) (l m : List Float) (o : Outcome) : Type 0 where
  pub is : outcome_of s m a b o ≡ see
  pub beside : Beside s a b l m
  pub holding : HandedOn s m a b o

-- The memory l with the depths of what the visit of a piece of depth d hands on, in its slots at a and b: a piece that was cut down has the same, and halves have one more.
abbrev pub with_depths : Shape → List Float → ℕ → ℕ → ℕ → Outcome → List Float
with_depths s l a b d Dropped = l
with_depths s l a b d (Reported t) = l
with_depths s l a b d (Restricted n) = put l (depth_from s a) (word d ∷ [])
with_depths s l a b d Halved = put (put l (depth_from s a) (word (suc d) ∷ [])) (depth_from s b) (word (suc d) ∷ [])
with_depths s l a b d BadWeight = l

-- These depths stand there.
abbrev pub DepthsOn : Shape → List Float → ℕ → ℕ → ℕ → Outcome → Type 0
DepthsOn s l a b d Dropped = Unit {0}
DepthsOn s l a b d (Reported t) = Unit {0}
DepthsOn s l a b d (Restricted n) = DepthIs s l a d
DepthsOn s l a b d Halved = DepthIs s l a (suc d) × DepthIs s l b (suc d)
DepthsOn s l a b d BadWeight = Unit {0}

-- The visit of a piece of depth d, with the depths of what it handed on.
pub record Turned (see : Visit) (s : Shape) (a b d : ℕ) (l m : List Float) (o : Outcome) : Type 0 where
  pub visited : Visited see s a b l m o
  pub depths : DepthsOn s m a b d o

-- How many pieces a visit hands on.
abbrev pub children : Outcome → ℕ
children Dropped = 0
children (Reported t) = 0
children (Restricted n) = 1
children Halved = 2
children BadWeight = 0

-- How many cuts a visit adds: those of a piece that it cut down and hands on, else none.
abbrev pub cuts_of : Outcome → ℕ
cuts_of Dropped = 0
cuts_of (Reported t) = 0
cuts_of (Restricted n) = n
cuts_of Halved = 0
cuts_of BadWeight = 0

-- What was reported, with what a visit reports.
abbrev pub with_report : Option Scalar → Outcome → Option Scalar
with_report f Dropped = f
with_report f (Reported t) = some (joined f t)
with_report f (Restricted n) = f
with_report f Halved = f
with_report f BadWeight = f

-- Whether a visit found a weight that is not above zero.
abbrev pub has_bad_weight : Outcome → Bool
has_bad_weight Dropped = false
has_bad_weight (Reported t) = false
has_bad_weight (Restricted n) = false
has_bad_weight Halved = false
has_bad_weight BadWeight = true

-- The state of the search, in a ring of so many slots.
unfoldable pub state_of : Shape → List Float → ℕ → Search → State
state_of s l slots x = record { queue = waiting s l slots x.head x.pending; counts = x.counts; found = found_of x.found }

-- The search that began in the memory l₀, with the piece in slot 0, stands at x, in the memory l. What a visit makes of a piece is `see`.
pub record Going (see : Piece → Visit) (nodes : ℕ) (s : Shape) (l₀ l : List Float) (x : Search) : Type 0 where
  -- The pieces that wait stand in the ring.
  pub ring : Ring s l (nodes + 3) x.head x.pending
  pub within : x.counts.visited ≤ nodes
  pub long : length l ≡ length l₀
  -- What is left to search from here is what was to search from the start.
  pub same : (k : ℕ) → advance see nodes (x.counts.visited + k) (begun (piece_at s l₀ 0)) ≡ advance see nodes k (state_of s l (nodes + 3) x)
  -- Behind the ring nothing has changed.
  pub rest : drop ((nodes + 3) * words_of s) l ≡ drop ((nodes + 3) * words_of s) l₀

-- Where the search stands after the visit of a piece of depth d that came out as o.
pub record Next (slots : ℕ) (x : Search) (d : ℕ) (o : Outcome) (y : Search) : Type 0 where
  pub head : y.head ≡ wrapped slots (x.head + 1)
  pub pending : y.pending ≡ x.pending - 1 + children o
  pub counts : y.counts ≡ with_cuts (cuts_of o) (with_visit d x.counts)
  pub found : found_of y.found ≡ with_report (found_of x.found) o

-- ---- a search over the ring

-- What is asked of pieces of these sizes, with the box as it is lent.
abbrev pub asked_of : Shape → List Float → Float → ℕ → Question
asked_of s box resolution nodes =
    record { dim = s.dim; degree = s.degree; box = scalars_of s.dim box; resolution = resolution; nodes = nodes }

-- Where a search stands, every piece that waits is such a piece.
abbrev pub AllFit : Arithmetic → Shape → Step → Type 0
AllFit ar s (going t) = Every (λ w. Fit ar s w.piece) t.queue
AllFit ar s (over r) = Unit {0}

-- The first slot of the ring holds the piece to search, of depth 0, and every piece that the search comes to can be visited.
pub record Begins (ar : Arithmetic) (s : Shape) (q : Question) (l : List Float) : Type 0 where
  pub ring : Ring s l (q.nodes + 3) 0 1
  pub whole : depth_at s l 0 ≡ 0
  pub few : q.nodes ≤ 4096
  pub fits : (k : ℕ) → AllFit ar s (advance (visit ar q) q.nodes k (begun (piece_at s l 0)))

-- The search of the piece in slot 0, in the memory l, has left the memory m and has the answer r; what is behind the ring is as it was.
pub record RingSearched (ar : Arithmetic) (s : Shape) (q : Question) (l m : List Float) (r : Found) : Type 0 where
  pub found : r ≡ answered (advance (visit ar q) q.nodes q.nodes (begun (piece_at s l 0)))
  pub rest : drop ((q.nodes + 3) * words_of s) m ≡ drop ((q.nodes + 3) * words_of s) l
