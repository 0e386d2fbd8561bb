-- The search over the ring, turn by turn: what is left to search from where it stands is what was to search from the start. Leans on the laws of `advance` and of one turn.
use mathlib.Core.Path.{◌≡◌, refl, sym, ap, ◌∙◌, subst}
use Rattle.std.specs.Prelude.{None}
use mathlib.Core.Bool.{true, false}
use mathlib.Core.List.{List, [], ◌∷◌}
use mathlib.Core.Option.{Option, none, some}
use Prim.Native.Nat.{ℕ, suc, ◌+◌, ◌-◌, ◌*◌, ◌≤◌, ◌<◌}
use native.Mathlib.Nat.{zero-mul}
use native.Mathlib.Omega.{arith}
use lib.ListN.{length, drop}
use lib.Ieee.{Float}
use borrow.Author.Tests.{lt-ltb, le-ltb}
use Rattle.lists.specs.Ring.{wrapped}
use Rattle.math.specs.declared.scalars.Scalar.{Scalar}
use Rattle.math.specs.Scalars.{Arithmetic}
use Rattle.model.specs.NurbCurve.{Piece}
use Rattle.model.specs.Layout.{scalars_of}
use Rattle.model.specs.Subdivide.{Question, Visit, Waiting, State, going, over, at_depth, no_counts, complete, failed_with, ended, advance, answered}
use Rattle.model.specs.Contains.{visit, begun}
use Rattle.model.specs.Enclosure.{Every}
use Rattle.model.specs.Counts.{Counted, AfterVisits}
use Rattle.geometry.specs.Slots.{words_of, piece_at, depth_at, waits_at, Waits, Fit}
use Rattle.geometry.specs.Ring.{base_of, ring_base, waiting, Ring}
use Rattle.geometry.specs.State.{found_of, state_of, outcome_of, cuts_of, has_bad_weight, Next, Turned, AllFit, asked_of, Begins, Going}
use Rattle.model.specs.declared.contains.Found.TheVariants.{Spent}
use Rattle.model.specs.declared.subdivide.Counts.{Counts}
use Rattle.model.specs.declared.contains.Found.{Found}
use Rattle.geometry.specs.declared.slots.Shape.{Shape}
use Rattle.geometry.specs.declared.subdivide.Outcome.{Outcome}
use Rattle.geometry.specs.declared.subdivide.Outcome.TheVariants.{Dropped, Reported, Restricted, Halved, BadWeight}
use Rattle.geometry.specs.declared.subdivide.Search.{Search}
use Rattle.model.proofs.Pause.{ends, once, fails, waits}
use Rattle.model.proofs.Counts.{begun-stands}
use Rattle.model.proofs.Cuts.{OneOrTwo, visit-cuts}
use Rattle.geometry.proofs.slots.Ring.{length-waiting, waiting_none, waiting-pop, head-waits}
use Rattle.geometry.proofs.visits.Plans.{visit-nodes}
use Rattle.geometry.proofs.subdivide.State.{Turn, turn_on, turn_bad, turn_behind}

-- ---- a visit does not look at the nodes

turned : (ar : Arithmetic) (s : Shape) (box : List Float) (resolution : Float) (nodes : ℕ) (c : Piece) (a b d e : ℕ) (l m : List Float) (o : Outcome) → d ≡ e
    → Turned (visit ar (asked_of s box resolution 0) c) s a b d l m o → Turned (visit ar (asked_of s box resolution nodes) c) s a b e l m o
turned ar s box resolution nodes c a b d e l m o E h =
    subst (λ (i : ℕ). Turned (visit ar (asked_of s box resolution nodes) c) s a b i l m o) E
    (subst (λ (v : Visit). Turned v s a b d l m o) (visit-nodes ar s.dim s.degree (scalars_of s.dim box) resolution 0 nodes c) h)

-- ---- and makes at most two cuts

one_or_two : (s : Shape) (m : List Float) (a b : ℕ) (o : Outcome) → OneOrTwo (outcome_of s m a b o) → cuts_of o ≤ 2
unfolding outcome_of
one_or_two s m a b Dropped h = omega arith
one_or_two s m a b (Reported t) h = omega arith
one_or_two s m a b (Restricted n) h = h.1
one_or_two s m a b Halved h = omega arith
one_or_two s m a b BadWeight h = omega arith

pub cuts-few : (ar : Arithmetic) (q : Question) (s : Shape) (c : Piece) (a b d : ℕ) (l m : List Float) (o : Outcome) → Turned (visit ar q c) s a b d l m o → cuts_of o ≤ 2
cuts-few ar q s c a b d l m o h = one_or_two s m a b o (subst OneOrTwo (sym h.visited.is) (visit-cuts ar q c))

-- ---- whether it is over

unended : (nodes : ℕ) (q : List Waiting) (v : Counts) (f : Option Scalar) → 0 < length q → v.visited < nodes → ended nodes q v f ≡ none
unfolding ended
unended nodes [] v f h k = absurd (omega arith)
unended nodes (c ∷ cs) v f h k = rw (lt-ltb v.visited nodes k)

spent : (nodes : ℕ) (q : List Waiting) (v : Counts) (n : ℕ) (f : Option Scalar) → length q ≡ n → 0 < n → nodes ≤ v.visited → ended nodes q v f ≡ some (Spent n v)
unfolding ended
spent nodes [] v n f e h k = absurd (omega (arith, e))
spent nodes (c ∷ cs) v n f e h k = rw (le-ltb v.visited nodes k, ← e)

-- ---- where the search stands

module _ (see : Piece → Visit) (few : (c : Piece) → OneOrTwo (see c)) (nodes : ℕ) (s : Shape) (l₀ : List Float) where
  -- What the search is to answer.
  abbrev pub sought : Found
  sought = answered (advance see nodes nodes (begun (piece_at s l₀ 0)))

  -- The start.
  abbrev pub origin : Search
  origin = record { head = 0; pending = 1; counts = no_counts; found = None }

  pub going_start : Ring s l₀ (nodes + 3) 0 1 → depth_at s l₀ 0 ≡ 0 → Going see nodes s l₀ l₀ origin
  going_start r top = record {
    ring = r;
    within = omega arith;
    long = refl;
    same = λ k. let z : 0 + k ≡ k = omega arith in ap (λ (i : ℕ). advance see nodes i (begun (piece_at s l₀ 0))) z ∙ ap (advance see nodes k) (sym state);
    rest = refl;
  }
    where
      whole : waits_at s l₀ 0 ≡ at_depth 0 (piece_at s l₀ 0)
      whole = unfold waits_at in ap (λ (d : ℕ). at_depth d (piece_at s l₀ 0)) top

      first : waiting s l₀ (nodes + 3) 0 1 ≡ at_depth 0 (piece_at s l₀ 0) ∷ []
      first =
          waiting-pop s l₀ (nodes + 3) 0 0 r
          ∙ (λ i. waits_at s l₀ (zero-mul (words_of s) i) ∷ waiting_none s l₀ (nodes + 3) (wrapped (nodes + 3) (0 + 1)) i)
          ∙ ap (λ (w : Waiting). w ∷ []) whole

      state : state_of s l₀ (nodes + 3) origin ≡ begun (piece_at s l₀ 0)
      state = unfold state_of in (λ i. record { queue = first i; counts = no_counts; found = none })

  module _ (l : List Float) (x : Search) (g : Going see nodes s l₀ l x) where
    -- The state.
    abbrev here : State
    here = state_of s l (nodes + 3) x

    long_queue : length (waiting s l (nodes + 3) x.head x.pending) ≡ x.pending
    long_queue = length-waiting s l (nodes + 3) x.head x.pending

    at_end : (k : ℕ) (r : Found) → nodes ≡ x.counts.visited + k → advance see nodes k (state_of s l (nodes + 3) x) ≡ over r → r ≡ sought
    unfolding answered
    at_end k r e a = sym (ap answered (ap (λ (i : ℕ). advance see nodes i (begun (piece_at s l₀ 0))) e ∙ g.same k ∙ a))

    -- no piece waits
    pub going_none : (r : Found) → x.pending ≤ 0 → r ≡ complete (found_of x.found) x.counts → r ≡ sought
    going_none r h e = e ∙ at_end (nodes - x.counts.visited) (complete (found_of x.found) x.counts) (omega (arith, g.within)) (ends see nodes (nodes - x.counts.visited) here (complete (found_of x.found) x.counts) over-now)
      where
        empty : waiting s l (nodes + 3) x.head x.pending ≡ []
        empty = let z : x.pending ≡ 0 = omega arith in ap (waiting s l (nodes + 3) x.head) z ∙ waiting_none s l (nodes + 3) x.head

        over-now : ended nodes (state_of s l (nodes + 3) x).queue (state_of s l (nodes + 3) x).counts (state_of s l (nodes + 3) x).found ≡ some (complete (found_of x.found) x.counts)
        over-now = unfold state_of ended in (ap (λ (q : List Waiting). ended nodes q x.counts (found_of x.found)) empty)

    module _ (some-wait : 0 < x.pending) where
      -- no visit is left
      pub going-spent : x.counts.visited ≡ nodes → Spent x.pending x.counts ≡ sought
      going-spent e = at_end 0 (Spent x.pending x.counts) (omega arith) (ends see nodes 0 here (Spent x.pending x.counts) over-now)
        where
          over-now : ended nodes (state_of s l (nodes + 3) x).queue (state_of s l (nodes + 3) x).counts (state_of s l (nodes + 3) x).found ≡ some (Spent x.pending x.counts)
          over-now = unfold state_of in (spent nodes (waiting s l (nodes + 3) x.head x.pending) x.counts x.pending (found_of x.found) long_queue some-wait (omega arith))

      one_more : x.pending ≡ suc (x.pending - 1)
      one_more = omega arith

      ring' : Ring s l (nodes + 3) x.head (suc (x.pending - 1))
      ring' = subst (λ (k : ℕ). Ring s l (nodes + 3) x.head k) one_more g.ring

      -- the first piece waits in its slot
      going-waits : Waits s l (base_of s x.head)
      going-waits = head-waits s l (nodes + 3) x.head (x.pending - 1) ring'

      -- and what holds of every piece that waits holds of it
      going_first : (P : Waiting → Type 0) → Every P (waiting s l (nodes + 3) x.head x.pending) → P (waits_at s l (base_of s x.head))
      going_first P h = (subst (Every P) (ap (waiting s l (nodes + 3) x.head) one_more ∙ waiting-pop s l (nodes + 3) x.head (x.pending - 1) ring') h).0

      module _ (more : x.counts.visited < nodes) where
        not_yet : ended nodes (state_of s l (nodes + 3) x).queue (state_of s l (nodes + 3) x).counts (state_of s l (nodes + 3) x).found ≡ none
        not_yet = unfold state_of in (unended nodes (waiting s l (nodes + 3) x.head x.pending) x.counts (found_of x.found) (omega (arith, long_queue)) more)

        stood : advance see nodes x.counts.visited (begun (piece_at s l₀ 0)) ≡ going (state_of s l (nodes + 3) x)
        stood =
            let z : x.counts.visited ≡ x.counts.visited + 0 = omega arith in
            ap (λ (i : ℕ). advance see nodes i (begun (piece_at s l₀ 0))) z ∙ g.same 0 ∙ waits see nodes here not_yet

        -- so the counts are those of a state after so many visits,
        going-counted : Counted x.counts.visited (state_of s l (nodes + 3) x)
        going-counted = (subst (AfterVisits nodes x.counts.visited) stood (begun-stands see few nodes (piece_at s l₀ 0) x.counts.visited)).0

        going-cuts : x.counts.cuts ≤ 2 * x.counts.visited
        going-cuts = unfold state_of in going-counted.cuts

        -- there is a slot for each piece that a visit hands on,
        going-room : x.pending + 1 < nodes + 3
        going-room = let p : length (waiting s l (nodes + 3) x.head x.pending) ≤ x.counts.visited + 1 = unfold state_of in going-counted.pieces in omega (arith, long_queue, p)

        -- the first piece is no deeper than there were visits,
        going-depth : depth_at s l (base_of s x.head) ≤ x.counts.visited
        going-depth = unfold waits_at in going_first (λ w. w.depth ≤ x.counts.visited) (unfold state_of in going-counted.depths)

        -- and can be visited, as all that wait
        going-fit : (ar : Arithmetic) → ((k : ℕ) → AllFit ar s (advance see nodes k (begun (piece_at s l₀ 0)))) → Fit ar s (piece_at s l (base_of s x.head))
        going-fit ar f = unfold waits_at in going_first (λ w. Fit ar s w.piece) (unfold state_of in subst (AllFit ar s) stood (f x.counts.visited))

        module _ (m : List Float) (o : Outcome) (kept : length m ≡ length l) (small : nodes ≤ 4096)
            (w : Turned (see (piece_at s l (base_of s x.head))) s (ring_base s (nodes + 3) x.head x.pending) (ring_base s (nodes + 3) x.head (x.pending + 1)) (depth_at s l (base_of s x.head)) l m o) where
          shallow : suc (depth_at s l (base_of s x.head)) ≤ 0x1_0000
          shallow = omega (arith, going-depth, small)

          -- what is behind the ring is as it was
          going-rest : drop ((nodes + 3) * words_of s) m ≡ drop ((nodes + 3) * words_of s) l₀
          going-rest = turn_behind see s l m (nodes + 3) x o g.ring some-wait going-room w shallow ∙ g.rest

          module _ (y : Search) (z : Next (nodes + 3) x (depth_at s l (base_of s x.head)) o y) where
            one : y.counts.visited ≡ suc x.counts.visited
            one = ap (λ (v : Counts). v.visited) z.counts

            -- a weight is not above zero
            going-bad : has_bad_weight o ≡ true → failed_with y.counts ≡ sought
            going-bad e =
                at_end (suc (nodes - suc x.counts.visited)) (failed_with y.counts) (omega arith)
                (fails see nodes (nodes - suc x.counts.visited) here (failed_with y.counts) not_yet
                (unfold state_of in (turn_bad see s l m (nodes + 3) x o g.ring some-wait going-room w shallow y z e)))

            -- one turn more
            going_on : has_bad_weight o ≡ false → Going see nodes s l₀ m y
            going_on e = record {
              ring = t.ring;
              within = omega (arith, one);
              long = kept ∙ g.long;
              same = λ k.
                  let i : y.counts.visited + k ≡ x.counts.visited + suc k = omega (arith, one) in
                  ap (λ (j : ℕ). advance see nodes j (begun (piece_at s l₀ 0))) i
                  ∙ g.same (suc k)
                  ∙ once see nodes k here (state_of s m (nodes + 3) y) not_yet (unfold state_of in t.steps);
              rest = going-rest;
            }
              where
                t : Turn see s l m (nodes + 3) x o y
                t = turn_on see s l m (nodes + 3) x o g.ring some-wait going-room w shallow y z e

-- ---- a turn of the code's loop: a piece waits, and a visit is left for it

-- What it asks of where the search stands.
pub record Ready (ar : Arithmetic) (nodes : ℕ) (s : Shape) (l : List Float) (x : Search) : Type 0 where
  pub waits : Waits s l (base_of s x.head)
  pub deep : depth_at s l (base_of s x.head) ≤ 0x1000
  pub room : x.pending + 1 < nodes + 3
  pub cuts : x.counts.cuts ≤ 0x2000
  pub fit : Fit ar s (piece_at s l (base_of s x.head))

-- What it comes to, where the visit came out as o and left m, and the search stands at y then.
pub record Comes (see : Piece → Visit) (nodes : ℕ) (s : Shape) (l₀ m : List Float) (o : Outcome) (y : Search) : Type 0 where
  pub bad : has_bad_weight o ≡ true → failed_with y.counts ≡ answered (advance see nodes nodes (begun (piece_at s l₀ 0)))
  pub on : has_bad_weight o ≡ false → Going see nodes s l₀ m y
  pub rest : drop ((nodes + 3) * words_of s) m ≡ drop ((nodes + 3) * words_of s) l₀

module _ (ar : Arithmetic) (s : Shape) (box : List Float) (resolution : Float) (nodes : ℕ) (l₀ : List Float) (b : Begins ar s (asked_of s box resolution nodes) l₀)
    (l : List Float) (x : Search) (g : Going (visit ar (asked_of s box resolution nodes)) nodes s l₀ l x) (w : 0 < x.pending) (more : x.counts.visited < nodes) where
  abbrev see : Piece → Visit
  see = visit ar (asked_of s box resolution nodes)

  few : (c : Piece) → OneOrTwo (visit ar (asked_of s box resolution nodes) c)
  few = visit-cuts ar (asked_of s box resolution nodes)

  pub ready : Ready ar nodes s l x
  ready = record {
    waits = going-waits see few nodes s l₀ l x g w;
    deep = omega (arith, going-depth see few nodes s l₀ l x g w more, b.few);
    room = going-room see few nodes s l₀ l x g w more;
    cuts = omega (arith, going-cuts see few nodes s l₀ l x g w more, b.few);
    fit = going-fit see few nodes s l₀ l x g w more ar b.fits;
  }

  pub comes : (d : ℕ) (m : List Float) (o : Outcome) (y : Search) → length m ≡ length l → d ≡ depth_at s l (base_of s x.head)
      → Turned (visit ar (asked_of s box resolution 0) (piece_at s l (base_of s x.head))) s (ring_base s (nodes + 3) x.head x.pending) (ring_base s (nodes + 3) x.head (x.pending + 1)) d l m o
      → Next (nodes + 3) x d o y → Comes (visit ar (asked_of s box resolution nodes)) nodes s l₀ m o y
  comes d m o y kept D t n =
      let t' = turned ar s box resolution nodes _ _ _ _ _ _ _ _ D t in
      let n' = subst (λ (i : ℕ). Next (nodes + 3) x i o y) D n in record {
        bad = going-bad see few nodes s l₀ l x g w more m o kept b.few t' y n';
        on = going_on see few nodes s l₀ l x g w more m o kept b.few t' y n';
        rest = going-rest see few nodes s l₀ l x g w more m o kept b.few t';
      }
