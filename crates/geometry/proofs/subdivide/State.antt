-- One visit of the code is one step of the search: the ring that it leaves holds the queue of the definition. Leans on the laws of the ring.
use mathlib.Core.Path.{◌≡◌, refl, sym, ap, ◌∙◌, subst}
use mathlib.Core.Bool.{true, false}
use mathlib.Core.List.{List}
use mathlib.Core.Option.{Option}
use Prim.Native.Nat.{ℕ, suc, ◌+◌, ◌-◌, ◌*◌, ◌≤◌, ◌<◌}
use native.Mathlib.Nat.{add-zero}
use native.Mathlib.Omega.{arith}
use lib.ListN.{length, drop}
use lib.Ieee.{Float}
use Rattle.lists.specs.Ring.{wrapped}
use Rattle.math.specs.declared.scalars.Scalar.{Scalar}
use Rattle.math.proofs.Bools.{yes, no}
use Rattle.model.specs.NurbCurve.{Piece}
use Rattle.model.specs.Subdivide.{Visit, Waiting, State, going, over, at_depth, with_visit, with_cuts, failed_with, after, step}
use Rattle.math.specs.Scalars.{Arithmetic}
use Rattle.geometry.specs.Slots.{words_of, piece_at, depth_at, waits_at, Inside, Held, Apart, Fit}
use Rattle.geometry.specs.Ring.{base_of, ring_base, waiting, Ring, Beside}
use Rattle.geometry.specs.State.{found_of, outcome_of, HandedOn, Visited, with_depths, DepthsOn, Turned, children, cuts_of, with_report, has_bad_weight, state_of, Next}
use Rattle.model.specs.declared.subdivide.Counts.{Counts}
use Rattle.geometry.specs.declared.slots.Shape.{Shape}
use Rattle.geometry.specs.declared.subdivide.Outcome.{Outcome}
use Rattle.geometry.specs.declared.subdivide.Outcome.TheVariants.{Dropped, Reported, Restricted, Halved, BadWeight}
use Rattle.geometry.specs.declared.subdivide.Search.{Search}
use Rattle.geometry.proofs.slots.Apart.{other}
use Rattle.geometry.proofs.slots.Depth.{waits_by, waiting_by}
use Rattle.geometry.proofs.subdivide.Depths.{turned_by}
use Rattle.geometry.proofs.slots.Ring.{beside_inside, base_is, ring_inside, head-waits, head_apart, ring-apart, waiting-pop, ring-pop, next-base, push_none, push_one, push_two, push-behind, ring_none, ring_one, ring_two}

-- ---- what was reported so far

-- ---- what the n pieces from slot h on become, where the slots behind them were written to

module _ (s : Shape) (l m : List Float) (slots h n : ℕ) (r : Ring s l slots h n) (room : n + 1 < slots) where
  -- The slots behind the last.
  abbrev a : ℕ
  a = ring_base s slots h n

  abbrev b : ℕ
  b = ring_base s slots h (n + 1)

  module _ (d : Beside s (ring_base s slots h n) (ring_base s slots h (n + 1)) l m) where
    -- the depths of what is handed on, by the visit of a piece of depth e
    module _ (e : ℕ) (few : suc e ≤ 0x1_0000) where
      -- the ring that is left
      ring-after : (o : Outcome) → HandedOn s m (ring_base s slots h n) (ring_base s slots h (n + 1)) o → DepthsOn s m (ring_base s slots h n) (ring_base s slots h (n + 1)) e o → Ring s m slots h (n + children o)
      ring-after Dropped k t = rw (add-zero n) (ring_none s l m slots h n r room d)
      ring-after (Reported x) k t = rw (add-zero n) (ring_none s l m slots h n r room d)
      ring-after (Restricted i) k t = ring_one s l m slots h n r room d (waits_at s m a) (waits_by s m a e k t (omega arith)) refl
      ring-after Halved k t = ring_two s l m slots h n r room d (waits_at s m a) (waits_by s m a (suc e) k.0 t.0 few) refl (waits_at s m b) (waits_by s m b (suc e) k.1 t.1 few) refl
      ring-after BadWeight k t = rw (add-zero n) (ring_none s l m slots h n r room d)

      -- The state that is left.
      abbrev left : Counts → Option Scalar → Outcome → State
      left v f o = record { queue = waiting s m slots h (n + children o); counts = with_cuts (cuts_of o) v; found = with_report f o }

      -- and what waits in it
      after-goes : (v : Counts) (f : Option Scalar) (o : Outcome) → has_bad_weight o ≡ false → HandedOn s m (ring_base s slots h n) (ring_base s slots h (n + 1)) o → DepthsOn s m (ring_base s slots h n) (ring_base s slots h (n + 1)) e o
          → after (waiting s l slots h n) e v f (outcome_of s m (ring_base s slots h n) (ring_base s slots h (n + 1)) o) ≡ going (left v f o)
      unfolding after outcome_of
      after-goes v f Dropped z k t = rw (add-zero n, add-zero v.cuts) (ap (λ (q : List Waiting). going (record { queue = q; counts = v; found = f })) (sym (push_none s l m slots h n r room d)))
      after-goes v f (Reported x) z k t = rw (add-zero n, add-zero v.cuts) (ap (λ (q : List Waiting). going (record { queue = q; counts = v; found = with_report f (Reported x) })) (sym (push_none s l m slots h n r room d)))
      after-goes v f (Restricted i) z k t =
          ap (λ (q : List Waiting). going (record { queue = q; counts = with_cuts i v; found = f }))
          (sym (push_one s l m slots h n r room d (at_depth e (piece_at s m a)) (waits_by s m a e k t (omega arith)) (waiting_by s m a e t (omega arith))))
      after-goes v f Halved z k t =
          rw (add-zero v.cuts) (ap (λ (q : List Waiting). going (record { queue = q; counts = v; found = f }))
          (sym (push_two s l m slots h n r room d
          (at_depth (suc e) (piece_at s m a)) (waits_by s m a (suc e) k.0 t.0 few) (waiting_by s m a (suc e) t.0 few)
          (at_depth (suc e) (piece_at s m b)) (waits_by s m b (suc e) k.1 t.1 few) (waiting_by s m b (suc e) t.1 few))))
      after-goes v f BadWeight z k t = absurd (no true z tt)

      after-fails : (v : Counts) (f : Option Scalar) (o : Outcome) → has_bad_weight o ≡ true
          → after (waiting s l slots h n) e v f (outcome_of s m (ring_base s slots h n) (ring_base s slots h (n + 1)) o) ≡ over (failed_with (with_cuts (cuts_of o) v))
      unfolding after outcome_of
      after-fails v f BadWeight z = rw (add-zero v.cuts)
      after-fails v f Dropped z = absurd (yes false z)
      after-fails v f (Reported t) z = absurd (yes false z)
      after-fails v f (Restricted i) z = absurd (yes false z)
      after-fails v f Halved z = absurd (yes false z)

-- ---- one visit, from a search that stands at x

module _ (see : Piece → Visit) (s : Shape) (l m : List Float) (slots h n : ℕ) (o : Outcome) (r : Ring s l slots h (suc n)) (room : suc n + 1 < slots)
    (w : Turned (see (piece_at s l (base_of s h))) s (ring_base s slots h (suc n)) (ring_base s slots h (suc n + 1)) (depth_at s l (base_of s h)) l m o)
    (few : suc (depth_at s l (base_of s h)) ≤ 0x1_0000) where
  -- The next head.
  abbrev g : ℕ
  g = wrapped slots (h + 1)

  abbrev c : Piece
  c = piece_at s l (base_of s h)

  abbrev e : ℕ
  e = depth_at s l (base_of s h)

  first : ring_base s slots h (suc n) ≡ ring_base s slots (wrapped slots (h + 1)) n
  first = sym (next-base s slots h n r.start (omega arith))

  second : ring_base s slots h (suc n + 1) ≡ ring_base s slots (wrapped slots (h + 1)) (n + 1)
  second = let e : suc n + 1 ≡ suc (n + 1) = omega arith in ap (ring_base s slots h) e ∙ sym (next-base s slots h (n + 1) r.start (omega arith))

  moved : Turned (see (piece_at s l (base_of s h))) s (ring_base s slots (wrapped slots (h + 1)) n) (ring_base s slots (wrapped slots (h + 1)) (n + 1)) (depth_at s l (base_of s h)) l m o
  moved = subst (λ (i : ℕ). Turned (see c) s (ring_base s slots g n) i e l m o) second (subst (λ (i : ℕ). Turned (see c) s i (ring_base s slots h (suc n + 1)) e l m o) first w)

  rest : Ring s l slots (wrapped slots (h + 1)) n
  rest = ring-pop s l slots h n r

  pops : (v : Counts) (f : Option Scalar) → step see (waiting s l slots h (suc n)) v f
      ≡ after (waiting s l slots (wrapped slots (h + 1)) n) (depth_at s l (base_of s h)) (with_visit (depth_at s l (base_of s h)) v) f (outcome_of s m (ring_base s slots (wrapped slots (h + 1)) n) (ring_base s slots (wrapped slots (h + 1)) (n + 1)) o)
  unfolding step waits_at
  pops v f = ap (λ (q : List Waiting). step see q v f) (waiting-pop s l slots h n r) ∙ ap (after (waiting s l slots g n) e (with_visit e v) f) (sym moved.visited.is)

  ring_turn : Ring s m slots (wrapped slots (h + 1)) (n + children o)
  ring_turn = ring-after s l m slots g n rest (omega arith) moved.visited.beside e few o moved.visited.holding moved.depths

  behind_turn : drop (slots * words_of s) m ≡ drop (slots * words_of s) l
  behind_turn = push-behind s l m slots g n rest (omega arith) moved.visited.beside

  goes : (v : Counts) (f : Option Scalar) → has_bad_weight o ≡ false
      → step see (waiting s l slots h (suc n)) v f ≡ going (left s l m slots g n rest (omega arith) moved.visited.beside e few (with_visit (depth_at s l (base_of s h)) v) f o)
  goes v f z = pops v f ∙ after-goes s l m slots g n rest (omega arith) moved.visited.beside e few (with_visit e v) f o z moved.visited.holding moved.depths

  fails : (v : Counts) (f : Option Scalar) → has_bad_weight o ≡ true → step see (waiting s l slots h (suc n)) v f ≡ over (failed_with (with_cuts (cuts_of o) (with_visit (depth_at s l (base_of s h)) v)))
  fails v f z = pops v f ∙ after-fails s l m slots g n rest (omega arith) moved.visited.beside e few (with_visit e v) f o z

-- ---- the same in the code's words

module _ (see : Piece → Visit) (s : Shape) (l m : List Float) (slots : ℕ) (x : Search) (o : Outcome) where
  -- The depth of the first piece that waits.
  abbrev pub deep_of : ℕ
  deep_of = depth_at s l (base_of s x.head)

  -- What a turn of the search gives.
  pub record Turn (y : Search) : Type 0 where
    pub ring : Ring s m slots y.head y.pending
    pub steps : step see (waiting s l slots x.head x.pending) x.counts (found_of x.found) ≡ going (state_of s m slots y)

  module _ (r : Ring s l slots x.head x.pending) (some : 1 ≤ x.pending) (room : x.pending + 1 < slots)
      (w : Turned (see (piece_at s l (base_of s x.head))) s (ring_base s slots x.head x.pending) (ring_base s slots x.head (x.pending + 1)) deep_of l m o)
      (few : suc deep_of ≤ 0x1_0000) where
    prev : x.pending ≡ suc (x.pending - 1)
    prev = omega arith

    ring' : Ring s l slots x.head (suc (x.pending - 1))
    ring' = subst (λ (k : ℕ). Ring s l slots x.head k) prev r

    seen' : Turned (see (piece_at s l (base_of s x.head))) s (ring_base s slots x.head (suc (x.pending - 1))) (ring_base s slots x.head (suc (x.pending - 1) + 1)) deep_of l m o
    seen' = subst (λ (k : ℕ). Turned (see (piece_at s l (base_of s x.head))) s (ring_base s slots x.head k) (ring_base s slots x.head (k + 1)) deep_of l m o) prev w

    pub turn_behind : drop (slots * words_of s) m ≡ drop (slots * words_of s) l
    turn_behind = behind_turn see s l m slots x.head (x.pending - 1) o ring' (omega arith) seen' few

    module _ (y : Search) (z : Next slots x deep_of o y) where
      pub turn_bad : has_bad_weight o ≡ true → step see (waiting s l slots x.head x.pending) x.counts (found_of x.found) ≡ over (failed_with y.counts)
      turn_bad e =
          ap (λ (k : ℕ). step see (waiting s l slots x.head k) x.counts (found_of x.found)) prev
          ∙ fails see s l m slots x.head (x.pending - 1) o ring' (omega arith) seen' few x.counts (found_of x.found) e
          ∙ ap (λ (v : Counts). over (failed_with v)) (sym z.counts)

      pub turn_on : has_bad_weight o ≡ false → Turn y
      turn_on e = record {
        ring = subst (λ (i : ℕ). Ring s m slots i y.pending) (sym z.head)
            (subst (λ (i : ℕ). Ring s m slots (wrapped slots (x.head + 1)) i) (sym z.pending) (ring_turn see s l m slots x.head (x.pending - 1) o ring' (omega arith) seen' few));
        steps =
            ap (λ (k : ℕ). step see (waiting s l slots x.head k) x.counts (found_of x.found)) prev
            ∙ goes see s l m slots x.head (x.pending - 1) o ring' (omega arith) seen' few x.counts (found_of x.found) e
            ∙ sym state;
      }
        where
          state : going (state_of s m slots y) ≡ going (record { queue = waiting s m slots (wrapped slots (x.head + 1)) (x.pending - 1 + children o); counts = with_cuts (cuts_of o) (with_visit deep_of x.counts); found = with_report (found_of x.found) o })
          state = unfold state_of in (λ i. going (record { queue = waiting s m slots (z.head i) (z.pending i); counts = z.counts i; found = z.found i }))

-- ---- what a turn asks of its visit

module _ (s : Shape) (l : List Float) (slots h n w : ℕ) (r : Ring s l slots h n) (some : 1 ≤ n) (room : n + 1 < slots) (W : w ≡ words_of s) where
  -- the places of the code: slot i of slots of w words
  pub slot_is : (j i x : ℕ) → i ≡ wrapped slots (h + j) → x ≡ 0 + i * w → x ≡ ring_base s slots h j
  slot_is j i x I X = base_is s w W i x X ∙ ap (base_of s) I

  -- the slots behind the last, and that of the first, lie in the memory
  pub slot_in : (j i : ℕ) → j ≤ slots → i ≡ wrapped slots (h + j) → 0 + i * w ≤ length l
  slot_in j i k e = omega (arith, slot_is j i (0 + i * w) e refl, (ring_inside s l slots h n r j k).within)

  ring'' : Ring s l slots h (suc (n - 1))
  ring'' = let e : n ≡ suc (n - 1) = omega arith in subst (λ (k : ℕ). Ring s l slots h k) e r

  pub head_in : 0 + h * w ≤ length l
  head_in = omega (arith, base_is s w W h (0 + h * w) refl, (head-waits s l slots h (n - 1) ring'').held.inside.within)

  -- the slots of the first and of what a visit hands on
  module _ (x y z : ℕ) (X : x ≡ base_of s h) (Y : y ≡ ring_base s slots h n) (Z : z ≡ ring_base s slots h (n + 1)) where
    turn_slots : Inside s l y × Inside s l z × Apart s y z
    turn_slots =
        let yz : Apart s (ring_base s slots h n) (ring_base s slots h (n + 1)) = other s (ring_base s slots h (n + 1)) (ring_base s slots h n) (ring-apart s l slots h n r n (n + 1) (omega arith) room) in (
          subst (Inside s l) (sym Y) (ring_inside s l slots h n r n (omega arith)),
          subst (Inside s l) (sym Z) (ring_inside s l slots h n r (n + 1) (omega arith)),
          subst (λ (v : ℕ). Apart s v z) (sym Y) (subst (Apart s (ring_base s slots h n)) (sym Z) yz),
        )

    pub turn_asks : (ar : Arithmetic) (B : ℕ) → Fit ar s (piece_at s l (base_of s h)) → 2 * s.dim ≤ B
        → (Held s l x × Fit ar s (piece_at s l x) × (2 * s.dim ≤ B)) × (Inside s l y × Inside s l z × Apart s x y × Apart s x z × Apart s y z)
    turn_asks ar B f b =
        let xy : Apart s (base_of s h) (ring_base s slots h n) = other s (ring_base s slots h n) (base_of s h) (head_apart s l slots h (n - 1) ring'' n (omega arith) (omega arith)) in
        let xz : Apart s (base_of s h) (ring_base s slots h (n + 1)) = other s (ring_base s slots h (n + 1)) (base_of s h) (head_apart s l slots h (n - 1) ring'' (n + 1) (omega arith) (omega arith)) in (
          (subst (Held s l) (sym X) (head-waits s l slots h (n - 1) ring'').held, subst (λ (v : ℕ). Fit ar s (piece_at s l v)) (sym X) f, b),
          (
            turn_slots.0,
            turn_slots.1,
            subst (λ (v : ℕ). Apart s v y) (sym X) (subst (Apart s (base_of s h)) (sym Y) xy),
            subst (λ (v : ℕ). Apart s v z) (sym X) (subst (Apart s (base_of s h)) (sym Z) xz),
            turn_slots.2,
          ),
        )

    -- the visit that left m
    module _ (see : Piece → Visit) (m : List Float) (o : Outcome) (v : Visited (see (piece_at s l x)) s y z l m o) where
      pub turn_inside : Inside s m y × Inside s m z
      turn_inside = (beside_inside s y z l m v.beside y turn_slots.0, beside_inside s y z l m v.beside z turn_slots.1)

      -- and the depths that were written behind it
      pub turn_gives : (d : ℕ) (k : List Float) → k ≡ with_depths s m y z d o → Turned (see (piece_at s l (base_of s h))) s (ring_base s slots h n) (ring_base s slots h (n + 1)) d l k o
      turn_gives d k K =
          subst (λ (i : ℕ). Turned (see (piece_at s l i)) s (ring_base s slots h n) (ring_base s slots h (n + 1)) d l k o) X
          (subst (λ (i : ℕ). Turned (see (piece_at s l x)) s (ring_base s slots h n) i d l k o) Z
          (subst (λ (i : ℕ). Turned (see (piece_at s l x)) s i z d l k o) Y
          (subst (λ (i : List Float). Turned (see (piece_at s l x)) s y z d l i o) (sym K) (turned_by (see (piece_at s l x)) s y z d l m turn_inside.0 turn_inside.1 turn_slots.2 o v))))
