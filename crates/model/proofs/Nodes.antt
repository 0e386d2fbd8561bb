-- More nodes than a search needs change nothing: a search that has not run out of its nodes takes the same visits with more (`same_steps`), and a call that is accepted stays so. For
-- every arithmetic (`more-nodes`). Leans on nothing but the definitions of the search.
use Prim.Native.Nat.{ℕ, zero, suc, ◌+◌, ◌-◌, ◌≤◌, ◌<◌}
use native.Mathlib.Decide.{dec_lt}
use native.Mathlib.Omega.{arith}
use mathlib.Core.Path.{◌≡◌, refl, sym, ap, ◌∙◌, subst}
use mathlib.Core.Bool.{Bool, true, false, cond}
use mathlib.Core.List.{List, [], ◌∷◌}
use mathlib.Core.Option.{Option, none, some}
use lib.ListN.{length}
use lib.Dec.{le→leb}
use Rattle.math.specs.declared.scalars.Scalar.{Scalar}
use Rattle.math.specs.Scalars.{Arithmetic}
use Rattle.model.specs.NurbCurve.{Piece}
use Rattle.model.specs.Aabb.{aabb, could_overlap, could_meet}
use Rattle.model.specs.FatLine.{greville}
use Rattle.model.specs.Subdivide.{Question, Visit, dropped, Waiting, State, Step, going, over, no_counts, complete, ended, step, advance, resumed, answered}
use Rattle.model.specs.Contains.{shrink, clipped, visit, begun, could_contain}
use Rattle.model.specs.Call.{Call, box_of, question, as_piece, area_fits, stated, refusal, searched_by, searched, area_by, area_after}
use Rattle.model.specs.Enclosure.{Accepted, Completes}
use Rattle.model.specs.Nodes.{NotSpent, NodesLeft, SameSteps, with_nodes, Larger, MoreNodes}
use Rattle.model.specs.declared.subdivide.Counts.{Counts}
use Rattle.model.specs.declared.contains.Found.{Found}
use Rattle.model.specs.declared.contains.Found.TheVariants.{Nothing, Enclosed, Spent, Refused}
use Rattle.model.specs.Hat.{Hat}
use Rattle.std.specs.Prelude.{Some, None}
use Rattle.model.proofs.Pause.{goes, spends, ends, once, fails, waits, paused}
use Rattle.model.proofs.Checks.{accepted_by_lem, revision-accepted, curve-accepted}

module _ (see : Piece → Visit) (n m : ℕ) (h : n ≤ m) where
  abbrev at : List Waiting → Counts → Option Scalar → State
  at q v f = record { queue = q; counts = v; found = f }

  -- with no piece left both are over
  done : (k : ℕ) (v : Counts) (f : Option Scalar) → advance see m k (at [] v f) ≡ advance see n k (at [] v f)
  done k v f = ends see m k (at [] v f) (complete f v) (unfold ended in refl) ∙ sym (ends see n k (at [] v f) (complete f v) (unfold ended in refl))

  -- with a piece, and no node left of n, the search is spent
  spent : (k : ℕ) (c : Waiting) (cs : List Waiting) (v : Counts) (f : Option Scalar) → n ≤ v.visited → NodesLeft (advance see n k (at (c ∷ cs) v f)) → ⊥
  spent k c cs v f l = subst (λ (z : Step). NodesLeft z → ⊥) (sym (ends see n k (at (c ∷ cs) v f) (Spent (suc (length cs)) v) (spends n c cs v f l))) (λ e. e)

  steps : (k : ℕ) (s : State) → NodesLeft (advance see n k s) → advance see m k s ≡ advance see n k s
  steps zero s left = by s.queue s.counts s.found left
    where
      by : (q : List Waiting) (v : Counts) (f : Option Scalar) → NodesLeft (advance see n zero (at q v f)) → advance see m zero (at q v f) ≡ advance see n zero (at q v f)
      by [] v f left = done zero v f
      by (c ∷ cs) v f left = go (dec_lt v.visited n)
        where
          go : Dec (v.visited < n) → advance see m zero (at (c ∷ cs) v f) ≡ advance see n zero (at (c ∷ cs) v f)
          go (yes l) = waits see m (at (c ∷ cs) v f) (goes m c cs v f (omega arith)) ∙ sym (waits see n (at (c ∷ cs) v f) (goes n c cs v f l))
          go (no l) = absurd (spent zero c cs v f (omega arith) left)
  steps (suc k) s left = by (steps k) s.queue s.counts s.found left
    where
      Rest : Type 0
      Rest = (s' : State) → NodesLeft (advance see n k s') → advance see m k s' ≡ advance see n k s'

      by : Rest → (q : List Waiting) (v : Counts) (f : Option Scalar) → NodesLeft (advance see n (suc k) (at q v f)) → advance see m (suc k) (at q v f) ≡ advance see n (suc k) (at q v f)
      by rest [] v f left = done (suc k) v f
      by rest (c ∷ cs) v f left = go (dec_lt v.visited n)
        where
          next : v.visited < n → (t : Step) → step see (c ∷ cs) v f ≡ t → advance see m (suc k) (at (c ∷ cs) v f) ≡ advance see n (suc k) (at (c ∷ cs) v f)
          next l (over r) u = fails see m k (at (c ∷ cs) v f) r (goes m c cs v f (omega arith)) u ∙ sym (fails see n k (at (c ∷ cs) v f) r (goes n c cs v f l) u)
          next l (going s') u =
              let one = once see n k (at (c ∷ cs) v f) s' (goes n c cs v f l) u in
              once see m k (at (c ∷ cs) v f) s' (goes m c cs v f (omega arith)) u ∙ rest s' (subst NodesLeft one left) ∙ sym one

          go : Dec (v.visited < n) → advance see m (suc k) (at (c ∷ cs) v f) ≡ advance see n (suc k) (at (c ∷ cs) v f)
          go (yes l) = next l (step see (c ∷ cs) v f) refl
          go (no l) = absurd (spent (suc k) c cs v f (omega arith) left)

  -- and of all visits that the nodes allow
  enough : (s : State) → NotSpent (answered (advance see n n s)) → answered (advance see m m s) ≡ answered (advance see n n s)
  enough s left = by (advance see n n s) refl left
    where
      all : m ≡ n + (m - n)
      all = omega (arith, h)

      by : (z : Step) → advance see n n s ≡ z → NotSpent (answered z) → answered (advance see m m s) ≡ answered z
      by (going s') e d = unfold answered in absurd d
      by (over r) e d =
          let here : advance see m n s ≡ over r = steps n s (subst NodesLeft (sym e) (unfold answered in d)) ∙ e in
          ap answered (ap (λ (k : ℕ). advance see m k s) all ∙ paused see m n (m - n) s ∙ ap (resumed see m (m - n)) here ∙ (unfold resumed in refl))

-- THE STEPS
pub same_steps : (see : Piece → Visit) → SameSteps see
same_steps see = record { same = λ n m k s h left. steps see n m h k s left }

-- ---- a visit does not look at the nodes
module _ (ar : Arithmetic) (c : Call) (m words : ℕ) where
  abbrev q : Question
  q = question c

  abbrev q' : Question
  q' = question (with_nodes c m words)

  shrink-nodes : (s : Piece) (h : Hat) → shrink ar q' s h ≡ shrink ar q s h
  unfolding shrink
  shrink-nodes s None = refl
  shrink-nodes s (Some t) = refl

  clipped-nodes : (s : Piece) (g : Option (List Scalar)) → clipped ar q' s g ≡ clipped ar q s g
  unfolding clipped
  clipped-nodes s none = refl
  clipped-nodes s (some ξ) = shrink-nodes s _

  visit-nodes : (s : Piece) → visit ar q' s ≡ visit ar q s
  unfolding visit
  visit-nodes s = ap (λ (v : Visit). cond (could_overlap (aabb ar c.curve.dim s.points) (box_of c)) v dropped) (clipped-nodes s (greville ar c.curve.degree (length s.points) s.knots))

  more : c.nodes ≤ m → NotSpent (could_contain ar q (as_piece c.curve)) → could_contain ar q' (as_piece c.curve) ≡ could_contain ar q (as_piece c.curve)
  unfolding could_contain
  more h left = by (could_meet ar c.curve.dim c.curve.degree (as_piece c.curve).points (box_of c)) left
    where
      see : visit ar q' ≡ visit ar q
      see = λ i s. visit-nodes s i

      by : (b : Bool) → NotSpent (cond b (answered (advance (visit ar q) c.nodes c.nodes (begun (as_piece c.curve)))) (Nothing no_counts))
          → cond b (answered (advance (visit ar q') m m (begun (as_piece c.curve)))) (Nothing no_counts) ≡ cond b (answered (advance (visit ar q) c.nodes c.nodes (begun (as_piece c.curve)))) (Nothing no_counts)
      by true d = ap (λ (f : Piece → Visit). answered (advance f m m (begun (as_piece c.curve)))) see ∙ enough (visit ar q) c.nodes m h (begun (as_piece c.curve)) d
      by false d = refl

-- ---- the checks
still : (c : Call) (m words : ℕ) → Larger c m words → Accepted c → Accepted (with_nodes c m words)
unfolding area_fits
still c m words w e = accepted_by_lem (with_nodes c m words) (revision-accepted c e) (curve-accepted c e) (le→leb m 4096 w.most) (le→leb (stated (with_nodes c m words)) words w.long)

-- ---- THE LAW
not-spent : (r : Found) → Completes r → NotSpent r
not-spent (Nothing v) h = tt
not-spent (Enclosed lo hi v) h = tt
not-spent (Spent n v) h = h
not-spent (Refused e v) h = tt

pub more-nodes : (ar : Arithmetic) → MoreNodes ar
unfolding searched searched_by area_after area_by
more-nodes ar = record {
  completed = λ c m words w h. by c m words w (refusal c) refl h;
  unspent = λ c m words w e left. ap (searched_by ar (with_nodes c m words)) (still c m words w e) ∙ more ar c m words w.more (subst NotSpent (ap (searched_by ar c) e) left) ∙ sym (ap (searched_by ar c) e);
  area = λ c m words w e area. ap (area_by (with_nodes c m words) area) (still c m words w e);
}
  where
    by : (c : Call) (m words : ℕ) → Larger c m words → (z : ℕ) → refusal c ≡ z → Completes (searched_by ar c z) → searched_by ar (with_nodes c m words) (refusal (with_nodes c m words)) ≡ searched_by ar c z
    by c m words w zero e h = ap (searched_by ar (with_nodes c m words)) (still c m words w e) ∙ more ar c m words w.more (not-spent (could_contain ar (question c) (as_piece c.curve)) h)
    by c m words w (suc z) e h = absurd h
