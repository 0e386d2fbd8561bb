-- The counts of a search, between its visits and in its answer: visited never exceeds nodes, pending never exceeds nodes + 1, a search is spent only when all its nodes are used, cuts
-- never exceeds twice visited, and depth stays below visited (`counts_kept`). Leans on the laws of `advance` in Pause.antt, and of a visit in Cuts.antt.
use Prim.Native.Nat.{ℕ, zero, suc, ◌+◌, ◌≤◌, ◌<◌}
use native.Mathlib.Decide.{dec_lt}
use native.Mathlib.Omega.{arith}
use mathlib.Core.Path.{◌≡◌, refl, sym, subst}
use mathlib.Core.Bool.{Bool, true, false, cond}
use mathlib.Core.List.{List, [], ◌∷◌}
use mathlib.Core.Option.{Option, none, some}
use lib.ListN.{length, length-append}
use Rattle.math.specs.declared.scalars.Scalar.{Scalar}
use Rattle.math.specs.Scalars.{Arithmetic}
use Rattle.model.specs.NurbCurve.{Piece}
use Rattle.model.specs.declared.contains.Found.{Found}
use Rattle.model.specs.declared.contains.Found.TheVariants.{Spent}
use Rattle.model.specs.declared.subdivide.Counts.{Counts}
use Rattle.model.specs.Subdivide.{Question, Visit, dropped, reported, restricted, halved, bad_weight, Waiting, State, Step, going, over, no_counts, with_visit, complete, after, ended, step, advance, answered}
use Rattle.model.specs.Aabb.{could_meet}
use Rattle.model.specs.Contains.{visit, begun, could_contain}
use Rattle.model.specs.Call.{Call, question, as_piece, refusal, searched_by, searched}
use Rattle.model.specs.Enclosure.{Every}
use Rattle.model.specs.Counts.{DepthWithin, CountsWithin, WithinNodes, Counted, AfterVisits, CountsKept}
use Rattle.model.proofs.Every.{every_append, every-imp}
use Rattle.model.proofs.Pause.{goes, spends, ends, once, fails, waits}
use Rattle.model.proofs.Cuts.{OneOrTwo, visit-cuts}

-- ---- the counts of a state, and of the answer that is made of them

-- nothing counted
none_within : (nodes : ℕ) → CountsWithin nodes no_counts
none_within nodes = record { visits = omega arith; cuts = omega arith; deep = record { most = omega arith; below = λ h. h } }

counts-within : (nodes j : ℕ) (s : State) → j ≤ nodes → Counted j s → CountsWithin nodes s.counts
counts-within nodes j s h g =
    let e = g.visits in
    record { visits = omega (arith, e); cuts = omega (arith, e, g.cuts); deep = subst (λ (v : ℕ). DepthWithin v s.counts.depth) (sym e) g.deep }

complete-counted : (nodes : ℕ) (v : Counts) (f : Option Scalar) → CountsWithin nodes v → WithinNodes nodes (complete f v)
unfolding complete
complete-counted nodes v none h = h
complete-counted nodes v (some t) h = h

module _ (see : Piece → Visit) (few : (c : Piece) → OneOrTwo (see c)) (nodes : ℕ) where
  abbrev at : List Waiting → Counts → Option Scalar → State
  at q v f = record { queue = q; counts = v; found = f }

  -- What a visit leaves of a state after j visits.
  abbrev AfterOne : ℕ → Step → Type 0
  AfterOne j (going s) = Counted (suc j) s
  AfterOne j (over r) = WithinNodes nodes r

  -- the visit of the first piece, which came out as w
  module _ (c : Waiting) (cs : List Waiting) (v : Counts) (f : Option Scalar) (j : ℕ) (h : j < nodes) (g : Counted j (at (c ∷ cs) v f)) where
    deep : DepthWithin (suc j) (with_visit c.depth v).depth
    deep = record { most = omega (arith, g.deep.most, g.depths.0); below = λ _. omega (arith, g.deep.most, g.depths.0) }

    -- the pieces that waited behind it
    behind : Every (λ w. w.depth ≤ suc j) cs
    behind = every-imp (λ w. w.depth ≤ j) (λ w. w.depth ≤ suc j) (λ w k. omega (arith, k)) cs g.depths.1

    turn : (w : Visit) → OneOrTwo w → AfterOne j (after cs c.depth (with_visit c.depth v) f w)
    unfolding after
    turn dropped t = record { visits = omega (arith, g.visits); cuts = omega (arith, g.cuts); deep = deep; pieces = omega (arith, g.pieces); depths = behind }
    turn (reported x) t = record { visits = omega (arith, g.visits); cuts = omega (arith, g.cuts); deep = deep; pieces = omega (arith, g.pieces); depths = behind }
    turn (restricted n d) t = record {
      visits = omega (arith, g.visits);
      cuts = omega (arith, g.cuts, t.1);
      deep = deep;
      pieces = simp length-append (omega (arith, g.pieces));
      depths = every_append (λ w. w.depth ≤ suc j) cs _ behind (omega (arith, g.depths.0), tt);
    }
    turn (halved l r) t = record {
      visits = omega (arith, g.visits);
      cuts = omega (arith, g.cuts);
      deep = deep;
      pieces = simp length-append (omega (arith, g.pieces));
      depths = every_append (λ w. w.depth ≤ suc j) cs _ behind (omega (arith, g.depths.0), (omega (arith, g.depths.0), tt));
    }
    turn bad_weight t =
        record { visits = omega (arith, g.visits); cuts = omega (arith, g.visits, g.cuts); deep = record { most = omega (arith, g.visits, deep.most); below = λ _. omega (arith, g.visits, g.deep.most, g.depths.0) } }

  -- a state that takes no visit, since the nodes are used up
  halts : (k : ℕ) (c : Waiting) (cs : List Waiting) (v : Counts) (f : Option Scalar) (j m : ℕ) → nodes ≤ j → j ≤ nodes → Counted j (at (c ∷ cs) v f)
      → AfterVisits nodes m (advance see nodes k (at (c ∷ cs) v f))
  halts k c cs v f j m n h g =
      rw (ends see nodes k (at (c ∷ cs) v f) (Spent (suc (length cs)) v) (spends nodes c cs v f (omega (arith, g.visits))))
      (counts-within nodes j (at (c ∷ cs) v f) h g, omega (arith, g.visits), omega arith, omega (arith, g.pieces))

  -- or since no piece waits
  empties : (k : ℕ) (v : Counts) (f : Option Scalar) (j m : ℕ) → j ≤ nodes → Counted j (at [] v f) → AfterVisits nodes m (advance see nodes k (at [] v f))
  empties k v f j m h g = rw (ends see nodes k (at [] v f) (complete f v) (unfold ended in refl)) (complete-counted nodes v f (counts-within nodes j (at [] v f) h g))

  -- k visits from a state after j visits
  pub stands : (k : ℕ) (s : State) (j m : ℕ) → m ≡ j + k → j ≤ nodes → Counted j s → AfterVisits nodes m (advance see nodes k s)
  stands zero s j m e h g = by s.queue s.counts s.found g
    where
      by : (q : List Waiting) (v : Counts) (f : Option Scalar) → Counted j (at q v f) → AfterVisits nodes m (advance see nodes zero (at q v f))
      by [] v f g = empties zero v f j m h g
      by (c ∷ cs) v f g = go (dec_lt j nodes)
        where
          go : Dec (j < nodes) → AfterVisits nodes m (advance see nodes zero (at (c ∷ cs) v f))
          go (yes l) = rw (waits see nodes (at (c ∷ cs) v f) (goes nodes c cs v f (omega (arith, g.visits)))) (subst (λ (x : ℕ). Counted x (at (c ∷ cs) v f)) (omega arith) g, omega arith)
          go (no n) = halts zero c cs v f j m (omega arith) h g
  stands (suc k) s j m e h g = by (λ l t i. stands k t (suc j) m (omega arith) l i) s.queue s.counts s.found g
    where
      Rest : Type 0
      Rest = j < nodes → (t : State) → Counted (suc j) t → AfterVisits nodes m (advance see nodes k t)

      by : Rest → (q : List Waiting) (v : Counts) (f : Option Scalar) → Counted j (at q v f) → AfterVisits nodes m (advance see nodes (suc k) (at q v f))
      by rest [] v f g = empties (suc k) v f j m h g
      by rest (c ∷ cs) v f g = go (dec_lt j nodes)
        where
          on : j < nodes → (t : Step) → step see (c ∷ cs) v f ≡ t → AfterOne j t → AfterVisits nodes m (advance see nodes (suc k) (at (c ∷ cs) v f))
          on l (going t) e i = rw (once see nodes k (at (c ∷ cs) v f) t (goes nodes c cs v f (omega (arith, g.visits))) e) (rest l t i)
          on l (over r) e i = rw (fails see nodes k (at (c ∷ cs) v f) r (goes nodes c cs v f (omega (arith, g.visits))) e) i

          go : Dec (j < nodes) → AfterVisits nodes m (advance see nodes (suc k) (at (c ∷ cs) v f))
          go (yes l) = on l (step see (c ∷ cs) v f) refl (unfold step in turn c cs v f j l g (see c.piece) (few c.piece))
          go (no n) = halts (suc k) c cs v f j m (omega arith) h g

  -- from the start
  pub begun-stands : (c : Piece) (m : ℕ) → AfterVisits nodes m (advance see nodes m (begun c))
  begun-stands c m =
      stands m (begun c) 0 m (omega arith) (omega arith)
      (record { visits = refl; cuts = omega arith; deep = record { most = omega arith; below = λ h. h }; pieces = omega arith; depths = (omega arith, tt) })

  -- all visits in one go: no state is left to go on from
  all_over : (t : Step) → AfterVisits nodes nodes t → WithinNodes nodes (answered t)
  unfolding answered
  all_over (going s) h = absurd (omega (arith, h.1))
  all_over (over r) h = h

-- what holds of both arms holds of the one that is taken
either : (P : Found → Type 0) (b : Bool) (x y : Found) → P x → P y → P (cond b x y)
either P true x y h g = h
either P false x y h g = g

-- The search of a curve.
pub could_contain-counted : (ar : Arithmetic) (q : Question) (c : Piece) → WithinNodes q.nodes (could_contain ar q c)
unfolding could_contain
could_contain-counted ar q c =
    either (WithinNodes q.nodes) (could_meet ar q.dim q.degree c.points q.box) _ _
    (all_over (visit ar q) (visit-cuts ar q) q.nodes _ (begun-stands (visit ar q) (visit-cuts ar q) q.nodes c q.nodes)) (none_within q.nodes)

-- A call, refused or not.
pub searched-counted : (ar : Arithmetic) (c : Call) → WithinNodes c.nodes (searched ar c)
unfolding searched searched_by
searched-counted ar c = by (refusal c)
  where
    by : (n : ℕ) → WithinNodes c.nodes (searched_by ar c n)
    by zero = could_contain-counted ar (question c) (as_piece c.curve)
    by (suc n) = none_within c.nodes

-- THE LAW
pub counts_kept : (ar : Arithmetic) → CountsKept ar
counts_kept ar = record { between = λ q c m. begun-stands (visit ar q) (visit-cuts ar q) q.nodes c m; answer = searched-counted ar }
