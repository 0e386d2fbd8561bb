-- A pause changes nothing: j visits, and then k more, are j + k visits. Leans on nothing but the definitions of the search.
use Prim.Native.Nat.{ℕ, zero, suc, ◌+◌, ◌≤◌, ◌<◌}
use native.Mathlib.Nat.{zero-add, suc-add}
use mathlib.Core.Path.{◌≡◌, refl}
use mathlib.Core.List.{List, ◌∷◌}
use mathlib.Core.Option.{Option, none, some}
use lib.ListN.{length}
use borrow.Author.Tests.{lt-ltb, le-ltb}
use Rattle.math.specs.declared.scalars.Scalar.{Scalar}
use Rattle.model.specs.NurbCurve.{Piece}
use Rattle.model.specs.declared.contains.Found.TheVariants.{Spent}
use Rattle.model.specs.declared.subdivide.Counts.{Counts}
use Rattle.model.specs.declared.contains.Found.{Found}
use Rattle.model.specs.Subdivide.{Visit, Waiting, State, Step, going, over, ended, step, stop, advance, resumed}

-- ---- before a visit: one is left, or none
pub goes : (nodes : ℕ) (c : Waiting) (cs : List Waiting) (v : Counts) (f : Option Scalar) → v.visited < nodes → ended nodes (c ∷ cs) v f ≡ none
unfolding ended
goes nodes c cs v f h = rw (lt-ltb v.visited nodes h)

pub spends : (nodes : ℕ) (c : Waiting) (cs : List Waiting) (v : Counts) (f : Option Scalar) → nodes ≤ v.visited → ended nodes (c ∷ cs) v f ≡ some (Spent (suc (length cs)) v)
unfolding ended
spends nodes c cs v f h = rw (le-ltb v.visited nodes h)

module _ (visit : Piece → Visit) (nodes : ℕ) where
  -- with nothing left to do no visit is taken
  pub ends : (k : ℕ) (s : State) (r : Found) → ended nodes s.queue s.counts s.found ≡ some r → advance visit nodes k s ≡ over r
  unfolding advance stop
  ends zero s r e = rw e
  ends (suc k) s r e = rw (e, advance)

  -- one visit
  pub once : (k : ℕ) (s s' : State) → ended nodes s.queue s.counts s.found ≡ none → step visit s.queue s.counts s.found ≡ going s'
      → advance visit nodes (suc k) s ≡ advance visit nodes k s'
  unfolding advance
  once k s s' e f = rw (e, advance, f) refl

  -- a visit that ends the search
  pub fails : (k : ℕ) (s : State) (r : Found) → ended nodes s.queue s.counts s.found ≡ none → step visit s.queue s.counts s.found ≡ over r
      → advance visit nodes (suc k) s ≡ over r
  unfolding advance
  fails k s r e f = rw (e, advance, f) refl

  -- with no visit to take, and one to be taken, it stands still
  pub waits : (s : State) → ended nodes s.queue s.counts s.found ≡ none → advance visit nodes zero s ≡ going s
  unfolding advance stop
  waits s e = rw e

  -- j visits, a pause, and k visits more
  pub paused : (j k : ℕ) (s : State) → advance visit nodes (j + k) s ≡ resumed visit nodes k (advance visit nodes j s)
  unfolding advance stop resumed
  paused zero k s = rw zero-add (go (ended nodes s.queue s.counts s.found) refl)
    where
      go : (o : Option Found) → ended nodes s.queue s.counts s.found ≡ o → advance visit nodes k s ≡ resumed visit nodes k (stop s (ended nodes s.queue s.counts s.found))
      go none e = rw e refl
      go (some r) e = rw e (ends k s r e)
  paused (suc j) k s = rw suc-add (go (λ s'. paused j k s') (ended nodes s.queue s.counts s.found) refl (step visit s.queue s.counts s.found) refl)
    where
      go : ((s' : State) → advance visit nodes (j + k) s' ≡ resumed visit nodes k (advance visit nodes j s'))
          → (o : Option Found) → ended nodes s.queue s.counts s.found ≡ o → (t : Step) → step visit s.queue s.counts s.found ≡ t
          → advance visit nodes (suc (j + k)) s ≡ resumed visit nodes k (advance visit nodes (suc j) s)
      go ih (some r) e t f = rw (e, advance) refl
      go ih none e (over r) f = rw (e, advance, f) refl
      go ih none e (going s') f = rw (e, advance, f) (ih s')
