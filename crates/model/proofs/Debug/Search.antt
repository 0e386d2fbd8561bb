-- The search: where no visit fires a test, the search fires none. What an accepted piece is is left open here. Assumes nothing.
use mathlib.Core.Path.{◌≡◌, refl}
use mathlib.Core.List.{List, [], ◌∷◌}
use mathlib.Core.Option.{Option, none, some}
use Prim.Native.Nat.{ℕ, zero, suc}
use Rattle.math.specs.declared.scalars.Scalar.{Scalar}
use Rattle.math.specs.Scalars.{union_s}
use Rattle.math.specs.Values.{Proper}
use Rattle.model.specs.NurbCurve.{Piece}
use Rattle.model.specs.Subdivide.{Visit, dropped, reported, restricted, halved, bad_weight, Waiting, State, Step, going, over, with_visit, joined, after, ended, step, advance}
use Rattle.model.specs.declared.subdivide.Counts.{Counts}
use Rattle.model.specs.declared.contains.Found.{Found}
use Rattle.model.specs.Tested.{Tested, fine, ◌>>=◌}
use Rattle.model.specs.Debug as debug
use Rattle.model.proofs.Sound.Search.{Fine, Reported, Ready, Stands, steps}
use Rattle.model.proofs.Debug.Ops.{union_fine}

-- what is reported has the property In, and is in order
module _ (see : Piece → Visit) (see' : Piece → Tested Visit) (nodes : ℕ) (In : Scalar → Type 0) (Good : Piece → Type 0) (proper : (s : Scalar) → In s → Proper s) (join : (s t : Scalar) → In s → In t → In (union_s s t))
    (sees : (c : Piece) → Good c → see' c ≡ fine (see c)) (fines : (c : Piece) → Good c → Fine In Good (see c)) where
  abbrev Ok : List Waiting → Option Scalar → Type 0
  Ok = Ready see nodes In Good join fines

  joined_fine : (f : Option Scalar) (t : Scalar) → Reported In (Unit {0}) f → In t → debug.joined f t ≡ fine (joined f t)
  unfolding debug.joined joined
  joined_fine none t h k = refl
  joined_fine (some s) t h k = union_fine s t (proper s h) (proper t k)

  after_fine : (cs : List Waiting) (d : ℕ) (v : Counts) (f : Option Scalar) (w : Visit) → Reported In (Unit {0}) f → Fine In Good w → debug.after cs d v f w ≡ fine (after cs d v f w)
  unfolding debug.after after
  after_fine cs d v f dropped i h = refl
  after_fine cs d v f (reported t) i h = rw (joined_fine f t i h) refl
  after_fine cs d v f (restricted n c) i h = refl
  after_fine cs d v f (halved l r) i h = refl
  after_fine cs d v f bad_weight i h = refl

  step_fine : (l : List Waiting) (v : Counts) (f : Option Scalar) → Ok l f → debug.step see' l v f ≡ fine (step see l v f)
  unfolding debug.step step
  step_fine [] v f r = refl
  step_fine (c ∷ cs) v f r = rw (sees c.piece r.pieces.0) (after_fine cs c.depth (with_visit c.depth v) f (see c.piece) r.inside (fines c.piece r.pieces.0))

  -- THE SEARCH
  pub advance_fine : (k : ℕ) (s : State) → Ready see nodes In Good join fines s.queue s.found → debug.advance see' nodes k s ≡ fine (advance see nodes k s)
  unfolding debug.advance advance
  advance_fine zero s r = refl
  advance_fine (suc k) s r = go (ended nodes s.queue s.counts s.found) (advance_fine k)
    where
      Rest : Type 0
      Rest = (t : State) → Ok t.queue t.found → debug.advance see' nodes k t ≡ fine (advance see nodes k t)

      on : (t : Step) → Stands see nodes In Good join fines t → Rest
          → ◌≡◌ {A = Tested Step} (elim t [ over r ↦ fine (over r) | going s' ↦ debug.advance see' nodes k s' ]) (fine (elim t [ over r ↦ over r | going s' ↦ advance see nodes k s' ]))
      on (over r) h rest = refl
      on (going t) h rest = rest t h

      go : (o : Option Found) → Rest
          → ◌≡◌ {A = Tested Step} (elim o [ some r ↦ fine (over r) | none ↦ (debug.step see' s.queue s.counts s.found >>= λ t. elim t [ over r ↦ fine (over r) | going s' ↦ debug.advance see' nodes k s' ]) ])
          (fine (elim o [ some r ↦ over r | none ↦ elim (step see s.queue s.counts s.found) [ over r ↦ over r | going s' ↦ advance see nodes k s' ] ]))
      go (some a) rest = refl
      go none rest = rw (step_fine s.queue s.counts s.found r) (on (step see s.queue s.counts s.found) (steps see nodes In Good join fines s.queue s.counts s.found r) rest)
