-- The search keeps what its visits keep: of a visit that makes accepted pieces and reports inside the domain, and loses no piece that holds a hit, the whole search does the
-- same. What an accepted piece, a hit and a report inside are is left open here. Assumes nothing.
use mathlib.Core.Path.{◌≡◌, refl}
use mathlib.Core.Logic.{◌⊎◌, inl, inr}
use mathlib.Core.List.{List, [], ◌∷◌, ◌++◌}
use mathlib.Core.Option.{Option, none, some}
use Prim.Native.Nat.{ℕ, zero, suc}
use lib.Dec.{ltb}
use lib.ListN.{length}
use Rattle.math.specs.declared.scalars.Scalar.{Scalar}
use Rattle.math.specs.Scalars.{union_s}
use Rattle.math.proofs.Bools.{pick}
use Rattle.model.specs.NurbCurve.{Piece}
use Rattle.model.specs.Subdivide.{Visit, dropped, reported, restricted, halved, bad_weight, Waiting, State, Step, going, over, positive_zero, joined, complete, after, ended, step, stop, advance, answered}
use Rattle.model.specs.Enclosure.{Every}
use Rattle.model.specs.declared.subdivide.Counts.{Counts}
use Rattle.model.specs.declared.contains.Found.{Found}
use Rattle.model.specs.declared.refusal.Refusal.TheVariants as reason
use Rattle.model.specs.declared.contains.Found.TheVariants.{Nothing, Enclosed, Spent, Refused}
use Rattle.model.proofs.Every.{every_append}

-- ---- one of a list
abbrev pub Some : {A : Type 0} → (A → Type 0) → List A → Type 0
Some P [] = ⊥
Some P (x ∷ l) = P x ⊎ Some P l

some_left : {A : Type 0} (P : A → Type 0) (l m : List A) → Some P l → Some P (l ++ m)
some_left P [] m h = absurd h
some_left P (x ∷ l) m (inl h) = inl h
some_left P (x ∷ l) m (inr h) = inr (some_left P l m h)

some_right : {A : Type 0} (P : A → Type 0) (l m : List A) → Some P m → Some P (l ++ m)
some_right P [] m h = h
some_right P (x ∷ l) m h = inr (some_right P l m h)

-- ---- what is asked of an answer, where In is asked of what is reported
abbrev pub Right : (Scalar → Type 0) → Found → Type 0
Right In (Nothing v) = Unit {0}
Right In (Enclosed lo hi v) = (t : Scalar) × (In t × ((lo ≡ positive_zero t.lo) × (hi ≡ positive_zero t.hi)))
Right In (Spent n v) = Unit {0}
Right In (Refused e v) = e ≡ reason.Piece

-- and what is asked of it besides, where there is a hit
abbrev pub Hit : (Scalar → Type 0) → Found → Type 0
Hit At (Nothing v) = ⊥
Hit At (Enclosed lo hi v) = (t : Scalar) × (At t × ((lo ≡ positive_zero t.lo) × (hi ≡ positive_zero t.hi)))
Hit At (Spent n v) = Unit {0}
Hit At (Refused e v) = Unit {0}

-- ---- what is asked of a visit
abbrev pub Fine : (Scalar → Type 0) → (Piece → Type 0) → Visit → Type 0
Fine In Ok dropped = Unit {0}
Fine In Ok (reported t) = In t
Fine In Ok (restricted n c) = Ok c
Fine In Ok (halved l r) = Ok l × Ok r
Fine In Ok bad_weight = Unit {0}

-- two things that are asked of one visit
pub fine_both : (In Im : Scalar → Type 0) (P Q : Piece → Type 0) (w : Visit) → Fine In P w → Fine Im Q w → Fine (λ s. In s × Im s) (λ c. P c × Q c) w
fine_both In Im P Q dropped h k = tt
fine_both In Im P Q (reported t) h k = (h, k)
fine_both In Im P Q (restricted n c) h k = (h, k)
fine_both In Im P Q (halved l r) h k = ((h.0, k.0), (h.1, k.1))
fine_both In Im P Q bad_weight h k = tt

abbrev pub Kept : (Scalar → Type 0) → (Piece → Type 0) → Visit → Type 0
Kept At Has dropped = ⊥
Kept At Has (reported t) = At t
Kept At Has (restricted n c) = Has c
Kept At Has (halved l r) = Has l ⊎ Has r
Kept At Has bad_weight = Unit {0}

-- what was reported so far
abbrev pub Reported : (Scalar → Type 0) → Type 0 → Option Scalar → Type 0
Reported P before none = before
Reported P before (some t) = P t

-- ---- every state is ready: accepted pieces, and reports inside the domain
module _ (visit : Piece → Visit) (nodes : ℕ) (In : Scalar → Type 0) (Ok : Piece → Type 0) (join : (s t : Scalar) → In s → In t → In (union_s s t)) (fine : (c : Piece) → Ok c → Fine In Ok (visit c)) where
  -- what is asked of a piece is asked of one that waits, whatever its depth
  abbrev OkW : Waiting → Type 0
  OkW w = Ok w.piece

  pub record Ready (l : List Waiting) (f : Option Scalar) : Type 0 where
    pub pieces : Every (λ w. Ok w.piece) l
    pub inside : Reported In (Unit {0}) f

  abbrev pub Stands : Step → Type 0
  Stands (going s) = Ready s.queue s.found
  Stands (over r) = Right In r

  joins : (f : Option Scalar) (t : Scalar) → Reported In (Unit {0}) f → In t → In (joined f t)
  unfolding joined
  joins none t h k = k
  joins (some s) t h k = join s t h k

  completes : (f : Option Scalar) (v : Counts) → Reported In (Unit {0}) f → Right In (complete f v)
  unfolding complete
  completes none v h = tt
  completes (some t) v h = (t, (h, (refl, refl)))

  Ends : Option Found → Type 0
  Ends none = Unit {0}
  Ends (some r) = Right In r

  ends : (l : List Waiting) (v : Counts) (f : Option Scalar) → Ready l f → Ends (ended nodes l v f)
  unfolding ended Ends
  ends [] v f r = completes f v r.inside
  ends (c ∷ cs) v f r = pick Ends (ltb v.visited nodes) none (some (Spent (suc (length cs)) v)) (λ _. tt) (λ _. tt)

  afters : (cs : List Waiting) (d : ℕ) (v : Counts) (f : Option Scalar) (w : Visit) → Every (λ w. Ok w.piece) cs → Reported In (Unit {0}) f → Fine In Ok w → Stands (after cs d v f w)
  unfolding after
  afters cs d v f dropped e i h = record { pieces = e; inside = i }
  afters cs d v f (reported t) e i h = record { pieces = e; inside = joins f t i h }
  afters cs d v f (restricted n c) e i h = record { pieces = every_append OkW cs _ e (h, tt); inside = i }
  afters cs d v f (halved l r) e i h = record { pieces = every_append OkW cs _ e (h.0, (h.1, tt)); inside = i }
  afters cs d v f bad_weight e i h = refl

  pub steps : (l : List Waiting) (v : Counts) (f : Option Scalar) → Ready l f → Stands (step visit l v f)
  unfolding step
  steps [] v f r = completes f v r.inside
  steps (c ∷ cs) v f r = afters cs _ _ f (visit c.piece) r.pieces.1 r.inside (fine c.piece r.pieces.0)

  pub stands : (k : ℕ) (s : State) → Ready s.queue s.found → Stands (advance visit nodes k s)
  unfolding advance stop Ends
  stands zero s r = go (ended nodes s.queue s.counts s.found) (ends s.queue s.counts s.found r)
    where
      go : (o : Option Found) → Ends o → Stands (stop s o)
      go none h = r
      go (some a) h = h
  stands (suc k) s r = go (stands k) (ended nodes s.queue s.counts s.found) (ends s.queue s.counts s.found r)
    where
      Rest : Type 0
      Rest = (s' : State) → Ready s'.queue s'.found → Stands (advance visit nodes k s')

      on : Rest → (z : Step) → Stands z → Stands (elim z [ over a ↦ over a | going s' ↦ advance visit nodes k s' ])
      on rest (over a) h = h
      on rest (going s') h = rest s' h

      go : Rest → (o : Option Found) → Ends o → Stands (elim o [ some a ↦ over a | none ↦ elim (step visit s.queue s.counts s.found) [ over a ↦ over a | going s' ↦ advance visit nodes k s' ] ])
      go rest none h = on rest (step visit s.queue s.counts s.found) (steps s.queue s.counts s.found r)
      go rest (some a) h = h

  pub answers : (z : Step) → Stands z → Right In (answered z)
  unfolding answered
  answers (over a) h = h
  answers (going s) h = tt

  -- ---- and nothing is lost: a hit that is held by a piece that waits, or by what was reported, stays held
  module _ (At : Scalar → Type 0) (Has : Piece → Type 0) (left : (s t : Scalar) → At s → At (union_s s t)) (right : (s t : Scalar) → At t → At (union_s s t)) (kept : (c : Piece) → Ok c → Has c → Kept At Has (visit c)) where
    abbrev HasW : Waiting → Type 0
    HasW w = Has w.piece

    abbrev pub Alive : List Waiting → Option Scalar → Type 0
    Alive l f = Some (λ w. Has w.piece) l ⊎ Reported At ⊥ f

    abbrev pub Lives : Step → Type 0
    Lives (going s) = Alive s.queue s.found
    Lives (over r) = Hit At r

    earlier : (f : Option Scalar) (t : Scalar) → Reported At ⊥ f → At (joined f t)
    unfolding joined
    earlier none t h = absurd h
    earlier (some s) t h = left s t h

    latest : (f : Option Scalar) (t : Scalar) → At t → At (joined f t)
    unfolding joined
    latest none t h = h
    latest (some s) t h = right s t h

    completed : (f : Option Scalar) (v : Counts) → Reported At ⊥ f → Hit At (complete f v)
    unfolding complete
    completed none v h = absurd h
    completed (some t) v h = (t, (h, (refl, refl)))

    Ended : Option Found → Type 0
    Ended none = Unit {0}
    Ended (some r) = Hit At r

    last : (l : List Waiting) (v : Counts) (f : Option Scalar) → Alive l f → Ended (ended nodes l v f)
    unfolding ended Ended
    last [] v f (inl h) = absurd h
    last [] v f (inr h) = completed f v h
    last (c ∷ cs) v f h = pick Ended (ltb v.visited nodes) none (some (Spent (suc (length cs)) v)) (λ _. tt) (λ _. tt)

    -- the visit of a piece that may hold the hit, where another piece or a report may hold it too
    next : (cs : List Waiting) (d : ℕ) (v : Counts) (f : Option Scalar) (w : Visit) → Kept At Has w ⊎ Alive cs f → Lives (after cs d v f w)
    unfolding after
    next cs d v f dropped (inl h) = absurd h
    next cs d v f dropped (inr h) = h
    next cs d v f (reported t) (inl h) = inr (latest f t h)
    next cs d v f (reported t) (inr (inl h)) = inl h
    next cs d v f (reported t) (inr (inr h)) = inr (earlier f t h)
    next cs d v f (restricted n c) (inl h) = inl (some_right HasW cs _ (inl h))
    next cs d v f (restricted n c) (inr (inl h)) = inl (some_left HasW cs _ h)
    next cs d v f (restricted n c) (inr (inr h)) = inr h
    next cs d v f (halved l r) (inl (inl h)) = inl (some_right HasW cs _ (inl h))
    next cs d v f (halved l r) (inl (inr h)) = inl (some_right HasW cs _ (inr (inl h)))
    next cs d v f (halved l r) (inr (inl h)) = inl (some_left HasW cs _ h)
    next cs d v f (halved l r) (inr (inr h)) = inr h
    next cs d v f bad_weight h = tt

    visits : (l : List Waiting) (v : Counts) (f : Option Scalar) → Every (λ w. Ok w.piece) l → Alive l f → Lives (step visit l v f)
    unfolding step
    visits [] v f e (inl h) = absurd h
    visits [] v f e (inr h) = completed f v h
    visits (c ∷ cs) v f e (inl (inl h)) = next cs _ _ f (visit c.piece) (inl (kept c.piece e.0 h))
    visits (c ∷ cs) v f e (inl (inr h)) = next cs _ _ f (visit c.piece) (inr (inl h))
    visits (c ∷ cs) v f e (inr h) = next cs _ _ f (visit c.piece) (inr (inr h))

    pub lives : (k : ℕ) (s : State) → Ready s.queue s.found → Alive s.queue s.found → Lives (advance visit nodes k s)
    unfolding advance stop Ended
    lives zero s r h = go (ended nodes s.queue s.counts s.found) (last s.queue s.counts s.found h)
      where
        go : (o : Option Found) → Ended o → Lives (stop s o)
        go none e = h
        go (some a) e = e
    lives (suc k) s r h = go (lives k) (ended nodes s.queue s.counts s.found) (last s.queue s.counts s.found h)
      where
        Rest : Type 0
        Rest = (s' : State) → Ready s'.queue s'.found → Alive s'.queue s'.found → Lives (advance visit nodes k s')

        on : Rest → (z : Step) → Stands z → Lives z → Lives (elim z [ over a ↦ over a | going s' ↦ advance visit nodes k s' ])
        on rest (over a) g e = e
        on rest (going s') g e = rest s' g e

        go : Rest → (o : Option Found) → Ended o → Lives (elim o [ some a ↦ over a | none ↦ elim (step visit s.queue s.counts s.found) [ over a ↦ over a | going s' ↦ advance visit nodes k s' ] ])
        go rest none e = on rest (step visit s.queue s.counts s.found) (steps s.queue s.counts s.found r) (visits s.queue s.counts s.found r.pieces h)
        go rest (some a) e = e

    pub answers-hit : (z : Step) → Lives z → Hit At (answered z)
    unfolding answered
    answers-hit (over a) h = h
    answers-hit (going s) h = tt
