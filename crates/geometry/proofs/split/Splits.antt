-- Cuts in two slots, and cuts in one slot of which one part is kept. Leans on the laws of cuts and of slots.
use mathlib.Core.Path.{◌≡◌, refl, sym, ap, ◌∙◌, subst}
use mathlib.Core.Bool.{Bool, true, false}
use mathlib.Core.List.{List}
use Prim.Native.Nat.{ℕ, ◌+◌, ◌≤◌, ◌<◌}
use native.Mathlib.Omega.{arith}
use Rattle.model.proofs.Cuts.{from-few, up_to_few}
use lib.ListN.{length, get_or}
use lib.Ieee.{Float, nan}
use Rattle.lists.specs.Lists.{part}
use Rattle.math.specs.Scalars.{Arithmetic}
use Rattle.model.specs.NurbCurve.{Piece, knot, start, end, in_domain, mid_parameter}
use Rattle.model.specs.KnotInsertion.{Cut, full_cut, left_of, right_of}
use Rattle.model.specs.Split.{split_by, split, from_by, up_to_by, restrict}
use Rattle.geometry.specs.Slots.{knots_from, count_at, piece_at, placed, Fits, Inside, Held, Apart, OnlyAt, Holding, HoldingBoth, was_cut, split_into, SplitAt, keep_into, FromAt, UpToAt, restrict_into, RestrictAt, Whole, within, CutAt}
use Rattle.geometry.specs.declared.slots.Shape.{Shape}
use Rattle.geometry.proofs.slots.Piece.{fits-piece, count-points, count-placed, piece-placed, held-placed, inside_placed, placed-again}
use Rattle.geometry.proofs.slots.Apart.{other, part-beside, held-apart, piece-apart, inside_apart}
use Rattle.geometry.proofs.knot_insertion.Cuts.{knot-word}
use Rattle.geometry.proofs.knot_insertion.Separate.{Sound, full-sound, inside_self, fits_left_of, fits_right_of}

-- ---- the domain

module _ (s : Shape) (l : List Float) (base m f : ℕ) (h : Held s l base) (e : m ≡ count_at l base) (ef : f ≡ knots_from base) where
  start_word : start s.degree (piece_at s l base) ≡ get_or l (f + s.degree) nan
  start_word = knot-word s l base f s.degree ef (omega arith)

  end_word : end (piece_at s l base) ≡ get_or l (f + m) nan
  end_word = ap (knot (piece_at s l base).knots) (count-points s l base h ∙ sym e) ∙ knot-word s l base f m ef (omega arith)

  -- whether t lies inside, and the middle, by the words of the slot
  pub within-words : (t : Float) → in_domain (get_or l (f + s.degree) nan) (get_or l (f + m) nan) t ≡ within s.degree (piece_at s l base) t
  within-words t = sym (λ j. in_domain (start_word j) (end_word j) t)

  pub mid-words : (ar : Arithmetic) → mid_parameter ar (get_or l (f + s.degree) nan) (get_or l (f + m) nan) ≡ mid_parameter ar (start s.degree (piece_at s l base)) (end (piece_at s l base))
  mid-words ar = sym (λ j. mid_parameter ar (start_word j) (end_word j))

-- ---- one cut in a slot

module _ (ar : Arithmetic) (s : Shape) (l : List Float) (base : ℕ) (t : Float) (h : Held s l base) (w : Whole s (piece_at s l base)) (d : within s.degree (piece_at s l base) t ≡ true) where
  -- The cut.
  abbrev cut : Cut
  cut = full_cut ar s.degree t (piece_at s l base)

  pub sound : Sound s (piece_at s l base) (full_cut ar s.degree t (piece_at s l base))
  sound = full-sound ar s (piece_at s l base) t (fits-piece s l base h) w (inside_self (start s.degree (piece_at s l base)) (end (piece_at s l base)) t d)

  module _ (y : List Float) (k : ℕ) (o : CutAt s l y base (full_cut ar s.degree t (piece_at s l base)) k) where
    e : y ≡ placed s l base cut.piece
    e = o.memory

    f : k ≡ cut.at
    f = o.at

    pub cut-held : Held s y base
    cut-held = subst (λ (v : List Float). Held s v base) (sym e) (held-placed s l base h.inside cut.piece sound.fits)

    pub cut-piece : piece_at s y base ≡ cut.piece
    cut-piece = ap (λ (v : List Float). piece_at s v base) e ∙ piece-placed s l base h.inside cut.piece sound.fits

    cut-count : count_at y base ≡ length cut.piece.points
    cut-count = ap (λ (v : List Float). count_at v base) e ∙ count-placed s l base h.inside cut.piece sound.fits

    pub cut-upto : k ≤ count_at y base
    cut-upto = omega (arith, cut-count, f, sound.upto)

    -- the cut as the slot now holds it
    pub cut_same : ◌≡◌ {A = Cut} (record { piece = piece_at s y base; at = k }) (full_cut ar s.degree t (piece_at s l base))
    cut_same = λ j. record { piece = cut-piece j; at = f j }

    -- what is right of it is kept
    pub from_kept : (z : List Float) (r : ℕ) → z ≡ placed s y base (right_of (record { piece = piece_at s y base; at = k })) → r ≡ 1
        → FromAt ar s l z base t (piece_at s l base) r
    unfolding from_by keep_into
    from_kept z r g q = record {
      cuts = q ∙ sym (ap (λ (b : Bool). (from_by ar s.degree t (piece_at s l base) b).cuts) d);
      memory = g ∙ (λ j. placed s (e j) base (right_of (cut_same j))) ∙ sym (ap (keep_into s l base cut.piece (right_of cut)) d);
    }

    -- what is left of it is kept
    pub upto_kept : (z : List Float) (r : ℕ) → z ≡ placed s y base (left_of s.degree (record { piece = piece_at s y base; at = k })) → r ≡ 1
        → UpToAt ar s l z base t (piece_at s l base) r
    unfolding up_to_by keep_into
    upto_kept z r g q = record {
      cuts = q ∙ sym (ap (λ (b : Bool). (up_to_by ar s.degree t (piece_at s l base) b).cuts) d);
      memory = g ∙ (λ j. placed s (e j) base (left_of s.degree (cut_same j))) ∙ sym (ap (keep_into s l base cut.piece (left_of s.degree cut)) d);
    }

-- no cut
module _ (ar : Arithmetic) (s : Shape) (l : List Float) (base : ℕ) (t : Float) (d : within s.degree (piece_at s l base) t ≡ false) where
  pub from_none : FromAt ar s l l base t (piece_at s l base) 0
  unfolding from_by keep_into
  from_none =
      let k : Cut = full_cut ar s.degree t (piece_at s l base) in
      record { cuts = sym (ap (λ (b : Bool). (from_by ar s.degree t (piece_at s l base) b).cuts) d); memory = sym (ap (keep_into s l base k.piece (right_of k)) d) }

  pub upto_none : UpToAt ar s l l base t (piece_at s l base) 0
  unfolding up_to_by keep_into
  upto_none =
      let k : Cut = full_cut ar s.degree t (piece_at s l base) in
      record { cuts = sym (ap (λ (b : Bool). (up_to_by ar s.degree t (piece_at s l base) b).cuts) d); memory = sym (ap (keep_into s l base k.piece (left_of s.degree k)) d) }

-- a whole piece, by its count
pub whole-count : (s : Shape) (l : List Float) (base : ℕ) → Held s l base → Whole s (piece_at s l base) → (s.degree < count_at l base) × (count_at l base ≤ s.count)
whole-count s l base h w = (omega (arith, w.enough, count-points s l base h), omega (arith, w.bounded, count-points s l base h))

-- ---- a split

module _ (ar : Arithmetic) (s : Shape) (l : List Float) (src left right : ℕ) (t : Float) (h : Held s l src) (w : Whole s (piece_at s l src)) (il : Inside s l left) (ir : Inside s l right)
    (al : Apart s src left) (xr : Apart s src right) (lr : Apart s left right) where
  -- no cut
  pub split_none : within s.degree (piece_at s l src) t ≡ false → SplitAt ar s l l left right t (piece_at s l src) false
  unfolding split split_by was_cut split_into
  split_none d = record {
    cut = sym (ap (λ (b : Bool). was_cut (split_by ar s.degree t (piece_at s l src) b)) d);
    memory = sym (ap (split_into ar s l left right t (piece_at s l src)) d);
    halves = subst (λ (b : Bool). HoldingBoth s l left right (split_by ar s.degree t (piece_at s l src) b)) (sym d) tt;
    others = λ i w a b. refl;
  }

  module _ (d : within s.degree (piece_at s l src) t ≡ true) where
    abbrev c : Piece
    c = piece_at s l src

    abbrev k : Cut
    k = full_cut ar s.degree t (piece_at s l src)

    good : Sound s (piece_at s l src) (full_cut ar s.degree t (piece_at s l src))
    good = sound ar s l src t h w d

    fc : Fits s (piece_at s l src)
    fc = fits-piece s l src h

    fl : Fits s (left_of s.degree (full_cut ar s.degree t (piece_at s l src)))
    fl = fits_left_of s k good.fits good.upto

    fr : Fits s (right_of (full_cut ar s.degree t (piece_at s l src)))
    fr = fits_right_of s k good.fits good.upto

    -- the copy in the slot on the left
    module _ (l₁ : List Float) (e₁ : l₁ ≡ placed s l left (piece_at s l src)) where
      pub held₁ : Held s l₁ left
      held₁ = subst (λ (v : List Float). Held s v left) (sym e₁) (held-placed s l left il c fc)

      pub piece₁ : piece_at s l₁ left ≡ piece_at s l src
      piece₁ = ap (λ (v : List Float). piece_at s v left) e₁ ∙ piece-placed s l left il c fc

      pub whole₁ : Whole s (piece_at s l₁ left)
      whole₁ = subst (Whole s) (sym piece₁) w

      -- the cut there
      module _ (l₂ : List Float) (at : ℕ) (o : CutAt s l₁ l₂ left (full_cut ar s.degree t (piece_at s l₁ left)) at) where
        memory₂ : l₂ ≡ placed s l left k.piece
        memory₂ = o.memory ∙ (λ j. placed s (e₁ j) left (full_cut ar s.degree t (piece₁ j)).piece) ∙ placed-again s l left c k.piece il fc good.fits good.more

        at_is : at ≡ k.at
        at_is = o.at ∙ ap (λ (q : Piece). (full_cut ar s.degree t q).at) piece₁

        pub held₂ : Held s l₂ left
        held₂ = subst (λ (v : List Float). Held s v left) (sym memory₂) (held-placed s l left il k.piece good.fits)

        piece₂ : piece_at s l₂ left ≡ k.piece
        piece₂ = ap (λ (v : List Float). piece_at s v left) memory₂ ∙ piece-placed s l left il k.piece good.fits

        pub upto₂ : at ≤ count_at l₂ left
        upto₂ = omega (arith, at_is, good.upto, ap (λ (v : List Float). count_at v left) memory₂, count-placed s l left il k.piece good.fits)

        pub inside₂ : Inside s l₂ right
        inside₂ = subst (λ (v : List Float). Inside s v right) (sym memory₂) (inside_apart s l left right k.piece il good.fits lr ir)

        -- what is right of it goes to the slot on the right
        module _ (l₃ : List Float) (e₃ : l₃ ≡ placed s l₂ right (right_of (record { piece = piece_at s l₂ left; at = at }))) where
          memory₃ : l₃ ≡ placed s (placed s l left k.piece) right (right_of k)
          memory₃ = e₃ ∙ (λ j. placed s (memory₂ j) right (right_of (record { piece = piece₂ j; at = at_is j })))

          in₃ : Inside s (placed s l left k.piece) right
          in₃ = inside_apart s l left right k.piece il good.fits lr ir

          placed₃ : Held s (placed s (placed s l left k.piece) right (right_of k)) left
          placed₃ = held-apart s (placed s l left k.piece) right left (right_of k) in₃ fr (other s left right lr) (held-placed s l left il k.piece good.fits)

          pub held₃ : Held s l₃ left
          held₃ = subst (λ (v : List Float). Held s v left) (sym memory₃) placed₃

          piece₃ : piece_at s l₃ left ≡ k.piece
          piece₃ = ap (λ (v : List Float). piece_at s v left) memory₃
              ∙ piece-apart s (placed s l left k.piece) right left (right_of k) in₃ fr (other s left right lr) (held-placed s l left il k.piece good.fits)
              ∙ piece-placed s l left il k.piece good.fits

          pub upto₃ : at ≤ count_at l₃ left
          upto₃ = omega (arith, at_is, good.upto, count-points s l₃ left held₃, ap (λ (q : Piece). length q.points) piece₃)

          -- and what is left of it is kept
          pub split_done : (l₄ : List Float) → l₄ ≡ placed s l₃ left (left_of s.degree (record { piece = piece_at s l₃ left; at = at })) → SplitAt ar s l l₄ left right t (piece_at s l src) true
          unfolding split split_by was_cut split_into
          split_done l₄ e₄ =
              let p : ℕ = s.degree in
              let M₂ : List Float = placed s l left k.piece in
              let M₃ : List Float = placed s M₂ right (right_of k) in
              let M : List Float = placed s M₃ left (left_of p k) in
              let e : l₄ ≡ M = e₄ ∙ (λ j. placed s (memory₃ j) left (left_of p (record { piece = piece₃ j; at = at_is j }))) in
              let i₃ : Inside s M₃ left = placed₃.inside in
              let hr : Held s M₃ right = held-placed s M₂ right in₃ (right_of k) fr in
              let ol : Holding s M left (left_of p k) = record { held = held-placed s M₃ left i₃ (left_of p k) fl; piece = piece-placed s M₃ left i₃ (left_of p k) fl } in
              let or : Holding s M right (right_of k) = record { held = held-apart s M₃ left right (left_of p k) i₃ fl lr hr; piece = piece-apart s M₃ left right (left_of p k) i₃ fl lr hr ∙ piece-placed s M₂ right in₃ (right_of k) fr } in
              let both-held : HoldingBoth s l₄ left right (split_by ar p t c true) = subst (λ (v : List Float). Holding s v left (left_of p k) × Holding s v right (right_of k)) (sym e) (ol, or) in
              record {
                cut = sym (ap (λ (b : Bool). was_cut (split_by ar p t c b)) d);
                memory = e ∙ sym (ap (split_into ar s l left right t c) d);
                halves = subst (λ (b : Bool). HoldingBoth s l₄ left right (split_by ar p t c b)) (sym d) both-held;
                others = λ i v a b. ap (λ (m : List Float). part m i v) e ∙ part-beside s M₃ left i (left_of p k) i₃ fl v a ∙ part-beside s M₂ right i (right_of k) in₃ fr v b ∙ part-beside s l left i k.piece il good.fits v a;
              }

-- ---- a piece cut down

-- what a kept part leaves in its slot, and elsewhere
module _ (s : Shape) (m : List Float) (a : ℕ) (i : Inside s m a) (k d : Piece) where
  pub keep-only : (b : Bool) → (b ≡ true → Fits s k × Fits s d) → OnlyAt s m (keep_into s m a k d b) a
  unfolding keep_into
  keep-only true f j v q = part-beside s (placed s m a k) a j d (inside_placed s m a i k (f refl).0) (f refl).1 v q ∙ part-beside s m a j k i (f refl).0 v q
  keep-only false f j v q = refl

  pub keep-held : Fits s k → Fits s d → Holding s (keep_into s m a k d true) a d
  unfolding keep_into
  keep-held fk fd = let j : Inside s (placed s m a k) a = inside_placed s m a i k fk in record { held = held-placed s (placed s m a k) a j d fd; piece = piece-placed s (placed s m a k) a j d fd }

keep_none : (s : Shape) (m : List Float) (a : ℕ) (k d c : Piece) → Holding s m a c → Holding s (keep_into s m a k d false) a c
unfolding keep_into
keep_none s m a k d c o = o

module _ (ar : Arithmetic) (s : Shape) (m : List Float) (a : ℕ) (t : Float) (c : Piece) (o : Holding s m a c) (f : Fits s c) (w : Whole s c) where
  -- The cut.
  abbrev cutting : Cut
  cutting = full_cut ar s.degree t c

  sound_of : (b : Bool) → within s.degree c t ≡ b → b ≡ true → Sound s c (full_cut ar s.degree t c)
  sound_of b e q = full-sound ar s c t f w (inside_self (start s.degree c) (end c) t (e ∙ q))

  from_by_lem : (b : Bool) → (b ≡ true → Sound s c (full_cut ar s.degree t c)) → Holding s (keep_into s m a cutting.piece (right_of cutting) b) a (from_by ar s.degree t c b).piece
  unfolding from_by
  from_by_lem true g = keep-held s m a o.held.inside cutting.piece (right_of cutting) (g refl).fits (fits_right_of s cutting (g refl).fits (g refl).upto)
  from_by_lem false g = keep_none s m a cutting.piece (right_of cutting) c o

  upto_by : (b : Bool) → (b ≡ true → Sound s c (full_cut ar s.degree t c)) → Holding s (keep_into s m a cutting.piece (left_of s.degree cutting) b) a (up_to_by ar s.degree t c b).piece
  unfolding up_to_by
  upto_by true g = keep-held s m a o.held.inside cutting.piece (left_of s.degree cutting) (g refl).fits (fits_left_of s cutting (g refl).fits (g refl).upto)
  upto_by false g = keep_none s m a cutting.piece (left_of s.degree cutting) c o

  abbrev inside : Bool
  inside = within s.degree c t

  pub from-holding : Holding s (keep_into s m a cutting.piece (right_of cutting) inside) a (from_by ar s.degree t c inside).piece
  from-holding = from_by_lem inside (sound_of inside refl)

  pub upto-holding : Holding s (keep_into s m a cutting.piece (left_of s.degree cutting) inside) a (up_to_by ar s.degree t c inside).piece
  upto-holding = upto_by inside (sound_of inside refl)

  pub from-only : OnlyAt s m (keep_into s m a cutting.piece (right_of cutting) inside) a
  from-only = keep-only s m a o.held.inside cutting.piece (right_of cutting) inside (λ q. let g = sound_of inside refl q in (g.fits, fits_right_of s cutting g.fits g.upto))

  pub upto-only : OnlyAt s m (keep_into s m a cutting.piece (left_of s.degree cutting) inside) a
  upto-only = keep-only s m a o.held.inside cutting.piece (left_of s.degree cutting) inside (λ q. let g = sound_of inside refl q in (g.fits, fits_left_of s cutting g.fits g.upto))

module _ (ar : Arithmetic) (s : Shape) (l : List Float) (src to : ℕ) (lo hi : Float) (h : Held s l src) (w : Whole s (piece_at s l src)) (i : Inside s l to)
    (wf : Whole s (from_by ar s.degree lo (piece_at s l src) (within s.degree (piece_at s l src) lo)).piece) where
  abbrev whole : Piece
  whole = piece_at s l src

  -- What is left after the first cut.
  abbrev rest : Piece
  rest = (from_by ar s.degree lo (piece_at s l src) (within s.degree (piece_at s l src) lo)).piece

  whole-fits : Fits s (piece_at s l src)
  whole-fits = fits-piece s l src h

  module _ (l₁ : List Float) (e₁ : l₁ ≡ placed s l to (piece_at s l src)) where
    pub copied : Holding s l₁ to (piece_at s l src)
    copied = record {
      held = subst (λ (v : List Float). Held s v to) (sym e₁) (held-placed s l to i whole whole-fits);
      piece = ap (λ (v : List Float). piece_at s v to) e₁ ∙ piece-placed s l to i whole whole-fits;
    }

    pub copied-whole : Whole s (piece_at s l₁ to)
    copied-whole = subst (Whole s) (sym copied.piece) w

    module _ (l₂ : List Float) (n₂ : ℕ) (o : FromAt ar s l₁ l₂ to lo (piece_at s l₁ to) n₂) where
      cuts₂ : n₂ ≡ (from_by ar s.degree lo whole (within s.degree whole lo)).cuts
      cuts₂ = o.cuts ∙ ap (λ (c : Piece). (from_by ar s.degree lo c (within s.degree c lo)).cuts) copied.piece

      first₂ : l₂ ≡ keep_into s l₁ to (full_cut ar s.degree lo whole).piece (right_of (full_cut ar s.degree lo whole)) (within s.degree whole lo)
      first₂ = o.memory ∙ ap (λ (c : Piece). keep_into s l₁ to (full_cut ar s.degree lo c).piece (right_of (full_cut ar s.degree lo c)) (within s.degree c lo)) copied.piece

      pub cut_down : Holding s l₂ to rest
      cut_down = subst (λ (v : List Float). Holding s v to rest) (sym first₂) (from-holding ar s l₁ to lo whole copied whole-fits w)

      pub cut-down-whole : Whole s (piece_at s l₂ to)
      cut-down-whole = subst (Whole s) (sym cut_down.piece) wf

      rest-fits : Fits s rest
      rest-fits = subst (Fits s) cut_down.piece (fits-piece s l₂ to cut_down.held)

      pub restricted : (l₃ : List Float) (n₃ : ℕ) → UpToAt ar s l₂ l₃ to hi (piece_at s l₂ to) n₃ → RestrictAt ar s l l₃ to lo hi (piece_at s l src) (n₂ + n₃)
      unfolding restrict restrict_into
      restricted l₃ n₃ v =
          let p : ℕ = s.degree in
          let d : Piece = rest in
          let cuts₃ : n₃ ≡ (up_to_by ar p hi d (within p d hi)).cuts = v.cuts ∙ ap (λ (c : Piece). (up_to_by ar p hi c (within p c hi)).cuts) cut_down.piece in
          let m₃ : l₃ ≡ keep_into s l₂ to (full_cut ar p hi d).piece (left_of p (full_cut ar p hi d)) (within p d hi)
          = v.memory ∙ ap (λ (c : Piece). keep_into s l₂ to (full_cut ar p hi c).piece (left_of p (full_cut ar p hi c)) (within p c hi)) cut_down.piece in
          record {
            cuts = λ j. cuts₂ j + cuts₃ j;
            most = omega (arith, cuts₂, cuts₃, from-few ar p lo whole (within p whole lo), up_to_few ar p hi d (within p d hi));
            memory = m₃ ∙ ap (λ (v : List Float). keep_into s v to (full_cut ar p hi d).piece (left_of p (full_cut ar p hi d)) (within p d hi))
                (first₂ ∙ ap (λ (v : List Float). keep_into s v to (full_cut ar p lo whole).piece (right_of (full_cut ar p lo whole)) (within p whole lo)) e₁);
            held = subst (λ (v : List Float). Holding s v to (up_to_by ar p hi d (within p d hi)).piece) (sym m₃) (upto-holding ar s l₂ to hi d cut_down rest-fits wf);
            others = λ x v q. ap (λ (m : List Float). part m x v) m₃ ∙ upto-only ar s l₂ to hi d cut_down rest-fits wf x v q ∙ ap (λ (m : List Float). part m x v) first₂
                ∙ from-only ar s l₁ to lo whole copied whole-fits w x v q ∙ ap (λ (m : List Float). part m x v) e₁ ∙ part-beside s l to x whole i whole-fits v q;
          }

-- a split at t is one at u, where t is u
pub split_same : (ar : Arithmetic) (s : Shape) (l m : List Float) (a b : ℕ) (t u : Float) (c : Piece) (r : Bool) → t ≡ u → SplitAt ar s l m a b t c r → SplitAt ar s l m a b u c r
split_same ar s l m a b t u c r e h = subst (λ (v : Float). SplitAt ar s l m a b v c r) e h
