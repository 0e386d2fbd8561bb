-- A cut in a slot, by the triangle or by insertions: what it leaves fits, and is what the steps of the code leave. Leans on the laws of insertions, of the triangle and of slots.
use mathlib.Core.Path.{◌≡◌, refl, sym, ap, ◌∙◌, subst}
use mathlib.Core.Bool.{Bool, true, false, ◌&&◌}
use mathlib.Core.List.{List, [], ◌∷◌, ◌++◌, append_assoc}
use Prim.Native.Nat.{ℕ, zero, suc, ◌+◌, ◌-◌, ◌*◌, ◌≤◌, ◌<◌}
use native.Mathlib.Numerals.{add-one}
use native.Mathlib.Omega.{arith}
use lib.ListN.{length, drop, get_or, replicate, length-append, length-replicate}
use lib.Dec.{eqb}
use lib.Ieee.{Float, nan, eq}
use borrow.Author.Tests.{eq-eqb, eqb-true}
use Rattle.lists.specs.Lists.{part, put, position}
use Rattle.lists.proofs.Part.{get_or_part}
use Rattle.lists.proofs.Put.{put-put}
use Rattle.math.specs.declared.scalars.Scalar.{Scalar}
use Rattle.math.specs.Divided.{Divided}
use Rattle.std.specs.Prelude.{Some, None}
use Rattle.math.specs.Scalars.{Arithmetic, sharp}
use Rattle.math.proofs.Bools.{and_yes}
use Rattle.model.specs.Vector.{Vector}
use Rattle.model.specs.NurbCurve.{Piece, knot}
use Rattle.model.specs.KnotInsertion.{Cut, triangle, sides, insertion_span, insert_once, insert_times, bezier_knots, bezier_cut, multiplicity, is_bezier, boehm_cut, cut_by, full_cut}
use Rattle.model.specs.Layout.{points_of}
use Rattle.geometry.specs.Slots.{knots_from, points_from, word, count_at, numbers, piece_at, placed, with_sides, Wide, Fits, Inside, Held, CutAt}
use Rattle.geometry.specs.declared.slots.Shape.{Shape}
use Rattle.geometry.proofs.slots.Piece.{fits-piece, count-points, piece-placed, held-placed}
use Rattle.geometry.proofs.slots.Apart.{part-beside}
use Rattle.geometry.proofs.knot_insertion.Wide.{wide-append}
use Rattle.geometry.proofs.knot_insertion.Once.{assembled, once-count, fits-once}
use Rattle.geometry.proofs.knot_insertion.Levels.{heads, lasts, heads_long, lasts_long, heads-wide, lasts-wide, sides-are}
use Rattle.geometry.proofs.knot_insertion.Times.{span-bounds}

-- a cut that fits is written into its slot alone
cut-written : (s : Shape) (l w : List Float) (base r : ℕ) (k : Cut) → Inside s l base → Fits s k.piece → w ≡ placed s l base k.piece → r ≡ k.at → CutAt s l w base k r
cut-written s l w base r k i f e q = record { at = q; memory = e; others = λ x v g. ap (λ (m : List Float). part m x v) e ∙ part-beside s l base x k.piece i f v g }

-- ---- the knots of a Bezier span that is cut

length_bezier : (p : ℕ) (a t b : Float) → length (bezier_knots p a t b) ≡ suc p + (suc p + suc p)
unfolding bezier_knots
length_bezier p a t b = simp (length-append, length-replicate)

pub bezier_filled : (l l₁ l₂ l₃ : List Float) (base f p : ℕ) (a t b : Float) → f ≡ knots_from base → base + 3 * p + 4 ≤ length l
    → l₁ ≡ put l f (replicate (p + 1) a) → l₂ ≡ put l₁ (f + (p + 1)) (replicate (p + 1) t) → l₃ ≡ put l₂ (f + (p + 1) + (p + 1)) (replicate (p + 1) b)
    → l₃ ≡ put l (knots_from base) (bezier_knots p a t b)
unfolding bezier_knots
bezier_filled l l₁ l₂ l₃ base f p a t b ef h e₁ e₂ e₃ =
    let A : List Float = replicate (p + 1) a in
    let T : List Float = replicate (p + 1) t in
    let B : List Float = replicate (p + 1) b in
    let la : length A ≡ p + 1 = length-replicate (p + 1) a in
    let lt : length T ≡ p + 1 = length-replicate (p + 1) t in
    let ab : length (A ++ T) ≡ (p + 1) + (p + 1) = length-append A T ∙ (λ j. la j + lt j) in
    let m₁ : f + (p + 1) ≡ f + length A = omega arith in
    let m₂ : f + (p + 1) + (p + 1) ≡ f + length (A ++ T) = omega arith in
    e₃ ∙ (λ j. put ((e₂ ∙ (λ i. put (e₁ i) (m₁ i) T) ∙ put-put l f A T (omega arith)) j) (m₂ j) B)
    ∙ put-put l f (A ++ T) B (omega arith)
    ∙ (λ j. put l (ef j) ((append_assoc A T B ∙ (λ i. replicate (add-one p i) a ++ (replicate (add-one p i) t ++ replicate (add-one p i) b))) j))

-- ---- the cut by the triangle

module _ (ar : Arithmetic) (s : Shape) (c : Piece) (t : Float) (α : Scalar) (w : Wide (suc s.dim) c.points) (n : length c.points ≡ suc s.degree) (small : s.degree < s.count) where
  pub bezier_long : length (bezier_cut ar s.degree t α c).piece.points ≡ suc s.degree + suc s.degree
  unfolding bezier_cut
  bezier_long =
      let P : ℕ = suc s.degree in
      ap length (sides-are ar α P c.points) ∙ length-append (heads ar α P c.points) (lasts ar α P c.points)
      ∙ (λ j. heads_long ar α P c.points j + lasts_long ar α P c.points j)

  bezier_knots_long : length (bezier_cut ar s.degree t α c).piece.knots ≡ suc s.degree + (suc s.degree + suc s.degree)
  unfolding bezier_cut
  bezier_knots_long = length_bezier s.degree _ t _

  bezier_wide : Wide (suc s.dim) (bezier_cut ar s.degree t α c).piece.points
  unfolding bezier_cut
  bezier_wide =
      let P : ℕ = suc s.degree in
      let D : ℕ = suc s.dim in
      rw (sides-are ar α P c.points)
      (wide-append D (heads ar α P c.points) (lasts ar α P c.points) (heads-wide ar α D c.points w P (omega arith)) (lasts-wide ar α D c.points w P (omega arith)))

  pub fits_bezier : Fits s (bezier_cut ar s.degree t α c).piece
  fits_bezier = record { knots = omega (arith, bezier_long, bezier_knots_long); points = omega (arith, bezier_long); wide = bezier_wide }

-- a knot of a slot's piece is a word of the slot
pub knot-word : (s : Shape) (l : List Float) (base f i : ℕ) → f ≡ knots_from base → i < count_at l base + s.degree + 1 → knot (piece_at s l base).knots i ≡ get_or l (f + i) nan
unfolding piece_at
knot-word s l base f i e h = get_or_part l (knots_from base) (count_at l base + s.degree + 1) i nan h ∙ ap (λ (k : ℕ). get_or l (k + i) nan) (sym e)

same_points : (s : Shape) (l : List Float) (base : ℕ) → count_at l base ≡ suc s.degree → points_of (suc s.dim) (suc s.degree) (drop (points_from s base) l) ≡ (piece_at s l base).points
unfolding piece_at
same_points s l base n = ap (λ (k : ℕ). points_of (suc s.dim) k (drop (points_from s base) l)) (sym n)

pub bezier_done : (ar : Arithmetic) (s : Shape) (l l₁ l₂ l₃ : List Float) (base f : ℕ) (t : Float) (α : Scalar) → Held s l base → count_at l base ≡ suc s.degree → s.degree < s.count
    → f ≡ knots_from base → l₁ ≡ with_sides ar s l base α
    → l₂ ≡ put l₁ (knots_from base) (bezier_knots s.degree (get_or l (f + s.degree) nan) t (get_or l (f + s.degree + 1) nan)) → l₃ ≡ put l₂ base (word (2 * s.degree + 2) ∷ [])
    → l₃ ≡ placed s l base (bezier_cut ar s.degree t α (piece_at s l base)).piece
unfolding bezier_cut
bezier_done ar s l l₁ l₂ l₃ base f t α h n small ef e₁ e₂ e₃ =
    let p : ℕ = s.degree in
    let c : Piece = piece_at s l base in
    let d : Piece = (bezier_cut ar p t α c).piece in
    let m : length c.points ≡ suc p = count-points s l base h ∙ n in
    let fo : Fits s d = fits_bezier ar s c t α (fits-piece s l base h).wide m small in
    let long : 2 * p + 2 ≡ length d.points = omega (arith, bezier_long ar s c t α (fits-piece s l base h).wide m small) in
    let q : f + suc p ≡ f + p + 1 = omega arith in
    let ka : get_or l (f + p) nan ≡ knot c.knots p = sym (knot-word s l base f p ef (omega arith)) in
    let kb : get_or l (f + p + 1) nan ≡ knot c.knots (suc p) = ap (λ (k : ℕ). get_or l k nan) (sym q) ∙ sym (knot-word s l base f (suc p) ef (omega arith)) in
    let x₁ : l₁ ≡ put l (points_from s base) (numbers d.points) = e₁ ∙ ap (λ (v : List Vector). put l (points_from s base) (numbers (sides (triangle ar α (suc p) v)))) (same_points s l base n) in
    let x₂ : l₂ ≡ put (put l (points_from s base) (numbers d.points)) (knots_from base) d.knots = e₂ ∙ (λ j. put (x₁ j) (knots_from base) (bezier_knots p (ka j) t (kb j))) in
    e₃ ∙ (λ j. put (x₂ j) base (word (long j) ∷ [])) ∙ assembled s l base d h.inside fo

pub bezier_at : (ar : Arithmetic) (p : ℕ) (t : Float) (α : Scalar) (c : Piece) → p + 1 ≡ (bezier_cut ar p t α c).at
unfolding bezier_cut
bezier_at ar p t α c = add-one p

pub bezier_cut_lem : (ar : Arithmetic) (s : Shape) (l w : List Float) (base : ℕ) (t : Float) (α : Scalar) → Held s l base → count_at l base ≡ suc s.degree → s.degree < s.count
    → w ≡ placed s l base (bezier_cut ar s.degree t α (piece_at s l base)).piece → CutAt s l w base (bezier_cut ar s.degree t α (piece_at s l base)) (s.degree + 1)
bezier_cut_lem ar s l w base t α h n small e =
    let c : Piece = piece_at s l base in
    let f : Fits s (bezier_cut ar s.degree t α c).piece = fits_bezier ar s c t α (fits-piece s l base h).wide (count-points s l base h ∙ n) small in
    cut-written s l w base (s.degree + 1) (bezier_cut ar s.degree t α c) h.inside f e (bezier_at ar s.degree t α c)

-- ---- the cut by insertions

-- what several insertions leave fits
pub fits-times : (ar : Arithmetic) (s : Shape) (t : Float) (e : ℕ) (c : Piece) → Fits s c → s.degree < length c.points → length c.points + e ≤ s.count + s.degree + 1
    → Fits s (insert_times ar s.degree t e c) × (length (insert_times ar s.degree t e c).points ≡ length c.points + e)
unfolding insert_times
fits-times ar s t zero c f h g = (f, omega arith)
fits-times ar s t (suc e) c f h g =
    let k : ℕ = insertion_span s.degree (length c.points) c.knots t in
    let b : (s.degree ≤ k) × (k < length c.points) = span-bounds s.degree (length c.points) c.knots t h in
    let n : length (insert_once ar s.degree k t c).points ≡ suc (length c.points) = once-count ar s c k t f b.0 b.1 in
    let r : Fits s (insert_times ar s.degree t e (insert_once ar s.degree k t c)) × (length (insert_times ar s.degree t e (insert_once ar s.degree k t c)).points ≡ length (insert_once ar s.degree k t c).points + e)
    = fits-times ar s t e (insert_once ar s.degree k t c) (fits-once ar s c k t f b.0 b.1 (omega arith)) (omega arith) (omega arith) in
    (r.0, r.1 ∙ nat (length c.points) e n)
  where
    nat : (m e : ℕ) → length (insert_once ar s.degree (insertion_span s.degree (length c.points) c.knots t) t c).points ≡ suc m
        → length (insert_once ar s.degree (insertion_span s.degree (length c.points) c.knots t) t c).points + e ≡ m + suc e
    nat m e q = omega arith

module _ (ar : Arithmetic) (s : Shape) (l w : List Float) (base : ℕ) (t : Float) (h : Held s l base) (d : s.degree < count_at l base) (r : count_at l base ≤ s.count) where
  pub fits_boehm : Fits s (boehm_cut ar s.degree t (piece_at s l base)).piece
  unfolding boehm_cut
  fits_boehm = (fits-times ar s t (suc s.degree - multiplicity t (piece_at s l base).knots) (piece_at s l base) (fits-piece s l base h) (omega (arith, count-points s l base h)) (omega (arith, count-points s l base h))).0

  -- the insertions were made as often as t was missing
  module _ (e : ℕ) (f : e ≡ suc s.degree - multiplicity t (piece_at s l base).knots) (g : w ≡ placed s l base (insert_times ar s.degree t e (piece_at s l base))) where
    boehm_memory : w ≡ placed s l base (boehm_cut ar s.degree t (piece_at s l base)).piece
    unfolding boehm_cut
    boehm_memory = g ∙ ap (λ (k : ℕ). placed s l base (insert_times ar s.degree t k (piece_at s l base))) f

    pub boehm_held : Held s w base
    boehm_held = subst (λ (v : List Float). Held s v base) (sym boehm_memory) (held-placed s l base h.inside (boehm_cut ar s.degree t (piece_at s l base)).piece fits_boehm)

    boehm_at : (k : ℕ) → k ≡ position (λ u. eq u t) (piece_at s w base).knots → k ≡ (boehm_cut ar s.degree t (piece_at s l base)).at
    boehm_at k q = q ∙ ap (λ (v : List Float). position (λ u. eq u t) (piece_at s v base).knots) boehm_memory
        ∙ ap (λ (c : Piece). position (λ u. eq u t) c.knots) (piece-placed s l base h.inside (boehm_cut ar s.degree t (piece_at s l base)).piece fits_boehm)
        ∙ at_is
      where
        at_is : position (λ u. eq u t) (boehm_cut ar s.degree t (piece_at s l base)).piece.knots ≡ (boehm_cut ar s.degree t (piece_at s l base)).at
        at_is = unfold boehm_cut in refl

    pub boehm_cut_lem : (k : ℕ) → k ≡ position (λ u. eq u t) (piece_at s w base).knots → CutAt s l w base (boehm_cut ar s.degree t (piece_at s l base)) k
    boehm_cut_lem k q = cut-written s l w base k (boehm_cut ar s.degree t (piece_at s l base)) h.inside fits_boehm boehm_memory (boehm_at k q)

-- ---- which of the two

-- as the code tests it
module _ (s : Shape) (l ks : List Float) (base m n : ℕ) (t : Float) (h : Held s l base) (ek : ks ≡ (piece_at s l base).knots) (em : m ≡ multiplicity t ks) where
  same_times : m ≡ multiplicity t (piece_at s l base).knots
  same_times = em ∙ ap (multiplicity t) ek

  pub single-yes : (b : Bool) → n ≡ count_at l base → m ≡ 0 → b ≡ is_bezier s.degree n ks
      → b ≡ (eqb (multiplicity t (piece_at s l base).knots) 0 && is_bezier s.degree (length (piece_at s l base).points) (piece_at s l base).knots)
  single-yes b en z eb =
      eb ∙ (λ j. is_bezier s.degree ((en ∙ sym (count-points s l base h)) j) (ek j))
      ∙ and_yes (eqb (multiplicity t (piece_at s l base).knots) 0) _ (eq-eqb _ 0 (sym same_times ∙ z))

-- how far t lies along the span, as the code comes to it
pub along_done : (ar : Arithmetic) (s : Shape) (l : List Float) (base f : ℕ) (t : Float) (fa fb ft x y : Scalar) (r : Divided) → s.degree < count_at l base → f ≡ knots_from base
    → fa ≡ sharp (get_or l (f + s.degree) nan) → fb ≡ sharp (get_or l (f + s.degree + 1) nan) → ft ≡ sharp t → x ≡ ar.sub ft fa → y ≡ ar.sub fb fa → r ≡ ar.div x y
    → r ≡ ar.div (ar.sub (sharp t) (sharp (knot (piece_at s l base).knots s.degree))) (ar.sub (sharp (knot (piece_at s l base).knots (suc s.degree))) (sharp (knot (piece_at s l base).knots s.degree)))
along_done ar s l base f t fa fb ft x y r h ef ea eb et ex ey er =
    let q : f + s.degree + 1 ≡ f + suc s.degree = omega arith in
    let a : fa ≡ sharp (knot (piece_at s l base).knots s.degree) = ea ∙ ap sharp (sym (knot-word s l base f s.degree ef (omega arith))) in
    let b : fb ≡ sharp (knot (piece_at s l base).knots (suc s.degree)) = eb ∙ ap (λ (k : ℕ). sharp (get_or l k nan)) q ∙ ap sharp (sym (knot-word s l base f (suc s.degree) ef (omega arith))) in
    er ∙ (λ j. ar.div ((ex ∙ (λ i. ar.sub (et i) (a i))) j) ((ey ∙ (λ i. ar.sub (b i) (a i))) j))

module _ (p : ℕ) (t : Float) (c : Piece) where
  -- Whether the triangle is used.
  abbrev pub single : Bool
  single = eqb (multiplicity t c.knots) 0 && is_bezier p (length c.points) c.knots

  -- a piece that the triangle cuts has degree + 1 points
  pub single-count : single ≡ true → length c.points ≡ suc p
  unfolding is_bezier
  single-count e =
      let A : Bool = eqb (length c.points) (suc p) in
      eqb-true (length c.points) (suc p) (first A _ (first (A && _) _ (second (eqb (multiplicity t c.knots) 0) _ e)))
    where
      first : (a b : Bool) → a && b ≡ true → a ≡ true
      first true b e = refl
      first false b e = e

      second : (a b : Bool) → a && b ≡ true → b ≡ true
      second true b e = e
      second false b e = absurd (never e)
        where
          never : false ≡ true → ⊥
          never q = let z : ◌≡◌ {A = ℕ} 0 1 = cc in omega arith

  module _ (ar : Arithmetic) where
    -- How far t lies along the span.
    abbrev pub along : Divided
    along = ar.div (ar.sub (sharp t) (sharp (knot c.knots p))) (ar.sub (sharp (knot c.knots (suc p))) (sharp (knot c.knots p)))

    pub full_bezier : (α : Scalar) → single ≡ true → along ≡ Some α → bezier_cut ar p t α c ≡ full_cut ar p t c
    unfolding full_cut cut_by
    full_bezier α e f = sym (λ j. cut_by ar p t c (e j) (f j))

    pub full_failed : single ≡ true → along ≡ None → boehm_cut ar p t c ≡ full_cut ar p t c
    unfolding full_cut cut_by
    full_failed e f = sym (λ j. cut_by ar p t c (e j) (f j))

    pub full_boehm : single ≡ false → boehm_cut ar p t c ≡ full_cut ar p t c
    unfolding full_cut cut_by
    full_boehm e = sym (ap (λ (b : Bool). cut_by ar p t c b along) e)

-- a slot whose piece the triangle cuts
pub single-held : (s : Shape) (l : List Float) (base : ℕ) (t : Float) → Held s l base → single s.degree t (piece_at s l base) ≡ true → count_at l base ≡ suc s.degree
single-held s l base t h e = sym (count-points s l base h) ∙ single-count s.degree t (piece_at s l base) e

-- the cut of a slot's piece, as it comes from one of the two
pub full_from : (ar : Arithmetic) (s : Shape) (l w : List Float) (base k : ℕ) (t : Float) (c : Cut) → c ≡ full_cut ar s.degree t (piece_at s l base) → CutAt s l w base c k → CutAt s l w base (full_cut ar s.degree t (piece_at s l base)) k
full_from ar s l w base k t c e f = subst (λ (d : Cut). CutAt s l w base d k) e f
