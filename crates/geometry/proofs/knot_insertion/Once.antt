-- One insertion into a slot: its four steps leave the piece with t inserted, and it fits. Leans on the laws of blends, of lists and of slots.
use mathlib.Core.Path.{◌≡◌, refl, sym, ap, ◌∙◌}
use mathlib.Core.Logic.{inl, inr}
use mathlib.Core.List.{List, [], ◌∷◌, ◌++◌}
use Prim.Native.Nat.{ℕ, suc, ◌+◌, ◌-◌, ◌*◌, ◌≤◌, ◌<◌}
use native.Mathlib.Omega.{arith}
use lib.ListN.{length, take, drop}
use lib.Ieee.{Float}
use Rattle.lists.specs.Lists.{part, put, tab}
use Rattle.lists.proofs.Tab.{length-tab, tab-ext}
use Rattle.lists.proofs.Part.{length_part}
use Rattle.lists.proofs.Put.{length-put, put-swap}
use Rattle.lists.proofs.Read.{part-put-other}
use Rattle.math.specs.Scalars.{Arithmetic}
use Rattle.model.specs.Vector.{Vector}
use Rattle.model.specs.NurbCurve.{Piece, point}
use Rattle.model.specs.KnotInsertion.{alpha, blend, knots_with, points_with, insert_once}
use Rattle.model.specs.Layout.{points_of}
use Rattle.geometry.specs.Slots.{words_of, point_words, points_from, place_of, word, count_at, vector_at, knots_at, blend_at, numbers, piece_at, placed, Wide, Fits, Inside, Held}
use Rattle.geometry.specs.declared.slots.Shape.{Shape}
use Rattle.model.proofs.Sound.Insert.{length-knots, length-points}
use Rattle.geometry.proofs.Lists.Copies.{put_front, put-wider}
use Rattle.geometry.proofs.slots.Counts.{place_le, place-add, place-next, place-room, place_at}
use Rattle.geometry.proofs.Lists.Numbers as numeral
use Rattle.geometry.proofs.slots.Piece.{fits-front, fits-points, fits-piece, count-points}
use Rattle.geometry.proofs.knot_insertion.Wide.{length-blend, wide-tab, wide-append, wide-take, wide-drop}
use Rattle.geometry.proofs.knot_insertion.Blends.{blend-made}

-- the points, the knots and the count, one write after the other, place a piece
pub assembled : (s : Shape) (l : List Float) (base : ℕ) (c : Piece) → Inside s l base → Fits s c
    → put (put (put l (points_from s base) (numbers c.points)) (base + 1) c.knots) base (word (length c.points) ∷ []) ≡ placed s l base c
unfolding placed
assembled s l base c i f =
    let P : ℕ = points_from s base in
    let N : List Float = numbers c.points in
    let A : List Float = word (length c.points) ∷ c.knots in
    let a : base + length A ≤ P = fits-front s l base i c f in
    let u : P + length N ≤ length l = fits-points s l base i c f in
    let e : length (put l P N) ≡ length l = length-put l P N u in
    put_front (put l P N) base (base + 1) (word (length c.points) ∷ []) c.knots refl (omega arith)
    ∙ put-swap l P N base A u (omega arith) (inr a)

-- ---- what an insertion leaves fits

module _ (ar : Arithmetic) (s : Shape) (c : Piece) (k : ℕ) (t : Float) (f : Fits s c) (h : s.degree ≤ k) (g : k < length c.points) where
  mixed-wide : (j : ℕ) → j < s.degree
      → length (blend ar (alpha ar s.degree c.knots t (suc (k - s.degree + j))) (point c.points (k - s.degree + j)) (point c.points (suc (k - s.degree + j)))) ≡ suc s.dim
  mixed-wide j q = length-blend ar (suc s.dim) _ _ _ (f.wide (k - s.degree + j) (omega arith)) (f.wide (suc (k - s.degree + j)) (omega arith))

  points-wide : Wide (suc s.dim) (points_with ar s.degree k t c.knots c.points)
  unfolding points_with
  points-wide =
      let D : ℕ = suc s.dim in
      let mix : ℕ → Vector = λ j. blend ar (alpha ar s.degree c.knots t (suc (k - s.degree + j))) (point c.points (k - s.degree + j)) (point c.points (suc (k - s.degree + j))) in
      wide-append D (take (suc k - s.degree) c.points) (tab s.degree mix ++ drop k c.points) (wide-take D (suc k - s.degree) c.points f.wide)
      (wide-append D (tab s.degree mix) (drop k c.points) (wide-tab D s.degree mix mixed-wide) (wide-drop D k c.points f.wide))

  pub once-count : length (insert_once ar s.degree k t c).points ≡ suc (length c.points)
  unfolding insert_once
  once-count = length-points ar s.degree k t c.knots c.points h g

  pub fits-once : length c.points ≤ s.count + s.degree → Fits s (insert_once ar s.degree k t c)
  unfolding insert_once
  fits-once r = record {
    knots = omega (arith, length-knots k t c.knots (omega (arith, f.knots)), length-points ar s.degree k t c.knots c.points h g, f.knots);
    points = omega (arith, length-points ar s.degree k t c.knots c.points h g);
    wide = points-wide;
  }

-- ---- the four steps

module _ (ar : Arithmetic) (s : Shape) (l : List Float) (base k : ℕ) (t : Float) (held : Held s l base) (h : s.degree ≤ k) (g : k < count_at l base) (r : count_at l base ≤ s.count + s.degree) where
  abbrev n : ℕ
  n = count_at l base

  abbrev p : ℕ
  p = s.degree

  abbrev D : ℕ
  D = suc s.dim

  abbrev ks : List Float
  ks = knots_at s l base (count_at l base)

  abbrev ps : List Vector
  ps = points_of (suc s.dim) (count_at l base) (drop (points_from s base) l)

  -- What moves up.
  abbrev tail : List Float
  tail = part l (place_of s base k) (place_of s base (count_at l base) - place_of s base k)

  -- The memory with the points moved up.
  abbrev moved : List Float
  moved = put l (place_of s base (suc k)) tail

  -- The new blends.
  abbrev mids : List Vector
  mids = tab s.degree (λ j. blend ar (alpha ar s.degree ks t (suc (k - s.degree + j))) (point ps (k - s.degree + j)) (point ps (suc (k - s.degree + j))))

  tail-fits : place_of s base (suc k) + length tail ≤ length l
  tail-fits =
      let a : place_of s base k ≤ place_of s base n = place_le s base k n (omega arith) in
      let b : place_of s base (suc n) ≤ base + words_of s = place-room s base (suc n) (omega arith) in
      let e : length tail ≡ place_of s base n - place_of s base k = length_part l (place_of s base k) (place_of s base n - place_of s base k) (omega (arith, place-next s base n, held.inside.within)) in
      omega (arith, place-next s base k, place-next s base n, held.inside.within)

  point_here : (i : ℕ) → i < n → point ps i ≡ vector_at D l (place_of s base i)
  unfolding place_of
  point_here i q = numeral.point-points D n l (points_from s base) i q

  blend_here : (i : ℕ) → suc i < n → blend_at ar s l base n t i ≡ blend ar (alpha ar s.degree ks t (suc i)) (point ps i) (point ps (suc i))
  unfolding blend_at
  blend_here i q = λ j. blend ar (alpha ar s.degree ks t (suc i)) (sym (point_here i (omega arith)) j) (sym (point_here (suc i) q) j)

  mids_same : tab s.degree (λ j. blend_at ar s moved base n t (k - s.degree + j)) ≡ mids
  mids_same = tab-ext s.degree _ _ each
    where
      each : (j : ℕ) → j < s.degree → blend_at ar s moved base n t (k - s.degree + j)
          ≡ blend ar (alpha ar s.degree ks t (suc (k - s.degree + j))) (point ps (k - s.degree + j)) (point ps (suc (k - s.degree + j)))
      each j q = (blend-made ar s base n t (omega arith)).before l (place_of s base (suc k)) tail (k - s.degree + j) (place_le s base _ _ (omega arith)) tail-fits ∙ blend_here (k - s.degree + j) (omega arith)

  mids_long : length (numbers mids) ≡ point_words s * s.degree
  mids_long =
      numeral.length_numbers D mids (wide-tab D s.degree _ (λ j q. ap length (sym (blend_here (k - s.degree + j) (omega arith))) ∙ (blend-made ar s base n t (omega arith)).wide l (k - s.degree + j)))
      ∙ ap (λ (m : ℕ). point_words s * m) (length-tab s.degree _)

  front_same : numbers (take (suc k - s.degree) ps) ≡ part l (points_from s base) (point_words s * suc (k - s.degree))
  front_same =
      let e : suc k - s.degree ≡ suc (k - s.degree) = omega arith in
      ap (λ (m : ℕ). numbers (take m ps)) e
      ∙ ap numbers (numeral.take-points D n (suc (k - s.degree)) (drop (points_from s base) l) (omega arith))
      ∙ numeral.numbers_points D (suc (k - s.degree)) l (points_from s base) (omega (arith, place_at s base (suc (k - s.degree)), place_le s base (suc (k - s.degree)) n (omega arith), place-room s base n (omega arith), held.inside.within))

  back_same : numbers (drop k ps) ≡ tail
  back_same =
      let e : k + (n - k) ≡ n = omega arith in
      let f : place_of s base n ≡ place_of s base k + point_words s * (n - k) = ap (place_of s base) (sym e) ∙ place-add s base k (n - k) in
      let a : points_from s base + point_words s * k ≡ place_of s base k = sym (place_at s base k) in
      let w : point_words s * (n - k) ≡ place_of s base n - place_of s base k = omega arith in
      ap numbers (numeral.drop-points D n k l (points_from s base) (omega arith))
      ∙ numeral.numbers_points D (n - k) l (points_from s base + point_words s * k) (omega (arith, place-room s base n (omega arith), held.inside.within))
      ∙ (λ j. part l (a j) (w j))

  points_done : put moved (place_of s base (suc (k - s.degree))) (numbers mids) ≡ put l (points_from s base) (numbers (points_with ar s.degree k t ks ps))
  unfolding points_with
  points_done =
      let P : ℕ = points_from s base in
      let a : ℕ = place_of s base (suc (k - s.degree)) in
      let e : suc (k - s.degree) + s.degree ≡ suc k = omega arith in
      let f : place_of s base (suc k) ≡ a + length (numbers mids) = ap (place_of s base) (sym e) ∙ place-add s base (suc (k - s.degree)) s.degree ∙ ap (λ (m : ℕ). a + m) (sym mids_long) in
      let q : numbers (take (suc k - s.degree) ps ++ (mids ++ drop k ps)) ≡ part l P (point_words s * suc (k - s.degree)) ++ (numbers mids ++ tail)
      = numeral.numbers_append (take (suc k - s.degree) ps) (mids ++ drop k ps)
      ∙ (λ j. front_same j ++ (numeral.numbers_append mids (drop k ps) ∙ ap (λ (v : List Float). numbers mids ++ v) back_same) j) in
      put_front l a (place_of s base (suc k)) (numbers mids) tail f tail-fits
      ∙ put-wider l P (point_words s * suc (k - s.degree)) a (numbers mids ++ tail) (place_at s base (suc (k - s.degree))) (omega (arith, tail-fits, f))
      ∙ ap (put l P) (sym q)

  -- THE INSERTION
  pub once_done : (l₁ l₂ l₃ l₄ : List Float) → l₁ ≡ moved → l₂ ≡ put l₁ (place_of s base (suc (k - s.degree))) (numbers (tab s.degree (λ j. blend_at ar s l₁ base n t (k - s.degree + j))))
      → l₃ ≡ put l₂ (base + 1) (knots_with k t (part l₂ (base + 1) (n + s.degree + 1))) → l₄ ≡ put l₃ base (word (n + 1) ∷ []) → l₄ ≡ placed s l base (insert_once ar s.degree k t (piece_at s l base))
  unfolding insert_once piece_at
  once_done l₁ l₂ l₃ l₄ e₁ e₂ e₃ e₄ =
      let P : ℕ = points_from s base in
      let a : ℕ = place_of s base (suc (k - s.degree)) in
      let c : Piece = record { knots = knots_with k t ks; points = points_with ar s.degree k t ks ps } in
      let fo : Fits s c = fits-once ar s (piece_at s l base) k t (fits-piece s l base held) h (omega (arith, count-points s l base held)) (omega (arith, count-points s l base held)) in
      let m : n + 1 ≡ length c.points = omega (arith, once-count ar s (piece_at s l base) k t (fits-piece s l base held) h (omega (arith, count-points s l base held)), count-points s l base held) in
      let q : l₂ ≡ put l P (numbers c.points) = e₂ ∙ (λ j. put (e₁ j) a (numbers (tab s.degree (λ i. blend_at ar s (e₁ j) base n t (k - s.degree + i))))) ∙ ap (λ (v : List Vector). put moved a (numbers v)) mids_same ∙ points_done in
      let u : P + length (numbers c.points) ≤ length l = fits-points s l base held.inside c fo in
      let x : part l₂ (base + 1) (n + s.degree + 1) ≡ ks = ap (λ (v : List Float). part v (base + 1) (n + s.degree + 1)) q ∙ part-put-other l P (numbers c.points) (base + 1) (n + s.degree + 1) u (inl (omega arith)) in
      let y : l₃ ≡ put (put l P (numbers c.points)) (base + 1) c.knots = e₃ ∙ (λ j. put (q j) (base + 1) (knots_with k t (x j))) in
      e₄ ∙ (λ j. put (y j) base (word (m j) ∷ [])) ∙ assembled s l base c held.inside fo

  -- the same as the code has it, where m is the count that was read
  pub once-code : (m : ℕ) (l₁ l₂ l₃ l₄ : List Float) → m ≡ count_at l base → l₁ ≡ put l (place_of s base (suc k)) (part l (place_of s base k) (place_of s base m - place_of s base k))
      → l₂ ≡ put l₁ (place_of s base (suc (k - s.degree))) (numbers (tab s.degree (λ j. blend_at ar s l₁ base m t (k - s.degree + j))))
      → l₃ ≡ put l₂ (base + 1) (knots_with k t (part l₂ (base + 1) (m + s.degree + 1))) → l₄ ≡ put l₃ base (word (m + 1) ∷ []) → l₄ ≡ placed s l base (insert_once ar s.degree k t (piece_at s l base))
  once-code m l₁ l₂ l₃ l₄ e e₁ e₂ e₃ e₄ =
      once_done l₁ l₂ l₃ l₄
      (e₁ ∙ (λ j. put l (place_of s base (suc k)) (part l (place_of s base k) (place_of s base (e j) - place_of s base k))))
      (e₂ ∙ (λ j. put l₁ (place_of s base (suc (k - s.degree))) (numbers (tab s.degree (λ i. blend_at ar s l₁ base (e j) t (k - s.degree + i))))))
      (e₃ ∙ (λ j. put l₂ (base + 1) (knots_with k t (part l₂ (base + 1) (e j + s.degree + 1)))))
      (e₄ ∙ (λ j. put l₃ base (word (e j + 1) ∷ [])))
