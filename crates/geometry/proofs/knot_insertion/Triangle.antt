-- The triangle in memory: a row in the place of the one before, and the last point of each row copied behind. Leans on the laws of points between, of lists and of slots.
use mathlib.Core.Path.{◌≡◌, refl, sym, ap, ◌∙◌}
use mathlib.Core.Logic.{inr}
use mathlib.Core.List.{List, [], ◌∷◌, ◌++◌, append_assoc}
use Prim.Native.Nat.{ℕ, suc, ◌+◌, ◌-◌, ◌*◌, ◌≤◌, ◌<◌}
use native.Mathlib.Nat.{add-zero}
use native.Mathlib.Numerals.{add-one}
use native.Mathlib.Omega.{arith}
use lib.ListN.{length, drop, length-append}
use lib.Seq.{get_or-append-add}
use lib.Ieee.{Float}
use Rattle.lists.specs.Lists.{part, put, tab, last_d}
use Rattle.lists.proofs.Tab.{tab-ext}
use Rattle.lists.proofs.Put.{length-put, put-nil, put-part, put-put, put_right, put_whole, put-swap, put_inside}
use Rattle.math.specs.declared.scalars.Scalar.{Scalar}
use Rattle.math.specs.Scalars.{Arithmetic}
use Rattle.model.specs.Vector.{Vector, interpolate_v}
use Rattle.model.specs.NurbCurve.{point}
use Rattle.model.specs.Layout.{flat, points_of}
use Rattle.geometry.specs.Slots.{point_words, points_from, place_of, vector_at, between_at, with_sides, numbers, Wide, Inside}
use Rattle.geometry.specs.declared.slots.Shape.{Shape}
use Rattle.geometry.proofs.Lists.Copies.{put_front}
use Rattle.geometry.proofs.slots.Counts.{place_at, place-add, place_le, place-next, place-room, place-within}
use Rattle.geometry.proofs.Lists.Numbers.{length-flat, flat_vector, numbers_nil, numbers_cons, numbers_append, length_numbers, wide-tail, length-points, wide-points, numbers_points, vector_written}
use Rattle.geometry.proofs.knot_insertion.Wide.{wide-append, wide-cons}
use Rattle.geometry.proofs.knot_insertion.Blends.{vector_before}
use Rattle.geometry.proofs.knot_insertion.Levels.{row_at, heads, lasts, level-tab, level_long, row_long, row-wide, heads_none, lasts_none, heads-more, lasts-more, heads_long, lasts_long, heads-wide, lasts-wide, last_wide, sides-are}

-- ---- one point between

module _ (s : Shape) (l : List Float) (base j : ℕ) (α : Scalar) (i : Inside s l base) (h : j < s.count + s.degree) where
  module _ (a b : ℕ) (ea : a ≡ place_of s base j) (eb : b ≡ place_of s base (j + 1)) where
    next_of : b ≡ place_of s base (suc j)
    next_of = eb ∙ ap (place_of s base) (add-one j)

    pub between-fits : (a + 2 * (s.dim + 1) ≤ b) × (b + 2 * (s.dim + 1) ≤ length l)
    between-fits = (omega (arith, next_of, place-next s base j), omega (arith, next_of, place-next s base (suc j), place-room s base (suc (suc j)) (omega arith), i.within))

    pub between_done : (ar : Arithmetic) (w : List Float) → w ≡ put l b (flat (interpolate_v ar (vector_at (s.dim + 1) l a) (vector_at (s.dim + 1) l b) α)) → w ≡ put l (place_of s base (suc j)) (flat (between_at ar s l base α j))
    unfolding between_at
    between_done ar w e = e ∙ (λ z. put l (next_of z) (flat (interpolate_v ar (vector_at (add-one s.dim z) l (ea z)) (vector_at (add-one s.dim z) l (next_of z)) α)))

-- ---- one point copied

module _ (s : Shape) (l : List Float) (base i j : ℕ) (z : Inside s l base) (h : i < j) (g : j ≤ s.count + s.degree) (a b : ℕ) (ea : a ≡ place_of s base i) (eb : b ≡ place_of s base j) where
  pub copied-fits : (b + 2 * (s.dim + 1) ≤ length l) × (a + 2 * (s.dim + 1) ≤ b)
  copied-fits = (omega (arith, place-next s base j, place-room s base (suc j) (omega arith), z.within), omega (arith, place-next s base i, place_le s base (suc i) j h))

  pub copied_done : (w : List Float) → w ≡ put l b (part l a (2 * (s.dim + 1))) → w ≡ put l (place_of s base j) (flat (vector_at (suc s.dim) l (place_of s base i)))
  copied_done w e =
      e ∙ (λ k. put l (eb k) (part l (ea k) (2 * add-one s.dim k)))
      ∙ ap (put l (place_of s base j)) (sym (flat_vector (suc s.dim) l (place_of s base i) (omega (arith, copied-fits.0, copied-fits.1))))

-- ---- the rows in memory

-- behind its first point a row is replaced by the next one
replaced : (D : ℕ) (hs row new : List Vector) → Wide D hs → Wide D row → Wide D new → length row ≡ suc (length new)
    → put (numbers (hs ++ row)) (2 * D * suc (length hs)) (numbers new) ≡ numbers ((hs ++ (point row 0 ∷ [])) ++ new)
replaced D hs [] new wh wr wn e = absurd (omega arith)
replaced D hs (q ∷ rest) new wh wr wn e =
    let A : List Vector = hs ++ (q ∷ []) in
    let one : Wide D (q ∷ []) = wide-cons D q [] (wr 0 (omega arith)) (λ i k. absurd (omega arith)) in
    let la : length A ≡ suc (length hs) = length-append hs (q ∷ []) ∙ add-one (length hs) in
    let na : 2 * D * suc (length hs) ≡ length (numbers A) + 0 = ap (λ (m : ℕ). 2 * D * m) (sym la) ∙ sym (length_numbers D A (wide-append D hs (q ∷ []) wh one)) ∙ sym (add-zero (length (numbers A))) in
    let nb : length (numbers new) ≡ length (numbers rest) = length_numbers D new wn ∙ ap (λ (m : ℕ). 2 * D * m) (nat e) ∙ sym (length_numbers D rest (wide-tail D q rest wr)) in
    ap (λ (v : List Vector). put (numbers v) (2 * D * suc (length hs)) (numbers new)) (sym (append_assoc hs (q ∷ []) rest))
    ∙ ap (λ (v : List Float). put v (2 * D * suc (length hs)) (numbers new)) (numbers_append A rest)
    ∙ put_right (numbers A) (numbers rest) (2 * D * suc (length hs)) 0 (numbers new) na
    ∙ ap (λ (v : List Float). numbers A ++ v) (put_whole (numbers rest) (numbers new) nb)
    ∙ sym (numbers_append A new)
  where
    nat : suc (length rest) ≡ suc (length new) → length new ≡ length rest
    nat k = omega arith

-- The first points of the rows before number r, and row r, over the first degree + 1 points of the slot.
abbrev pub rows_to : (ar : Arithmetic) → Shape → List Float → ℕ → Scalar → ℕ → List Vector
rows_to ar s l base α r =
    let ps = points_of (suc s.dim) (suc s.degree) (drop (points_from s base) l) in
    heads ar α r ps ++ row_at ar α r ps

-- The memory when row r is there, and its last point behind.
abbrev pub with_last : (ar : Arithmetic) → Shape → List Float → ℕ → Scalar → ℕ → List Float
with_last ar s l base α r =
    put (put l (points_from s base) (numbers (rows_to ar s l base α r))) (place_of s base (2 * s.degree + 1 - r))
    (numbers (lasts ar α (suc r) (points_of (suc s.dim) (suc s.degree) (drop (points_from s base) l))))

-- The memory when row r is there, and its last point not yet behind.
abbrev pub with_row : (ar : Arithmetic) → Shape → List Float → ℕ → Scalar → ℕ → List Float
with_row ar s l base α r =
    put (put l (points_from s base) (numbers (rows_to ar s l base α r))) (place_of s base (2 * s.degree + 2 - r))
    (numbers (lasts ar α r (points_of (suc s.dim) (suc s.degree) (drop (points_from s base) l))))

module _ (ar : Arithmetic) (s : Shape) (l : List Float) (base : ℕ) (α : Scalar) (ins : Inside s l base) (small : s.degree < s.count) where
  abbrev p : ℕ
  p = s.degree

  abbrev D : ℕ
  D = suc s.dim

  abbrev P : ℕ
  P = points_from s base

  -- The points that are there.
  abbrev ps : List Vector
  ps = points_of (suc s.dim) (suc s.degree) (drop (points_from s base) l)

  abbrev full : ℕ → List Vector
  full r = rows_to ar s l base α r

  abbrev state : ℕ → List Float
  state r = with_last ar s l base α r

  ps_long : length ps ≡ suc p
  ps_long = length-points D (suc p) (drop P l)

  ps-wide : Wide D ps
  ps-wide = wide-points D (suc p) (drop P l)

  row_is : (r : ℕ) → r ≤ p → length (row_at ar α r ps) ≡ suc (p - r)
  row_is r h = row_long ar α r (suc (p - r)) ps (ps_long ∙ nat)
    where
      nat : suc p ≡ r + suc (p - r)
      nat = omega arith

  full_long : (r : ℕ) → r ≤ p → length (full r) ≡ suc p
  full_long r h = length-append (heads ar α r ps) (row_at ar α r ps) ∙ nat (heads_long ar α r ps) (row_is r h)
    where
      nat : length (heads ar α r ps) ≡ r → length (row_at ar α r ps) ≡ suc (p - r) → length (heads ar α r ps) + length (row_at ar α r ps) ≡ suc p
      nat a b = omega arith

  full-wide : (r : ℕ) → r ≤ p → Wide D (full r)
  full-wide r h = wide-append D (heads ar α r ps) (row_at ar α r ps) (heads-wide ar α D ps ps-wide r (omega (arith, ps_long))) (row-wide ar α D r (suc (p - r)) ps (ps_long ∙ nat) ps-wide)
    where
      nat : suc p ≡ r + suc (p - r)
      nat = omega arith

  numbers_full : (r : ℕ) → r ≤ p → length (numbers (full r)) ≡ point_words s * suc p
  numbers_full r h = length_numbers D (full r) (full-wide r h) ∙ ap (λ (m : ℕ). point_words s * m) (full_long r h)

  numbers_lasts : (r : ℕ) → r ≤ p → length (numbers (lasts ar α (suc r) ps)) ≡ point_words s * suc r
  numbers_lasts r h = length_numbers D (lasts ar α (suc r) ps) (lasts-wide ar α D ps ps-wide (suc r) (omega (arith, ps_long))) ∙ ap (λ (m : ℕ). point_words s * m) (lasts_long ar α (suc r) ps)

  -- where the two writes end
  end_full : (r : ℕ) → r ≤ p → P + length (numbers (full r)) ≡ place_of s base (suc p)
  end_full r h = ap (λ (m : ℕ). P + m) (numbers_full r h) ∙ sym (place_at s base (suc p))

  end_lasts : (r : ℕ) → r ≤ p → place_of s base (2 * p + 1 - r) + length (numbers (lasts ar α (suc r) ps)) ≡ place_of s base (2 * p + 2)
  end_lasts r h =
      let e : 2 * p + 1 - r + suc r ≡ 2 * p + 2 = omega arith in
      ap (λ (m : ℕ). place_of s base (2 * p + 1 - r) + m) (numbers_lasts r h) ∙ sym (place-add s base (2 * p + 1 - r) (suc r)) ∙ ap (place_of s base) e

  top : place_of s base (2 * p + 2) ≤ length l
  top = place-within s l base (2 * p + 2) ins (omega arith)

  mid-top : place_of s base (suc p) ≤ length l
  mid-top = place-within s l base (suc p) ins (omega arith)

  -- what is read of the first p + 1 points, where `full r` was written and something behind it
  read : (r j q : ℕ) (vs : List Float) → r ≤ p → j ≤ p → place_of s base (suc p) ≤ q → q ≤ length l → vector_at D (put (put l P (numbers (full r))) q vs) (place_of s base j) ≡ point (full r) j
  read r j q vs h g a b =
      let m : List Float = put l P (numbers (full r)) in
      let e : length m ≡ length l = length-put l P (numbers (full r)) (omega (arith, end_full r h, mid-top)) in
      vector_before D m q vs (place_of s base j) (omega (arith, place-next s base j, place_le s base (suc j) (suc p) (omega arith))) (omega arith)
      ∙ ap (vector_at D m) (place_at s base j)
      ∙ vector_written D l P (full r) j (full-wide r h) (omega (arith, full_long r h)) (omega (arith, end_full r h, mid-top))

  -- a point of the row that is there
  in_row : (r j : ℕ) → point (full r) (r + j) ≡ point (row_at ar α r ps) j
  in_row r j =
      ap (λ (m : ℕ). point (full r) (m + j)) (sym (heads_long ar α r ps)) ∙ get_or-append-add (heads ar α r ps) (row_at ar α r ps) j []

  -- the points between are the next row
  row_made : (r : ℕ) → r < p → tab (p - r) (λ j. between_at ar s (state r) base α (r + j)) ≡ row_at ar α (suc r) ps
  unfolding between_at
  row_made r h = tab-ext (p - r) _ _ each ∙ sym (level-tab ar α (row_at ar α r ps) (p - r) (row_is r (omega arith)))
    where
      here : (j : ℕ) → j ≤ p - r → vector_at D (state r) (place_of s base (r + j)) ≡ point (row_at ar α r ps) j
      here j k =
          read r (r + j) (place_of s base (2 * p + 1 - r)) (numbers (lasts ar α (suc r) ps)) (omega arith) (omega arith) (place_le s base (suc p) (2 * p + 1 - r) (omega arith)) (omega (arith, end_lasts r (omega arith), top))
          ∙ in_row r j

      each : (j : ℕ) → j < p - r → interpolate_v ar (vector_at D (state r) (place_of s base (r + j))) (vector_at D (state r) (place_of s base (suc (r + j)))) α
          ≡ interpolate_v ar (point (row_at ar α r ps) j) (point (row_at ar α r ps) (suc j)) α
      each j k =
          let q : suc (r + j) ≡ r + suc j = omega arith in
          λ i. interpolate_v ar (here j (omega arith) i) ((ap (λ (z : ℕ). vector_at D (state r) (place_of s base z)) q ∙ here (suc j) k) i) α

  -- the next row, in the place of the one before
  next_row : (r : ℕ) → r < p → put (state r) (place_of s base (suc r)) (numbers (row_at ar α (suc r) ps)) ≡ put (put l P (numbers (full (suc r)))) (place_of s base (2 * p + 1 - r)) (numbers (lasts ar α (suc r) ps))
  next_row r h =
      let m : List Float = put l P (numbers (full r)) in
      let N : List Float = numbers (row_at ar α (suc r) ps) in
      let Q : ℕ = place_of s base (2 * p + 1 - r) in
      let L : List Float = numbers (lasts ar α (suc r) ps) in
      let z : suc p ≡ suc r + (p - r) = omega arith in
      let hs : length (heads ar α r ps) ≡ r = heads_long ar α r ps in
      let rl : length (row_at ar α (suc r) ps) ≡ p - r = level_long ar α (row_at ar α r ps) (p - r) (row_is r (omega arith)) in
      let wn : Wide D (row_at ar α (suc r) ps) = row-wide ar α D (suc r) (p - r) ps (ps_long ∙ z) ps-wide in
      let wr : Wide D (row_at ar α r ps) = row-wide ar α D r (suc (p - r)) ps (ps_long ∙ nat) ps-wide in
      let ln : length N ≡ point_words s * (p - r) = length_numbers D (row_at ar α (suc r) ps) wn ∙ ap (λ (k : ℕ). point_words s * k) rl in
      let en : place_of s base (suc r) + length N ≡ place_of s base (suc p) = ap (λ (k : ℕ). place_of s base (suc r) + k) ln ∙ sym (place-add s base (suc r) (p - r)) ∙ ap (place_of s base) (sym z) in
      let far : place_of s base (suc p) ≤ Q = place_le s base (suc p) (2 * p + 1 - r) (omega arith) in
      let lm : length m ≡ length l = length-put l P (numbers (full r)) (omega (arith, end_full r (omega arith), mid-top)) in
      let ov : point_words s * suc r + length N ≤ length (numbers (full r)) = omega (arith, en, end_full r (omega arith), place_at s base (suc r)) in
      let inner : put (numbers (full r)) (point_words s * suc r) N ≡ numbers (full (suc r))
      = ap (λ (k : ℕ). put (numbers (full r)) (point_words s * suc k) N) (sym hs)
      ∙ replaced D (heads ar α r ps) (row_at ar α r ps) (row_at ar α (suc r) ps) (heads-wide ar α D ps ps-wide r (omega (arith, ps_long))) wr wn (row_is r (omega arith) ∙ ap suc (sym rl))
      ∙ ap (λ (v : List Vector). numbers (v ++ row_at ar α (suc r) ps)) (sym (heads-more ar α r ps)) in
      put-swap m Q L (place_of s base (suc r)) N (omega (arith, end_lasts r (omega arith), top)) (omega (arith, mid-top)) (inr (omega arith))
      ∙ ap (λ (v : List Float). put v Q L) (ap (λ (k : ℕ). put m k N) (place_at s base (suc r)) ∙ put_inside l P (numbers (full r)) (point_words s * suc r) N (omega (arith, end_full r (omega arith), mid-top)) ov ∙ ap (put l P) inner)
    where
      nat : suc p ≡ r + suc (p - r)
      nat = omega arith

  -- the last of the first p + 1 points is the last of the row
  last_of : (r : ℕ) → r ≤ p → point (full r) p ≡ last_d (row_at ar α r ps) []
  last_of r h =
      let z : p ≡ r + (p - r) = omega arith in
      let k : p - r ≡ length (row_at ar α r ps) - 1 = omega (arith, row_is r h) in
      ap (point (full r)) z ∙ in_row r (p - r) ∙ ap (point (row_at ar α r ps)) k

  -- before the first row
  pub triangle-start : l ≡ with_row ar s l base α 0
  triangle-start =
      let same : put l P (numbers (full 0)) ≡ l
      = ap (λ (v : List Vector). put l P (numbers (v ++ ps))) (heads_none ar α ps)
      ∙ ap (put l P) (numbers_points D (suc p) l P (omega (arith, place_at s base (suc p), mid-top)))
      ∙ put-part l P (point_words s * suc p) (omega (arith, place_at s base (suc p), mid-top)) in
      sym (ap (λ (v : List Vector). put (put l P (numbers (full 0))) (place_of s base (2 * p + 2 - 0)) (numbers v)) (lasts_none ar α ps)
      ∙ ap (put (put l P (numbers (full 0))) (place_of s base (2 * p + 2 - 0))) numbers_nil
      ∙ put-nil (put l P (numbers (full 0))) (place_of s base (2 * p + 2 - 0))
      ∙ same)

  -- the last point of a row is copied behind
  pub triangle-copy : (r : ℕ) (w w₁ : List Float) → r ≤ s.degree → w ≡ with_row ar s l base α r → w₁ ≡ put w (place_of s base (2 * s.degree + 1 - r)) (flat (vector_at (suc s.dim) w (place_of s base s.degree))) → w₁ ≡ with_last ar s l base α r
  triangle-copy r w w₁ h e e₁ =
      let Q : ℕ = place_of s base (2 * p + 2 - r) in
      let Q₁ : ℕ = place_of s base (2 * p + 1 - r) in
      let L : List Float = numbers (lasts ar α r ps) in
      let X : Vector = last_d (row_at ar α r ps) [] in
      let m : List Float = put l P (numbers (full r)) in
      let lm : length m ≡ length l = length-put l P (numbers (full r)) (omega (arith, end_full r h, mid-top)) in
      let q : suc (2 * p + 1 - r) ≡ 2 * p + 2 - r = omega arith in
      let step : Q ≡ Q₁ + point_words s = ap (place_of s base) (sym q) ∙ place-next s base (2 * p + 1 - r) in
      let lx : length (flat X) ≡ point_words s = length-flat X ∙ ap (λ (z : ℕ). 2 * z) (last_wide ar α D ps ps-wide r (omega (arith, ps_long))) in
      let more : numbers (lasts ar α (suc r) ps) ≡ flat X ++ L = ap numbers (lasts-more ar α r ps) ∙ numbers_cons X (lasts ar α r ps) in
      let ends : Q + length L ≤ length l = omega (arith, end_lasts r h, top, ap length more, length-append (flat X) L) in
      let got : vector_at D w (place_of s base p) ≡ X = ap (λ (v : List Float). vector_at D v (place_of s base p)) e
      ∙ read r p Q L h (omega arith) (place_le s base (suc p) (2 * p + 2 - r) (omega arith)) (omega arith) ∙ last_of r h in
      e₁ ∙ (λ j. put (e j) Q₁ (flat (got j)))
      ∙ put_front m Q₁ Q (flat X) L (omega arith) (omega arith)
      ∙ ap (put m Q₁) (sym more)

  -- the next row
  pub triangle-row : (r : ℕ) (w w₁ : List Float) → r < s.degree → w ≡ with_last ar s l base α r → w₁ ≡ put w (place_of s base (suc r)) (numbers (tab (s.degree - r) (λ j. between_at ar s w base α (r + j)))) → w₁ ≡ with_row ar s l base α (r + 1)
  triangle-row r w w₁ h e e₁ =
      let q : 2 * p + 1 - r ≡ 2 * p + 2 - (r + 1) = omega arith in
      e₁ ∙ (λ j. put (e j) (place_of s base (suc r)) (numbers (tab (p - r) (λ i. between_at ar s (e j) base α (r + i)))))
      ∙ ap (λ (v : List Vector). put (state r) (place_of s base (suc r)) (numbers v)) (row_made r h)
      ∙ next_row r h
      ∙ (λ j. put (put l P (numbers (full (sym (add-one r) j)))) (place_of s base (q j)) (numbers (lasts ar α (sym (add-one r) j) ps)))

  pub triangle_done : (r : ℕ) → r ≡ s.degree → with_last ar s l base α r ≡ with_sides ar s l base α
  triangle_done r e =
      let q : 2 * p + 1 - p ≡ suc p = omega arith in
      let one : row_at ar α p ps ≡ point (row_at ar α p ps) 0 ∷ [] = single (row_at ar α p ps) (row_is p (omega arith) ∙ nat) in
      let all : full p ≡ heads ar α (suc p) ps = ap (λ (v : List Vector). heads ar α p ps ++ v) one ∙ sym (heads-more ar α p ps) in
      let at : place_of s base (2 * p + 1 - p) ≡ P + length (numbers (full p)) = ap (place_of s base) q ∙ sym (end_full p (omega arith)) in
      ap state e
      ∙ ap (λ (k : ℕ). put (put l P (numbers (full p))) k (numbers (lasts ar α (suc p) ps))) at
      ∙ put-put l P (numbers (full p)) (numbers (lasts ar α (suc p) ps)) (omega (arith, end_full p (omega arith), mid-top))
      ∙ ap (put l P) (sym (numbers_append (full p) (lasts ar α (suc p) ps)) ∙ ap (λ (v : List Vector). numbers (v ++ lasts ar α (suc p) ps)) all ∙ ap numbers (sym (sides-are ar α (suc p) ps)))
    where
      nat : suc (p - p) ≡ 1
      nat = omega arith

      single : (v : List Vector) → length v ≡ 1 → v ≡ point v 0 ∷ []
      single [] k = absurd (omega arith)
      single (x ∷ []) k = refl
      single (x ∷ y ∷ v) k = absurd (omega arith)
