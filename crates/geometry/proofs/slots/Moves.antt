-- Pieces that are read into a slot, and what is left or right of a point that is kept or moved. Leans on the laws of lists and of slots.
use mathlib.Core.Path.{◌≡◌, sym, ap, ◌∙◌}
use mathlib.Core.Logic.{◌⊎◌, inl, inr}
use mathlib.Core.List.{List, [], ◌∷◌}
use Prim.Native.Nat.{ℕ, suc, ◌+◌, ◌-◌, ◌*◌, ◌≤◌, ◌<◌, min}
use native.Mathlib.Omega.{arith}
use lib.ListN.{length, drop, length-take, length-drop}
use lib.Seq.{take_all}
use lib.Ieee.{Float}
use Rattle.lists.specs.Lists.{part, put}
use Rattle.lists.proofs.Part.{length_part}
use Rattle.lists.proofs.Put.{put-part, put-swap}
use Rattle.lists.proofs.Read.{part-put-other}
use Rattle.model.specs.NurbCurve.{Piece}
use Rattle.model.specs.KnotInsertion.{left_of, right_of}
use Rattle.model.specs.Layout.{points_of}
use Rattle.geometry.specs.Slots.{point_words, knots_from, points_from, place_of, word, count_at, numbers, piece_at, placed, Fits, Inside, Held, Apart}
use Rattle.geometry.specs.declared.slots.Shape.{Shape}
use Rattle.geometry.proofs.Lists.Copies.{take_part, drop-part}
use Rattle.geometry.proofs.slots.Counts.{place_zero, place_at, place-add, place_le, place-from, place-room, place-within, from-room}
use Rattle.geometry.proofs.Lists.Numbers.{length-points, wide-points, numbers_points, take-points, drop-points}
use Rattle.geometry.proofs.slots.Piece.{room, fits-front, fits-points, fits-piece, count-points}
use Rattle.geometry.proofs.knot_insertion.Wide.{wide-take, wide-drop}
use Rattle.geometry.proofs.knot_insertion.Once.{assembled}

-- ---- the whole curve

module _ (s : Shape) (l ks qs : List Float) (base : ℕ) (i : Inside s l base) (ek : length ks ≡ s.count + s.degree + 1) (eq : length qs ≡ point_words s * s.count) where
  -- The curve.
  abbrev whole : Piece
  whole = record { knots = ks; points = points_of (suc s.dim) s.count qs }

  whole_long : length whole.points ≡ s.count
  whole_long = length-points (suc s.dim) s.count qs

  pub fits_whole : Fits s (record { knots = ks; points = points_of (suc s.dim) s.count qs })
  fits_whole = record { knots = ek ∙ ap (λ (n : ℕ). n + s.degree + 1) (sym whole_long); points = omega (arith, whole_long); wide = wide-points (suc s.dim) s.count qs }

  whole_numbers : numbers whole.points ≡ qs
  whole_numbers =
      numbers_points (suc s.dim) s.count qs 0 (omega arith)
      ∙ take_all (point_words s * s.count) qs (omega arith)

  pub loaded : (l₁ l₂ l₃ : List Float) (b f : ℕ) → b ≡ place_of s base 0 → f ≡ knots_from base → l₁ ≡ put l b qs → l₂ ≡ put l₁ f ks → l₃ ≡ put l₂ base (word s.count ∷ [])
      → l₃ ≡ placed s l base (record { knots = ks; points = points_of (suc s.dim) s.count qs })
  loaded l₁ l₂ l₃ b f eb ef e₁ e₂ e₃ =
      let g : b ≡ points_from s base = eb ∙ place_zero s base in
      e₃ ∙ (λ j. put ((e₂ ∙ (λ k. put ((e₁ ∙ (λ m. put l (g m) (sym whole_numbers m))) k) (ef k) ks)) j) base (word (sym whole_long j) ∷ []))
      ∙ assembled s l base whole i fits_whole

-- ---- what is left of a point

module _ (s : Shape) (l : List Float) (base at : ℕ) (h : Held s l base) (g : at ≤ count_at l base) where
  -- What is left.
  abbrev left : Piece
  left = left_of s.degree (record { piece = piece_at s l base; at = at })

  left_knots : left.knots ≡ part l (base + 1) (at + suc s.degree)
  unfolding piece_at
  left_knots = take_part l (base + 1) (count_at l base + s.degree + 1) (at + suc s.degree) (omega arith)

  left_long : length left.points ≡ at
  left_long = length-take at (piece_at s l base).points ∙ nat (count-points s l base h)
    where
      nat : length (piece_at s l base).points ≡ count_at l base → min at (length (piece_at s l base).points) ≡ at
      nat e = omega arith

  left_numbers : numbers left.points ≡ part l (points_from s base) (point_words s * at)
  unfolding piece_at
  left_numbers =
      ap numbers (take-points (suc s.dim) (count_at l base) at (drop (points_from s base) l) g)
      ∙ numbers_points (suc s.dim) at l (points_from s base) (omega (arith, place_at s base at, place-within s l base at h.inside (omega (arith, h.room))))

  in_knots : base + 1 + (at + suc s.degree) ≤ length l
  in_knots = omega (arith, from-room s base, h.inside.within, h.room)

  pub fits_left : Fits s (left_of s.degree (record { piece = piece_at s l base; at = at }))
  fits_left = record {
    knots = ap length left_knots ∙ length_part l (base + 1) (at + suc s.degree) in_knots ∙ nat (left_long);
    points = omega (arith, left_long, h.room);
    wide = wide-take (suc s.dim) at (piece_at s l base).points (fits-piece s l base h).wide;
  }
    where
      nat : length left.points ≡ at → at + suc s.degree ≡ length left.points + s.degree + 1
      nat e = omega arith

  pub kept_left : (w : List Float) → w ≡ put l base (word at ∷ []) → w ≡ placed s l base (left_of s.degree (record { piece = piece_at s l base; at = at }))
  kept_left w e =
      let P : ℕ = points_from s base in
      let u : put l P (numbers left.points) ≡ l = ap (put l P) left_numbers ∙ put-part l P (point_words s * at) (omega (arith, place_at s base at, place-within s l base at h.inside (omega (arith, h.room)))) in
      let v : put l (base + 1) left.knots ≡ l = ap (put l (base + 1)) left_knots ∙ put-part l (base + 1) (at + suc s.degree) in_knots in
      e ∙ sym (sym (assembled s l base left h.inside fits_left) ∙ (λ j. put (put (u j) (base + 1) left.knots) base (word (left_long j) ∷ [])) ∙ ap (λ (k : List Float). put k base (word at ∷ [])) v)

-- ---- what is right of a point

module _ (s : Shape) (l : List Float) (from at : ℕ) (h : Held s l from) (g : at ≤ count_at l from) where
  -- What is right.
  abbrev right : Piece
  right = right_of (record { piece = piece_at s l from; at = at })

  right_knots : right.knots ≡ part l (from + 1 + at) (count_at l from - at + s.degree + 1)
  unfolding piece_at
  right_knots =
      let e : count_at l from + s.degree + 1 - at ≡ count_at l from - at + s.degree + 1 = omega arith in
      drop-part l (from + 1) (count_at l from + s.degree + 1) at (omega arith) ∙ ap (part l (from + 1 + at)) e

  right_long : length right.points ≡ count_at l from - at
  right_long = length-drop at (piece_at s l from).points ∙ ap (λ (n : ℕ). n - at) (count-points s l from h)

  right_numbers : numbers right.points ≡ part l (place_of s from at) (place_of s from (count_at l from) - place_of s from at)
  unfolding piece_at
  right_numbers =
      let n : ℕ = count_at l from in
      let e : at + (n - at) ≡ n = omega arith in
      let f : place_of s from n ≡ place_of s from at + point_words s * (n - at) = ap (place_of s from) (sym e) ∙ place-add s from at (n - at) in
      let a : points_from s from + point_words s * at ≡ place_of s from at = sym (place_at s from at) in
      let w : point_words s * (n - at) ≡ place_of s from n - place_of s from at = omega arith in
      ap numbers (drop-points (suc s.dim) n at l (points_from s from) g)
      ∙ numbers_points (suc s.dim) (n - at) l (points_from s from + point_words s * at) (omega (arith, place-within s l from n h.inside h.room))
      ∙ (λ j. part l (a j) (w j))

  right_knots_in : from + 1 + at + (count_at l from - at + s.degree + 1) ≤ points_from s from
  right_knots_in = omega (arith, h.room)

  pub fits_right : Fits s (right_of (record { piece = piece_at s l from; at = at }))
  fits_right = record {
    knots = ap length right_knots ∙ length_part l (from + 1 + at) (count_at l from - at + s.degree + 1) (omega (arith, right_knots_in, from-room s from, h.inside.within)) ∙ ap (λ (n : ℕ). n + s.degree + 1) (sym right_long);
    points = omega (arith, right_long, h.room);
    wide = wide-drop (suc s.dim) at (piece_at s l from).points (fits-piece s l from h).wide;
  }

  -- the two slots are apart, or one and the same
  module _ (to : ℕ) (i : Inside s l to) (d : Apart s from to ⊎ (from ≡ to)) where
    -- the points are not touched by the first copy
    points-still : (K : List Float) → length K ≡ count_at l from - at + s.degree + 1
        → part (put l (to + 1) K) (place_of s from at) (place_of s from (count_at l from) - place_of s from at) ≡ part l (place_of s from at) (place_of s from (count_at l from) - place_of s from at)
    points-still K e = part-put-other l (to + 1) K (place_of s from at) (place_of s from (count_at l from) - place_of s from at) (omega (arith, from-room s to, i.within, h.room)) (by d)
      where
        by : Apart s from to ⊎ (from ≡ to) → (place_of s from at + (place_of s from (count_at l from) - place_of s from at) ≤ to + 1) ⊎ (to + 1 + length K ≤ place_of s from at)
        by (inl (inl q)) = inl (omega (arith, place_le s from at (count_at l from) g, place-room s from (count_at l from) h.room))
        by (inl (inr q)) = inr (omega (arith, from-room s to, place-from s from at, h.room))
        by (inr q) = inr (omega (arith, place-from s from at, h.room))

    pub moved_right : (n u v a b c : ℕ) (l₁ l₂ l₃ : List Float) → n ≡ count_at l from → u ≡ knots_from from → v ≡ knots_from to → a ≡ place_of s from at → b ≡ place_of s to 0 → c ≡ place_of s from n
        → l₁ ≡ put l v (part l (u + at) (n - at + s.degree + 1)) → l₂ ≡ put l₁ b (part l₁ a (c - a)) → l₃ ≡ put l₂ to (word (n - at) ∷ [])
        → l₃ ≡ placed s l to (right_of (record { piece = piece_at s l from; at = at }))
    moved_right n u v a b c l₁ l₂ l₃ en eu ev ea eb ec e₁ e₂ e₃ =
        let m : ℕ = count_at l from in
        let P : ℕ = points_from s to in
        let K : List Float = right.knots in
        let N : List Float = numbers right.points in
        let fr : Fits s right = fits_right in
        let kl : length K ≡ m - at + s.degree + 1 = fr.knots ∙ ap (λ (k : ℕ). k + s.degree + 1) right_long in
        let ff : to + length (word (length right.points) ∷ K) ≤ P = fits-front s l to i right fr in
        let fp : P + length N ≤ length l = fits-points s l to i right fr in
        let c' : c ≡ place_of s from m = ec ∙ ap (place_of s from) en in
        let b' : b ≡ P = eb ∙ place_zero s to in
        let x₁ : l₁ ≡ put l (to + 1) K = e₁ ∙ (λ j. put l (ev j) (part l (eu j + at) (en j - at + s.degree + 1))) ∙ ap (put l (to + 1)) (sym right_knots) in
        let pn : part l₁ a (c - a) ≡ N = (λ j. part (x₁ j) (ea j) (c' j - ea j)) ∙ points-still K kl ∙ sym right_numbers in
        let x₂ : l₂ ≡ put (put l (to + 1) K) P N = e₂ ∙ (λ j. put (x₁ j) (b' j) (pn j)) in
        let sw : put (put l (to + 1) K) P N ≡ put (put l P N) (to + 1) K = put-swap l (to + 1) K P N (omega arith) fp (inl (omega arith)) in
        let nn : n - at ≡ length right.points = ap (λ (k : ℕ). k - at) en ∙ sym right_long in
        e₃ ∙ (λ j. put ((x₂ ∙ sw) j) to (word (nn j) ∷ [])) ∙ assembled s l to right i fr

    -- what the code asks, in its own numbers
    module _ (n : ℕ) (en : n ≡ count_at l from) where
      pub knots-asked : (u v : ℕ) → u ≡ knots_from from → v ≡ knots_from to
          → (v + (n - at + s.degree + 1) ≤ length l) × (u + at + (n - at + s.degree + 1) ≤ length l)
      knots-asked u v eu ev = (omega (arith, from-room s to, i.within, h.room), omega (arith, right_knots_in, from-room s from, h.inside.within))

      module _ (a b c : ℕ) (ea : a ≡ place_of s from at) (eb : b ≡ place_of s to 0) (ec : c ≡ place_of s from n) where
        end_is : c ≡ place_of s from (count_at l from)
        end_is = ec ∙ ap (place_of s from) en

        pub points_rise : a ≤ c
        points_rise = omega (arith, end_is, place_le s from at (count_at l from) g)

        points-words : c - a ≡ point_words s * (count_at l from - at)
        points-words =
            let e : at + (count_at l from - at) ≡ count_at l from = omega arith in
            let f : place_of s from (count_at l from) ≡ place_of s from at + point_words s * (count_at l from - at) = ap (place_of s from) (sym e) ∙ place-add s from at (count_at l from - at) in
            omega (arith, end_is)

        pub points-asked : (b + (c - a) ≤ length l) × (a + (c - a) ≤ length l)
        points-asked = (omega (arith, points-words, place_zero s to, room s (count_at l from - at) (omega (arith, h.room)), i.within), omega (arith, points_rise, end_is, place-within s l from (count_at l from) h.inside h.room))

-- what reading the whole curve asks
pub load_fits : (s : Shape) (l ks qs : List Float) (base b : ℕ) → Inside s l base → length ks ≡ s.count + s.degree + 1 → length qs ≡ point_words s * s.count → b ≡ place_of s base 0
    → (b + length qs ≤ length l) × (base + 1 + length ks ≤ length l) × (base < length l)
load_fits s l ks qs base b i ek eq e =
    (omega (arith, place_zero s base, room s s.count (omega arith), i.within), omega (arith, from-room s base, i.within), omega (arith, from-room s base, i.within))
