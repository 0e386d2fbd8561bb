-- The knots and the numbers of the points of a slot, cut out of the memory by the places of the code. Leans on the laws of slots.
use mathlib.Core.Path.{◌≡◌, sym, ap, ◌∙◌}
use mathlib.Core.List.{List}
use Prim.Native.Nat.{ℕ, suc, ◌+◌, ◌-◌, ◌*◌, ◌≤◌}
use native.Mathlib.Omega.{arith}
use lib.ListN.{length}
use lib.Ieee.{Float}
use Rattle.lists.specs.Lists.{part}
use Rattle.geometry.specs.Slots.{point_words, knots_from, points_from, place_of, count_at, numbers, piece_at, Held}
use Rattle.geometry.specs.declared.slots.Shape.{Shape}
use Rattle.geometry.proofs.slots.Counts.{place_zero, place_at, place-within, from-room}
use Rattle.geometry.proofs.Lists.Numbers.{numbers_points}

module _ (s : Shape) (l : List Float) (base m : ℕ) (h : Held s l base) (e : m ≡ count_at l base) where
  pub knots-fit : knots_from base + m + s.degree + 1 ≤ length l
  knots-fit = omega (arith, from-room s base, h.inside.within, h.room)

  pub knots-view : (f : ℕ) → f ≡ knots_from base → part l f (f + m + s.degree + 1 - f) ≡ (piece_at s l base).knots
  unfolding piece_at
  knots-view f ef =
      let k : f + m + s.degree + 1 - f ≡ count_at l base + s.degree + 1 = omega arith in
      λ j. part l (ef j) (k j)

  module _ (a b : ℕ) (ea : a ≡ place_of s base 0) (eb : b ≡ place_of s base m) where
    pub points-order : (a ≤ b) × (b ≤ length l)
    points-order = (omega (arith, place_zero s base, place_at s base m), omega (arith, place-within s l base m h.inside (omega (arith, h.room))))

    pub points-view : part l a (b - a) ≡ numbers (piece_at s l base).points
    unfolding piece_at
    points-view =
        let n : ℕ = count_at l base in
        let f : a ≡ points_from s base = ea ∙ place_zero s base in
        let g : b ≡ points_from s base + point_words s * n = eb ∙ ap (place_of s base) e ∙ place_at s base n in
        let w : b - a ≡ point_words s * n = omega arith in
        (λ j. part l (f j) (w j)) ∙ sym (numbers_points (suc s.dim) n l (points_from s base) (omega (arith, points-order.1)))
