-- A visit of the piece in a slot: its knots and points, as the code takes them out of the memory, are the piece. Leans on the laws of slots.
use mathlib.Core.Path.{◌≡◌, sym, ap, ◌∙◌}
use mathlib.Core.List.{List, [], append-nil}
use Prim.Native.Nat.{ℕ, suc, ◌+◌, ◌*◌, ◌≤◌}
use native.Mathlib.Nat.{mul_assoc}
use native.Mathlib.Omega.{arith}
use lib.ListN.{length}
use lib.Ieee.{Float}
use Rattle.model.specs.Layout.{points_of}
use Rattle.geometry.specs.Slots.{count_at, numbers, piece_at, Held, Whole}
use Rattle.geometry.specs.declared.slots.Shape.{Shape}
use Rattle.geometry.proofs.Lists.Numbers.{length_numbers, points_numbers}
use Rattle.geometry.proofs.slots.Piece.{count-points, fits-piece}
use Rattle.geometry.proofs.split.Splits.{whole-count}

module _ (s : Shape) (l : List Float) (base : ℕ) (h : Held s l base) where
  module _ (n : ℕ) (N : n ≡ count_at l base) (ps : List Float) (P : ps ≡ numbers (piece_at s l base).points) where
    pub points_back : points_of (suc s.dim) n ps ≡ (piece_at s l base).points
    points_back =
        let e : n ≡ length (piece_at s l base).points = N ∙ sym (count-points s l base h) in
        (λ i. points_of (suc s.dim) (e i) ((P ∙ sym (append-nil (numbers (piece_at s l base).points))) i))
        ∙ points_numbers (suc s.dim) (piece_at s l base).points [] (fits-piece s l base h).wide

    pub points-room : 2 * (suc s.dim * n) ≤ length ps
    points-room =
        let e : n ≡ length (piece_at s l base).points = N ∙ sym (count-points s l base h) in
        let f : length ps ≡ 2 * suc s.dim * n =
        ap length P ∙ length_numbers (suc s.dim) (piece_at s l base).points (fits-piece s l base h).wide ∙ ap (λ (k : ℕ). 2 * suc s.dim * k) (sym e) in
        omega (arith, f, mul_assoc 2 (suc s.dim) n)

  module _ (n : ℕ) (N : n ≡ count_at l base) where
    pub knots-room : (ks : List Float) → ks ≡ (piece_at s l base).knots → n + s.degree + 1 ≤ length ks
    knots-room ks K = omega (arith, ap length K, (fits-piece s l base h).knots, count-points s l base h)

    -- what a visit asks of a piece
    pub visit-asks : Whole s (piece_at s l base) → (1 ≤ n) × (n ≤ 32)
    visit-asks w = let k = whole-count s l base h w in (omega (arith, N, k.0), omega (arith, N, k.1, h.inside.sized.count))
