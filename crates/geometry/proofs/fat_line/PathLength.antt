-- That a path is longer than some limit shows in the squares of its steps, with no root taken: where no square is a NaN and one of them exceeds the square of the double above
-- the limit, the sum of the roots exceeds the limit. Sums and roots of doubles that are not negative are not negative, and a sum is at least each of its parts.
use mathlib.Core.Path.{◌≡◌, refl, sym, ap, ◌∙◌, subst}
use mathlib.Core.Bool.{true, false, not}
use mathlib.Core.List.{List, [], ◌∷◌, map, zip_with}
use Prim.Native.Nat.{ℕ, zero, suc, ◌≤◌}
use native.Mathlib.Omega.{arith}
use lib.Dec.{T}
use lib.Ieee.{Float, binary64, fits, is_nan, add, sub, mul, lt, le}
use lib.Ieee.Fits.{add-fits, mul-fits}
use lib.Ieee.Bits.{is_true}
use Rattle.lists.specs.Lists.{tab, foldl}
use Rattle.lists.proofs.Tab.{tab-cons}
use Rattle.lists.proofs.Fold.{foldl-append}
use Rattle.math.specs.Neighbours.{next_up}
use Rattle.math.specs.Picks.{max_f}
use Rattle.math.specs.Root.{sqrt_f}
use Rattle.math.specs.Scalars.{zero_f}
use Rattle.model.specs.Vector.{Vector}
use Rattle.model.specs.FatLine.{cartesian, square, path_length, extent}
use Rattle.geometry.specs.Sizes.{squared, squares_from, squares, steps}
use Rattle.geometry.specs.declared.fat_line.Squares.{Squares}
use Rattle.geometry.proofs.fat_line.Sizes.{with_root, path_roots}
use Rattle.math.proofs.Bools.{yes}
use Rattle.math.proofs.Laws.{number, le_number_l, le_number_r, le_trans, lt→le_f, lt_not_le, lt_le, max_either, max_second, square_nonneg, add_number, add_grows, sqrt_fits, sqrt_nonneg, square_decides}

-- ---- the steps of a path

-- a double that is not below zero, or a NaN
pub record Step (x : Float) : Type 0 where
  pub double : T (fits binary64 x)
  pub above : T (number x) → T (le zero_f x)

zero_step : Step zero_f
zero_step = record { double = unfold fits in tt; above = λ _. unfold le in tt }

square-step : (x : Float) → Step (mul binary64 x x)
square-step x = record { double = mul-fits binary64 x x; above = square_nonneg x }

add_step : (a b : Float) → Step a → Step b → Step (add binary64 a b)
add_step a b A B = record {
  double = add-fits binary64 a b;
  above = λ h.
      let n = add_number a b h in
      le_trans zero_f a (add binary64 a b) (A.above n.0) (add_grows a b A.double B.double (A.above n.0) (B.above n.1)).0;
}

fold_step : (s : Float) → Step s → (a b : List Float) → Step (foldl (λ s x. add binary64 s x) s (zip_with (λ x y. square (sub binary64 y x)) a b))
unfolding foldl zip_with
fold_step s S [] b = S
fold_step s S (x ∷ a) [] = S
fold_step s S (x ∷ a) (y ∷ b) = fold_step (add binary64 s (square (sub binary64 y x))) (add_step s (square (sub binary64 y x)) S (square-step (sub binary64 y x))) a b

pub squared-step : (a b : List Float) → Step (squared a b)
unfolding squared
squared-step a b = fold_step zero_f zero_step a b

module _ (q : ℕ → Float) (good : (j : ℕ) → Step (q j)) where
  -- the sum of the first n squares, the greatest of them, and the sum of their roots
  abbrev pub total_of : ℕ → Float
  total_of n = foldl (λ s x. add binary64 s x) zero_f (tab n q)

  abbrev pub top_of : ℕ → Float
  top_of n = foldl max_f zero_f (tab n q)

  abbrev pub path_of : ℕ → Float
  path_of n = foldl with_root zero_f (tab n q)

  total-snoc : (n : ℕ) → total_of (suc n) ≡ add binary64 (total_of n) (q n)
  unfolding foldl
  total-snoc n = foldl-append (λ s x. add binary64 s x) zero_f (tab n q) (q n ∷ [])

  top-snoc : (n : ℕ) → top_of (suc n) ≡ max_f (top_of n) (q n)
  unfolding foldl
  top-snoc n = foldl-append max_f zero_f (tab n q) (q n ∷ [])

  path-snoc : (n : ℕ) → path_of (suc n) ≡ add binary64 (path_of n) (sqrt_f (q n))
  unfolding foldl
  path-snoc n = foldl-append with_root zero_f (tab n q) (q n ∷ [])

  parts : (n : ℕ) → T (number (total_of (suc n))) → T (number (total_of n)) × T (number (q n))
  parts n h = add_number (total_of n) (q n) (subst (λ (x : Float). T (number x)) (total-snoc n) h)

  -- one step more is no shorter, and no shorter than the step itself
  grows_from : (n : ℕ) → T (number (total_of (suc n))) → T (le zero_f (path_of n)) × T (fits binary64 (path_of n)) → T (le (path_of n) (path_of (suc n))) × T (le (sqrt_f (q n)) (path_of (suc n)))
  grows_from n h s =
      rw (path-snoc n) (add_grows (path_of n) (sqrt_f (q n)) s.1 (sqrt_fits (q n) (good n).double) s.0 (sqrt_nonneg (q n) (good n).double ((good n).above (parts n h).1)))

  path-step : (n : ℕ) → T (number (total_of n)) → T (le zero_f (path_of n)) × T (fits binary64 (path_of n))
  path-step zero h = unfold foldl le fits in (tt, tt)
  path-step (suc n) h =
      let s = path-step n (parts n h).0 in
      (le_trans zero_f (path_of n) (path_of (suc n)) s.0 (grows_from n h s).0, subst (λ (x : Float). T (fits binary64 x)) (sym (path-snoc n)) (add-fits binary64 (path_of n) (sqrt_f (q n))))

  grows : (n : ℕ) → T (number (total_of (suc n))) → T (le (path_of n) (path_of (suc n))) × T (le (sqrt_f (q n)) (path_of (suc n)))
  grows n h = grows_from n h (path-step n (parts n h).0)

  -- where no square is a NaN, one above that of the double next to l makes the path longer than l
  pub path-over : (l : Float) → T (fits binary64 l) → (n : ℕ) → T (number (total_of n)) → T (lt (mul binary64 (next_up l) (next_up l)) (top_of n)) → T (lt l (path_of n))
  path-over l L zero h k =
      let s = mul binary64 (next_up l) (next_up l) in
      let k' : T (lt s zero_f) = unfold foldl in k in
      absurd (lt_not_le s zero_f k' (square_nonneg (next_up l) (le_number_l s zero_f (lt→le_f s zero_f k'))))
  path-over l L (suc n) h k =
      let s = mul binary64 (next_up l) (next_up l) in
      let g = grows n h in
      max_either (λ (x : Float). T (lt s x) → T (lt l (path_of (suc n)))) (top_of n) (q n)
      (λ t. lt_le l (path_of n) (path_of (suc n)) (path-over l L n (parts n h).0 t) g.0)
      (λ t. lt_le l (sqrt_f (q n)) (path_of (suc n)) (square_decides l (q n) L (good n).double t) g.1)
      (subst (λ (x : Float). T (lt s x)) (top-snoc n) k)

-- ---- the control polygon, by the squares of its steps

between-squares : (n : ℕ) (f : ℕ → List Float) → squares_from (f 0) (tab n (λ j. f (suc j))) ≡ tab n (λ j. squared (f j) (f (suc j)))
unfolding squares_from
between-squares zero f = refl
between-squares (suc n) f =
    rw (tab-cons n (λ j. f (suc j)), tab-cons n (λ j. squared (f j) (f (suc j)))) (ap (λ (l : List Float). squared (f 0) (f 1) ∷ l) (between-squares n (λ j. f (suc j))))

pub squares-tab : (n : ℕ) (f : ℕ → List Float) → squares (tab (suc n) f) ≡ tab n (λ j. squared (f j) (f (suc j)))
unfolding squares
squares-tab n f = rw (tab-cons n f) (between-squares n f)

pub exceeds-yes : (dim n : ℕ) (points : List Vector) (f : ℕ → List Float) (l t : Float) (s : Squares) → 1 ≤ n → map (λ q. cartesian dim q) points ≡ tab n f → T (fits binary64 l)
    → t ≡ next_up l → s ≡ steps dim points → lt (mul binary64 t t) s.top ≡ true → is_nan s.total ≡ false → true ≡ lt l (extent dim points)
unfolding steps extent
exceeds-yes dim zero points f l t s h m L p e a b = absurd (omega arith)
exceeds-yes dim (suc n) points f l t s h m L p e a b =
    let q : ℕ → Float = λ j. squared (f j) (f (suc j)) in
    let good : (j : ℕ) → Step (q j) = λ j. squared-step (f j) (f (suc j)) in
    let y = path_of q good n in
    let w : squares (map (λ q. cartesian dim q) points) ≡ tab n q = ap squares m ∙ squares-tab n f in
    let g : path_length (map (λ q. cartesian dim q) points) ≡ y = path_roots (map (λ q. cartesian dim q) points) ∙ ap (foldl with_root zero_f) w in
    let o : s.total ≡ total_of q good n = ap (λ (z : Squares). z.total) e ∙ ap (foldl (λ s x. add binary64 s x) zero_f) w in
    let u : s.top ≡ top_of q good n = ap (λ (z : Squares). z.top) e ∙ ap (foldl max_f zero_f) w in
    let k : T (lt l y) = path-over q good l L n (subst (λ (x : Float). T (number x)) o (yes _ (ap not b)))
    (subst (λ (x : Float). T (lt (mul binary64 x x) (top_of q good n))) p (subst (λ (x : Float). T (lt (mul binary64 t t) x)) u (yes _ a))) in
    rw g (sym (is_true (lt l (max_f zero_f y)) (lt_le l y (max_f zero_f y) k (max_second zero_f y (le_number_r l y (lt→le_f l y k))))))
