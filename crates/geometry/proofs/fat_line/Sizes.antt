-- Sizes of a piece, over plain values: at most three coordinates one after the other, the path from point to point, and tests that leave early.
use mathlib.Core.Path.{◌≡◌, refl, sym, ap, ◌∙◌}
use mathlib.Core.Bool.{Bool, true, false, not, cond, ◌&&◌, ◌||◌, false≢true}
use mathlib.Core.List.{List, [], ◌∷◌, map, zip_with}
use Prim.Native.Nat.{ℕ, zero, suc, ◌+◌, ◌≤◌, ◌<◌}
use native.Mathlib.Numerals.{add-one}
use native.Mathlib.Omega.{arith}
use lib.ListN.{take, drop, drop_of_length-le}
use lib.Seq.{drop-cons}
use lib.Dec.{ltb}
use lib.Ieee.{Float, nan, inf, fin, binary64, is_nan, add, sub, lt}
use lib.Ieee.Bits.{is_true}
use Rattle.lists.specs.Lists.{tab, foldl}
use Rattle.lists.proofs.Tab.{length-tab, tab-cons, get_or-tab, map-tab}
use Rattle.lists.proofs.Fold.{foldl-tab}
use Rattle.math.specs.Picks.{max_f}
use Rattle.math.specs.Root.{sqrt_f}
use Rattle.math.specs.Scalars.{zero_f, sharp, middle, width_s}
use Rattle.math.specs.declared.scalars.Scalar.{Scalar}
use Rattle.math.proofs.Bools.{yes}
use Rattle.math.proofs.Laws.{le_lt, max_left}
use Rattle.geometry.specs.declared.fat_line.Position.{Position}
use Rattle.model.specs.Layout.{scalar_at, scalars_of, point_at, points_of}
use Rattle.geometry.specs.Sizes.{position_of, squared, squares_from, squares, steps}
use Rattle.geometry.specs.declared.fat_line.Squares.{Squares}
use Rattle.model.specs.FatLine.{cartesian, square, distance, distances, path_length, extent, to_f64, widest, carried_by, carried_width}

-- ---- at most three coordinates

-- a list of them, from three numbers of which those from dim on are not used
pub three : (dim : ℕ) (f : ℕ → Float) (x y z : Float) → dim ≤ 3 → x ≡ cond (ltb 0 dim) (f 0) zero_f → y ≡ cond (ltb 1 dim) (f 1) zero_f → z ≡ cond (ltb 2 dim) (f 2) zero_f
    → take dim (x ∷ y ∷ z ∷ []) ≡ tab dim f
three zero f x y z h p q r = refl
three (suc zero) f x y z h p q r = rw p
three (suc (suc zero)) f x y z h p q r = rw (p, q)
three (suc (suc (suc zero))) f x y z h p q r = rw (p, q, r)
three (suc (suc (suc (suc n)))) f x y z h p q r = absurd (omega arith)

-- a fold over them, step by step, where a step from dim on leaves what there is
pub fold-three : {A B : Type 0} (g : B → A → B) (dim : ℕ) (f : ℕ → A) (b c d e : B) → dim ≤ 3
    → c ≡ cond (ltb 0 dim) (g b (f 0)) b → d ≡ cond (ltb 1 dim) (g c (f 1)) c → e ≡ cond (ltb 2 dim) (g d (f 2)) d → e ≡ foldl g b (tab dim f)
unfolding foldl
fold-three g zero f b c d e h p q r = r ∙ q ∙ p
fold-three g (suc zero) f b c d e h p q r = r ∙ q ∙ p
fold-three g (suc (suc zero)) f b c d e h p q r = r ∙ q ∙ ap (λ x. g x (f 1)) p
fold-three g (suc (suc (suc zero))) f b c d e h p q r = r ∙ ap (λ x. g x (f 2)) (q ∙ ap (λ x. g x (f 1)) p)
fold-three g (suc (suc (suc (suc n)))) f b c d e h p q r = absurd (omega arith)

-- number k of a position
pub number : Position → ℕ → Float
number a zero = a.x
number a (suc zero) = a.y
number a (suc (suc k)) = a.z

-- two of them together
pub zip-three : (g : Float → Float → Float) (dim : ℕ) (a b : Position) → dim ≤ 3 → zip_with g (position_of dim a) (position_of dim b) ≡ tab dim (λ k. g (number a k) (number b k))
unfolding zip_with number
zip-three g zero a b h = refl
zip-three g (suc zero) a b h = refl
zip-three g (suc (suc zero)) a b h = refl
zip-three g (suc (suc (suc zero))) a b h = refl
zip-three g (suc (suc (suc (suc n)))) a b h = absurd (omega arith)

-- the square of the distance of two positions, by at most three squares
pub squared-three : (dim : ℕ) (a b : Position) (s t u : Float) → dim ≤ 3
    → s ≡ cond (ltb 0 dim) (add binary64 zero_f (square (sub binary64 b.x a.x))) zero_f
    → t ≡ cond (ltb 1 dim) (add binary64 s (square (sub binary64 b.y a.y))) s
    → u ≡ cond (ltb 2 dim) (add binary64 t (square (sub binary64 b.z a.z))) t
    → u ≡ squared (position_of dim a) (position_of dim b)
unfolding squared number
squared-three dim a b s t u h p q o =
    let g : Float → Float → Float = λ x y. square (sub binary64 y x) in
    rw (zip-three g dim a b h) (fold-three (λ s x. add binary64 s x) dim (λ k. g (number a k) (number b k)) zero_f s t u h p q o)

-- the distance is its root
pub distance_is : (a b : List Float) → sqrt_f (squared a b) ≡ distance a b
unfolding squared distance
distance_is a b = refl

-- ---- the path from point to point

-- the root of the square is added
abbrev pub with_root : Float → Float → Float
with_root s x = add binary64 s (sqrt_f x)

-- the length of the path, by the squares of its steps
roots_from : (s : Float) (a : List Float) (l : List (List Float)) → foldl (λ s x. add binary64 s x) s (distances a l) ≡ foldl with_root s (squares_from a l)
unfolding foldl distances distance squares_from squared
roots_from s a [] = refl
roots_from s a (b ∷ l) = roots_from (with_root s (squared a b)) b l

pub path_roots : (l : List (List Float)) → path_length l ≡ foldl with_root zero_f (squares l)
unfolding path_length squares foldl
path_roots [] = refl
path_roots (a ∷ l) = roots_from zero_f a l

-- what a fold over the squares of the steps makes of those from place i on
pub steps_from : (Float → Float → Float) → List (List Float) → Float → List Float → ℕ → Float
steps_from g l s a i = foldl g s (squares_from a (drop i l))

module _ (g : Float → Float → Float) (n : ℕ) (f : ℕ → List Float) where
  pub steps-start : (a : List Float) (z : Float) → 1 ≤ n → a ≡ f 0 → steps_from g (tab n f) z a 1 ≡ foldl g z (squares (tab n f))
  unfolding steps_from squares
  steps-start a z h e = by n h
    where
      by : (n : ℕ) → 1 ≤ n → foldl g z (squares_from a (drop 1 (tab n f))) ≡ foldl g z (squares (tab n f))
      by zero h = absurd (omega arith)
      by (suc n) h = rw (tab-cons n f, e)

  pub steps_turn : (s d r : Float) (a b : List Float) (i : ℕ) (w : Float) → i < n → b ≡ f i → d ≡ squared a b → r ≡ g s d → steps_from g (tab n f) s a i ≡ w → steps_from g (tab n f) r b (i + 1) ≡ w
  unfolding steps_from squares_from foldl
  steps_turn s d r a b i w h p q e inv =
      let k : drop i (tab n f) ≡ f i ∷ drop (i + 1) (tab n f) = rw (add-one, drop-cons (tab n f) i [] (rw length-tab h), get_or-tab n f i [] h) in
      rw (e, q, p) (ap (λ (l : List (List Float)). foldl g s (squares_from a l)) (sym k) ∙ inv)

  pub steps_end : (s : Float) (a : List Float) (i : ℕ) → n ≤ i → steps_from g (tab n f) s a i ≡ s
  unfolding steps_from squares_from foldl
  steps_end s a i h = rw (drop_of_length-le (tab n f) {i = i} (rw length-tab h))

-- ---- three tests, each made where those before it passed
module _ (a b c : Bool) where
  pub first_failed_lem : a ≡ false → false ≡ (a && b && c)
  first_failed_lem e = rw e

  pub second_failed : a ≡ true → b ≡ false → false ≡ (a && b && c)
  second_failed e f = rw (e, f)

  pub both-passed : a ≡ true → b ≡ true → c ≡ (a && b && c)
  both-passed e f = rw (e, f)

  -- the same, made from the last on
  pub third_failed : c ≡ false → false ≡ (a && b && c)
  third_failed e = rw e (by (a && b))
    where
      by : (t : Bool) → false ≡ (t && false)
      by true = refl
      by false = refl

  pub middle_failed : b ≡ false → false ≡ (a && b && c)
  middle_failed e = rw e (by a)
    where
      by : (t : Bool) → false ≡ (t && false && c)
      by true = refl
      by false = refl

  pub first_last : b ≡ true → c ≡ true → a ≡ (a && b && c)
  first_last e f = rw (e, f) (by a)
    where
      by : (t : Bool) → t ≡ (t && true && true)
      by true = refl
      by false = refl

-- ---- what exceeds the greater of two exceeds both

nan_below : (x y : Float) → is_nan x ≡ true → lt x y ≡ false
unfolding lt is_nan
nan_below nan y e = refl
nan_below (inf s) y e = absurd (false≢true e)
nan_below (fin s m k) y e = absurd (false≢true e)

module _ (c r s : Float) (w : Bool) where
  pub halves_nan : is_nan c ≡ true → false ≡ (lt (max_f c r) s && lt c s && w)
  halves_nan e = middle_failed (lt (max_f c r) s) (lt c s) w (nan_below c s e)

  pub halves-both : is_nan c ≡ false → w ≡ true → lt (max_f c r) s ≡ (lt (max_f c r) s && lt c s && w)
  halves-both e f = by (lt (max_f c r) s) refl
    where
      by : (b : Bool) → lt (max_f c r) s ≡ b → b ≡ (b && lt c s && w)
      by false k = refl
      by true k = rw (is_true (lt c s) (le_lt c (max_f c r) s (max_left c r (yes _ (ap not e))) (yes _ k)), f)

-- ---- two tests, the second made where the first failed
pub or_yes : (a b r : Bool) → r ≡ a → r ≡ true → r ≡ (a || b)
or_yes a b r e f = rw (sym e ∙ f) f

pub or_no : (a b r s : Bool) → r ≡ a → r ≡ false → s ≡ b → s ≡ (a || b)
or_no a b r s e f g = rw (sym e ∙ f) g

-- ---- the sizes of the points that are lent

-- the place of each point
abbrev pub places : ℕ → List Float → ℕ → List Float
places dim l j = cartesian dim (point_at (suc dim) l j)

pub places_of : (dim n : ℕ) (l : List Float) → map (λ q. cartesian dim q) (points_of (suc dim) n l) ≡ tab n (places dim l)
unfolding points_of
places_of dim n l = map-tab (λ q. cartesian dim q) n (λ j. point_at (suc dim) l j)

pub extent_end : (dim n : ℕ) (l : List Float) (s m : Float) (a : List Float) (i : ℕ) → n ≤ i → steps_from with_root (tab n (places dim l)) s a i ≡ foldl with_root zero_f (squares (tab n (places dim l)))
    → m ≡ max_f zero_f s → m ≡ extent dim (points_of (suc dim) n l)
unfolding extent
extent_end dim n l s m a i h inv e =
    e ∙ ap (max_f zero_f) (sym (steps_end with_root n (places dim l) s a i h) ∙ inv ∙ sym (ap path_length (places_of dim n l) ∙ path_roots (tab n (places dim l))))

pub steps_done : (dim n : ℕ) (l : List Float) (t m : Float) (a : List Float) (i : ℕ) → n ≤ i
    → steps_from (λ s x. add binary64 s x) (tab n (places dim l)) t a i ≡ foldl (λ s x. add binary64 s x) zero_f (squares (tab n (places dim l)))
    → steps_from max_f (tab n (places dim l)) m a i ≡ foldl max_f zero_f (squares (tab n (places dim l)))
    → ◌≡◌ {A = Squares} (record { total = t; top = m }) (steps dim (points_of (suc dim) n l))
unfolding steps
steps_done dim n l t m a i h p q =
    rw (places_of dim n l)
    (λ k. record {
      total = (sym (steps_end (λ s x. add binary64 s x) n (places dim l) t a i h) ∙ p) k;
      top = (sym (steps_end max_f n (places dim l) m a i h) ∙ q) k;
    })

-- the widths of the first n points
abbrev pub carried_of : ℕ → List Float → ℕ → Float
carried_of dim l n = foldl (λ w q. carried_by dim w q) zero_f (tab n (λ j. point_at (suc dim) l j))

pub carried_turn : (dim : ℕ) (l : List Float) (i : ℕ) (w r : Float) → w ≡ carried_of dim l i → r ≡ carried_by dim w (point_at (suc dim) l i) → r ≡ carried_of dim l (i + 1)
carried_turn dim l i w r e f =
    f ∙ ap (λ (v : Float). carried_by dim v (point_at (suc dim) l i)) e ∙ foldl-tab (λ w q. carried_by dim w q) zero_f i (λ j. point_at (suc dim) l j)

pub carried_end : (dim n : ℕ) (l : List Float) (i : ℕ) (w : Float) → i ≡ n → w ≡ carried_of dim l i → w ≡ carried_width dim (points_of (suc dim) n l)
unfolding carried_width points_of
carried_end dim n l i w h e = e ∙ ap (carried_of dim l) h

-- the widths of the first n intervals
abbrev pub widest_of : List Float → ℕ → Float
widest_of l n = foldl max_f zero_f (tab n (λ j. to_f64 (width_s (scalar_at l j))))

pub widest_turn : (l : List Float) (i : ℕ) (b r : Float) (x w : Scalar) (v : Float) → b ≡ widest_of l i → x ≡ scalar_at l i → w ≡ sharp (width_s x) → v ≡ middle w → r ≡ max_f b v → r ≡ widest_of l (i + 1)
unfolding to_f64
widest_turn l i b r x w v e f g h k =
    k ∙ (λ t. max_f (e t) ((h ∙ ap middle (g ∙ ap (λ (s : Scalar). sharp (width_s s)) f)) t)) ∙ foldl-tab max_f zero_f i (λ j. to_f64 (width_s (scalar_at l j)))

pub widest_end : (l : List Float) (n i : ℕ) (b : Float) → i ≡ n → b ≡ widest_of l i → b ≡ widest (map (λ e. to_f64 (width_s e)) (scalars_of n l))
unfolding widest
widest_end l n i b h e = e ∙ ap (widest_of l) h ∙ ap (foldl max_f zero_f) (sym (map-tab (λ e. to_f64 (width_s e)) n (scalar_at l)))
