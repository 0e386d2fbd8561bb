-- The doubles of a question, read back from the memory that they were written to. Assumes nothing.
use mathlib.Core.Path.{◌≡◌, refl, sym, ap, ◌∙◌}
use mathlib.Core.List.{List, [], ◌∷◌, ◌++◌, append_assoc, append-nil}
use Prim.Native.Nat.{ℕ, ◌+◌, ◌*◌, ◌≤◌}
use native.Mathlib.Omega.{arith}
use lib.ListN.{length, take, get_or, length-append}
use lib.Seq.{take_at, drop_at}
use lib.Ieee.{Float, nan}
use Rattle.lists.specs.Lists.{part, put}
use Rattle.lists.proofs.Read.{part-put_in, get_or-put}
use Rattle.text.specs.Question.{Sizes, knot_doubles, point_doubles, box_doubles, Numbers}
use Rattle.text.specs.Cursor.{Long, laid, numbers_in}

-- ---- parts of a list that was put together

module _ {A : Type 0} where
  part-middle : (xs ys zs l : List A) (a w : ℕ) → l ≡ xs ++ (ys ++ zs) → length xs ≡ a → length ys ≡ w → part l a w ≡ ys
  part-middle xs ys zs l a w e f g =
      ap (λ (x : List A). part x a w) e ∙ ap (take w) (drop_at xs (ys ++ zs) a f) ∙ take_at ys zs w g

  part-written : (l vs : List A) (a w : ℕ) → a + w ≤ length vs → part (put l 0 vs) a w ≡ part vs a w
  part-written l vs a w h =
      let z : a ≡ 0 + a = omega arith in
      ap (λ (k : ℕ). part (put l 0 vs) k w) z ∙ part-put_in l 0 vs a w h (omega arith)

-- ---- the numbers of a question, read back from the memory that they were written to

module _ (s : Sizes) (q : Numbers) (l m : List Float) (long : Long s q.knots q.points q.box)
    (M : m ≡ put l 0 (laid q)) where
  -- Where the points begin, and where the box does.
  abbrev at-points : ℕ
  at-points = 1 + knot_doubles s

  abbrev at_box : ℕ
  at_box = at-points + point_doubles s * s.count

  joined : laid q ≡ q.resolution ∷ (q.knots ++ (q.points ++ q.box))
  joined = ap (λ (t : List Float). q.resolution ∷ t) (append_assoc q.knots q.points q.box)

  all_long : length (laid q) ≡ at_box + box_doubles s
  all_long =
      omega (
        arith,
        length-append (q.knots ++ q.points) q.box,
        length-append q.knots q.points,
        long.knots_long,
        long.points_long,
        long.box_long,
      )

  cut : (a w : ℕ) → a + w ≤ length (laid q) → part m a w ≡ part (laid q) a w
  cut a w h = ap (λ (x : List Float). part x a w) M ∙ part-written l (laid q) a w h

  knots_back : part m 1 (knot_doubles s) ≡ q.knots
  knots_back =
      cut 1 (knot_doubles s) (omega (arith, all_long))
      ∙ part-middle (q.resolution ∷ []) q.knots (q.points ++ q.box) (laid q) _ _ joined refl long.knots_long

  points_back : part m at-points (point_doubles s * s.count) ≡ q.points
  points_back =
      cut at-points (point_doubles s * s.count) (omega (arith, all_long))
      ∙ part-middle (q.resolution ∷ q.knots) q.points q.box (laid q) at-points _ joined
      (omega (arith, long.knots_long)) long.points_long

  box_back : part m at_box (box_doubles s) ≡ q.box
  box_back =
      let last : laid q ≡ q.resolution ∷ (q.knots ++ q.points ++ (q.box ++ [])) =
      ap (λ (t : List Float). q.resolution ∷ (q.knots ++ q.points ++ t)) (sym (append-nil q.box)) in
      cut at_box (box_doubles s) (omega (arith, all_long))
      ∙ part-middle (q.resolution ∷ (q.knots ++ q.points)) q.box [] (laid q) at_box _ last
      (omega (arith, length-append q.knots q.points, long.knots_long, long.points_long)) long.box_long

  resolution_back : get_or m 0 nan ≡ q.resolution
  resolution_back =
      ap (λ (x : List Float). get_or x 0 nan) M ∙ get_or-put l 0 (laid q) 0 nan (omega (arith, all_long)) (omega arith)

  pub numbers_back : (nodes : ℕ) → q.nodes ≡ nodes → numbers_in s nodes m ≡ q
  numbers_back nodes N =
      λ i. record {
        nodes = sym N i;
        resolution = resolution_back i;
        knots = knots_back i;
        points = points_back i;
        box = box_back i;
      }
