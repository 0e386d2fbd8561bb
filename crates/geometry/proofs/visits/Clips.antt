-- Laws of the clip, over plain values: the values of an axis, and what each axis leaves of the hat. Assumes nothing.
use mathlib.Core.Path.{◌≡◌, sym, ap, ◌∙◌}
use mathlib.Core.Bool.{Bool, true, false}
use mathlib.Core.List.{List, ◌∷◌}
use Prim.Native.Nat.{ℕ, suc, ◌+◌, ◌*◌, ◌≤◌, ◌<◌}
use native.Mathlib.Numerals.{add-one}
use native.Mathlib.Omega.{arith}
use lib.ListN.{length, drop, drop_of_length-le}
use lib.Seq.{drop-cons}
use lib.Ieee.{Float}
use Rattle.lists.specs.Lists.{put, tab}
use Rattle.lists.proofs.Put.{put_whole}
use Rattle.lists.proofs.Tab.{length-tab, get_or-tab, map-tab, tab-ext}
use Rattle.math.specs.declared.scalars.Scalar.{Scalar}
use Rattle.math.specs.Scalars.{Arithmetic, absent, could_be_equal, intersect_s}
use Rattle.math.proofs.Bools.{pick_yes, pick_no}
use Rattle.model.specs.Vector.{Vector, coordinate}
use Rattle.model.specs.Layout.{scalar_at, scalars_of, point_at, points_of}
use Rattle.model.specs.FatLine.{fat_line_zeros}
use Rattle.model.specs.Contains.{axis, narrowed, clip}
use Rattle.model.specs.Hat.{Hat}
use Rattle.std.specs.Prelude.{Some, None}

-- ---- the values of an axis

-- The value of point i in axis k.
abbrev pub axis_at_lem : Arithmetic → List Float → ℕ → ℕ → Scalar → ℕ → Scalar
axis_at_lem ar points dim k e i = ar.sub (scalar_at points (suc dim * i + k)) (ar.mul e (scalar_at points (suc dim * i + dim)))

pub axis_at : (ar : Arithmetic) (points : List Float) (dim k i : ℕ) (e q w p r : Scalar) → q ≡ scalar_at points (suc dim * i + k) → w ≡ scalar_at points (suc dim * i + dim) → p ≡ ar.mul e w → r ≡ ar.sub q p → r ≡ axis_at_lem ar points dim k e i
axis_at ar points dim k i e q w p r Q W P R = R ∙ (λ j. ar.sub (Q j) ((P ∙ ap (ar.mul e) W) j))

pub axis-tab : (ar : Arithmetic) (points : List Float) (dim n k : ℕ) (e : Scalar) → k < dim → tab n (axis_at_lem ar points dim k e) ≡ axis ar dim k e (points_of (suc dim) n points)
unfolding axis points_of point_at
axis-tab ar points dim n k e h =
    sym
    (map-tab (λ q. ar.sub (coordinate q k) (ar.mul e (coordinate q dim))) n (λ i. point_at (suc dim) points i)
    ∙ tab-ext n _ (axis_at_lem ar points dim k e) (λ i q j. ar.sub (at i k (omega arith) j) (ar.mul e (at i dim (omega arith) j))))
  where
    at : (i a : ℕ) → a < suc dim → coordinate (point_at (suc dim) points i) a ≡ scalar_at points (suc dim * i + a)
    at i a h = get_or-tab (suc dim) (λ a. scalar_at points (suc dim * i + a)) a absent h

pub axis_done : (ar : Arithmetic) (points : List Float) (l d : List Scalar) (dim n i k : ℕ) (e : Scalar) → k < dim → length l ≡ n → i ≡ n → d ≡ put l 0 (tab i (axis_at_lem ar points dim k e)) → d ≡ axis ar dim k e (points_of (suc dim) n points)
axis_done ar points l d dim n i k e h L g D =
    D
    ∙ ap (λ (m : ℕ). put l 0 (tab m (axis_at_lem ar points dim k e))) g
    ∙ put_whole l (tab n (axis_at_lem ar points dim k e)) (length-tab n (axis_at_lem ar points dim k e) ∙ sym L)
    ∙ axis-tab ar points dim n k e h

-- ---- what one axis leaves

pub narrowed-yes : (hat z s : Scalar) (t : Bool) (zeros : Hat) → zeros ≡ Some z → t ≡ could_be_equal z hat → s ≡ intersect_s hat z → t ≡ true → Some s ≡ narrowed hat zeros
unfolding narrowed
narrowed-yes hat z s t zeros Z T S e = ap (λ (v : Scalar). Some v) S ∙ pick_yes _ _ _ (sym T ∙ e) ∙ sym (ap (narrowed hat) Z)

pub narrowed-no : (hat z : Scalar) (t : Bool) (zeros : Hat) → zeros ≡ Some z → t ≡ could_be_equal z hat → t ≡ false → None ≡ narrowed hat zeros
unfolding narrowed
narrowed-no hat z t zeros Z T e = pick_no _ _ _ (sym T ∙ e) ∙ sym (ap (narrowed hat) Z)

pub narrowed_none : (hat : Scalar) (zeros : Hat) → zeros ≡ None → None ≡ narrowed hat zeros
unfolding narrowed
narrowed_none hat zeros Z = sym (ap (narrowed hat) Z)

-- ---- the axes, one after the other
module _ (ar : Arithmetic) (dim : ℕ) (ps : List Vector) (ξ : List Scalar) (box : List Float) where
  -- What the axes from number k on leave of a hat.
  abbrev pub left : Scalar → ℕ → Hat
  left hat k = clip ar dim ps ξ hat k (drop k (scalars_of dim box))

  module _ (hat e : Scalar) (r : Hat) (k : ℕ) (h : k < dim) (E : e ≡ scalar_at box k) (R : r ≡ narrowed hat (fat_line_zeros ar ξ (axis ar dim k e ps))) where
    abbrev go : Hat → Hat
    go z = elim z [ None ↦ None | Some g ↦ clip ar dim ps ξ g (suc k) (drop (suc k) (scalars_of dim box)) ]

    opened : go r ≡ left hat k
    unfolding clip
    opened =
        let f : drop k (scalars_of dim box) ≡ e ∷ drop (suc k) (scalars_of dim box) = drop-cons (scalars_of dim box) k absent (rw (length-tab dim (λ j. scalar_at box j)) h)
        ∙ ap (λ (v : Scalar). v ∷ drop (suc k) (scalars_of dim box)) (get_or-tab dim (λ j. scalar_at box j) k absent h ∙ sym E) in
        ap go R ∙ sym (ap (clip ar dim ps ξ hat k) f)

    pub left_none : (w : Hat) → r ≡ None → left hat k ≡ w → None ≡ w
    left_none w e q = sym (ap go e) ∙ opened ∙ q

    pub left_next : (g : Scalar) (w : Hat) → r ≡ Some g → left hat k ≡ w → left g (k + 1) ≡ w
    left_next g w e q = ap (λ (m : ℕ). left g m) (add-one k) ∙ sym (ap go e) ∙ opened ∙ q

  pub left_done : (hat : Scalar) (k : ℕ) (w : Hat) → dim ≤ k → left hat k ≡ w → Some hat ≡ w
  unfolding clip
  left_done hat k w h q = sym (ap (clip ar dim ps ξ hat k) (drop_of_length-le (scalars_of dim box) {i = k} (rw (length-tab dim (λ j. scalar_at box j)) h))) ∙ q
