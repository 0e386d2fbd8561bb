-- One insertion in memory: a blend, the points that move up, the blends from the last one down, and the knots. Leans on the laws of lists and of slots.
use mathlib.Core.Path.{◌≡◌, sym, ap, ◌∙◌}
use mathlib.Core.Bool.{true, false}
use mathlib.Core.List.{List, ◌∷◌, ◌++◌}
use Prim.Native.Nat.{ℕ, suc, ◌+◌, ◌-◌, ◌*◌, ◌≤◌, ◌<◌}
use native.Mathlib.Numerals.{add-one}
use native.Mathlib.Omega.{arith}
use lib.ListN.{length, drop, set}
use lib.Ieee.{Float}
use Rattle.lists.specs.Lists.{part, put}
use Rattle.lists.proofs.Part.{length_part}
use Rattle.lists.proofs.Put.{put-part, put-cons}
use Rattle.math.specs.declared.scalars.Scalar.{Scalar}
use Rattle.math.specs.Scalars.{Arithmetic, is_same, ZERO, ONE}
use Rattle.model.specs.Vector.{interpolate_v}
use Rattle.model.specs.KnotInsertion.{alpha, blend, knots_with}
use Rattle.model.specs.Layout.{flat}
use Rattle.geometry.specs.Slots.{knots_from, place_of, vector_at, knots_at, blend_at, Inside}
use Rattle.geometry.specs.declared.slots.Shape.{Shape}
use Rattle.geometry.proofs.Lists.Copies.{put-wider, take_part, drop-part}
use Rattle.geometry.proofs.slots.Counts.{place_le, place-next, place-room, from-room}
use Rattle.geometry.proofs.Lists.Numbers.{flat_vector}

-- ---- one blend

module _ (ar : Arithmetic) (l : List Float) (a b d : ℕ) (α : Scalar) where
  pub blend_zero : is_same α ZERO ≡ true → a + 2 * d ≤ length l → put l b (part l a (2 * d)) ≡ put l b (flat (blend ar α (vector_at d l a) (vector_at d l b)))
  unfolding blend
  blend_zero e h = rw e (ap (put l b) (sym (flat_vector d l a h)))

  pub blend_one : is_same α ZERO ≡ false → is_same α ONE ≡ true → b + 2 * d ≤ length l → l ≡ put l b (flat (blend ar α (vector_at d l a) (vector_at d l b)))
  unfolding blend
  blend_one e f h = rw (e, f) (sym (ap (put l b) (flat_vector d l b h) ∙ put-part l b (2 * d) h))

  pub blend-mid : is_same α ZERO ≡ false → is_same α ONE ≡ false
      → put l b (flat (interpolate_v ar (vector_at d l a) (vector_at d l b) α)) ≡ put l b (flat (blend ar α (vector_at d l a) (vector_at d l b)))
  unfolding blend
  blend-mid e f = rw (e, f)

-- ---- the knots

-- the knots behind number k have moved up by one, and t is stored
pub knot_in : (l w : List Float) (base f m k : ℕ) (t : Float) → f ≡ knots_from base → w ≡ put l (f + k + 1 + 1) (part l (f + k + 1) (m - k - 1)) → k < m → knots_from base + m < length l
    → set w (f + k + 1) t ≡ put l (knots_from base) (knots_with k t (part l (knots_from base) m))
unfolding knots_with
knot_in l w base f m k t ef e h g =
    let a : ℕ = f + k + 1 in
    let r : List Float = part l a (m - k - 1) in
    let n : length r ≡ m - k - 1 = length_part l a (m - k - 1) (omega arith) in
    let x : f + suc k ≡ a = omega arith in
    let y : m - suc k ≡ m - k - 1 = omega arith in
    let d : drop (suc k) (part l f m) ≡ r = drop-part l f m (suc k) h ∙ (λ j. part l (x j) (y j)) in
    ap (λ (z : List Float). set z a t) (e ∙ ap (λ (i : ℕ). put l i r) (add-one a))
    ∙ put-cons l a r t (omega arith)
    ∙ put-wider l f (suc k) a (t ∷ r) (sym x) (omega arith)
    ∙ ap (put l f) (sym (λ j. take_part l f m (suc k) h j ++ (t ∷ d j)))
    ∙ ap (λ (i : ℕ). put l i (knots_with k t (part l i m))) ef

-- ---- the points that move up

module _ (s : Shape) (l : List Float) (base n k : ℕ) (i : Inside s l base) (h : k < n) (g : n ≤ s.count + s.degree) where
  -- the places of the code, and what it asks of them
  module _ (a b c : ℕ) (ea : a ≡ place_of s base k) (eb : b ≡ place_of s base (k + 1)) (ec : c ≡ place_of s base n) where
    next : b ≡ place_of s base (suc k)
    next = eb ∙ ap (place_of s base) (add-one k)

    pub open_order : (a ≤ b) × (a ≤ c)
    open_order = (omega (arith, next, place-next s base k), omega (arith, place_le s base k n (omega arith)))

    pub open_fits : b + (c - a) ≤ length l
    open_fits = omega (arith, next, place-next s base k, place-next s base n, place_le s base k n (omega arith), place-room s base (suc n) (omega arith), i.within)

    pub open_done : (w : List Float) → w ≡ put l b (part l a (c - a)) → w ≡ put l (place_of s base (suc k)) (part l (place_of s base k) (place_of s base n - place_of s base k))
    open_done w e = e ∙ (λ j. put l (next j) (part l (ea j) (ec j - ea j)))

-- ---- the blend of two points of a slot

-- the knots of n points lie in the memory
pub knots-within : (s : Shape) (l : List Float) (base n : ℕ) → Inside s l base → n ≤ s.count + s.degree + 1 → knots_from base + n + s.degree + 1 ≤ length l
knots-within s l base n i h = omega (arith, from-room s base, i.within)

module _ (s : Shape) (l : List Float) (base n j : ℕ) (t : Float) (i : Inside s l base) (h : j + 1 < n) (g : n ≤ s.count + s.degree + 1) where
  module _ (a b : ℕ) (ea : a ≡ place_of s base j) (eb : b ≡ place_of s base (j + 1)) where
    next_of : b ≡ place_of s base (suc j)
    next_of = eb ∙ ap (place_of s base) (add-one j)

    pub blend-fits : (a + 2 * (s.dim + 1) ≤ b) × (b + 2 * (s.dim + 1) ≤ length l)
    blend-fits = (
      omega (arith, next_of, place-next s base j),
      omega (arith, next_of, place-next s base (suc j), place_le s base (suc (suc j)) n (omega arith), place-room s base n g, i.within),
    )

    pub blend_done : (ar : Arithmetic) (w : List Float) (f : ℕ) (α : Scalar) → f ≡ knots_from base → α ≡ alpha ar s.degree (part l f (f + n + s.degree + 1 - f)) t (j + 1)
        → w ≡ put l b (flat (blend ar α (vector_at (s.dim + 1) l a) (vector_at (s.dim + 1) l b))) → w ≡ put l (place_of s base (suc j)) (flat (blend_at ar s l base n t j))
    unfolding blend_at
    blend_done ar w f α ef e d =
        let k : f + n + s.degree + 1 - f ≡ n + s.degree + 1 = omega arith in
        let u : α ≡ alpha ar s.degree (knots_at s l base n) t (suc j) = e ∙ (λ z. alpha ar s.degree (part l (ef z) (k z)) t (add-one j z)) in
        d ∙ (λ z. put l (next_of z) (flat (blend ar (u z) (vector_at (add-one s.dim z) l (ea z)) (vector_at (add-one s.dim z) l (next_of z)))))
