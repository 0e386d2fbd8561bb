-- Blends and points between of neighbouring points, from the last one down, each in the place of its upper point. Leans on the laws of lists and of slots.
use mathlib.Core.Path.{◌≡◌, sym, ap, ◌∙◌}
use mathlib.Core.Logic.{inl}
use mathlib.Core.List.{List, ◌∷◌, ◌++◌}
use Prim.Native.Nat.{ℕ, zero, suc, ◌+◌, ◌-◌, ◌*◌, ◌≤◌, ◌<◌}
use native.Mathlib.Nat.{not-suc-le-zero, add-zero}
use native.Mathlib.Omega.{arith}
use lib.ListN.{length}
use lib.Ieee.{Float, nan}
use Rattle.lists.specs.Lists.{put, tab}
use Rattle.lists.proofs.Tab.{length-tab, tab-cons, tab-ext}
use Rattle.lists.proofs.Put.{put-nil}
use Rattle.lists.proofs.Read.{part-put-other, get_or-put-before}
use Rattle.math.specs.declared.scalars.Scalar.{Scalar}
use Rattle.math.specs.Scalars.{Arithmetic}
use Rattle.model.specs.Vector.{Vector, interpolate_v}
use Rattle.model.specs.KnotInsertion.{alpha, blend}
use Rattle.model.specs.Layout.{flat}
use Rattle.geometry.specs.Slots.{point_words, place_of, vector_at, knots_at, blend_at, between_at, numbers}
use Rattle.geometry.specs.declared.slots.Shape.{Shape}
use Rattle.geometry.proofs.Lists.Copies.{put_front}
use Rattle.geometry.proofs.slots.Counts.{place-add, place-next, place-from}
use Rattle.geometry.proofs.Lists.Numbers.{length-flat, length_numbers, length_vector, vector_same, numbers_nil, numbers_cons}
use Rattle.geometry.proofs.knot_insertion.Wide.{length-between, length-blend, wide-tab}

-- a point in front of what was written
pub vector_before : (D : ℕ) (l : List Float) (a : ℕ) (vs : List Float) (b : ℕ) → b + 2 * D ≤ a → a ≤ length l → vector_at D (put l a vs) b ≡ vector_at D l b
vector_before D l a vs b h g = vector_same D (put l a vs) l b (λ i k. get_or-put-before l a vs (b + i) nan (omega arith) g)

-- ---- points that become what F makes of them, from the last one down

-- What is made of points j and j + 1 of a slot has as many intervals as they, and is made of them and of what stands in front of them.
pub record Made (s : Shape) (base : ℕ) (F : List Float → ℕ → Vector) : Type 0 where
  pub wide : (l : List Float) (j : ℕ) → length (F l j) ≡ suc s.dim
  pub before : (l : List Float) (a : ℕ) (vs : List Float) (j : ℕ) → place_of s base (suc (suc j)) ≤ a → a + length vs ≤ length l → F (put l a vs) j ≡ F l j

module _ (s : Shape) (base : ℕ) (F : List Float → ℕ → Vector) (made : Made s base F) (l : List Float) (k : ℕ) where
  -- What is made of the points from number i on, up to point k.
  abbrev pub makes : ℕ → List Vector
  makes i = tab (k - i) (λ j. F l (i + j))

  pub makes_long : (i : ℕ) → length (numbers (makes i)) ≡ point_words s * (k - i)
  makes_long i =
      length_numbers (suc s.dim) (makes i) (wide-tab (suc s.dim) (k - i) _ (λ j h. made.wide l (i + j)))
      ∙ ap (λ (m : ℕ). point_words s * m) (length-tab (k - i) (λ j. F l (i + j)))

  -- before the first turn
  pub makes_none : l ≡ put l (place_of s base (suc k)) (numbers (makes k))
  makes_none =
      let e : k - k ≡ 0 = omega arith in
      sym (ap (λ (m : ℕ). put l (place_of s base (suc k)) (numbers (tab m (λ j. F l (k + j))))) e
      ∙ ap (put l (place_of s base (suc k))) numbers_nil
      ∙ put-nil l (place_of s base (suc k)))

  makes-more : (m : ℕ) → suc m ≤ k → numbers (makes m) ≡ flat (F l m) ++ numbers (makes (suc m))
  makes-more m h =
      let e : k - m ≡ suc (k - suc m) = omega arith in
      let f : ℕ → Vector = λ j. F l (m + j) in
      ap (λ (z : ℕ). numbers (tab z f)) e
      ∙ ap numbers (tab-cons (k - suc m) f ∙ (λ i. F l (add-zero m i) ∷ tab-ext (k - suc m) (λ j. f (suc j)) (λ j. F l (suc m + j)) (λ j g. ap (F l) (shift m j)) i))
      ∙ numbers_cons (F l m) (makes (suc m))
    where
      shift : (m j : ℕ) → m + suc j ≡ suc m + j
      shift m j = omega arith

  -- one turn
  pub makes_turn : (i : ℕ) (w y : List Float) → 0 < i → i ≤ k → place_of s base (suc k) ≤ length l → w ≡ put l (place_of s base (suc i)) (numbers (makes i))
      → y ≡ put w (place_of s base (suc (i - 1))) (flat (F w (i - 1))) → y ≡ put l (place_of s base (suc (i - 1))) (numbers (makes (i - 1)))
  makes_turn zero w y p h g e f = absurd (not-suc-le-zero p)
  makes_turn (suc m) w y p h g e f =
      let P : ℕ = place_of s base (suc m) in
      let Q : ℕ = place_of s base (suc (suc m)) in
      let X : List Float = numbers (makes (suc m)) in
      let B : List Float = flat (F l m) in
      let lx : length X ≡ point_words s * (k - suc m) = makes_long (suc m) in
      let lb : length B ≡ point_words s = length-flat (F l m) ∙ ap (λ (z : ℕ). 2 * z) (made.wide l m) in
      let at : suc (suc m) + (k - suc m) ≡ suc k = omega arith in
      let top : Q + length X ≡ place_of s base (suc k) = ap (λ (z : ℕ). Q + z) lx ∙ sym (place-add s base (suc (suc m)) (k - suc m)) ∙ ap (place_of s base) at in
      let z : suc m - 1 ≡ m = omega arith in
      let same : F w m ≡ F l m = ap (λ (v : List Float). F v m) e ∙ made.before l Q X m (omega arith) (omega arith) in
      rw z at f
      ∙ (λ j. put (e j) P (flat (same j)))
      ∙ put_front l P Q B X (omega (arith, place-next s base (suc m))) (omega arith)
      ∙ ap (put l P) (sym (makes-more m h))
      ∙ ap (λ (u : ℕ). put l (place_of s base (suc u)) (numbers (makes u))) (sym z)

  -- after the last turn
  pub makes_done : (p i : ℕ) → p ≤ k → i ≡ k - p → put l (place_of s base (suc i)) (numbers (makes i)) ≡ put l (place_of s base (suc (k - p))) (numbers (tab p (λ j. F l (k - p + j))))
  makes_done p i h e =
      let z : k - (k - p) ≡ p = omega arith in
      ap (λ (u : ℕ). put l (place_of s base (suc u)) (numbers (makes u))) e
      ∙ ap (λ (m : ℕ). put l (place_of s base (suc (k - p))) (numbers (tab m (λ j. F l (k - p + j))))) z

-- ---- blends

module _ (ar : Arithmetic) (s : Shape) (base n : ℕ) (t : Float) (r : n ≤ s.count + s.degree + 1) where
  blend-wide : (l : List Float) (j : ℕ) → length (blend_at ar s l base n t j) ≡ suc s.dim
  unfolding blend_at
  blend-wide l j = length-blend ar (suc s.dim) _ _ _ (length_vector (suc s.dim) l (place_of s base j)) (length_vector (suc s.dim) l (place_of s base (suc j)))

  blend-before : (l : List Float) (a : ℕ) (vs : List Float) (j : ℕ) → place_of s base (suc (suc j)) ≤ a → a + length vs ≤ length l → blend_at ar s (put l a vs) base n t j ≡ blend_at ar s l base n t j
  unfolding blend_at
  blend-before l a vs j h g =
      let D : ℕ = suc s.dim in
      let e : knots_at s (put l a vs) base n ≡ knots_at s l base n = part-put-other l a vs (base + 1) (n + s.degree + 1) g (inl (omega (arith, place-from s base (suc (suc j))))) in
      let u : vector_at D (put l a vs) (place_of s base j) ≡ vector_at D l (place_of s base j)
      = vector_before D l a vs (place_of s base j) (omega (arith, place-next s base j, place-next s base (suc j))) (omega arith) in
      let v : vector_at D (put l a vs) (place_of s base (suc j)) ≡ vector_at D l (place_of s base (suc j))
      = vector_before D l a vs (place_of s base (suc j)) (omega (arith, place-next s base (suc j))) (omega arith) in
      λ i. blend ar (alpha ar s.degree (e i) t (suc j)) (u i) (v i)

  pub blend-made : Made s base (λ l j. blend_at ar s l base n t j)
  blend-made = record { wide = blend-wide; before = blend-before }

-- ---- points between

module _ (ar : Arithmetic) (s : Shape) (base : ℕ) (α : Scalar) where
  between-wide : (l : List Float) (j : ℕ) → length (between_at ar s l base α j) ≡ suc s.dim
  unfolding between_at
  between-wide l j = length-between ar (suc s.dim) _ _ α (length_vector (suc s.dim) l (place_of s base j)) (length_vector (suc s.dim) l (place_of s base (suc j)))

  between-before : (l : List Float) (a : ℕ) (vs : List Float) (j : ℕ) → place_of s base (suc (suc j)) ≤ a → a + length vs ≤ length l → between_at ar s (put l a vs) base α j ≡ between_at ar s l base α j
  unfolding between_at
  between-before l a vs j h g =
      let D : ℕ = suc s.dim in
      let u : vector_at D (put l a vs) (place_of s base j) ≡ vector_at D l (place_of s base j)
      = vector_before D l a vs (place_of s base j) (omega (arith, place-next s base j, place-next s base (suc j))) (omega arith) in
      let v : vector_at D (put l a vs) (place_of s base (suc j)) ≡ vector_at D l (place_of s base (suc j))
      = vector_before D l a vs (place_of s base (suc j)) (omega (arith, place-next s base (suc j))) (omega arith) in
      λ i. interpolate_v ar (u i) (v i) α

  pub between-made : Made s base (λ l j. between_at ar s l base α j)
  between-made = record { wide = between-wide; before = between-before }
