-- A loop that writes a point between two points, interval by interval. Leans on the laws of lists.
use mathlib.Core.Path.{◌≡◌, refl, sym, ap, ◌∙◌, subst}
use mathlib.Core.Bool.{Bool, true, false, not}
use mathlib.Core.Logic.{◌⊎◌, inl, inr, ⊎_elim}
use mathlib.Core.List.{List, [], ◌∷◌}
use Prim.Native.Nat.{ℕ, ◌+◌, ◌*◌, ◌≤◌, ◌<◌}
use native.Mathlib.Omega.{arith}
use lib.Dec.{T, leb, leb→le, nleb→lt}
use lib.ListN.{length}
use lib.Ieee.{Float, nan}
use Rattle.lists.specs.Lists.{put, tab}
use Rattle.lists.proofs.Tab.{length-tab, zip_with-tab}
use Rattle.lists.proofs.Put.{put-put}
use Rattle.lists.proofs.Read.{get_or-put-before, get_or-put-after}
use Rattle.math.specs.declared.scalars.Scalar.{Scalar}
use Rattle.math.specs.Scalars.{Arithmetic, interpolate_s}
use Rattle.model.specs.Vector.{Vector, interpolate_v}
use Rattle.model.specs.Layout.{flat}
use Rattle.geometry.specs.Slots.{scalar_from, vector_at}
use Rattle.geometry.proofs.Lists.Numbers.{length-flat, flat-snoc, vector_tab}

-- an interval beside what was written
pub scalar-put : (l : List Float) (c : ℕ) (vs : List Float) (a : ℕ) → c + length vs ≤ length l → (a + 1 < c) ⊎ (c + length vs ≤ a) → scalar_from (put l c vs) a ≡ scalar_from l a
scalar-put l c vs a h s = ⊎_elim
    (λ (k : a + 1 < c). λ i. record { lo = get_or-put-before l c vs a nan (omega arith) (omega arith) i; hi = get_or-put-before l c vs (a + 1) nan (omega arith) (omega arith) i })
    (λ (k : c + length vs ≤ a). λ i. record { lo = get_or-put-after l c vs a nan (omega arith) h i; hi = get_or-put-after l c vs (a + 1) nan (omega arith) h i }) s

-- w words at x lie in front of the place c, or begin at or behind it
pub clear_of : (x w c : ℕ) → (x < c → x + w ≤ c) → (x + w ≤ c) ⊎ (c ≤ x)
clear_of x w c h = by (leb c x) refl
  where
    by : (b : Bool) → leb c x ≡ b → (x + w ≤ c) ⊎ (c ≤ x)
    by true e = inr (leb→le c x (subst T (sym e) tt))
    by false e = inl (h (nleb→lt c x (subst (λ (v : Bool). T (not v)) (sym e) tt)))

module _ (ar : Arithmetic) (l : List Float) (a b c d : ℕ) (α : Scalar) where
  -- Interval number k of the point between.
  abbrev pub mixed : ℕ → Scalar
  mixed k = interpolate_s ar (scalar_from l (a + 2 * k)) (scalar_from l (b + 2 * k)) α

  -- The memory after k intervals.
  abbrev pub after : ℕ → List Float
  after k = put l c (flat (tab k (λ j. interpolate_s ar (scalar_from l (a + 2 * j)) (scalar_from l (b + 2 * j)) α)))

  module _ (ha : (a + 2 * d ≤ c) ⊎ (c ≤ a)) (hb : (b + 2 * d ≤ c) ⊎ (c ≤ b)) (room : c + 2 * d ≤ length l) where
    long : (k : ℕ) → length (flat (tab k mixed)) ≡ 2 * k
    long k = length-flat (tab k mixed) ∙ ap (λ (n : ℕ). 2 * n) (length-tab k mixed)

    -- what a turn reads is what stood there
    pub reads : (x k : ℕ) → (x + 2 * d ≤ c) ⊎ (c ≤ x) → k < d → scalar_from (after k) (x + 2 * k) ≡ scalar_from l (x + 2 * k)
    reads x k s h = scalar-put l c (flat (tab k mixed)) (x + 2 * k) (omega (arith, long k)) (either s)
      where
        either : (x + 2 * d ≤ c) ⊎ (c ≤ x) → (x + 2 * k + 1 < c) ⊎ (c + length (flat (tab k mixed)) ≤ x + 2 * k)
        either (inl g) = inl (omega arith)
        either (inr g) = inr (omega (arith, long k))

    -- one turn
    pub turn : (k : ℕ) (w y : List Float) (p q r : Scalar) → k < d → w ≡ after k → p ≡ scalar_from w (a + 2 * k) → q ≡ scalar_from w (b + 2 * k) → r ≡ interpolate_s ar p q α
        → y ≡ put w (c + 2 * k) (r.lo ∷ r.hi ∷ []) → y ≡ after (k + 1)
    turn k w y p q r h e ep eq er ey =
        let v : List Float = flat (tab k mixed) in
        let at : c + 2 * k ≡ c + length v = omega (arith, long k) in
        let pa : p ≡ scalar_from l (a + 2 * k) = ep ∙ ap (λ (z : List Float). scalar_from z (a + 2 * k)) e ∙ reads a k ha h in
        let qb : q ≡ scalar_from l (b + 2 * k) = eq ∙ ap (λ (z : List Float). scalar_from z (b + 2 * k)) e ∙ reads b k hb h in
        let rm : r ≡ mixed k = er ∙ (λ i. interpolate_s ar (pa i) (qb i) α) in
        ey
        ∙ (λ i. put (e i) (at i) ((rm i).lo ∷ (rm i).hi ∷ []))
        ∙ put-put l c v ((mixed k).lo ∷ (mixed k).hi ∷ []) (omega (arith, long k))
        ∙ ap (put l c) (sym (flat-snoc k mixed))

  -- after the last turn
  pub done : after d ≡ put l c (flat (interpolate_v ar (vector_at d l a) (vector_at d l b) α))
  unfolding interpolate_v
  done = rw (vector_tab d l a, vector_tab d l b) (ap (λ (v : Vector). put l c (flat v)) (sym (zip_with-tab (λ x y. interpolate_s ar x y α) d (λ k. scalar_from l (a + 2 * k)) (λ k. scalar_from l (b + 2 * k)))))
