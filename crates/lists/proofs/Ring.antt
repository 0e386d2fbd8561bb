-- Laws of a ring of slots: how its slots are counted, and that they do not overlap.
use mathlib.Core.Path.{◌≡◌, sym, ◌∙◌}
use mathlib.Core.Logic.{◌⊎◌, inl, inr, ⊎_elim}
use Prim.Native.Nat.{ℕ, suc, ◌+◌, ◌-◌, ◌*◌, ◌≤◌, ◌<◌}
use native.Mathlib.Nat.{add-zero, suc-mul, mul-le-mul_right}
use native.Mathlib.Decide.{dec_lt}
use native.Mathlib.Omega.{arith}
use borrow.Author.Tests.{lt-ltb, le-ltb}
use Rattle.lists.specs.Ring.{wrapped}

-- ---- the slots

-- two slots of w words each do not overlap
pub apart : (i j w : ℕ) → (i ≡ j → ⊥) → (j * w + w ≤ i * w) ⊎ (i * w + w ≤ j * w)
apart i j w h = by (dec_lt j i)
  where
    by : Dec (j < i) → (j * w + w ≤ i * w) ⊎ (i * w + w ≤ j * w)
    by (yes l) = inl (rw (← suc-mul j w) (mul-le-mul_right w l))
    by (no n) = inr (rw (← suc-mul i w) (mul-le-mul_right w (omega arith)))

-- a slot lies within the n words that hold the ring
pub slot_in : (i cap w n : ℕ) → i < cap → cap * w ≤ n → i * w + w ≤ n
slot_in i cap w n h k = let e : suc i * w ≤ cap * w = mul-le-mul_right w h in omega (arith, suc-mul i w)

-- ---- how they are counted

pub wrapped_lt : (cap i : ℕ) → i < cap → wrapped cap i ≡ i
unfolding wrapped
wrapped_lt cap i h = rw (lt-ltb i cap h)

pub wrapped_ge : (cap i : ℕ) → cap ≤ i → wrapped cap i ≡ i - cap
unfolding wrapped
wrapped_ge cap i h = rw (le-ltb i cap h)

-- which of the two it is
pub wrap-cases : (cap i : ℕ) → ((i < cap) × (wrapped cap i ≡ i)) ⊎ ((cap ≤ i) × (wrapped cap i ≡ i - cap))
wrap-cases cap i = by (dec_lt i cap)
  where
    by : Dec (i < cap) → ((i < cap) × (wrapped cap i ≡ i)) ⊎ ((cap ≤ i) × (wrapped cap i ≡ i - cap))
    by (yes l) = inl (l, wrapped_lt cap i l)
    by (no n) = inr (let g : cap ≤ i = omega arith in (g, wrapped_ge cap i g))

pub wrapped_in : (cap h j : ℕ) → h < cap → j ≤ cap → wrapped cap (h + j) < cap
wrapped_in cap h j a b =
    ⊎_elim (λ (c : (h + j < cap) × (wrapped cap (h + j) ≡ h + j)). omega arith) (λ (c : (cap ≤ h + j) × (wrapped cap (h + j) ≡ h + j - cap)). omega arith) (wrap-cases cap (h + j))

-- the head itself
pub wrapped-head : (cap h : ℕ) → h < cap → wrapped cap (h + 0) ≡ h
wrapped-head cap h a = rw add-zero (wrapped_lt cap h a)

-- two of fewer than cap places from the head are two slots
pub wrapped-ne : (cap h i j : ℕ) → h < cap → i < j → j < cap → wrapped cap (h + i) ≡ wrapped cap (h + j) → ⊥
wrapped-ne cap h i j a b c e =
    ⊎_elim
    (λ (p : (h + i < cap) × (wrapped cap (h + i) ≡ h + i)). ⊎_elim
    (λ (q : (h + j < cap) × (wrapped cap (h + j) ≡ h + j)). omega arith) (λ (q : (cap ≤ h + j) × (wrapped cap (h + j) ≡ h + j - cap)). omega arith) (wrap-cases cap (h + j)))
    (λ (p : (cap ≤ h + i) × (wrapped cap (h + i) ≡ h + i - cap)). ⊎_elim
    (λ (q : (h + j < cap) × (wrapped cap (h + j) ≡ h + j)). omega arith) (λ (q : (cap ≤ h + j) × (wrapped cap (h + j) ≡ h + j - cap)). omega arith) (wrap-cases cap (h + j)))
    (wrap-cases cap (h + i))

-- no other place is the head's slot
pub wrapped-free : (cap h j : ℕ) → h < cap → 0 < j → j < cap → wrapped cap (h + j) ≡ h → ⊥
wrapped-free cap h j a b c e = wrapped-ne cap h 0 j a b c (wrapped-head cap h a ∙ sym e)

-- from the next head on the places are one less
pub wrapped-next : (cap h j : ℕ) → h < cap → j < cap → wrapped cap (wrapped cap (h + 1) + j) ≡ wrapped cap (h + suc j)
wrapped-next cap h j a b =
    ⊎_elim
    (λ (p : (h + 1 < cap) × (wrapped cap (h + 1) ≡ h + 1)). let e : h + 1 + j ≡ h + suc j = omega arith in rw (p.1, e))
    (λ (p : (cap ≤ h + 1) × (wrapped cap (h + 1) ≡ h + 1 - cap)).
    let e : wrapped cap (h + 1) + j ≡ j = omega arith in
    let q : cap ≤ h + suc j = omega arith in
    let r : h + suc j - cap ≡ j = omega arith in
    rw (e, wrapped_lt cap j b, wrapped_ge cap (h + suc j) q, r))
    (wrap-cases cap (h + 1))
