-- What an end of an interval says of the numbers in it: a finite one is in it, and toward an infinite one they go beyond every number. So what bounds them all from below is at most that end.
-- Assumes nothing.
use mathlib.Core.Path.{◌≡◌, sym, subst}
use mathlib.Core.List.{[], ◌∷◌}
use mathlib.Core.Logic.{inl, inr}
use mathlib.Core.Bool.{true, false}
use lib.Dec.{T}
use lib.Ieee.{Float, nan, inf, fin, binary64, neg, lt, le, fits}
use Rattle.solver.proofs.Ring.{by_rep, read}
use Rattle.exact.specs.Rational.{ℚ, -ℚ◌, ◌-ℚ◌, 0ℚ, 1ℚ, ◌≤ℚ◌, nn_of, lt→not_le}
use Rattle.exact.proofs.Field.{ℚring}
use Rattle.exact.proofs.Order.{le_by, le_refl, le_trans, le_or_lt, lt→le, 0<1, neg-neg}
use Rattle.math.specs.Values.{value, Below, Above, Holds, Proper}
use Rattle.math.specs.declared.scalars.Scalar.{Scalar}
use Rattle.math.proofs.Doubles.Values.{value-neg}
use Rattle.math.proofs.Doubles.Order.{above-mono, below-neg, above-neg, le_above, neg_le}
use Rattle.math.proofs.Doubles.Mirror.{neg-neg as neg-neg-f}
use Rattle.math.proofs.Intervals.Tests.{holds_proper, proper_holds}

-- ---- the mirror image
abbrev pub mirrored : Scalar → Scalar
mirrored b = record { lo = neg b.hi; hi = neg b.lo }

pub mirror-twice : (b : Scalar) → mirrored (mirrored b) ≡ b
mirror-twice b = λ i. record { lo = neg-neg-f b.lo i; hi = neg-neg-f b.hi i }

pub mirror_holds : (b : Scalar) (y : ℚ) → Holds b y → Holds (mirrored b) (-ℚ y)
mirror_holds b y h = record { low = above-neg b.hi y h.high; high = below-neg b.lo y h.low }

pub mirror_back : (b : Scalar) (y : ℚ) → Holds (mirrored b) y → Holds b (-ℚ y)
mirror_back b y h = subst (λ (z : Scalar). Holds z (-ℚ y)) (mirror-twice b) (mirror_holds (mirrored b) y h)

pub mirror_proper : (b : Scalar) → Proper b → Proper (mirrored b)
mirror_proper b P = let y = proper_holds b P in holds_proper (mirrored b) (-ℚ y.0) (mirror_holds b y.0 y.1)

-- what bounds a mirrored set from below bounds the set from above
pub flip : (w r : Float) → T (le (neg w) r) → T (le (neg r) w)
flip w r h = subst (λ (z : Float). T (le (neg r) z)) (neg-neg-f w) (neg_le (neg w) r h)

pub turned : (w : Float) (q : ℚ) → Above w (-ℚ q) → Below (neg w) q
turned w q h = subst (λ (v : ℚ). Below (neg w) v) (neg-neg q) (above-neg w (-ℚ q) h)

-- w is a double that bounds every number of P from below
abbrev pub Bounding : (ℚ → Type 0) → Float → Type 0
Bounding P w = T (fits binary64 w) × ((q : ℚ) → P q → Below w q)

-- ---- beyond every number
abbrev pub Falls : (ℚ → Type 0) → Type 0
Falls P = (k : ℚ) → (q : ℚ) × P q × (q ≤ℚ k)

abbrev pub Rises : (ℚ → Type 0) → Type 0
Rises P = (k : ℚ) → (q : ℚ) × P q × (k ≤ℚ q)

-- only the negative infinity bounds such a set
pub falls_low : (P : ℚ → Type 0) → Falls P → (w : Float) → ((q : ℚ) → P q → Below w q) → T (le w (inf true))
falls_low P f nan h = let x = f 0ℚ in absurd (h x.0 x.1)
falls_low P f (inf true) h = unfold le in tt
falls_low P f (inf false) h = let x = f 0ℚ in absurd (h x.0 x.1)
falls_low P f (fin s m e) h =
    let x = f (value (fin s m e) -ℚ 1ℚ) in
    absurd (lt→not_le 0<1 (le_by (nn_of (le_trans (h x.0 x.1) x.2)) (by_rep ℚring (value (fin s m e) ∷ []) (search read) (search read) tt)))

-- every number is at most the infinity
pub under_top : (w : Float) (q : ℚ) → Below w q → T (le w (inf false))
under_top nan q h = absurd h
under_top (inf true) q h = unfold le in tt
under_top (inf false) q h = absurd h
under_top (fin s m e) q h = unfold le in tt

-- ---- the ends of an interval
abbrev pub End : Scalar → Float → Type 0
End a nan = ⊥
End a (inf true) = Falls (λ q. Holds a q)
End a (inf false) = Rises (λ q. Holds a q)
End a (fin s m e) = Holds a (value (fin s m e))

pub end_mirror : (a : Scalar) (p : Float) → End a p → End (mirrored a) (neg p)
unfolding neg
end_mirror a nan h = h
end_mirror a (inf true) h = λ k. let x = h (-ℚ k) in (-ℚ x.0, mirror_holds a x.0 x.1, le_by (nn_of x.2) (by_rep ℚring (k ∷ x.0 ∷ []) (search read) (search read) tt))
end_mirror a (inf false) h = λ k. let x = h (-ℚ k) in (-ℚ x.0, mirror_holds a x.0 x.1, le_by (nn_of x.2) (by_rep ℚring (k ∷ x.0 ∷ []) (search read) (search read) tt))
end_mirror a (fin s m e) h = subst (λ (q : ℚ). Holds (mirrored a) q) (sym (unfold neg in value-neg (fin s m e))) (mirror_holds a (value (fin s m e)) h)

pub low_end : (a : Scalar) → Proper a → End a a.lo
low_end a P = go a.lo a.hi P
  where
    go : (l g : Float) → Proper (record { lo = l; hi = g }) → End (record { lo = l; hi = g }) l
    go nan g P = unfold lt in absurd P.low
    go (inf false) g P = unfold lt in absurd P.low
    go (inf true) g P = λ k. let x = proper_holds (record { lo = inf true; hi = g }) P in elim (le_or_lt k x.0) [
      | inl h ↦ (k, record { low = tt; high = above-mono g k x.0 h x.1.high }, le_refl k)
      | inr h ↦ (x.0, x.1, lt→le h)
    ]
    go (fin s m e) g P = record { low = le_refl (value (fin s m e)); high = le_above (fin s m e) g (value (fin s m e)) P.order (le_refl (value (fin s m e))) }

pub high_end : (a : Scalar) → Proper a → End a a.hi
high_end a P = subst (λ (z : Scalar). End z z.hi) (mirror-twice a) (end_mirror (mirrored a) (mirrored a).lo (low_end (mirrored a) (mirror_proper a P)))
