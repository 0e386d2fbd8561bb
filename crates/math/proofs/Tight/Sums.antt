-- Whether a rounded sum s of a and b lies above a + b: exactly where s - a, rounded, lies above b, or s - b, rounded, above a. One way by rounding's order alone. The other: of
-- s, a and b one has the finest unit, and all three are multiples of that. So s lies at least one unit above a + b, and the double one unit beside the one that has it is
-- between: above b and at most s - a, above a and at most s - b, or below s and at least a + b. The last cannot be, since s is nearest. Assumes nothing.
use mathlib.Core.Path.{◌≡◌, refl, sym, ap, subst}
use mathlib.Core.List.{[], ◌∷◌}
use mathlib.Core.Logic.{◌⊎◌, inl, inr}
use mathlib.Core.Bool.{Bool, true, false, not, ◌&&◌, cond, ◌||◌}
use Prim.Native.Nat.{ℕ, ◌≤◌, ◌<◌}
use native.Mathlib.Omega.{arith}
use lib.IntN.{ℤ}
use lib.Dec.{T}
use lib.Ieee.{Float, nan, inf, fin, binary64, add, sub, neg, lt, fits, is_nan}
use Rattle.solver.proofs.Ring.{by_rep, by_eq, read}
use Rattle.exact.specs.Rational.{ℚ, ◌+ℚ◌, -ℚ◌, ◌-ℚ◌, 0ℚ, 1ℚ, ◌≤ℚ◌, ◌<ℚ◌, nn_of, lt→not_le, not_le→lt}
use Rattle.exact.proofs.Field.{ℚring, nn_add}
use Rattle.exact.proofs.Order.{le_by, lt→le}
use Rattle.math.specs.Neighbours.{next_down}
use Rattle.math.specs.RootLaws.{is_finite}
use Rattle.math.specs.Values.{value}
use Rattle.math.proofs.Bools.{compare_le, or_l, or_r, or_split, same_test}
use Rattle.math.proofs.Doubles.Values.{value-neg, value→lt}
use Rattle.math.proofs.Doubles.Order.{lt_le, lt_not_le}
use Rattle.math.proofs.Doubles.Rounding.{Rounds, rounds_ge, rounds-neg}
use Rattle.math.proofs.Doubles.Operations.{add_rounds}
use Rattle.math.proofs.Intervals.Sizes.{sub-rounds}
use Rattle.math.specs.Directed.{exceeds, lower, sum_down}
use Rattle.math.proofs.Tight.Greatest.{exceeds-yes, over-exceeds}
use Rattle.math.proofs.Tight.Places.{unit, unit-pos, multiple_sum, multiple_neg, multiple_least, Place, place, Double, above, place-neg, on-grid, most, most_nn, place_le, top_is}

-- a double one unit above v, and at most l
pub record Beyond (v l : ℚ) : Type 0 where
  pub j : ℕ
  pub there : Double (v +ℚ unit j)
  pub within : v +ℚ unit j ≤ℚ l

pub raised : (v : ℚ) (j : ℕ) → v <ℚ v +ℚ unit j
raised v j = not_le→lt (λ h. lt→not_le (unit-pos j) (le_by (nn_of h) (by_rep ℚring (v ∷ unit j ∷ []) (search read depth 9) (search read depth 9) tt)))

-- ---- three numbers
module _ {A B S : ℚ} (pa : Place A) (pb : Place B) (ps : Place S) (over : A +ℚ B <ℚ S) where
  -- s lies one unit above a + b, for a unit that all three are multiples of
  gap : (j : ℕ) → j ≤ pa.j → j ≤ pb.j → j ≤ ps.j → unit j ≤ℚ S -ℚ (A +ℚ B)
  gap j ha hb hs =
      multiple_least (lt→le (unit-pos j)) (multiple_sum (on-grid ps j hs) (multiple_neg (multiple_sum (on-grid pa j ha) (on-grid pb j hb)))) positive
    where
      positive : 0ℚ <ℚ S -ℚ (A +ℚ B)
      positive = not_le→lt (λ h. lt→not_le over (le_by (nn_of h) (by_rep ℚring (S ∷ A ∷ B ∷ []) (search read depth 9) (search read depth 9) tt)))

  beyond_b : (j : ℕ) → Double (B +ℚ unit j) → unit j ≤ℚ S -ℚ (A +ℚ B) → Beyond B (S -ℚ A)
  beyond_b j d h = record { j = j; there = d; within = le_by (nn_of h) (by_rep ℚring (S ∷ A ∷ B ∷ unit j ∷ []) (search read depth 9) (search read depth 9) tt) }

  beyond_a : (j : ℕ) → Double (A +ℚ unit j) → unit j ≤ℚ S -ℚ (A +ℚ B) → Beyond A (S -ℚ B)
  beyond_a j d h = record { j = j; there = d; within = le_by (nn_of h) (by_rep ℚring (S ∷ A ∷ B ∷ unit j ∷ []) (search read depth 9) (search read depth 9) tt) }

  beyond_s : (j : ℕ) → Double (-ℚ S +ℚ unit j) → unit j ≤ℚ S -ℚ (A +ℚ B) → Beyond (-ℚ S) (-ℚ (A +ℚ B))
  beyond_s j d h = record { j = j; there = d; within = le_by (nn_of h) (by_rep ℚring (S ∷ A ∷ B ∷ unit j ∷ []) (search read depth 9) (search read depth 9) tt) }

  abbrev Three : Type 0
  Three = Beyond B (S -ℚ A) ⊎ Beyond A (S -ℚ B) ⊎ Beyond (-ℚ S) (-ℚ (A +ℚ B))

  -- where the unit is the greatest, all three have it
  module _ (ea : pa.j ≡ 2045) (eb : pb.j ≡ 2045) (es : ps.j ≡ 2045) where
    coarse : unit 2045 ≤ℚ S -ℚ (A +ℚ B)
    coarse = gap 2045 (omega arith) (omega arith) (omega arith)

    both-top : A ≡ most → B ≡ most → ⊥
    both-top ta tb = lt→not_le over (le_by (nn_add (most -ℚ S) most (nn_of (place_le ps es)) most_nn)
        (by_eq ℚring 1ℚ ta (by_eq ℚring 1ℚ tb (by_rep ℚring (S ∷ A ∷ B ∷ most ∷ []) (search read depth 9) (search read depth 9) tt))))

    low_and-top : -ℚ S ≡ most → B ≡ most → ⊥
    low_and-top ts tb = lt→not_le over (le_by (nn_add (most -ℚ -ℚ A) most (nn_of (place_le (place-neg pa) ea)) most_nn)
        (by_eq ℚring 1ℚ ts (by_eq ℚring 1ℚ tb (by_rep ℚring (S ∷ A ∷ B ∷ most ∷ []) (search read depth 9) (search read depth 9) tt))))

    from_a : (A ≡ most → ⊥) → Three
    from_a n = elim (above pa) [
      | inl d ↦ inr (inl (beyond_a pa.j d (subst (λ (j : ℕ). unit j ≤ℚ S -ℚ (A +ℚ B)) (sym ea) coarse)))
      | inr t ↦ absurd (n (top_is pa t))
    ]

    from_b : (B ≡ most → ⊥) → Three
    from_b n = elim (above pb) [
      | inl d ↦ inl (beyond_b pb.j d (subst (λ (j : ℕ). unit j ≤ℚ S -ℚ (A +ℚ B)) (sym eb) coarse))
      | inr t ↦ absurd (n (top_is pb t))
    ]

  -- the finest unit is that of b, of a, or of s
  by_b : pb.j ≤ pa.j → pb.j ≤ ps.j → Three
  by_b ha hs = elim (above pb) [
    | inl d ↦ inl (beyond_b pb.j d (gap pb.j ha (omega arith) hs))
    | inr t ↦ let ea : pa.j ≡ 2045 = top pa.j pa.fine ha t.2 in let es : ps.j ≡ 2045 = top ps.j ps.fine hs t.2 in from_a ea t.2 es (λ q. both-top ea t.2 es q (top_is pb t))
  ]
    where
      top : (j : ℕ) → j ≤ 2045 → pb.j ≤ j → pb.j ≡ 2045 → j ≡ 2045
      top j f h e = omega arith

  by_a : pa.j ≤ pb.j → pa.j ≤ ps.j → Three
  by_a hb hs = elim (above pa) [
    | inl d ↦ inr (inl (beyond_a pa.j d (gap pa.j (omega arith) hb hs)))
    | inr t ↦ let eb : pb.j ≡ 2045 = top pb.j pb.fine hb t.2 in let es : ps.j ≡ 2045 = top ps.j ps.fine hs t.2 in from_b t.2 eb es (λ q. both-top t.2 eb es (top_is pa t) q)
  ]
    where
      top : (j : ℕ) → j ≤ 2045 → pa.j ≤ j → pa.j ≡ 2045 → j ≡ 2045
      top j f h e = omega arith

  by_s : ps.j ≤ pa.j → ps.j ≤ pb.j → Three
  by_s ha hb = elim (above (place-neg ps)) [
    | inl d ↦ inr (inr (beyond_s ps.j d (gap ps.j ha hb (omega arith))))
    | inr t ↦ let ea : pa.j ≡ 2045 = top pa.j pa.fine ha t.2 in let eb : pb.j ≡ 2045 = top pb.j pb.fine hb t.2 in from_b ea eb t.2 (λ q. low_and-top ea eb t.2 (top_is (place-neg ps) t) q)
  ]
    where
      top : (j : ℕ) → j ≤ 2045 → ps.j ≤ j → ps.j ≡ 2045 → j ≡ 2045
      top j f h e = omega arith

  pub between : Three
  between = go (compare_le pa.j pb.j) (compare_le pa.j ps.j) (compare_le pb.j ps.j)
    where
      go : (pa.j ≤ pb.j) ⊎ (pb.j < pa.j) → (pa.j ≤ ps.j) ⊎ (ps.j < pa.j) → (pb.j ≤ ps.j) ⊎ (ps.j < pb.j) → Three
      go (inl x) (inl y) z = by_a x y
      go (inl x) (inr y) z = by_s (omega arith) (omega arith)
      go (inr x) y (inl z) = by_b (omega arith) z
      go (inr x) y (inr z) = by_s (omega arith) (omega arith)

-- ---- in doubles
module _ (u : Bool) (k : ℕ) (c : ℤ) (s : Bool) (m : ℕ) (e : ℤ) (t : Bool) (n : ℕ) (d : ℤ) (X : T (fits binary64 (fin u k c))) (F : T (fits binary64 (fin s m e))) (G : T (fits binary64 (fin t n d))) where
  abbrev x : Float
  x = fin u k c

  abbrev a : Float
  a = fin s m e

  abbrev b : Float
  b = fin t n d

  -- x - a, rounded, is above b, so x - a is
  over_left : T (lt b (sub binary64 x a)) → value a +ℚ value b <ℚ value x
  over_left h = turn ((sub-rounds u k c s m e).lows.under b G h)
    where
      turn : value b <ℚ value x -ℚ value a → value a +ℚ value b <ℚ value x
      turn l = not_le→lt (λ g. lt→not_le l (le_by (nn_of g) (by_rep ℚring (value x ∷ value a ∷ value b ∷ []) (search read depth 9) (search read depth 9) tt)))

  -- a double between b and x - a
  reached : Beyond (value b) (value x -ℚ value a) → T (lt b (sub binary64 x a))
  reached w =
      let z = w.there in
      lt_le b (fin z.s z.m z.e) (sub binary64 x a)
      (value→lt t n d z.s z.m z.e (subst (λ (q : ℚ). value b <ℚ q) (sym z.is) (raised (value b) w.j)))
      (rounds_ge (sub binary64 x a) (value x -ℚ value a) (sub-rounds u k c s m e) z.s z.m z.e z.held (subst (λ (q : ℚ). q ≤ℚ value x -ℚ value a) (sym z.is) w.within))

  -- none lies between a + b and x, where x is a + b rounded
  none_under : Rounds x (value a +ℚ value b) → Beyond (-ℚ value x) (-ℚ (value a +ℚ value b)) → ⊥
  unfolding neg
  none_under R w =
      let z = w.there in
      let y = fin z.s z.m z.e in
      lt_not_le (fin (not u) k c) y
      (value→lt (not u) k c z.s z.m z.e (subst (λ (q : ℚ). q <ℚ value y) (sym (unfold neg in value-neg x)) (subst (λ (q : ℚ). -ℚ value x <ℚ q) (sym z.is) (raised (-ℚ value x) w.j))))
      (rounds_ge (fin (not u) k c) (-ℚ (value a +ℚ value b)) (rounds-neg x (value a +ℚ value b) R) z.s z.m z.e z.held (subst (λ (q : ℚ). q ≤ℚ -ℚ (value a +ℚ value b)) (sym z.is) w.within))

module _ (s : Bool) (m : ℕ) (e : ℤ) (t : Bool) (n : ℕ) (d : ℤ) (F : T (fits binary64 (fin s m e))) (G : T (fits binary64 (fin t n d))) where
  abbrev A : ℚ
  A = value (fin s m e)

  abbrev B : ℚ
  B = value (fin t n d)

  abbrev is_over : Float → Bool
  is_over x = lt (fin t n d) (sub binary64 x (fin s m e)) || lt (fin s m e) (sub binary64 x (fin t n d))

  abbrev left : Bool → ℕ → ℤ → Bool
  left u k c = lt (fin t n d) (sub binary64 (fin u k c) (fin s m e))

  abbrev right : Bool → ℕ → ℤ → Bool
  right u k c = lt (fin s m e) (sub binary64 (fin u k c) (fin t n d))

  turn : B +ℚ A ≡ A +ℚ B
  turn = by_rep ℚring (A ∷ B ∷ []) (search read) (search read) tt

  found : (u : Bool) (k : ℕ) (c : ℤ) → Rounds (fin u k c) (A +ℚ B) → A +ℚ B <ℚ value (fin u k c) → T (is_over (fin u k c))
  found u k c R l = elim (between (place s m e F) (place t n d G) (place u k c R.held) l) [
    | inl w ↦ or_l (left u k c) (right u k c) (reached u k c s m e t n d R.held F G w)
    | inr v ↦ elim v [
      | inl w ↦ or_r (left u k c) (right u k c) (reached u k c t n d s m e R.held G F w)
      | inr w ↦ absurd (none_under u k c s m e t n d R.held F G R w)
    ]
  ]

  law : (x : Float) → Rounds x (A +ℚ B) → is_over x ≡ exceeds x (A +ℚ B)
  law nan R = unfold is_nan in absurd R.lows.is_number
  law (inf true) R = unfold exceeds sub add neg lt in refl
  law (inf false) R = unfold exceeds sub add neg lt in refl
  law (fin u k c) R = same_test (is_over (fin u k c)) (exceeds (fin u k c) (A +ℚ B)) (λ h. over-exceeds u k c (A +ℚ B) (over (or_split (left u k c) (right u k c) h))) (λ h. found u k c R (not_le→lt (exceeds-yes (fin u k c) (A +ℚ B) h)))
    where
      over : T (lt (fin t n d) (sub binary64 (fin u k c) (fin s m e))) ⊎ T (lt (fin s m e) (sub binary64 (fin u k c) (fin t n d))) → A +ℚ B <ℚ value (fin u k c)
      over (inl h) = over_left u k c s m e t n d R.held F G h
      over (inr h) = subst (λ (q : ℚ). q <ℚ value (fin u k c)) turn (over_left u k c t n d s m e R.held G F h)

-- an infinity or a NaN leaves the sum as it is
abbrev tested : Float → Float → Float
tested a b = let s = add binary64 a b in cond (lt b (sub binary64 s a) || lt a (sub binary64 s b)) (next_down s) s

unbounded : (a b : Float) → T (not (is_finite a && is_finite b)) → tested a b ≡ add binary64 a b
unfolding add sub neg lt
unbounded nan nan h = refl
unbounded nan (inf t) h = refl
unbounded nan (fin t n d) h = refl
unbounded (inf s) nan h = refl
unbounded (inf true) (inf true) h = refl
unbounded (inf true) (inf false) h = refl
unbounded (inf false) (inf true) h = refl
unbounded (inf false) (inf false) h = refl
unbounded (inf true) (fin t n d) h = refl
unbounded (inf false) (fin t n d) h = refl
unbounded (fin s m e) nan h = refl
unbounded (fin s m e) (inf true) h = refl
unbounded (fin s m e) (inf false) h = refl
unbounded (fin s m e) (fin t n d) h = absurd h

-- THE LAW of the sum's lower bound, for every two doubles
pub sum-down : (a b : Float) → T (fits binary64 a) → T (fits binary64 b) → tested a b ≡ sum_down a b
unfolding sum_down lower
sum-down nan b F G = unbounded nan b tt
sum-down (inf s) b F G = unbounded (inf s) b tt
sum-down (fin s m e) nan F G = unbounded (fin s m e) nan tt
sum-down (fin s m e) (inf t) F G = unbounded (fin s m e) (inf t) tt
sum-down (fin s m e) (fin t n d) F G = ap (λ (z : Bool). cond z (next_down (add binary64 (fin s m e) (fin t n d))) (add binary64 (fin s m e) (fin t n d))) (law s m e t n d F G (add binary64 (fin s m e) (fin t n d)) (add_rounds s m e t n d))
