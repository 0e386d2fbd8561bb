-- Rising knots: a value occurs more than k times exactly where some knot that equals it is followed, k places on, by another that does. So the test of each knot against one knot
-- says what the count of each value says. Assumes nothing.
use mathlib.Core.Path.{◌≡◌, refl, sym, ap, ap₂, ◌∙◌, subst}
use mathlib.Core.Logic.{◌⊎◌, inl, inr}
use mathlib.Core.Bool.{Bool, true, false, not, cond, ◌&&◌, ◌||◌}
use mathlib.Core.List.{List, [], ◌∷◌}
use Prim.Native.Nat.{ℕ, zero, suc, ◌+◌, ◌≤◌, ◌<◌, max}
use native.Mathlib.Omega.{arith}
use borrow.Author.Tests.{not-true, not-false, le-leb, lt-leb}
use lib.Dec.{T, not_T, leb, ltb, ltb→lt, lt→ltb}
use lib.ListN.{length, get_or}
use lib.Ieee.{Float, nan, inf, fin, lt, le, eq}
use Rattle.lists.specs.Lists.{all, count}
use Rattle.geometry.proofs.Lists.Walks.{all_each, all_miss}
use Rattle.math.proofs.Bools.{yes as holds, no as fails, decide, never, and_i, and_l, and_r, or_r, or_split, pick_yes, pick_no}
use Rattle.math.proofs.Laws.{number, le_number_r, le_trans, le_self, lt_not_le, lt_le, le_lt, eq→value, value→eq}
use Rattle.model.specs.Call.{rising, multiplicity_ok}
use Rattle.geometry.specs.Multiplicity.{repeats_at, multiplicity_ok_at}

-- ---- tests

-- A test that passed is true.
is_true : (t : Bool) → T t → t ≡ true
is_true true h = refl
is_true false h = absurd h

-- Two tests of which each passes where the other does are one.
same_test : (t u : Bool) → (T t → T u) → (T u → T t) → t ≡ u
same_test true u f g = sym (is_true u (f tt))
same_test false true f g = absurd (g tt)
same_test false false f g = refl

-- ---- doubles that are equal in value, a zero of either sign too

-- Equal doubles are equal the other way round.
eq_turn : (x y : Float) → T (eq x y) → T (eq y x)
unfolding eq
eq_turn nan y h = absurd h
eq_turn (inf s) nan h = absurd h
eq_turn (inf true) (inf true) h = tt
eq_turn (inf true) (inf false) h = absurd h
eq_turn (inf false) (inf true) h = absurd h
eq_turn (inf false) (inf false) h = tt
eq_turn (inf s) (fin t n d) h = absurd h
eq_turn (fin s m e) nan h = absurd h
eq_turn (fin s m e) (inf t) h = absurd h
eq_turn (fin s m e) (fin t n d) h = value→eq t n d s m e (sym (eq→value s m e t n d h))

-- A double is not above one that equals it.
eq_le : (x y : Float) → T (eq x y) → T (le x y)
unfolding le
eq_le x y h = or_r (lt x y) (eq x y) h

-- Nor below it.
eq_ge : (x y : Float) → T (eq x y) → T (le y x)
eq_ge x y h = eq_le y x (eq_turn x y h)

-- A double that is not above another is below it or equals it.
le_split : (x y : Float) → T (le x y) → T (lt x y) ⊎ T (eq x y)
unfolding le
le_split x y h = or_split (lt x y) (eq x y) h

-- Two doubles of which neither is above the other are equal.
le_both : (x y : Float) → T (le x y) → T (le y x) → T (eq x y)
le_both x y h k = elim (le_split x y h) [
  | inl t ↦ absurd (lt_not_le x y t k)
  | inr t ↦ t
]

-- Doubles that equal a third are equal.
eq_trans : (x y z : Float) → T (eq x y) → T (eq y z) → T (eq x z)
eq_trans x y z h k = le_both x z (le_trans x y z (eq_le x y h) (eq_le y z k)) (le_trans z y x (eq_ge y z k) (eq_ge x y h))

-- Of equal doubles, both equal a or neither does.
eq-like : (x y a : Float) → T (eq x y) → eq x a ≡ eq y a
eq-like x y a h = same_test (eq x a) (eq y a) (λ t. eq_trans y x a (eq_turn x y h) t) (λ t. eq_trans x y a h t)

-- Both are above a or neither is.
above-like : (x y a : Float) → T (eq x y) → lt a x ≡ lt a y
above-like x y a h = same_test (lt a x) (lt a y) (λ t. lt_le a x y t (eq_le x y h)) (λ t. lt_le a y x t (eq_ge x y h))

-- Both are below b or neither is.
below-like : (x y b : Float) → T (eq x y) → lt x b ≡ lt y b
below-like x y b h = same_test (lt x b) (lt y b) (λ t. le_lt y x b (eq_ge x y h) t) (λ t. le_lt x y b (eq_le x y h) t)

-- ---- rising knots

-- What follows the first of rising knots rises.
rising-tail : (x : Float) (l : List Float) → T (rising (x ∷ l)) → T (rising l)
unfolding rising
rising-tail x [] r = tt
rising-tail x (y ∷ l) r = and_r (le x y) (rising (y ∷ l)) r

-- The first is not above the second.
rising-head : (x y : Float) (l : List Float) → T (rising (x ∷ y ∷ l)) → T (le x y)
unfolding rising
rising-head x y l r = and_l (le x y) (rising (y ∷ l)) r

-- The first is not above any.
rising_first : (x : Float) (l : List Float) (k : ℕ) → T (rising (x ∷ l)) → T (number x) → k < length (x ∷ l) → T (le x (get_or (x ∷ l) k nan))
rising_first x l zero r n h = le_self x n
rising_first x [] (suc k) r n h = absurd (omega arith)
rising_first x (y ∷ l) (suc k) r n h = le_trans x y (get_or (y ∷ l) k nan) e (rising_first y l k (rising-tail x (y ∷ l) r) (le_number_r x y e) (omega arith))
  where
    e : T (le x y)
    e = rising-head x y l r

-- ---- the count of a value
module _ (u : Float) where
  -- How many knots of a list equal u.
  abbrev times : List Float → ℕ
  times l = count (λ v. eq v u) l

  -- One more where the first equals u.
  times-yes : (x : Float) (l : List Float) → T (eq x u) → times (x ∷ l) ≡ suc (times l)
  unfolding count
  times-yes x l t = go (eq x u) t
    where
      go : (b : Bool) → T b → cond b 1 0 + times l ≡ suc (times l)
      go true t = omega arith
      go false t = absurd t

  -- As many where it does not.
  times-no : (x : Float) (l : List Float) → T (not (eq x u)) → times (x ∷ l) ≡ times l
  unfolding count
  times-no x l t = go (eq x u) t
    where
      go : (b : Bool) → T (not b) → cond b 1 0 + times l ≡ times l
      go true t = absurd t
      go false t = omega arith

  -- No fewer in any case.
  times-tail : (x : Float) (l : List Float) → times l ≤ times (x ∷ l)
  unfolding count
  times-tail x l = go (eq x u)
    where
      go : (b : Bool) → times l ≤ cond b 1 0 + times l
      go true = omega arith
      go false = omega arith

  -- In no knots, none.
  times_none : times [] ≡ 0
  unfolding count
  times_none = refl

  -- Knots that rise from one above u: none equals u.
  times_above : (y : Float) (l : List Float) → T (rising (y ∷ l)) → T (lt u y) → times (y ∷ l) ≡ 0
  times_above y [] r h = times-no y [] (not_T (eq y u) (λ t. lt_not_le u y h (eq_le y u t))) ∙ times_none
  times_above y (z ∷ l) r h =
      times-no y (z ∷ l) (not_T (eq y u) (λ t. lt_not_le u y h (eq_le y u t)))
      ∙ times_above z l (rising-tail y (z ∷ l) r) (lt_le u y z h (rising-head y z l r))

  -- Of rising knots, where the first and number k equal u, so do all from the one to the other: more than k do.
  run : (l : List Float) (k : ℕ) → T (rising l) → k < length l → T (eq (get_or l 0 nan) u) → T (eq (get_or l k nan) u) → k < times l
  run [] k r h e f = absurd (omega arith)
  run (x ∷ l) zero r h e f = omega (arith, times-yes x l e)
  run (x ∷ []) (suc k) r h e f = absurd (omega arith)
  run (x ∷ y ∷ l) (suc k) r h e f = omega (arith, times-yes x (y ∷ l) e, run (y ∷ l) k s i g f)
    where
      s : T (rising (y ∷ l))
      s = rising-tail x (y ∷ l) r

      i : k < length (y ∷ l)
      i = omega arith

      o : T (le x y)
      o = rising-head x y l r

      g : T (eq y u)
      g = le_both y u (le_trans y (get_or (y ∷ l) k nan) u (rising_first y l k s (le_number_r x y o) i) (eq_le (get_or (y ∷ l) k nan) u f)) (le_trans u x y (eq_ge x u e) o)

  -- The same from number i on, to number j.
  run_at : (l : List Float) (i j k : ℕ) → j ≡ i + k → T (rising l) → j < length l → T (eq (get_or l i nan) u) → T (eq (get_or l j nan) u) → k < times l
  run_at l zero j k q r h e f = omega (arith, run l j r h e f)
  run_at [] (suc i) j k q r h e f = absurd (omega arith)
  run_at (x ∷ l) (suc i) zero k q r h e f = absurd (omega arith)
  run_at (x ∷ l) (suc i) (suc j) k q r h e f = omega (arith, times-tail x l, run_at l i j k (omega arith) (rising-tail x l r) (omega arith) e f)

  -- Of rising knots whose first equals u, where number k does not, at most k do.
  run_ends : (l : List Float) (k : ℕ) → T (rising l) → T (eq (get_or l 0 nan) u) → (k < length l → T (eq (get_or l k nan) u) → ⊥) → times l ≤ k
  run_ends [] k r e f = omega (arith, times_none)
  run_ends (x ∷ l) zero r e f = absurd (f (omega arith) e)
  run_ends (x ∷ []) (suc k) r e f = omega (arith, times-yes x [] e, times_none)
  run_ends (x ∷ y ∷ l) (suc k) r e f = go (decide (eq y u)) (λ t. run_ends (y ∷ l) k s t (λ h. f (omega arith)))
    where
      s : T (rising (y ∷ l))
      s = rising-tail x (y ∷ l) r

      above : T (not (eq y u)) → T (lt u y)
      above n = elim (le_split u y (le_trans u x y (eq_ge x u e) (rising-head x y l r))) [
        | inl t ↦ t
        | inr t ↦ absurd (never (eq y u) n (eq_turn u y t))
      ]

      go : T (eq y u) ⊎ T (not (eq y u)) → (T (eq y u) → times (y ∷ l) ≤ k) → times (x ∷ y ∷ l) ≤ suc k
      go (inl t) c = omega (arith, times-yes x (y ∷ l) e, c t)
      go (inr n) c = omega (arith, times-yes x (y ∷ l) e, times_above y l s (above n))

  -- Of rising knots, where no two that are k places apart equal u, at most k do.
  few : (l : List Float) (k : ℕ) → T (rising l) → ((i j : ℕ) → j ≡ i + k → j < length l → T (eq (get_or l i nan) u) → T (eq (get_or l j nan) u) → ⊥) → times l ≤ k
  few [] k r f = omega (arith, times_none)
  few (x ∷ l) k r f = go (decide (eq x u)) (few l k (rising-tail x l r) (λ i j q h. f (suc i) (suc j) (omega arith) (omega arith)))
    where
      go : T (eq x u) ⊎ T (not (eq x u)) → times l ≤ k → times (x ∷ l) ≤ k
      go (inl t) c = run_ends (x ∷ l) k r t (λ h. f 0 k (omega arith) h t)
      go (inr n) c = omega (arith, times-no x l n, c)

-- ---- a test of each knot against one

-- Two tests of one form, with one bound at an end and another inside.
module _ (e i x y : Bool) where
  -- The test of a knot against one passed: the two are not equal, at an end or inside.
  once : cond e (not x) (cond i (not y) true) ≡ true → (e ≡ true → x ≡ false) × (e ≡ false → i ≡ true → y ≡ false)
  once h = (λ f. not-true x (pick_yes e _ _ f ∙ h), λ f g. not-true y (pick_yes i _ _ g ∙ pick_no e _ _ f ∙ h))

  -- The test of a count passes where the count is within the bound, at an end or inside.
  kept : (e ≡ true → x ≡ true) → (e ≡ false → i ≡ true → y ≡ true) → cond e x (cond i y true) ≡ true
  kept f g = go e i f g
    where
      go : (e i : Bool) → (e ≡ true → x ≡ true) → (e ≡ false → i ≡ true → y ≡ true) → cond e x (cond i y true) ≡ true
      go true i f g = f refl
      go false true f g = g refl refl
      go false false f g = refl

-- Where the test of a knot against one fails, so does that of the count, if a knot that repeats occurs more often than its bound allows.
missed : (e i x y v w : Bool) → (T x → v ≡ false) → (T y → w ≡ false) → cond e (not x) (cond i (not y) true) ≡ false → cond e v (cond i w true) ≡ false
missed true i x y v w f g h = f (holds x (not-false x h))
missed false true x y v w f g h = g (holds y (not-false y h))
missed false false x y v w f g h = h

module _ (p : ℕ) (a b : Float) (ks : List Float) (rises : rising ks ≡ true) where
  -- The knots rise.
  r : T (rising ks)
  r = holds (rising ks) rises

  -- u is an end of the domain.
  abbrev is_end : Float → Bool
  is_end u = eq u a || eq u b

  -- u lies strictly inside.
  abbrev is_inner : Float → Bool
  is_inner u = lt a u && lt u b

  -- Knot number i repeats k places on: there is such a knot, and the two are equal.
  repeats : (i k : ℕ) → T (repeats_at ks i k) → (i + k < length ks) × T (eq (get_or ks (i + k) nan) (get_or ks i nan))
  unfolding repeats_at
  repeats i k t = (ltb→lt (i + k) (length ks) (and_l (ltb (i + k) (length ks)) (eq (get_or ks (i + k) nan) (get_or ks i nan)) t), and_r (ltb (i + k) (length ks)) (eq (get_or ks (i + k) nan) (get_or ks i nan)) t)

  -- A knot that repeats k places on occurs more than k times.
  often : (i k : ℕ) → T (repeats_at ks i k) → k < count (λ v. eq v (get_or ks i nan)) ks
  often i k t = run_at (get_or ks i nan) ks i (i + k) k refl r (repeats i k t).0 (eq_trans u w u (eq_turn w u g) g) g
    where
      u : Float
      u = get_or ks i nan

      w : Float
      w = get_or ks (i + k) nan

      g : T (eq w u)
      g = (repeats i k t).1

  -- A knot that begins a run that is too long: not every value occurs seldom enough.
  runs-miss : (i : ℕ) → i < length ks → multiplicity_ok_at p a b ks i ≡ false → all (λ u. multiplicity_ok p a b ks u) ks ≡ false
  unfolding multiplicity_ok_at multiplicity_ok
  runs-miss i h e =
      all_miss (λ u. multiplicity_ok p a b ks u) ks i nan h
      (missed (is_end u) (is_inner u) (repeats_at ks i (p + 1)) (repeats_at ks i (max p 1)) (leb (count (λ v. eq v u) ks) (p + 1)) (leb (count (λ v. eq v u) ks) (max p 1)) (λ t. lt-leb _ _ (often i (p + 1) t)) (λ t. lt-leb _ _ (often i (max p 1) t)) e)
    where
      u : Float
      u = get_or ks i nan

  -- Two equal knots, k places apart: the first repeats.
  repeated : (u : Float) (i j k : ℕ) → j ≡ i + k → j < length ks → T (eq (get_or ks i nan) u) → T (eq (get_or ks j nan) u) → T (repeats_at ks i k)
  unfolding repeats_at
  repeated u i j k q h e f =
      subst (λ (m : ℕ). T (ltb m (length ks) && eq (get_or ks m nan) (get_or ks i nan))) q
      (and_i (ltb j (length ks)) _ (lt→ltb j (length ks) h) (eq_trans _ _ _ f (eq_turn _ _ e)))

  -- A knot that equals u is an end exactly where u is one.
  ends-like : (x u : Float) → T (eq x u) → is_end x ≡ is_end u
  ends-like x u t = ap₂ (λ (v w : Bool). v || w) (eq-like x u a t) (eq-like x u b t)

  -- And it lies inside exactly where u does.
  inner-like : (x u : Float) → T (eq x u) → is_inner x ≡ is_inner u
  inner-like x u t = ap₂ (λ (v w : Bool). v && w) (above-like x u a t) (below-like x u b t)

  module _ (each : (j : ℕ) → j < length ks → multiplicity_ok_at p a b ks j ≡ true) where
    -- What the test of knot number i says.
    said : (i : ℕ) → i < length ks → (is_end (get_or ks i nan) ≡ true → repeats_at ks i (p + 1) ≡ false) × (is_end (get_or ks i nan) ≡ false → is_inner (get_or ks i nan) ≡ true → repeats_at ks i (max p 1) ≡ false)
    unfolding multiplicity_ok_at
    said i h = once (is_end (get_or ks i nan)) (is_inner (get_or ks i nan)) (repeats_at ks i (p + 1)) (repeats_at ks i (max p 1)) (each i h)

    -- A value occurs seldom enough.
    one_ok : (u : Float) → multiplicity_ok p a b ks u ≡ true
    unfolding multiplicity_ok
    one_ok u =
        kept (is_end u) (is_inner u) (leb (count (λ v. eq v u) ks) (p + 1)) (leb (count (λ v. eq v u) ks) (max p 1))
        (λ e. le-leb _ _ (few u ks (p + 1) r (λ i j q h s t. fails _ ((said i (omega arith)).0 (ends-like _ u s ∙ e)) (repeated u i j (p + 1) q h s t))))
        (λ e f. le-leb _ _ (few u ks (max p 1) r (λ i j q h s t. fails _ ((said i (omega arith)).1 (ends-like _ u s ∙ e) (inner-like _ u s ∙ f)) (repeated u i j (max p 1) q h s t))))

    -- No knot begins a run that is too long: every value occurs seldom enough.
    runs_all : all (λ u. multiplicity_ok p a b ks u) ks ≡ true
    runs_all = all_each (λ u. multiplicity_ok p a b ks u) ks nan (λ j h. one_ok (get_or ks j nan))

  -- The answer of the test of each knot: true where each passes, false where one does not.
  pub runs_by : (t : Bool) → (t ≡ true → (j : ℕ) → j < length ks → multiplicity_ok_at p a b ks j ≡ true)
      → (t ≡ false → (i : ℕ) × (i < length ks) × (multiplicity_ok_at p a b ks i ≡ false))
      → t ≡ all (λ u. multiplicity_ok p a b ks u) ks
  runs_by true f g = sym (runs_all (f refl))
  runs_by false f g = let m = g refl in sym (runs-miss m.0 m.1 m.2)

-- ---- what the code tests
-- The test of knot number i, by the answers e and n of the tests whether it is an end and whether it lies inside.
module _ (p : ℕ) (a b : Float) (ks : List Float) (i : ℕ) (e : Bool) (ee : e ≡ (eq (get_or ks i nan) a || eq (get_or ks i nan) b)) where
  -- At an end: it must not repeat degree + 1 places on.
  pub ok_at_end : (t : Bool) → e ≡ true → t ≡ repeats_at ks i (p + 1) → not t ≡ multiplicity_ok_at p a b ks i
  unfolding multiplicity_ok_at
  ok_at_end t h q = ap (λ (c : Bool). not c) q ∙ pick_yes (eq (get_or ks i nan) a || eq (get_or ks i nan) b) _ _ (sym ee ∙ h)

  module _ (n : Bool) (en : n ≡ (lt a (get_or ks i nan) && lt (get_or ks i nan) b)) where
    -- Strictly inside: not max(degree, 1) places on.
    pub ok_at_inner : (t : Bool) (m : ℕ) → e ≡ false → n ≡ true → m ≡ max p 1 → t ≡ repeats_at ks i m → not t ≡ multiplicity_ok_at p a b ks i
    unfolding multiplicity_ok_at
    ok_at_inner t m h k w q =
        ap (λ (c : Bool). not c) (q ∙ ap (λ (z : ℕ). repeats_at ks i z) w)
        ∙ pick_yes (lt a (get_or ks i nan) && lt (get_or ks i nan) b) _ _ (sym en ∙ k)
        ∙ pick_no (eq (get_or ks i nan) a || eq (get_or ks i nan) b) _ _ (sym ee ∙ h)

    -- Elsewhere it may.
    pub ok_at_outer : e ≡ false → n ≡ false → true ≡ multiplicity_ok_at p a b ks i
    unfolding multiplicity_ok_at
    ok_at_outer h k = pick_no (lt a (get_or ks i nan) && lt (get_or ks i nan) b) _ _ (sym en ∙ k) ∙ pick_no (eq (get_or ks i nan) a || eq (get_or ks i nan) b) _ _ (sym ee ∙ h)
