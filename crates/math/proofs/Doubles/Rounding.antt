-- The doubles next to a rounded number enclose the number, strictly: what is below `round v` is below v, and what is above it above v, overflow and underflow included.
-- By `round`'s order and its fixed points alone: no unit in the last place is measured. Assumes nothing.
use mathlib.Core.Path.{◌≡◌, sym, ap, ◌∙◌, subst}
use mathlib.Core.Logic.{inl, inr}
use mathlib.Core.Bool.{Bool, true, false, not, cond}
use Prim.Native.Nat.{ℕ, zero, suc, ◌+◌, ◌-◌, ◌*◌, ◌/◌, ◌%◌, ◌^◌, ◌<◌, compare}
use native.Mathlib.Omega.{arith}
use lib.IntN.{ℤ, pos}
use lib.Dec.{T, ltb}
use lib.Ieee.{Float, nan, inf, fin, Format, binary64, prec, emax, low, up, down, size, nearest, odd, units, round, neg, lt, le, fits, is_nan}
use lib.Ieee.Fits.{round-fits, neg-fits, down_pos}
use Rattle.exact.specs.Rational.{ℚ, -ℚ◌, ◌÷◌, signed, ◌≤ℚ◌, ◌<ℚ◌, lt→not_le}
use Rattle.exact.proofs.Order.{le_refl as ≤-refl, lt→le, lt_le_trans, le_lt_trans, neg-neg, neg_lt as neg-lt-q}
use Rattle.exact.proofs.Embed.{÷_lt, ÷_nn, ÷_pos}
use Rattle.math.proofs.Bools.{decide}
use Rattle.math.specs.Neighbours.{next_up, next_down}
use Rattle.math.specs.Values.{value, Below, Above}
use Rattle.math.proofs.Doubles.Values.{value-neg, value_zero, value-under, lt→value, value→le}
use Rattle.math.proofs.Doubles.Order.{number, number_neg, total-order, le_self, le_lt, lt_le, neg_le}
use Rattle.math.proofs.Doubles.Rounded.{neg-round}
use Rattle.math.proofs.Doubles.Rounded as R
use Rattle.math.proofs.Doubles.Mirror.{neg-neg as neg-neg-f, neg_lt}
use Rattle.math.proofs.Doubles.Next.{next_down-fits, next_down-below}

-- ---- strict bounds: the double lies below the number, or above it
abbrev pub Under : Float → ℚ → Type 0
Under nan q = ⊥
Under (inf true) q = Unit {0}
Under (inf false) q = ⊥
Under (fin s m e) q = value (fin s m e) <ℚ q

abbrev pub Over : Float → ℚ → Type 0
Over nan q = ⊥
Over (inf true) q = ⊥
Over (inf false) q = Unit {0}
Over (fin s m e) q = q <ℚ value (fin s m e)

pub under-below : (x : Float) (q : ℚ) → Under x q → Below x q
under-below nan q h = h
under-below (inf true) q h = tt
under-below (inf false) q h = h
under-below (fin s m e) q h = lt→le h

pub over-above : (x : Float) (q : ℚ) → Over x q → Above x q
over-above nan q h = h
over-above (inf true) q h = h
over-above (inf false) q h = tt
over-above (fin s m e) q h = lt→le h

under-mono : (x : Float) (p q : ℚ) → p ≤ℚ q → Under x p → Under x q
under-mono nan p q h b = b
under-mono (inf true) p q h b = tt
under-mono (inf false) p q h b = b
under-mono (fin s m e) p q h b = lt_le_trans b h

over-mono : (x : Float) (p q : ℚ) → p ≤ℚ q → Over x q → Over x p
over-mono nan p q h b = b
over-mono (inf true) p q h b = b
over-mono (inf false) p q h b = tt
over-mono (fin s m e) p q h b = le_lt_trans h b

-- the mirror image
pub under-neg : (x : Float) (q : ℚ) → Under x q → Over (neg x) (-ℚ q)
unfolding neg
under-neg nan q h = h
under-neg (inf true) q h = tt
under-neg (inf false) q h = h
under-neg (fin s m e) q h = subst (λ (z : ℚ). -ℚ q <ℚ z) (sym (unfold neg in value-neg (fin s m e))) (neg-lt-q h)

over-neg : (x : Float) (q : ℚ) → Over x q → Under (neg x) (-ℚ q)
unfolding neg
over-neg nan q h = h
over-neg (inf true) q h = h
over-neg (inf false) q h = tt
over-neg (fin s m e) q h = subst (λ (z : ℚ). z <ℚ -ℚ q) (sym (unfold neg in value-neg (fin s m e))) (neg-lt-q h)

-- ---- a double that stands for a number from one side
-- every double below r lies below v; every one above r lies above v
pub record Lows (r : Float) (v : ℚ) : Type 0 where
  pub is_number : T (number r)
  pub under : (w : Float) → T (fits binary64 w) → T (lt w r) → Under w v

pub record Highs (r : Float) (v : ℚ) : Type 0 where
  pub is_number : T (number r)
  pub over : (w : Float) → T (fits binary64 w) → T (lt r w) → Over w v

pub lows-mono : (r : Float) (v w : ℚ) → v ≤ℚ w → Lows r v → Lows r w
lows-mono r v w h l = record { is_number = l.is_number; under = λ x F t. under-mono x v w h (l.under x F t) }

pub highs_mono : (r : Float) (v w : ℚ) → w ≤ℚ v → Highs r v → Highs r w
highs_mono r v w h l = record { is_number = l.is_number; over = λ x F t. over-mono x w v h (l.over x F t) }

-- the negative infinity stands below every number, and the positive one above
none_below : (w : Float) → T (lt w (inf true)) → ⊥
unfolding lt
none_below nan t = t
none_below (inf true) t = t
none_below (inf false) t = t
none_below (fin s m e) t = t

pub lows-inf : (r : Float) (v : ℚ) → r ≡ inf true → Lows r v
unfolding is_nan
lows-inf r v e = subst (λ (x : Float). Lows x v) (sym e) (record { is_number = tt; under = λ w F t. absurd (none_below w t) })

-- a finite double stands for its own number
pub lows_own : (s : Bool) (m : ℕ) (e : ℤ) → Lows (fin s m e) (value (fin s m e))
unfolding is_nan
lows_own s m e = record { is_number = tt; under = λ w F t. below w t }
  where
    below : (w : Float) → T (lt w (fin s m e)) → Under w (value (fin s m e))
    below nan t = unfold lt in absurd t
    below (inf true) t = tt
    below (inf false) t = unfold lt in absurd t
    below (fin u n d) t = lt→value u n d s m e t

-- the mirror image
none_above : (w : Float) → T (lt (inf false) w) → ⊥
unfolding lt
none_above nan t = t
none_above (inf s) t = t
none_above (fin s m e) t = t

pub highs_inf : (r : Float) (v : ℚ) → r ≡ inf false → Highs r v
unfolding is_nan
highs_inf r v e = subst (λ (x : Float). Highs x v) (sym e) (record { is_number = tt; over = λ w F t. absurd (none_above w t) })

back : (r w : Float) → T (lt (neg r) w) → T (lt (neg w) r)
back r w t = subst (λ (x : Float). T (lt (neg w) x)) (neg-neg-f r) (neg_lt (neg r) w t)

back' : (r w : Float) → T (lt w (neg r)) → T (lt r (neg w))
back' r w t = subst (λ (x : Float). T (lt x (neg w))) (neg-neg-f r) (neg_lt w (neg r) t)

pub lows-neg : (r : Float) (v : ℚ) → Lows r v → Highs (neg r) (-ℚ v)
lows-neg r v l = record {
  is_number = number_neg r l.is_number;
  over = λ w F t. subst (λ (x : Float). Over x (-ℚ v)) (neg-neg-f w) (under-neg (neg w) v (l.under (neg w) (neg-fits binary64 w F) (back r w t)));
}

pub highs_neg : (r : Float) (v : ℚ) → Highs r v → Lows (neg r) (-ℚ v)
highs_neg r v h = record {
  is_number = number_neg r h.is_number;
  under = λ w F t. subst (λ (x : Float). Under x (-ℚ v)) (neg-neg-f w) (over-neg (neg w) v (h.over (neg w) (neg-fits binary64 w F) (back' r w t)));
}

-- ---- the neighbours
low_end : (v : ℚ) → Under (next_down (inf true)) v
unfolding next_down next_up neg
low_end v = tt

-- one below what is no larger than r
pub down-below : (m r : Float) (v : ℚ) → T (fits binary64 m) → T (le m r) → Lows r v → Under (next_down m) v
down-below nan r v F h l = unfold le in absurd h
down-below (inf true) r v F h l = low_end v
down-below (inf false) r v F h l = l.under (next_down (inf false)) (next_down-fits (inf false)) (lt_le (next_down (inf false)) (inf false) r (next_down-below (inf false) F (unfold neg in tt)) h)
down-below (fin s n e) r v F h l = l.under (next_down (fin s n e)) (next_down-fits (fin s n e)) (lt_le (next_down (fin s n e)) (fin s n e) r (next_down-below (fin s n e) F (unfold neg in tt)) h)

pub down-neg : (m : Float) → neg (next_down (neg m)) ≡ next_up m
unfolding next_down
down-neg m = neg-neg-f (next_up (neg (neg m))) ∙ ap next_up (neg-neg-f m)

-- one above what is no smaller than r
up_above : (m r : Float) (v : ℚ) → T (fits binary64 m) → T (le r m) → Highs r v → Over (next_up m) v
up_above m r v F h l =
    subst (λ (x : Float). Over x v) (down-neg m)
    (subst (λ (z : ℚ). Over (neg (next_down (neg m))) z) (neg-neg v)
    (under-neg (next_down (neg m)) (-ℚ v) (down-below (neg m) (neg r) (-ℚ v) (neg-fits binary64 m F) (neg_le r m h) (highs_neg r v l))))

pub lows-down : (r : Float) (v : ℚ) → T (fits binary64 r) → Lows r v → Under (next_down r) v
lows-down r v F l = down-below r r v F (le_self r l.is_number) l

pub highs_up : (r : Float) (v : ℚ) → T (fits binary64 r) → Highs r v → Over (next_up r) v
highs_up r v F l = up_above r r v F (le_self r l.is_number) l

-- ---- what `round` gives stands for its number from both sides
pub record Rounds (r : Float) (v : ℚ) : Type 0 where
  pub held : T (fits binary64 r)
  pub lows : Lows r v
  pub highs : Highs r v

pub rounds_at : (r : Float) (v w : ℚ) → v ≡ w → Rounds r v → Rounds r w
rounds_at r v w e h = subst (λ (z : ℚ). Rounds r z) e h

pub rounds-neg : (r : Float) (v : ℚ) → Rounds r v → Rounds (neg r) (-ℚ v)
rounds-neg r v h = record { held = neg-fits binary64 r h.held; lows = highs_neg r v h.highs; highs = lows-neg r v h.lows }

-- it is at least every double that its number is at least, and at most every one that its number is at most
pub rounds_ge : (r : Float) (v : ℚ) → Rounds r v → (s : Bool) (m : ℕ) (e : ℤ) → T (fits binary64 (fin s m e)) → value (fin s m e) ≤ℚ v → T (le (fin s m e) r)
rounds_ge r v h s m e F l = elim (decide (lt r (fin s m e))) [
  | inl t ↦ absurd (lt→not_le (h.highs.over (fin s m e) F t) l)
  | inr n ↦ total-order (fin s m e) r (unfold is_nan in tt) h.highs.is_number n
]

pub rounds_le : (r : Float) (v : ℚ) → Rounds r v → (s : Bool) (m : ℕ) (e : ℤ) → T (fits binary64 (fin s m e)) → v ≤ℚ value (fin s m e) → T (le r (fin s m e))
rounds_le r v h s m e F l = elim (decide (lt (fin s m e) r)) [
  | inl t ↦ absurd (lt→not_le (h.lows.under (fin s m e) F t) l)
  | inr n ↦ total-order r (fin s m e) h.lows.is_number (unfold is_nan in tt) n
]

-- it is not negative, where its number is not
abbrev pub nonneg : Float → Bool
nonneg nan = false
nonneg (inf s) = not s
nonneg (fin s m e) = not s

odd-nonneg : (d q k l : ℕ) → T (nonneg (odd d false q k l))
unfolding odd
odd-nonneg d zero k l = tt
odd-nonneg d (suc q) k l = tt

units-nonneg : (f : Format) (q k : ℕ) → T (nonneg (units f false q k))
unfolding units
units-nonneg f q k = go (ltb (q * 2 ^ k) (2 ^ (low f + suc (emax f))))
  where
    go : (b : Bool) → T (nonneg (cond b (odd (suc (prec f)) false q k (low f)) (inf false)))
    go true = odd-nonneg (suc (prec f)) q k (low f)
    go false = tt

pub round-nonneg : (f : Format) (a c : ℕ) → T (nonneg (round f false a c))
unfolding round
round-nonneg f a c =
    let n = a * 2 ^ low f in
    let k = size (n / c) - prec f in
    let u = c * 2 ^ k in
    units-nonneg f (nearest (n / u) (compare (n % u * 2) u)) k

nonneg_number : (x : Float) → T (nonneg x) → T (number x)
unfolding is_nan
nonneg_number nan t = t
nonneg_number (inf s) t = tt
nonneg_number (fin s m e) t = tt

none_under : (r : Float) (m : ℕ) (e : ℤ) → T (nonneg r) → T (lt r (fin true m e)) → ⊥
unfolding lt
none_under nan m e p t = t
none_under (inf true) m e p t = p
none_under (inf false) m e p t = t
none_under (fin true n d) m e p t = p
none_under (fin false n d) m e p t = t

module _ (a c : ℕ) (C : 0 < c) where
  abbrev r : Float
  r = round binary64 false a c

  -- a zero below r is below the number: so is the positive zero
  above-nil : (e : ℤ) → T (lt (fin true zero e) r) → 0 < a
  above-nil e t = nat (R.under binary64 zero (pos 0) (unfold fits in tt) a c C (le_lt (fin false zero (pos 0)) (fin true zero e) r (value→le false zero (pos 0) true zero e (subst (λ (z : ℚ). z ≤ℚ value (fin true zero e)) (value_zero true e ∙ sym (value_zero false (pos 0))) (≤-refl (value (fin true zero e))))) t))
    where
      nat : 0 * 1 * c < a * 1 → 0 < a
      nat h = omega arith

  below_fin : (m : ℕ) (e : ℤ) → T (lt (fin true m e) r) → value (fin true m e) <ℚ a ÷ c
  below_fin zero e t = subst (λ (z : ℚ). z <ℚ a ÷ c) (sym (value_zero true e)) (÷_pos a c (above-nil e t) C)
  below_fin (suc m) e t = lt_le_trans (value-under m e) (÷_nn a c)

  plain-under : (w : Float) → T (fits binary64 w) → T (lt w r) → Under w (a ÷ c)
  plain-under nan F t = unfold lt in absurd t
  plain-under (inf true) F t = tt
  plain-under (inf false) F t = none_above r t
  plain-under (fin true m e) F t = below_fin m e t
  plain-under (fin false m e) F t = unfold value in ÷_lt (m * up e) a (down e) c (down_pos e) C (R.under binary64 m e F a c C t)

  plain_over : (w : Float) → T (fits binary64 w) → T (lt r w) → Over w (a ÷ c)
  plain_over nan F t = no r t
    where
      no : (y : Float) → T (lt y nan) → ⊥
      no nan u = unfold lt in u
      no (inf s) u = unfold lt in u
      no (fin s m e) u = unfold lt in u
  plain_over (inf true) F t = none_below r t
  plain_over (inf false) F t = tt
  plain_over (fin true m e) F t = absurd (none_under r m e (round-nonneg binary64 a c) t)
  plain_over (fin false m e) F t = unfold value in ÷_lt a (m * up e) c (down e) C (down_pos e) (R.over binary64 m e F a c C t)

  plain-rounds : Rounds r (a ÷ c)
  plain-rounds =
      let n = nonneg_number r (round-nonneg binary64 a c) in
      record { held = round-fits binary64 false a c; lows = record { is_number = n; under = plain-under }; highs = record { is_number = n; over = plain_over } }

  -- THE LAW of rounding
  pub round-rounds : (s : Bool) → Rounds (round binary64 s a c) (signed s (a ÷ c))
  round-rounds false = plain-rounds
  round-rounds true = subst (λ (x : Float). Rounds x (-ℚ (a ÷ c))) (sym (neg-round binary64 a c)) (rounds-neg r (a ÷ c) plain-rounds)
