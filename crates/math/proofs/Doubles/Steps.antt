-- The neighbour above a number, by where its pattern lies: below the infinity's it goes one up, above the negative zero's one down. And the neighbour below, which is
-- the mirror image. Assumes nothing.
use mathlib.Core.Path.{◌≡◌, refl, sym, ap, ◌∙◌, subst}
use Prim.Native.Nat.{ℕ, zero, suc, ◌+◌, ◌-◌, ◌*◌, ◌≤◌, ◌<◌}
use native.Mathlib.Omega.{arith}
use mathlib.Core.Bool.{Bool, true, false, not, false≢true, true≢false}
use lib.IntN.{ℤ, pos}
use lib.Dec.{T, lit≤}
use lib.Ieee.{Float, nan, inf, fin, binary64, up, down, is_nan, neg, fits, to_bits, of_bits, nan_bits}
use lib.Ieee.Fits.{neg-fits}
use lib.Ieee.Bits.{nan_bits_is}
use Rattle.math.specs.Neighbours.{next_up, next_down}
use Rattle.math.proofs.Doubles.Patterns.{signed, written}
use Rattle.math.proofs.Doubles.Next.{bits_pos, below_zero, unsign}
use Rattle.math.proofs.Doubles.Held.{unique}
use Rattle.math.proofs.Doubles.Mirror.{neg-neg}
use Rattle.math.proofs.Doubles.Least.{is_nan-neg}
use Rattle.math.proofs.Doubles.Tests.{no-nan_bits, pattern-ok}

-- a NaN has itself beside it
pub nan_stays : (x : Float) → is_nan x ≡ true → (x ≡ next_up x) × (x ≡ next_down x)
unfolding is_nan next_up next_down neg
nan_stays nan e = (refl, refl)
nan_stays (inf s) e = absurd (false≢true e)
nan_stays (fin s m k) e = absurd (false≢true e)

-- ---- the neighbour above x by x's pattern b
pub record Steps (x : Float) (b : ℕ) : Type 0 where
  pub one_up : b < 0x7ff0_0000_0000_0000 → of_bits binary64 (b + 1) ≡ next_up x
  pub one_down : 0x8000_0000_0000_0000 < b → T (not (nan_bits binary64 (b - 1))) × (of_bits binary64 (b - 1) ≡ next_up x)
  pub from_zero : b ≡ 0x8000_0000_0000_0000 → of_bits binary64 1 ≡ next_up x
  pub stays : 0x7ff0_0000_0000_0000 ≤ b → b < 0x8000_0000_0000_0000 → x ≡ next_up x

-- each place of the pattern leaves one of them
module _ (x : Float) (b : ℕ) where
  low : b < 0x7ff0_0000_0000_0000 → of_bits binary64 (b + 1) ≡ next_up x → Steps x b
  low h e = record { one_up = λ _. e; one_down = λ k. absurd (omega arith); from_zero = λ k. absurd (omega arith); stays = λ k _. absurd (omega arith) }

  high : 0x8000_0000_0000_0000 < b → T (not (nan_bits binary64 (b - 1))) → of_bits binary64 (b - 1) ≡ next_up x → Steps x b
  high h n e = record { one_up = λ k. absurd (omega arith); one_down = λ _. (n, e); from_zero = λ k. absurd (omega arith); stays = λ _ k. absurd (omega arith) }

  minus : b ≡ 0x8000_0000_0000_0000 → of_bits binary64 1 ≡ next_up x → Steps x b
  minus h e = record { one_up = λ k. absurd (omega arith); one_down = λ k. absurd (omega arith); from_zero = λ _. e; stays = λ _ k. absurd (omega arith) }

  topmost : b ≡ 0x7ff0_0000_0000_0000 → x ≡ next_up x → Steps x b
  topmost h e = record { one_up = λ k. absurd (omega arith); one_down = λ k. absurd (omega arith); from_zero = λ k. absurd (omega arith); stays = λ _ _. e }

-- ---- where the patterns lie, and what the steps owe

-- one up from below the infinity's is no NaN's
pub up_ok : (b : ℕ) → b < 0x7ff0_0000_0000_0000 → T (not (nan_bits binary64 (b + 1)))
up_ok b h = no-nan_bits (b + 1) (pattern-ok (b + 1) (omega arith))

-- every zero of the format is written in one way
zero_one : (s : Bool) (e : ℤ) → T (fits binary64 (fin s zero e)) → fin s zero e ≡ fin s zero (pos 0)
unfolding fits
zero_one s e F = unique binary64 s 0 e 0 (pos 0) F (own s) (same (up e) (down e))
  where
    own : (s : Bool) → T (fits binary64 (fin s zero (pos 0)))
    own s = tt

    same : (a d : ℕ) → 0 * a * 1 ≡ 0 * 1 * d
    same a d = omega arith

plus_zero : (e : ℤ) → T (fits binary64 (fin false zero e)) → to_bits binary64 (fin false zero e) ≡ 0
unfolding to_bits
plus_zero e F = ap (to_bits binary64) (zero_one false e F)

minus_zero : (e : ℤ) → T (fits binary64 (fin true zero e)) → to_bits binary64 (fin true zero e) ≡ 0x8000_0000_0000_0000
unfolding to_bits
minus_zero e F = ap (to_bits binary64) (zero_one true e F)

plus-inf : to_bits binary64 (inf false) ≡ 0x7ff0_0000_0000_0000
unfolding to_bits
plus-inf = refl

minus-inf : 0x8000_0000_0000_0000 < to_bits binary64 (inf true)
unfolding to_bits
minus-inf = lit≤ tt

inf-ok : T (not (nan_bits binary64 (to_bits binary64 (inf true) - 1)))
unfolding to_bits nan_bits
inf-ok = tt

module _ (m : ℕ) (e : ℤ) where
  above_zero : T (fits binary64 (fin false (suc m) e)) → to_bits binary64 (fin false (suc m) e) < 0x7ff0_0000_0000_0000
  above_zero F = let w = written binary64 false m e F in subst (λ (z : ℕ). z < 0x7ff0_0000_0000_0000) (sym w.plus) w.below

  under_zero : T (fits binary64 (fin true (suc m) e)) → 0x8000_0000_0000_0000 < to_bits binary64 (fin true (suc m) e)
  under_zero G =
      let w = written binary64 true m e G in
      subst (λ (z : ℕ). 0x8000_0000_0000_0000 < z) (sym w.minus) (far w.bits (bits_pos m e (unsign m e G) w))
    where
      far : (b : ℕ) → 0 < b → 0x8000_0000_0000_0000 < 0x8000_0000_0000_0000 + b
      far b h = omega arith

  -- below zero the pattern one down is the mirror image of one below the infinity's
  down-ok : T (fits binary64 (fin true (suc m) e)) → T (not (nan_bits binary64 (to_bits binary64 (fin true (suc m) e) - 1)))
  down-ok G =
      let F = unsign m e G in
      let w = written binary64 false m e F in
      no-nan_bits (to_bits binary64 (fin true (suc m) e) - 1) (ap is_nan (below_zero m e F w) ∙ is_nan-neg (of_bits binary64 (w.bits - 1)) ∙ pattern-ok (w.bits - 1) (omega (arith, w.below)))

-- THE LAW, above
pub steps : (x : Float) → T (fits binary64 x) → is_nan x ≡ false → Steps x (to_bits binary64 x)
unfolding next_up
steps nan F n = absurd (unfold is_nan in true≢false n)
steps (inf true) F n = high (inf true) _ minus-inf inf-ok refl
steps (inf false) F n = topmost (inf false) _ plus-inf refl
steps (fin false zero e) F n = low (fin false zero e) _ (omega (arith, plus_zero e F)) (ap (λ (b : ℕ). of_bits binary64 (b + 1)) (plus_zero e F))
steps (fin true zero e) F n = minus (fin true zero e) _ (minus_zero e F) refl
steps (fin false (suc m) e) F n = low (fin false (suc m) e) _ (above_zero m e F) refl
steps (fin true (suc m) e) F n = high (fin true (suc m) e) _ (under_zero m e F) (down-ok m e F) refl

-- ---- the neighbour below x by x's pattern b
pub record StepsDown (x : Float) (b : ℕ) : Type 0 where
  pub from_zero : b ≡ 0 → of_bits binary64 0x8000_0000_0000_0001 ≡ next_down x
  pub one_down : 0 < b → b < 0x8000_0000_0000_0000 → T (not (nan_bits binary64 (b - 1))) × (of_bits binary64 (b - 1) ≡ next_down x)
  pub one_up : 0x8000_0000_0000_0000 ≤ b → b < 0xfff0_0000_0000_0000 → T (not (nan_bits binary64 (b + 1))) × (of_bits binary64 (b + 1) ≡ next_down x)
  pub stays : 0xfff0_0000_0000_0000 ≤ b → x ≡ next_down x

-- a pattern is a NaN's with the sign's bit as without it
nan_signed : (b : ℕ) → b < 0x8000_0000_0000_0000 → nan_bits binary64 (0x8000_0000_0000_0000 + b) ≡ nan_bits binary64 b
nan_signed b h = nan_bits_is binary64 (0x8000_0000_0000_0000 + b) ∙ ap is_nan (signed binary64 b h) ∙ is_nan-neg (of_bits binary64 b) ∙ sym (nan_bits_is binary64 b)

-- b is the pattern of y, and no NaN's; the sign's bit leads to the mirror image
abbrev Leads : ℕ → Float → Type 0
Leads b y = T (not (nan_bits binary64 b)) × (of_bits binary64 b ≡ y)

with-sign : (b : ℕ) (y : Float) → b < 0x8000_0000_0000_0000 → Leads b y → Leads (0x8000_0000_0000_0000 + b) (neg y)
with-sign b y h l = (subst (λ (t : Bool). T (not t)) (sym (nan_signed b h)) l.0, signed binary64 b h ∙ ap neg l.1)

without_sign : (b : ℕ) (y : Float) → b < 0x8000_0000_0000_0000 → Leads (0x8000_0000_0000_0000 + b) y → Leads b (neg y)
without_sign b y h l = (subst (λ (t : Bool). T (not t)) (nan_signed b h) l.0, sym (neg-neg (of_bits binary64 b)) ∙ ap neg (sym (signed binary64 b h) ∙ l.1))

-- the steps up from the mirror image of x, whose pattern c is b with the other sign
module _ (x : Float) (b c : ℕ) (u : Steps (neg x) c) where
  from-plus : b < 0x8000_0000_0000_0000 → c ≡ 0x8000_0000_0000_0000 + b → StepsDown x b
  unfolding next_down
  from-plus h e = record {
    from_zero = λ k. signed binary64 1 (lit≤ tt) ∙ ap neg (u.from_zero (omega arith));
    one_down = λ k _. without_sign (b - 1) (next_up (neg x)) (omega arith) (subst (λ (z : ℕ). Leads z (next_up (neg x))) (omega arith) (u.one_down (omega arith)));
    one_up = λ k _. absurd (omega arith);
    stays = λ k. absurd (omega arith);
  }

  from-minus : c < 0x8000_0000_0000_0000 → b ≡ 0x8000_0000_0000_0000 + c → StepsDown x b
  unfolding next_down
  from-minus h e = record {
    from_zero = λ k. absurd (omega arith);
    one_down = λ _ k. absurd (omega arith);
    one_up = λ _ k. subst (λ (z : ℕ). Leads z (neg (next_up (neg x)))) (omega arith) (with-sign (c + 1) (next_up (neg x)) (omega arith) (up_ok c (omega arith), u.one_up (omega arith)));
    stays = λ k. sym (neg-neg x) ∙ ap neg (u.stays (omega arith) h);
  }

-- the patterns of the two signs
signs : (m : ℕ) (e : ℤ) → T (fits binary64 (fin false m e)) → T (fits binary64 (fin true m e)) → (to_bits binary64 (fin false m e) < 0x8000_0000_0000_0000) × (to_bits binary64 (fin true m e) ≡ 0x8000_0000_0000_0000 + to_bits binary64 (fin false m e))
signs zero e F G = (omega (arith, plus_zero e F), omega (arith, plus_zero e F, minus_zero e G))
signs (suc m) e F G = let w = written binary64 false m e F in (omega (arith, above_zero m e F), w.minus ∙ ap (λ (b : ℕ). 0x8000_0000_0000_0000 + b) (sym w.plus))

mirrored : (x : Float) → T (fits binary64 x) → is_nan x ≡ false → Steps (neg x) (to_bits binary64 (neg x))
mirrored x F n = steps (neg x) (neg-fits binary64 x F) (is_nan-neg x ∙ n)

-- THE LAW, below
pub steps-down : (x : Float) → T (fits binary64 x) → is_nan x ≡ false → StepsDown x (to_bits binary64 x)
unfolding neg
steps-down nan F n = absurd (unfold is_nan in true≢false n)
steps-down (inf false) F n = unfold to_bits in from-plus (inf false) _ _ (mirrored (inf false) F n) (lit≤ tt) refl
steps-down (inf true) F n = unfold to_bits in from-minus (inf true) _ _ (mirrored (inf true) F n) (lit≤ tt) refl
steps-down (fin false m e) F n = let s = signs m e F (neg-fits binary64 (fin false m e) F) in from-plus (fin false m e) _ _ (mirrored (fin false m e) F n) s.0 s.1
steps-down (fin true m e) F n = let s = signs m e (neg-fits binary64 (fin true m e) F) F in from-minus (fin true m e) _ _ (mirrored (fin true m e) F n) s.0 s.1
