-- The four kinds of a rounded result, told apart by its bit pattern: a number with either sign, and the two infinities. Assumes nothing.
use mathlib.Core.Path.{◌≡◌, refl, sym, ap, ◌∙◌, subst}
use mathlib.Core.Logic.{inl, inr}
use mathlib.Core.Bool.{Bool, true, false, not, cond, false≢true}
use Prim.Native.Nat.{ℕ, ◌+◌, ◌-◌, ◌%◌, ◌≤◌, ◌<◌}
use native.Mathlib.Omega.{arith}
use lib.IntN.{ℤ}
use lib.Dec.{T, not_T, leb, ltb, leb→le, ltb→lt, lt→ltb}
use lib.Ieee.{Float, nan, inf, fin, binary64, fits, to_bits, is_nan}
use lib.Ieee.Bits.{is_true, is_false}
use Rattle.std.specs.Float.{float_is_finite}
use Rattle.exact.specs.Rational.{ℚ}
use Rattle.math.specs.RootLaws.{is_finite}
use Rattle.math.specs.Directed.{exceeds}
use Rattle.math.proofs.Bools.{compare_le}
use Rattle.math.proofs.Tight.Readings.{reading}

-- the pattern without its sign
abbrev pub mag : Float → ℕ
mag x = to_bits binary64 x % 0x8000_0000_0000_0000

pub mag_is : (s : Bool) (m : ℕ) (e : ℤ) (F : T (fits binary64 (fin s m e))) → mag (fin s m e) ≡ (reading s m e F).bits
mag_is s m e F = let r = reading s m e F in ap (λ (z : ℕ). z % 0x8000_0000_0000_0000) r.at ∙ off s r.bits r.below
  where
    off : (s : Bool) (b : ℕ) → b < 0x7ff0_0000_0000_0000 → (cond s 0x8000_0000_0000_0000 0 + b) % 0x8000_0000_0000_0000 ≡ b
    off true b h = omega arith
    off false b h = omega arith

-- ---- the kinds
bits_nan : to_bits binary64 nan ≡ 0x7ff8_0000_0000_0000
unfolding to_bits
bits_nan = refl

bits-inf : (s : Bool) → to_bits binary64 (inf s) ≡ cond s 0x8000_0000_0000_0000 0 + 0x7ff0_0000_0000_0000
unfolding to_bits
bits-inf s = refl

pub record Plus (p : Float) : Type 0 where
  pub k : ℕ
  pub c : ℤ
  pub is : p ≡ fin false k c

pub record Minus (p : Float) : Type 0 where
  pub k : ℕ
  pub c : ℤ
  pub is : p ≡ fin true k c

pub plus : (p : Float) → T (fits binary64 p) → to_bits binary64 p < 0x7ff0_0000_0000_0000 → Plus p
plus nan F h = absurd (no (to_bits binary64 nan) bits_nan h)
  where
    no : (b : ℕ) → b ≡ 0x7ff8_0000_0000_0000 → b < 0x7ff0_0000_0000_0000 → ⊥
    no b e h = omega arith
plus (inf true) F h = absurd (no (to_bits binary64 (inf true)) (bits-inf true) h)
  where
    no : (b : ℕ) → b ≡ 0x8000_0000_0000_0000 + 0x7ff0_0000_0000_0000 → b < 0x7ff0_0000_0000_0000 → ⊥
    no b e h = omega arith
plus (inf false) F h = absurd (no (to_bits binary64 (inf false)) (bits-inf false) h)
  where
    no : (b : ℕ) → b ≡ 0 + 0x7ff0_0000_0000_0000 → b < 0x7ff0_0000_0000_0000 → ⊥
    no b e h = omega arith
plus (fin true m e) F h = let r = reading true m e F in absurd (no (to_bits binary64 (fin true m e)) r.bits r.at h)
  where
    no : (b c : ℕ) → b ≡ 0x8000_0000_0000_0000 + c → b < 0x7ff0_0000_0000_0000 → ⊥
    no b c e h = omega arith
plus (fin false m e) F h = record { k = m; c = e; is = refl }

pub top : (p : Float) → T (fits binary64 p) → is_nan p ≡ false → 0x7ff0_0000_0000_0000 ≤ to_bits binary64 p → to_bits binary64 p < 0x8000_0000_0000_0000 → p ≡ inf false
top nan F n g h = absurd (subst T n (unfold is_nan in tt))
top (inf true) F n g h = absurd (no (to_bits binary64 (inf true)) (bits-inf true) h)
  where
    no : (b : ℕ) → b ≡ 0x8000_0000_0000_0000 + 0x7ff0_0000_0000_0000 → b < 0x8000_0000_0000_0000 → ⊥
    no b e h = omega arith
top (inf false) F n g h = refl
top (fin true m e) F n g h = let r = reading true m e F in absurd (no (to_bits binary64 (fin true m e)) r.bits r.at h)
  where
    no : (b c : ℕ) → b ≡ 0x8000_0000_0000_0000 + c → b < 0x8000_0000_0000_0000 → ⊥
    no b c e h = omega arith
top (fin false m e) F n g h = let r = reading false m e F in absurd (no (to_bits binary64 (fin false m e)) r.bits r.at r.below g)
  where
    no : (b c : ℕ) → b ≡ 0 + c → c < 0x7ff0_0000_0000_0000 → 0x7ff0_0000_0000_0000 ≤ b → ⊥
    no b c e l g = omega arith

pub minus : (p : Float) → T (fits binary64 p) → is_nan p ≡ false → 0x8000_0000_0000_0000 ≤ to_bits binary64 p → to_bits binary64 p < 0xfff0_0000_0000_0000 → Minus p
minus nan F n g h = absurd (subst T n (unfold is_nan in tt))
minus (inf true) F n g h = absurd (no (to_bits binary64 (inf true)) (bits-inf true) h)
  where
    no : (b : ℕ) → b ≡ 0x8000_0000_0000_0000 + 0x7ff0_0000_0000_0000 → b < 0xfff0_0000_0000_0000 → ⊥
    no b e h = omega arith
minus (inf false) F n g h = absurd (no (to_bits binary64 (inf false)) (bits-inf false) g)
  where
    no : (b : ℕ) → b ≡ 0 + 0x7ff0_0000_0000_0000 → 0x8000_0000_0000_0000 ≤ b → ⊥
    no b e h = omega arith
minus (fin true m e) F n g h = record { k = m; c = e; is = refl }
minus (fin false m e) F n g h = let r = reading false m e F in absurd (no (to_bits binary64 (fin false m e)) r.bits r.at r.below g)
  where
    no : (b c : ℕ) → b ≡ 0 + c → c < 0x7ff0_0000_0000_0000 → 0x8000_0000_0000_0000 ≤ b → ⊥
    no b c e l g = omega arith

pub bottom : (p : Float) → T (fits binary64 p) → is_nan p ≡ false → 0xfff0_0000_0000_0000 ≤ to_bits binary64 p → p ≡ inf true
bottom nan F n g = absurd (subst T n (unfold is_nan in tt))
bottom (inf true) F n g = refl
bottom (inf false) F n g = absurd (no (to_bits binary64 (inf false)) (bits-inf false) g)
  where
    no : (b : ℕ) → b ≡ 0 + 0x7ff0_0000_0000_0000 → 0xfff0_0000_0000_0000 ≤ b → ⊥
    no b e h = omega arith
bottom (fin s m e) F n g = let r = reading s m e F in absurd (no s (to_bits binary64 (fin s m e)) r.bits r.at r.below g)
  where
    no : (s : Bool) (b c : ℕ) → b ≡ cond s 0x8000_0000_0000_0000 0 + c → c < 0x7ff0_0000_0000_0000 → 0xfff0_0000_0000_0000 ≤ b → ⊥
    no true b c e l g = omega arith
    no false b c e l g = omega arith

-- an infinity
pub at_top : (p : Float) (v : ℚ) → p ≡ inf false → true ≡ exceeds p v
at_top p v e = sym (ap (λ (x : Float). exceeds x v) e ∙ (unfold exceeds in refl))

pub at_bottom : (p : Float) (v : ℚ) → p ≡ inf true → false ≡ exceeds p v
at_bottom p v e = sym (ap (λ (x : Float). exceeds x v) e ∙ (unfold exceeds in refl))

-- ---- the sign, and the size without it
module _ (p : Float) where
  pub mag-plus : to_bits binary64 p < 0x8000_0000_0000_0000 → mag p ≡ to_bits binary64 p
  mag-plus h = go (to_bits binary64 p) h
    where
      go : (b : ℕ) → b < 0x8000_0000_0000_0000 → b % 0x8000_0000_0000_0000 ≡ b
      go b h = omega arith

  pub mag-minus : to_bits binary64 p < 0x1_0000_0000_0000_0000 → 0x8000_0000_0000_0000 ≤ to_bits binary64 p → mag p ≡ to_bits binary64 p - 0x8000_0000_0000_0000
  mag-minus t g = go (to_bits binary64 p) t g
    where
      go : (b : ℕ) → b < 0x1_0000_0000_0000_0000 → 0x8000_0000_0000_0000 ≤ b → b % 0x8000_0000_0000_0000 ≡ b - 0x8000_0000_0000_0000
      go b t g = omega arith

  pub under-minus : to_bits binary64 p < 0x1_0000_0000_0000_0000 → mag p < 0x7ff0_0000_0000_0000 → 0x8000_0000_0000_0000 ≤ to_bits binary64 p → to_bits binary64 p < 0xfff0_0000_0000_0000
  under-minus t h g = go (to_bits binary64 p) t h g
    where
      go : (b : ℕ) → b < 0x1_0000_0000_0000_0000 → b % 0x8000_0000_0000_0000 < 0x7ff0_0000_0000_0000 → 0x8000_0000_0000_0000 ≤ b → b < 0xfff0_0000_0000_0000
      go b t h g = omega arith

  pub not-minus : to_bits binary64 p < 0x8000_0000_0000_0000 → leb 0x8000_0000_0000_0000 (to_bits binary64 p) ≡ false
  not-minus h = is_false (leb 0x8000_0000_0000_0000 (to_bits binary64 p)) (not_T (leb 0x8000_0000_0000_0000 (to_bits binary64 p)) (λ t. no (leb→le _ _ t)))
    where
      no : 0x8000_0000_0000_0000 ≤ to_bits binary64 p → ⊥
      no g = omega arith

  pub not-plus : 0x8000_0000_0000_0000 ≤ to_bits binary64 p → ltb (to_bits binary64 p) 0x8000_0000_0000_0000 ≡ false
  not-plus g = is_false (ltb (to_bits binary64 p) 0x8000_0000_0000_0000) (not_T (ltb (to_bits binary64 p) 0x8000_0000_0000_0000) (λ t. no (ltb→lt _ _ t)))
    where
      no : to_bits binary64 p < 0x8000_0000_0000_0000 → ⊥
      no h = omega arith

-- an infinity lies above where it has no sign
pub at_infinity : (p : Float) (v : ℚ) → T (fits binary64 p) → is_nan p ≡ false → to_bits binary64 p < 0x1_0000_0000_0000_0000 → 0x7ff0_0000_0000_0000 ≤ mag p → ltb (to_bits binary64 p) 0x8000_0000_0000_0000 ≡ exceeds p v
at_infinity p v F N t h = elim (compare_le 0x8000_0000_0000_0000 (to_bits binary64 p)) [
  | inl g ↦ not-plus p g ∙ at_bottom p v (bottom p F N (least (to_bits binary64 p) t g h))
  | inr l ↦ is_true (ltb (to_bits binary64 p) 0x8000_0000_0000_0000) (lt→ltb _ _ l) ∙ at_top p v (top p F N (subst (λ (z : ℕ). 0x7ff0_0000_0000_0000 ≤ z) (mag-plus p l) h) l)
]
  where
    least : (b : ℕ) → b < 0x1_0000_0000_0000_0000 → 0x8000_0000_0000_0000 ≤ b → 0x7ff0_0000_0000_0000 ≤ b % 0x8000_0000_0000_0000 → 0xfff0_0000_0000_0000 ≤ b
    least b t g h = omega arith

-- ---- what the code tests
pub finite-same : (x : Float) → float_is_finite x ≡ is_finite x
unfolding float_is_finite
finite-same nan = refl
finite-same (inf s) = refl
finite-same (fin s m e) = refl

pub finite_number : (x : Float) → is_finite x ≡ true → T (not (is_nan x))
unfolding is_nan
finite_number nan h = absurd (false≢true h)
finite_number (inf s) h = absurd (false≢true h)
finite_number (fin s m e) h = tt
